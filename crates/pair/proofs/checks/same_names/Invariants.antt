-- `same_names` compares name by name. Assumes nothing.
use Rattle.std.proofs.Common.{◌≡◌, ◌≤◌, drop}
use Rattle.model.specs.Names.{same_names, names_of}
use Rattle.struo_ir.specs.Orders.{places}
use Rattle.pair.proofs.checks.same_names.Given as goal

abbrev pub invariant-loop-k : goal.invariant-loop-k
invariant-loop-k l =
    (l.k ≤ l.gate_order.count) ×
    (same_names (names_of (places l.gold l.gold_order)) (names_of (places l.gate l.gate_order)) ≡ same_names (names_of (drop l.k (places l.gold l.gold_order))) (names_of (drop l.k (places l.gate l.gate_order))))
