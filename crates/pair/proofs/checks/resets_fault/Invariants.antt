-- `resets_fault` passes every register with a reset. Assumes nothing.
use Rattle.std.proofs.Common.{◌≡◌, ℕ, List, drop}
use Rattle.model.specs.Pair.{resets_fault}
use Rattle.calls.specs.Causes.{side_of}
use Rattle.struo_ir.specs.Decoded.{decoded}
use Rattle.struo_ir.specs.Orders.{places}
use Rattle.pair.proofs.checks.resets_fault.Given as goal

abbrev pub invariant-loop-k : goal.invariant-loop-k
invariant-loop-k l =
    (s : List ℕ) → resets_fault (side_of l.side) (decoded s l.netlist).registers (places s l.order) ≡ resets_fault (side_of l.side) (decoded s l.netlist).registers (drop l.k (places s l.order))
