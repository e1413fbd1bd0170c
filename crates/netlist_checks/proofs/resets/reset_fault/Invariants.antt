-- `netlist_checks::resets::reset_fault` meets its contract: the nodes that are left to check give the whole outcome, by the table of drivers. Assumes nothing.
use Rattle.std.proofs.Common.{ℕ, ◌≡◌, List, drop}
use Rattle.model.specs.Validate.{reset_fault}
use Rattle.struo_ir.specs.Decoded.{decoded}
use Rattle.netlist_checks.proofs.resets.reset_fault.Given as goal

abbrev pub invariant-loop-i : goal.invariant-loop-i
invariant-loop-i l = (s : List ℕ) → reset_fault (decoded s l.netlist).registers l.i (drop l.i (decoded s l.netlist).nodes) ≡ reset_fault (decoded s l.netlist).registers 0 (decoded s l.netlist).nodes
