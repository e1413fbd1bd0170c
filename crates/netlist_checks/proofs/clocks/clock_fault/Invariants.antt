-- `netlist_checks::clocks::clock_fault` meets its contract: the registers that are left to check give the whole outcome. Assumes nothing.
use Rattle.std.proofs.Common.{ℕ, ◌≡◌, List, drop}
use Rattle.model.specs.Validate.{clock_fault}
use Rattle.struo_ir.specs.Decoded.{decoded}
use Rattle.netlist_checks.proofs.clocks.clock_fault.Given as goal

abbrev pub invariant-loop-i : goal.invariant-loop-i
invariant-loop-i l = (s : List ℕ) → clock_fault (decoded s l.netlist).nodes l.i (drop l.i (decoded s l.netlist).registers) ≡ clock_fault (decoded s l.netlist).nodes 0 (decoded s l.netlist).registers
