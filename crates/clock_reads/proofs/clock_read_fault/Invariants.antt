-- `clock_read_fault` meets its contract: the numbers that are left to check give the whole outcome. Assumes nothing.
use Rattle.std.proofs.Common.{ℕ, ◌≡◌, List, drop}
use Rattle.model.specs.Validate.{clock_read_fault}
use Rattle.struo_ir.specs.Decoded.{decoded}
use Rattle.clock_reads.proofs.clock_read_fault.Given as goal

abbrev pub invariant-loop-i : goal.invariant-loop-i
invariant-loop-i l = (s : List ℕ) → clock_read_fault (decoded s l.fn.netlist) l.i (drop l.i (decoded s l.fn.netlist).nodes) ≡ clock_read_fault (decoded s l.fn.netlist) 0 (decoded s l.fn.netlist).nodes
