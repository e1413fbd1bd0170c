-- `reads` marks the data, enable and reset of each register after what the nodes read: a number that is read is marked already, or read by one of the registers left. Assumes nothing.
use Rattle.std.proofs.Common.{◌||◌, drop}
use Rattle.model.specs.Validate.{nodes_read, registers_read}
use Rattle.struo_ir.specs.Decoded.{decoded}
use Rattle.clock_reads.specs.Marks.{MarkedSoFar}
use Rattle.clock_reads.proofs.reads.reads.Given as goal

abbrev pub invariant-loop-cell : goal.invariant-loop-cell
invariant-loop-cell l =
    MarkedSoFar (λ s k. nodes_read k (decoded s l.fn.netlist).nodes || registers_read k (decoded s l.fn.netlist).registers) (λ s k. registers_read k (drop l.cell-index (decoded s l.fn.netlist).registers)) l.table
