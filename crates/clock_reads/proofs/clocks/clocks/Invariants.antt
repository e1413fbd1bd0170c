-- `clocks` marks the clock of each register: a number that clocks one is marked already, or clocks one of those left. Assumes nothing.
use Rattle.std.proofs.Common.{drop}
use Rattle.model.specs.Validate.{clocks}
use Rattle.struo_ir.specs.Decoded.{decoded}
use Rattle.clock_reads.specs.Marks.{MarkedSoFar}
use Rattle.clock_reads.proofs.clocks.clocks.Given as goal

abbrev pub invariant-loop-cell : goal.invariant-loop-cell
invariant-loop-cell l =
    MarkedSoFar (λ s k. clocks k (decoded s l.fn.netlist).registers) (λ s k. clocks k (drop l.cell-index (decoded s l.fn.netlist).registers)) l.table
