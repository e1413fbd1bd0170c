-- `node_reads` marks the inputs of each node: a number that one reads is marked already, or read by one of those left. Assumes nothing.
use Rattle.std.proofs.Common.{drop}
use Rattle.model.specs.Validate.{nodes_read}
use Rattle.struo_ir.specs.Decoded.{decoded}
use Rattle.clock_reads.specs.Marks.{MarkedSoFar}
use Rattle.clock_reads.proofs.reads.node_reads.Given as goal

abbrev pub invariant-loop-node : goal.invariant-loop-node
invariant-loop-node l =
    MarkedSoFar (λ s k. nodes_read k (decoded s l.fn.netlist).nodes) (λ s k. nodes_read k (drop l.node-index (decoded s l.fn.netlist).nodes)) l.table
