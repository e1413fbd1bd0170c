-- `mark_inputs` marks as many of the three numbers as the node's kind has inputs: the table with those that are left marked is the whole answer. Assumes nothing.
use Rattle.std.proofs.Common.{◌≡◌, drop}
use Rattle.clock_reads.specs.Marks.{with_marks}
use Rattle.clock_reads.proofs.reads.mark_inputs.Given as goal

abbrev pub invariant-loop-number : goal.invariant-loop-number
invariant-loop-number l = with_marks (drop l.number-index l.number-items) l.table ≡ with_marks l.number-items l.fn.table
