-- `mark` sets the number's mark: by whether the table has the number. Assumes nothing.
use Rattle.std.proofs.Common.{sym, true}
use lib.Seq.{set_out}
use Rattle.clock_reads.proofs.marks.mark.Goals as goal

pub returns-else-k-table : goal.returns-else-k-table
returns-else-k-table c = sym (set_out _ _ true c.if-k-table.false)
