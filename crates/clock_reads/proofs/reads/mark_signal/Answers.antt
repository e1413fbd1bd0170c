-- `mark_signal` marks the signal where the code has one. Assumes nothing.
use Rattle.std.proofs.Common.{◌∙◌}
use Rattle.clock_reads.specs.ReadLaws.{signal-none, signal-some}
use Rattle.clock_reads.proofs.reads.mark_signal.Goals as goal

pub returns-then-code-eq0 : goal.returns-then-code-eq0
returns-then-code-eq0 c = signal-none _ _ _ c.if-code-eq0.true

pub returns : goal.returns
returns c = let a = c.args in c.mark.ensures ∙ signal-some a.table.now a.code a.signal c.if-code-eq0.false
