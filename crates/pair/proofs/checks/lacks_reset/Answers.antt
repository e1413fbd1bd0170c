-- `lacks_reset` goes by the number. Assumes nothing.
use Rattle.std.proofs.Common.{lt-ltb, le-ltb}
use Rattle.pair.specs.PairChecks.{lacks_reset}
use Rattle.pair.proofs.checks.lacks_reset.Goals as goal

pub returns-then-number-count : goal.returns-then-number-count
unfolding lacks_reset
returns-then-number-count c = let a = c.args in rw (lt-ltb a.number a.count c.if-number-count.true)

pub returns-else-number-count : goal.returns-else-number-count
unfolding lacks_reset
returns-else-number-count c = let a = c.args in rw (le-ltb a.number a.count c.if-number-count.false)
