-- `unrolling::variables::literal_at` meets its contract. Assumes nothing.
use Rattle.std.proofs.Common.{arith}
use Rattle.unrolling.specs.Matched.{at-none, at-some}
use Rattle.unrolling.proofs.variables.literal_at.Goals as goal

pub returns-then-matched-eq0 : goal.returns-then-matched-eq0
returns-then-matched-eq0 c = at-none _ _ c.if-matched-eq0.true

pub returns-else-matched-eq0 : goal.returns-else-matched-eq0
returns-else-matched-eq0 c = at-some _ _ (omega (arith, c.if-matched-eq0.false))
