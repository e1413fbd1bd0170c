-- `unrolling::variables::shared_literal` meets its contract. Assumes nothing.
use Rattle.std.proofs.Common.{refl}
use Rattle.unrolling.specs.Matched.{at-none}
use Rattle.unrolling.specs.Matching.{shared_match}
use Rattle.unrolling.proofs.variables.shared_literal.Goals as goal

pub returns-then-share : goal.returns-then-share
unfolding shared_match
returns-then-share c = rw c.if-share.true c.literal_at.ensures

pub returns-else-share : goal.returns-else-share
unfolding shared_match
returns-else-share c = rw c.if-share.false (at-none 0 _ refl)
