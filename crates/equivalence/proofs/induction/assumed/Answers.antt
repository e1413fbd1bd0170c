-- `equivalence::induction::assumed` meets its contract. Assumes nothing.
use Rattle.model.specs.Equivalence.{assumed}
use Rattle.equivalence.proofs.induction.assumed.Goals as goal

pub returns-then-last : goal.returns-then-last
unfolding assumed
returns-then-last c = rw c.if-last.true

pub returns-else-last : goal.returns-else-last
unfolding assumed
returns-else-last c = rw c.if-last.false c.negate.ensures
