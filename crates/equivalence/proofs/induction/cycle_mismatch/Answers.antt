-- `equivalence::induction::cycle_mismatch` meets its contract. Assumes nothing.
use Rattle.equivalence.specs.Inducing.{not_joined}
use Rattle.equivalence.proofs.induction.cycle_mismatch.Goals as goal

pub returns-then-include : goal.returns-then-include
returns-then-include c = rw c.if-include.true c.join_named.ensures

pub returns-else-include : goal.returns-else-include
returns-else-include c =
    not_joined c.args.n _ _ _ _ _ _ _ c.if-include.false c.requires.0 c.requires.3
