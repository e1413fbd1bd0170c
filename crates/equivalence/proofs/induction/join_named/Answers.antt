-- `equivalence::induction::join_named` meets its contract. Assumes nothing.
use Rattle.equivalence.specs.Inducing.{joined}
use Rattle.equivalence.proofs.induction.join_named.Goals as goal

pub returns : goal.returns
returns c = joined c.args.n _ _ _ _ _ _ _ _ _ _ _ _ c.compare_named_state-named.ensures c.or.ensures
