-- `with_node` meets its contract. Assumes nothing.
use Rattle.std.proofs.Common.{⊎_elim}
use Rattle.solver.specs.QueryLaws.{extends_variable, extends_and}
use Rattle.solver.proofs.with_node.Goals as goal

pub returns-then-rhs-eq0 : goal.returns-then-rhs-eq0
returns-then-rhs-eq0 c =
    extends_variable _ _ c.requires.standing _ _ _ _ _ c.if-lhs-eq0.true c.if-rhs-eq0.true c.variable-made.ensures

pub returns : goal.returns
returns c =
    extends_and _ _ c.requires.standing _ _ _ _ _ (⊎_elim (λ k p q. k.1 q) (λ k p q. k p) c.else-lhs-eq0.either) c.requires.lhs c.requires.rhs c.and-made.ensures
