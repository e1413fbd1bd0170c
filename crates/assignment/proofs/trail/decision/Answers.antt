-- `decision` meets its contract: by the variable's phase. Assumes nothing.
use Rattle.std.proofs.Common.{ap, ◌∙◌}
use Rattle.assignment.specs.DecideLaws.{decision-false, decision-true}
use Rattle.model.specs.Literal as Literals
use Rattle.assignment.proofs.trail.decision.Goals as goal

pub returns-then-fetch_below-eq0 : goal.returns-then-fetch_below-eq0
returns-then-fetch_below-eq0 c =
    c.negate.ensures ∙ ap Literals.negate c.of-literal.ensures ∙ decision-false _ _ _ _ c.fetch_below.ensures c.if-fetch_below-eq0.true

pub returns-else-fetch_below-eq0 : goal.returns-else-fetch_below-eq0
returns-else-fetch_below-eq0 c = c.of-literal.ensures ∙ decision-true _ _ _ _ c.fetch_below.ensures c.if-fetch_below-eq0.false
