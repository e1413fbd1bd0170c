-- `add_score` meets its contract: by whether the variable has a score. Assumes nothing.
use Rattle.assignment.specs.ScoreLaws.{raised, raised_not}
use Rattle.assignment.proofs.scores.add_score.Goals as goal

pub returns-then-variable-n : goal.returns-then-variable-n
returns-then-variable-n c = raised _ _ _ _ c.requires c.if-variable-n.true

pub returns-else-variable-n : goal.returns-else-variable-n
returns-else-variable-n c = raised_not _ _ _ _ c.if-variable-n.false
