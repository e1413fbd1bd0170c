-- `decay_activity` meets its contract: the division is that of the definition. Assumes nothing.
use Rattle.assignment.specs.Scores.{scores_of}
use Rattle.model.specs.Sat as Sat
use Rattle.assignment.proofs.scores.decay_activity.Goals as goal

pub returns : goal.returns
unfolding scores_of Sat.decay_activity
returns c = record { is = λ n s. rw c.requires.decay; fixed = record { decay = c.requires.decay; ceiling = c.requires.ceiling } }
