-- `clear_scores` meets its contract: the first n scores are filled with zero. Assumes nothing.
use Rattle.assignment.specs.ScoreLaws.{filled}
use lib.Ieee as Ieee
use Rattle.model.specs.Sat as Sat
use Rattle.assignment.proofs.scores.clear_scores.Goals as goal

pub returns : goal.returns
unfolding Sat.score_zero Ieee.of_bits
returns c = filled _ _ _ c.requires (c.fill.ensures.after (λ y e. e))
