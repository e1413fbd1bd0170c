-- `clear_memory` clears the words, then the scores. Assumes nothing.
use Rattle.model.specs.Sat.{score_zero}
use Rattle.checker.proofs.accepted.clear_memory.Goals as goal

pub returns : goal.returns
unfolding score_zero
returns c =
    (record { is = c.clear_words.ensures }, record { is = c.clear_scores.ensures })
