-- `rescale` meets its contract. The invariant: the scores so far are rescaled, the others as they were. Assumes nothing.
use Rattle.std.proofs.Common.{arith, get_or, take, Float}
use Rattle.std.proofs.lemmas.List.Edits.{map_over_more}
use lib.Ieee.{binary64, nan}
use Rattle.std.proofs.lemmas.List.{get_or_default}
use lib.Ieee as Ieee
use Rattle.model.specs.Sat as Sat
use Rattle.assignment.proofs.scores.rescale.Goals as goal

pub loop-score-preserved : goal.loop-score-preserved
unfolding Sat.rescale_factor Ieee.of_bits
loop-score-preserved c =
    let z = c.loop-score.score-items in
    let i = c.loop-score.score-index in
    map_over_more (λ (x : Float). Ieee.mul binary64 x Sat.rescale_factor) (take c.args.n c.args.scores.now) z i (get_or z i nan) c.loop-score-test.true c.loop-score.invariant
    (get_or_default z i nan _ (omega (arith, c.loop-score.auto.score-items)))
