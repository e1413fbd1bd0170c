-- `rescale` meets its contract. The invariant: the scores so far are rescaled, the others as they were. Assumes nothing.
use Rattle.std.proofs.Common.{◌≡◌, ◌++◌, take, drop, Float}
use Rattle.std.specs.Prelude.{map}
use lib.Ieee.{binary64}
use lib.Ieee as Ieee
use Rattle.model.specs.Sat as Sat
use Rattle.assignment.proofs.scores.rescale.Given as goal

abbrev pub invariant-loop-score : goal.invariant-loop-score
invariant-loop-score l =
    l.score-items ≡ map (λ (x : Float). Ieee.mul binary64 x Sat.rescale_factor) (take l.score-index l.initial.score-items) ++ drop l.score-index l.initial.score-items
