-- `bump_activity` meets its contract: by whether the variable has a score, and by the ceiling. Assumes nothing.
use Rattle.std.proofs.Common.{refl}
use Rattle.assignment.specs.BumpLaws.{bumps_nothing, bumps_one, bumps_all}
use Rattle.assignment.specs.ScoreLaws.{bumps_not, bumps_below, bumps_above}
use lib.Ieee as Ieee
use Rattle.model.specs.Sat as Sat
use Rattle.assignment.proofs.scores.bump_activity.Goals as goal

pub returns-then-n-variable : goal.returns-then-n-variable
returns-then-n-variable c =
    bumps_nothing _ _ _ _ _ _ c.requires.0 (bumps_not _ _ _ _ c.requires.1 c.if-n-variable.true)

pub returns-then-activity-x : goal.returns-then-activity-x
unfolding Sat.rescale_factor Ieee.of_bits
returns-then-activity-x c =
    bumps_all _ _ _ _ _ _ _ _ (bumps_above _ _ _ _ c.requires.1 _ c.requires.2 c.if-n-variable.false refl _ _ c.if-activity-x.true c.rescale.ensures refl) c.forget_all.ensures

pub returns : goal.returns
returns c =
    bumps_one _ _ _ _ _ _ _ _ (bumps_below _ _ _ _ c.requires.1 _ c.requires.2 c.if-n-variable.false refl c.if-activity-x.false) c.forget.ensures
