-- `push_limit` meets its contract: one store of the trail's length. Assumes nothing.
use Rattle.std.proofs.Common.{refl}
use Rattle.assignment.specs.DecideLaws.{pushes_limit}
use Rattle.assignment.proofs.trail.push_limit.Goals as goal

pub returns : goal.returns
returns c =
    (pushes_limit _ _ _ c.requires.0 c.requires.1 c.stash.ensures.0 c.stash.ensures.1, refl)
