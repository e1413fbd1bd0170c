-- `assert_learned` meets its contract: by whether the asserting literal could be made true. Assumes nothing.
use Rattle.std.proofs.Common.{refl}
use Rattle.sat.specs.RoundLaws.{asserts_not, asserts}
use Rattle.sat.proofs.round.assert_learned.Goals as goal

pub returns-in-Err : goal.returns-in-Err
returns-in-Err c =
    asserts_not _ _ _ _ _ _ c.requires _ _ _ c.learn-l.ensures _ refl _ _ c.in-Err.ensures.0 _ refl c.in-Err.ensures.1

pub returns-in-Ok : goal.returns-in-Ok
returns-in-Ok c =
    asserts _ _ _ _ _ _ c.requires _ _ _ c.learn-l.ensures _ refl _ _ c.in-Ok.ensures.0 _ refl c.in-Ok.ensures.1
