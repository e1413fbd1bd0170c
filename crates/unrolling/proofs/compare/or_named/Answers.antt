-- `unrolling::compare::or_named` meets its contract. Assumes nothing.
use Rattle.std.proofs.Common.{refl}
use Rattle.aig.specs.Made.{made_none}
use Rattle.unrolling.specs.Naming.{or_named}
use Rattle.unrolling.proofs.compare.or_named.Goals as goal

pub or_difference-requires : goal.or_difference-requires
or_difference-requires c =
    let below = rw c.in-Some.is at c.requires.4 in
    (c.requires.0, c.requires.1, c.requires.2, c.requires.3, below)

pub returns-in-Some : goal.returns-in-Some
unfolding or_named
returns-in-Some c = rw c.in-Some.is c.or_difference.ensures

pub returns-in-None : goal.returns-in-None
unfolding or_named
returns-in-None c = rw c.in-None.is (made_none 4 _ _ _ _ c.requires.0 c.requires.2 refl)
