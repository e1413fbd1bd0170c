-- `unrolling::variables::gate_variable` meets its contract. Assumes nothing.
use Rattle.std.proofs.Common.{refl}
use Rattle.aig.specs.Made.{made_none}
use Rattle.unrolling.specs.Matched.{gate_of}
use Rattle.unrolling.proofs.variables.gate_variable.Goals as goal

pub returns-in-Some : goal.returns-in-Some
unfolding gate_of
returns-in-Some c =
    let below = rw c.in-Some.is at c.requires.2 in
    rw c.in-Some.is (made_none 1 _ _ _ _ c.requires.0 below refl)

pub returns-in-None : goal.returns-in-None
unfolding gate_of
returns-in-None c = rw c.in-None.is c.variable.ensures
