-- `aig::Aig::mux` meets its contract. Assumes nothing.
use Rattle.aig.specs.Operations.{made-is, mux-is, mux-made-known}
use Rattle.aig.specs.Shortcut.{shortcut_of, negate-below}
use Rattle.aig.proofs.Aig.mux.Goals as goal

pub or_of_ands-requires : goal.or_of_ands-requires
or_of_ands-requires c =
    (c.requires.0, c.requires.1, c.requires.2, c.requires.3, rw c.negate.ensures (negate-below _ _ c.requires.2), c.requires.4)

pub returns-in-Some : goal.returns-in-Some
unfolding shortcut_of
returns-in-Some c = mux-made-known _ _ c.requires.0 _ _ _ _ c.requires.2 c.requires.3 c.requires.4 c.in-Some.ensures

pub returns-in-None : goal.returns-in-None
unfolding shortcut_of
returns-in-None c = made-is c.or_of_ands.ensures (mux-is _ _ _ _ _ c.in-None.ensures c.negate.ensures)
