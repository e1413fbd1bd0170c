-- `aig::Aig::or` meets its contract. Assumes nothing.
use Rattle.aig.specs.Operations.{made-or}
use Rattle.aig.specs.Shortcut.{negate-below}
use Rattle.aig.proofs.Aig.or.Goals as goal

pub and-requires : goal.and-requires
and-requires c =
    (c.requires.0, c.requires.1, rw c.negate.ensures (negate-below _ _ c.requires.2), rw c.negate-2.ensures (negate-below _ _ c.requires.3))

pub returns : goal.returns
returns c = made-or _ _ _ _ _ _ _ _ _ _ c.negate.ensures c.negate-2.ensures c.negate-3.ensures c.and.ensures
