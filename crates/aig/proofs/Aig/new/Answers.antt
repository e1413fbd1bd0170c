-- `Aig::new` writes node 0 as a node without operands. Assumes nothing.
use Rattle.std.proofs.Common.{refl}
use Rattle.aig.proofs.MadeLaws.{graph-new, ready-new, same_new}
use Rattle.aig.proofs.Aig.new.Goals as goal

pub returns : goal.returns
returns c =
    let e = c.write_leaf.ensures in
    (refl, rw e (graph-new _ c.requires), rw e (ready-new _ c.requires), rw e (same_new _ c.requires))
