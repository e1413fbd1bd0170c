-- `Aig::variable` writes a node without operands after the others. Assumes nothing.
use Rattle.std.proofs.Common.{arith}
use Rattle.aig.proofs.MadeLaws.{made-variable}
use Rattle.aig.proofs.Aig.variable.Goals as goal

pub returns : goal.returns
returns c =
    rw (c.write_leaf.ensures, c.of.ensures) (made-variable c.args.self.count _ c.requires.0 (omega arith))
