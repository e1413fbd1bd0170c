-- `forget_all` meets its contract: the words of all blocks are cleared. Assumes nothing.
use Rattle.assignment.specs.KnownLaws.{forgets_all}
use Rattle.assignment.proofs.blocks.forget_all.Goals as goal

pub returns : goal.returns
returns c =
    forgets_all _ _ _ c.requires c.clear.ensures.0 c.clear.ensures.1
