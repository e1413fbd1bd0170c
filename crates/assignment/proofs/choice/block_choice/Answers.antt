-- `block_choice` meets its contract: by whether the block's word is current. Assumes nothing.
use Rattle.assignment.specs.ChooseLaws.{chosen_anew}
use Rattle.assignment.proofs.choice.block_choice.Goals as goal

pub returns : goal.returns
returns c =
    chosen_anew _ _ _ _ _ _ c.requires.0 c.requires.2 c.put.ensures.0 c.put.ensures.1 c.scan_block-best.ensures c.requires.4
