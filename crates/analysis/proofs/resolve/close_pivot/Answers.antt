-- `close_pivot` meets its contract: 0 is no stamp. Assumes nothing.
use Rattle.std.proofs.Common.{rules}
use Rattle.analysis.specs.RoundLaws.{closes}
use Rattle.analysis.specs.SeeLaws.{variable-low}
use Rattle.analysis.proofs.resolve.close_pivot.Goals as goal

pub put-requires : goal.put-requires
put-requires c =
    (c.requires.0.words, search rules, variable-low _ _ _ _ c.requires.0 c.requires.2 c.node.ensures)

pub returns : goal.returns
returns c =
    closes _ _ _ _ _ _ _ c.requires.0 c.requires.1 c.node.ensures c.saturating_sub.ensures c.put.ensures.0 c.put.ensures.1
