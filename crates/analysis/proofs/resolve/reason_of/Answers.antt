-- `reason_of` meets its contract: the word of a reason, less one, is its clause. Assumes nothing.
use Rattle.std.proofs.Common.{◌∙◌}
use Rattle.analysis.specs.RoundLaws.{reason-is}
use Rattle.analysis.proofs.resolve.reason_of.Goals as goal

pub returns : goal.returns
returns c =
    c.saturating_sub.ensures ∙ reason-is _ _ _ _ c.requires.1 c.load.ensures
