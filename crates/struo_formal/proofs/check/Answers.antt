-- `check` puts depth, limit and mode together as the options of the check. Assumes nothing.
use Rattle.calls.specs.Options.{options_of}
use Rattle.struo_formal.proofs.check.Goals as goal

pub returns : goal.returns
unfolding options_of
returns c = c.check.ensures
