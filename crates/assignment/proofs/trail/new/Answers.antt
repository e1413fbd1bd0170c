-- `new` meets its contract: the five regions that are cleared. Assumes nothing.
use Rattle.std.proofs.Common.{rules}
use Rattle.assignment.specs.DecideLaws.{clears, news}
use Rattle.assignment.proofs.trail.new.Goals as goal

pub returns : goal.returns
returns c =
    news _ _ _ _ _ _ _ c.requires.1
    (clears _ _ _ _ (search rules) (search rules) c.clear.ensures.0 c.clear.ensures.1)
    (clears _ _ _ _ (search rules) (search rules) c.clear-2.ensures.0 c.clear-2.ensures.1)
    (clears _ _ _ _ (search rules) (search rules) c.clear-3.ensures.0 c.clear-3.ensures.1)
    (clears _ _ _ _ (search rules) (search rules) c.clear-4.ensures.0 c.clear-4.ensures.1)
    c.clear-5.ensures.0 c.clear-5.ensures.1
