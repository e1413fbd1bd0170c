-- `backtrack` meets its contract: by whether there is a level above. Assumes nothing.
use Rattle.assignment.specs.BacktrackLaws.{backtracks_not, backtracks}
use Rattle.assignment.proofs.trail.backtrack.Goals as goal

pub returns-then-t-level : goal.returns-then-t-level
returns-then-t-level c = backtracks_not _ _ _ c.requires c.if-t-level.true

pub returns : goal.returns
returns c =
    backtracks _ _ _ _ _ _ c.requires c.if-t-level.false c.fetch_below-head.ensures c.min-length.ensures c.unassign_from.ensures
