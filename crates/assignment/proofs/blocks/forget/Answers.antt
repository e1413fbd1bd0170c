-- `forget` meets its contract: by whether the variable is unassigned. Assumes nothing.
use Rattle.assignment.specs.KnownLaws.{forgets, forgets_not}
use Rattle.assignment.proofs.blocks.forget.Goals as goal

pub returns-then-fetch_below-eq0 : goal.returns-then-fetch_below-eq0
returns-then-fetch_below-eq0 c =
    forgets _ _ _ _ c.requires c.stash.ensures.0 c.stash.ensures.1

pub returns-else-fetch_below-eq0 : goal.returns-else-fetch_below-eq0
returns-else-fetch_below-eq0 c =
    forgets_not _ _ _ c.requires _ c.fetch_below.ensures c.if-fetch_below-eq0.false
