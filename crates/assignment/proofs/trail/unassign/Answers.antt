-- `unassign` meets its contract: its four stores are those of the definition's step back. Assumes nothing.
use Rattle.assignment.specs.BacktrackLaws.{unassigns}
use Rattle.assignment.proofs.trail.unassign.Goals as goal

pub returns : goal.returns
returns c =
    unassigns _ _ _ c.requires c.node-v.ensures c.stash.ensures.0 c.stash-2.ensures.0 c.stash-3.ensures.0 c.stash-4.ensures.0 c.stash-4.ensures.1
