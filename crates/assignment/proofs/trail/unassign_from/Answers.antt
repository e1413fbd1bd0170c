-- `unassign_from` meets its contract. The invariant: the literals of the trail up to here are unassigned. Assumes nothing.
use Rattle.assignment.specs.BacktrackLaws.{undoing_step, undoing_end}
use Rattle.assignment.proofs.trail.unassign_from.Goals as goal

pub loop-i-preserved : goal.loop-i-preserved
loop-i-preserved c =
    undoing_step _ _ _ _ _ _ _ c.requires.0 c.loop-i.invariant c.loop-i-test.true c.fetch.ensures c.unassign.ensures c.unassign.auto.words

pub returns : goal.returns
returns c = undoing_end _ _ _ _ _ c.requires.0 c.loop-i.invariant c.loop-i-test.false
