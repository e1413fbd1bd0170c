-- `unassign_from` meets its contract. The invariant: the literals of the trail up to here are unassigned. Assumes nothing.
use Rattle.assignment.specs.BacktrackLaws.{Undoing}
use Rattle.assignment.proofs.trail.unassign_from.Given as goal

abbrev pub invariant-loop-i : goal.invariant-loop-i
invariant-loop-i l = Undoing l.t l.initial.words l.from l.i l.words
