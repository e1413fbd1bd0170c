-- `add_ones` meets its contract. The invariant: the scores of the literals so far are raised by one, and their blocks forgotten. Assumes nothing.
use Rattle.std.proofs.Common.{◌≡◌, length}
use Rattle.assignment.specs.OnesLaws.{AddingOnes}
use Rattle.assignment.proofs.scores.add_ones.Given as goal

abbrev pub invariant-loop-i : goal.invariant-loop-i
invariant-loop-i l = AddingOnes l.t l.start l.end l.initial.words l.initial.scores l.i l.words l.scores × (length l.words ≡ length l.initial.words)
