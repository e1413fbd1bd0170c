-- `propagate` meets its contract. The invariant: the rounds that are left decide, and there are enough. Assumes nothing.
use Rattle.std.proofs.Common.{◌-◌, ◌≡◌, length}
use Rattle.watches.specs.PropagateLaws.{Rounds}
use Rattle.watches.proofs.propagate.propagate.Given as goal

abbrev pub invariant-loop-t : goal.invariant-loop-t
invariant-loop-t l = (length l.words ≡ length l.initial.words) × Rounds l.store l.initial.t l.initial.words l.t l.words

abbrev pub decreases-loop-t : goal.decreases-loop-t
decreases-loop-t l = l.initial.t.variables - l.t.head
