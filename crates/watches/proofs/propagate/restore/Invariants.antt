-- `restore` meets its contract. The invariant: what is left of the pending clauses is to be appended. Assumes nothing.
use Rattle.std.proofs.Common.{◌≡◌, length}
use Rattle.watches.specs.PropagateLaws.{Restoring}
use Rattle.watches.proofs.propagate.restore.Given as goal

abbrev pub invariant-loop-d : goal.invariant-loop-d
invariant-loop-d l = (length l.words ≡ length l.initial.words) × Restoring l.store l.t l.f.0 l.initial.words l.initial.d l.words l.d

abbrev pub decreases-loop-d : goal.decreases-loop-d
decreases-loop-d l = l.d.left
