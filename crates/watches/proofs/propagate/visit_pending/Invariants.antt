-- `visit_pending` meets its contract. The invariant: what is left of the pending clauses is to be visited. Assumes nothing.
use Rattle.std.proofs.Common.{◌≡◌, length}
use Rattle.watches.specs.PropagateLaws.{Pends}
use Rattle.watches.proofs.propagate.visit_pending.Given as goal

abbrev pub invariant-loop-d : goal.invariant-loop-d
invariant-loop-d l = (length l.words ≡ length l.initial.words) × Pends l.store l.f.0 l.initial.t l.initial.words l.initial.d l.t l.words l.d

abbrev pub decreases-loop-d : goal.decreases-loop-d
decreases-loop-d l = l.d.left
