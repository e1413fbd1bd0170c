-- Propagation learns nothing and never shortens the trail. Assumes nothing.
use Prim.Native.Nat.{ℕ, zero, suc, ◌≤◌}
use Rattle.std.proofs.Common.{arith}
use Rattle.std.specs.Prelude.{◌≡◌, refl, length}
use mathlib.Core.List.{List, [], ◌∷◌}
use Rattle.std.proofs.Math.Option.{Option, none, some}
use Rattle.model.specs.Literal.{Literal, negate}
use Rattle.model.specs.Sat.{Value, False, Unassigned, True, Clause, Solver, with_assignment, with_watches, assign, enqueue_valued, enqueue, Propagation, propagating, complete, conflict, Slot, slot0, slot1, neither, keep_watch, replace_watch, visit_enqueued, visit_replacing, visit_other, visit_slot, visit_clause, visit, visit_pending, take_watches, propagate_assigned, propagate_round, propagate_rounds, propagate}
use Rattle.laws.specs.Lists.{length-snoc}

-- the solver of a propagation
unfoldable pub solver_of : Propagation → Solver
solver_of (propagating s) = s
solver_of (complete s) = s
solver_of (conflict k s) = s

-- the same total, and a trail of at least m literals
pub record Grown (total m : ℕ) (s : Solver) : Type 0 where
  pub total_same : s.learned ≡ total
  pub long : m ≤ length s.assignment.trail

module _ (total m : ℕ) where
  -- the same of a propagation's solver
  abbrev Grows : Propagation → Type 0
  Grows r = Grown total m (solver_of r)

  enqueued-grows : (id : ℕ) (s : Solver) (l : Literal) (r : Option ℕ) (v : Value) → Grown total m s → Grows (visit_enqueued id s (enqueue_valued s.assignment l r v))
  unfolding solver_of visit_enqueued enqueue_valued with_assignment assign
  enqueued-grows id s l r True h = record { total_same = h.total_same; long = h.long }
  enqueued-grows id s l r False h = h
  enqueued-grows id s l r Unassigned h = record { total_same = h.total_same; long = omega (arith, h.long, length-snoc s.assignment.trail l) }

  keep_grows : (f : Literal) (id : ℕ) (s : Solver) → Grown total m s → Grown total m (keep_watch f id s)
  unfolding keep_watch with_watches
  keep_grows f id s h = record { total_same = h.total_same; long = h.long }

  replacing_grows : (f : Literal) (id : ℕ) (s : Solver) (c : Clause) (k : Slot) (o : Option ℕ) → Grown total m s → Grows (visit_replacing f id s c k o)
  unfolding solver_of visit_replacing replace_watch keep_watch with_watches enqueue
  replacing_grows f id s c k (some i) h = record { total_same = h.total_same; long = h.long }
  replacing_grows f id s c k none h = enqueued-grows id (keep_watch f id s) _ _ _ (keep_grows f id s h)

  other_grows : (f : Literal) (id : ℕ) (s : Solver) (c : Clause) (k : Slot) (v : Value) → Grown total m s → Grows (visit_other f id s c k v)
  unfolding solver_of visit_other
  other_grows f id s c k True h = keep_grows f id s h
  other_grows f id s c k Unassigned h = replacing_grows f id s c k _ h
  other_grows f id s c k False h = replacing_grows f id s c k _ h

  slot_grows : (f : Literal) (id : ℕ) (s : Solver) (c : Clause) (k : Slot) → Grown total m s → Grows (visit_slot f id s c k)
  unfolding solver_of visit_slot
  slot_grows f id s c neither h = h
  slot_grows f id s c slot0 h = other_grows f id s c slot0 _ h
  slot_grows f id s c slot1 h = other_grows f id s c slot1 _ h

  visit-grows : (f : Literal) (id : ℕ) (s : Solver) → Grown total m s → Grows (visit f id s)
  unfolding visit visit_clause
  visit-grows f id s h = slot_grows f id s _ _ h

  pending_grows : (f : Literal) (ids : List ℕ) (r : Propagation) → Grows r → Grows (visit_pending f ids r)
  unfolding solver_of visit_pending with_watches
  pending_grows f [] r h = h
  pending_grows f (id ∷ ids) (propagating s) h = pending_grows f ids (visit f id s) (visit-grows f id s h)
  pending_grows f (id ∷ ids) (complete s) h = h
  pending_grows f (id ∷ ids) (conflict k s) h = record { total_same = h.total_same; long = h.long }

  assigned_grows : (s : Solver) (o : Option Literal) → Grown total m s → Grows (propagate_assigned s o)
  unfolding solver_of propagate_assigned take_watches
  assigned_grows s none h = h
  assigned_grows s (some l) h = pending_grows (negate l) _ (propagating (take_watches s (negate l))) (record { total_same = h.total_same; long = h.long })

  rounds_grow : (k : ℕ) (r : Propagation) → Grows r → Grows (propagate_rounds k r)
  unfolding solver_of propagate_rounds propagate_round
  rounds_grow zero r h = h
  rounds_grow (suc k) (propagating s) h = rounds_grow k (propagate_round s) (assigned_grows s _ h)
  rounds_grow (suc k) (complete s) h = h
  rounds_grow (suc k) (conflict i s) h = h

-- the whole propagation
pub propagate-grows : (s : Solver) → Grown s.learned (length s.assignment.trail) (solver_of (propagate s))
unfolding propagate solver_of
propagate-grows s = rounds_grow s.learned (length s.assignment.trail) _ (propagating s) (record { total_same = refl; long = omega arith })
