-- The rounds of propagation suffice: each takes one literal of the trail. Assumes nothing.
use Prim.Native.Nat.{ℕ, zero, suc, ◌+◌, ◌<◌}
use Rattle.std.proofs.Common.{arith, sym, subst}
use Rattle.std.specs.Prelude.{◌≡◌, length, get_or}
use Rattle.std.proofs.Math.Path.{refl}
use mathlib.Core.List.{List, [], ◌∷◌}
use Rattle.std.proofs.Math.Option.{Option, none, some}
use Rattle.std.proofs.Math.ListN.{get_elem?}
use Rattle.model.specs.Literal.{Literal, negate}
use Rattle.laws.specs.Search.State.{Idle, VisitOk, RoundOk}
use Rattle.laws.specs.Search.Visit.{visit_ok}
use Rattle.laws.specs.Search.Propagation.{assigned_ok, taken_busy}
use Rattle.laws.specs.Search.Pigeonhole.{trail-fits}
use Rattle.model.specs.Sat.{Clause, Solver, Propagation, propagating, complete, conflict, visit, visit_pending, propagate_assigned, propagate_round, propagate_rounds, propagate}

-- an unfinished propagation has its head after place p
abbrev HeadAt : ℕ → Propagation → Type 0
HeadAt p (propagating s) = suc p ≡ s.assignment.propagation_head
HeadAt p (complete s) = Unit {0}
HeadAt p (conflict k s) = Unit {0}

-- the propagation ended
abbrev pub Ended : Propagation → Type 0
Ended (propagating s) = ⊥
Ended (complete s) = Unit {0}
Ended (conflict k s) = Unit {0}

module _ (n : ℕ) (C : List Clause) where
  pending_head : (p f : ℕ) (ids : List ℕ) (v : Propagation) → VisitOk n C p f ids v → HeadAt p (visit_pending f ids v)
  unfolding visit_pending
  pending_head p f [] (propagating s) w = w.held.at_head
  pending_head p f [] (complete s) w = tt
  pending_head p f [] (conflict k s) w = tt
  pending_head p f (id ∷ ids) (propagating s) w = pending_head p f ids (visit f id s) (visit_ok n C p f id ids s w)
  pending_head p f (id ∷ ids) (complete s) w = tt
  pending_head p f (id ∷ ids) (conflict k s) w = tt

  assigned_head : (s : Solver) (o : Option Literal) → get_elem? s.assignment.trail s.assignment.propagation_head ≡ o → Idle n C s
      → HeadAt s.assignment.propagation_head (propagate_assigned s o)
  unfolding propagate_assigned
  assigned_head s none e w = tt
  assigned_head s (some l) e w =
      pending_head s.assignment.propagation_head (negate l) (get_or s.watches (negate l) []) _ (taken_busy n C s l w e)

  rounds-end : (k p : ℕ) (r : Propagation) → RoundOk n C r → HeadAt p r → n < suc p + k → Ended (propagate_rounds k r)
  unfolding propagate_rounds propagate_round
  rounds-end zero p (propagating s) w e h = omega (arith, w.core.justified.trail_inv.head, trail-fits n s.assignment w.core.justified.trail_inv)
  rounds-end zero p (complete s) w e h = tt
  rounds-end zero p (conflict i s) w e h = tt
  rounds-end (suc k) p (propagating s) w e h =
      rounds-end k (suc p) (propagate_round s) (assigned_ok n C s _ refl w) (subst (λ q. HeadAt q (propagate_round s)) (sym e) (assigned_head s _ refl w)) (omega arith)
  rounds-end (suc k) p (complete s) w e h = tt
  rounds-end (suc k) p (conflict i s) w e h = tt

  -- propagation ends before its rounds do
  pub propagate-ends : (s : Solver) → Idle n C s → Ended (propagate s)
  unfolding propagate propagate_rounds propagate_round
  propagate-ends s w =
      rounds-end (length s.assignment.assignments) s.assignment.propagation_head (propagate_round s) (assigned_ok n C s _ refl w) (assigned_head s _ refl w)
      (omega (arith, w.core.justified.trail_inv.size))
