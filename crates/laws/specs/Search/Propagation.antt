-- Propagation keeps the invariant of the search: the pending clauses, the rounds, and the whole. Assumes nothing.
use Prim.Native.Nat.{ℕ, zero, suc, ◌*◌, ◌≤◌, ◌<◌}
use Rattle.std.proofs.Common.{arith, sym, ap, subst, ◌∙◌}
use Rattle.std.specs.Prelude.{◌≡◌, ◌⊎◌, get_or, set}
use Rattle.std.proofs.Math.Path.{refl}
use Rattle.std.proofs.Math.Logic.{inl, inr}
use mathlib.Core.List.{List, [], ◌∷◌, ◌++◌}
use Rattle.std.proofs.Math.Option.{Option, none, some}
use Rattle.std.proofs.Math.ListN.{length, length-set, get_elem?}
use Rattle.model.specs.Literal.{Literal, node, negate}
use Rattle.laws.specs.Search.Listed.{times, times_in, slots_zero, pending_nil, append_times, take-times}
use Rattle.laws.specs.Graph.Values.{node-negate}
use Rattle.laws.specs.Search.Replacement.{unaffected}
use Rattle.facts.specs.Lists.{set_any, In}
use Rattle.laws.specs.Search.Trail.{entry}
use Rattle.laws.specs.Search.Clauses.{lits}
use Rattle.laws.specs.Search.Reasons.{Begins, Because, Reasoned, Justified}
use Rattle.laws.specs.Search.Watches.{pair-map, append_in}
use Rattle.laws.specs.Search.State.{clause_at, PairOf, Core, Idle, Stuck, Held, Busy, Conflicting, VisitOk, RoundOk, core-watches}
use Rattle.laws.specs.Search.Visit.{visit_ok}
use Rattle.model.specs.Sat.{Clause, Solver, with_watches, watched0, watched1, value, Propagation, propagating, complete, conflict, visit, visit_pending, take_watches, propagate_assigned, propagate_round, propagate_rounds, propagate}

-- ---- the pending clauses

at_place : (xs : List ℕ) (i x : ℕ) → get_elem? xs i ≡ some x → (i < length xs) × (get_or xs i 0 ≡ x)
at_place [] i x e = absurd (let z : ◌≡◌ {A = ℕ} 0 1 = cc in omega arith)
at_place (y ∷ xs) zero x e = (omega arith, cc)
at_place (y ∷ xs) (suc i) x e = (omega (arith, (at_place xs i x e).0), (at_place xs i x e).1)

past_end : (xs : List ℕ) (i : ℕ) → get_elem? xs i ≡ none → length xs ≤ i
past_end [] i e = omega arith
past_end (y ∷ xs) zero e = absurd (let z : ◌≡◌ {A = ℕ} 0 1 = cc in omega arith)
past_end (y ∷ xs) (suc i) e = omega (arith, past_end xs i e)

module _ (n : ℕ) (C : List Clause) where
  busy_idle : (p f : ℕ) (s : Solver) → Busy n C p f [] s → Idle n C s
  busy_idle p f s w =
      record {
        core = w.held.core;
        exact = λ l id h. omega (arith, w.held.exact l id h, pending_nil f l id);
        low = λ i h. omega (arith, w.held.low i h, w.held.at_head);
        pairs = λ j h two. subst (λ b. PairOf s.assignment b (clause_at s j)) w.held.at_head (go j (w.done j h two));
      }
    where
      go : (j : ℕ) → In j [] ⊎ PairOf s.assignment (suc p) (clause_at s j) → PairOf s.assignment (suc p) (clause_at s j)
      go j (inl q) = absurd q
      go j (inr q) = q

  held-stuck : (p f : ℕ) (s : Solver) → Held n C p f [] s → Stuck n C s
  held-stuck p f s w =
      record {
        core = w.core;
        place = p;
        at_head = w.at_head;
        exact = λ l id h. omega (arith, w.exact l id h, pending_nil f l id);
        low = w.low;
        pairs = w.pairs;
      }

  rest-stuck : (p f : ℕ) (ids : List ℕ) (s : Solver) → Held n C p f ids s → Stuck n C (with_watches s (set s.watches f (get_or s.watches f [] ++ ids)))
  unfolding with_watches
  rest-stuck p f ids s w =
      record {
        core = core-watches n C s _ (length-set s.watches f (get_or s.watches f [] ++ ids) ∙ w.core.watch_size)
            (append_in s.watches f ids (length s.clauses) w.pending_in w.core.listed_in) w.core;
        place = p;
        at_head = w.at_head;
        exact = λ l id h. append_times s.watches f ids l id (omega (arith, w.core.watch_size, w.small)) ∙ w.exact l id h;
        low = w.low;
        pairs = w.pairs;
      }

  rest-conflict : (p f : ℕ) (ids : List ℕ) (k : ℕ) (s : Solver) → Conflicting s k p → Conflicting (with_watches s (set s.watches f (get_or s.watches f [] ++ ids))) k p
  unfolding with_watches
  rest-conflict p f ids k s w = record { known = w.known; all = w.all; one = w.one; one_in = w.one_in; one_here = w.one_here }

  -- the pending clauses in turn
  pending_ok : (p f : ℕ) (ids : List ℕ) (v : Propagation) → VisitOk n C p f ids v → RoundOk n C (visit_pending f ids v)
  unfolding visit_pending held-stuck rest-stuck
  pending_ok p f [] (propagating s) w = busy_idle p f s w
  pending_ok p f [] (complete s) w = absurd w
  pending_ok p f [] (conflict k s) w = (held-stuck p f s w.0, w.1)
  pending_ok p f (id ∷ ids) (propagating s) w = pending_ok p f ids (visit f id s) (visit_ok n C p f id ids s w)
  pending_ok p f (id ∷ ids) (complete s) w = absurd w
  pending_ok p f (id ∷ ids) (conflict k s) w = (rest-stuck p f (id ∷ ids) s w.0, rest-conflict p f (id ∷ ids) k s w.1)

  -- ---- a round

  module _ (s : Solver) (l : Literal) (w : Idle n C s) (e : get_elem? s.assignment.trail s.assignment.propagation_head ≡ some l) where
    -- the literal that became false
    abbrev f : Literal
    f = negate l

    -- the place in hand
    abbrev p : ℕ
    p = s.assignment.propagation_head

    -- the solver with the watch list taken
    abbrev u : Solver
    u = take_watches s f

    -- the clauses pending
    abbrev ids : List ℕ
    ids = get_or s.watches f []

    p_in : p < length s.assignment.trail
    p_in = (at_place s.assignment.trail p l e).0

    here : f ≡ negate (entry s.assignment p)
    here = ap negate (sym (at_place s.assignment.trail p l e).1)

    f-small : f < n * 2
    unfolding node
    f-small = omega (arith, node-negate (entry s.assignment p), here, (w.core.justified.trail_inv.range p p_in).1)

    taken-reasoned : Reasoned u.assignment u.clauses
    unfolding take_watches
    taken-reasoned q h = go (w.core.justified.reasoned q h)
      where
        go : Begins s.assignment q ⊎ Because s.assignment s.clauses q → Begins u.assignment q ⊎ Because u.assignment u.clauses q
        go (inl b) = inl b
        go (inr b) = inr (record { id = b.id; inside = b.inside; reason = b.reason; before = b.before })

    taken-justified : Justified n C u.clauses u.assignment
    unfolding take_watches value
    taken-justified =
        let inv = w.core.justified.trail_inv in
        record {
          trail_inv =
              record {
                size = inv.size;
                range = inv.range;
                true_at = inv.true_at;
                on_trail = inv.on_trail;
                apart = inv.apart;
                head = p_in;
                rise = inv.rise;
                fits = inv.fits;
                level = inv.level;
                level_place = inv.level_place;
                deep = inv.deep;
                level_size = inv.level_size;
                reason_size = inv.reason_size;
                phase_size = inv.phase_size;
              };
          strict = w.core.justified.strict;
          reasoned = taken-reasoned;
          reasons_in = w.core.justified.reasons_in;
          grounding = w.core.justified.grounding;
        }

    taken-core : Core n C u
    unfolding take_watches
    taken-core =
        record {
          justified = taken-justified;
          watch_size = length-set s.watches f [] ∙ w.core.watch_size;
          listed_in = λ l. set_any (λ xs. (j : ℕ) → In j xs → j < length s.clauses) s.watches f l [] [] (w.core.listed_in l) (λ j q. absurd q);
          activity_size = w.core.activity_size;
          in_range = w.core.in_range;
          places = w.core.places;
          count = w.core.count;
          kept = w.core.kept;
          follow = w.core.follow;
          units = w.core.units;
          clause_total = w.core.clause_total;
          literal_total = w.core.literal_total;
        }

    taken-pair : (j : ℕ) → PairOf s.assignment p (clause_at s j) → PairOf u.assignment p (clause_at u j)
    unfolding take_watches
    taken-pair j q = pair-map (λ x k z. z) q

    -- a clause that is not in the list of f does not watch it
    taken-done : (j : ℕ) → j < length C → 2 ≤ length (lits C j) → In j ids ⊎ PairOf u.assignment (suc p) (clause_at u j)
    unfolding take_watches
    taken-done j h two = go (times_in j ids)
      where
        go : In j ids ⊎ (times j ids ≡ 0) → In j ids ⊎ PairOf u.assignment (suc p) (clause_at u j)
        go (inl q) = inl q
        go (inr z) =
            let c = clause_at s j in
            let x = slots_zero c f (sym (w.exact f j (omega (arith, w.core.count))) ∙ z) in
            inr (unaffected u.assignment p f here (watched0 c) (watched1 c) (taken-pair j (w.pairs j h two)) x.0 x.1)

    -- the literal at the head is taken in hand
    pub taken_busy : Busy n C p f ids u
    unfolding take_watches
    taken_busy =
        record {
          held =
              record {
                core = taken-core;
                low = w.low;
                at_head = refl;
                small = f-small;
                pending_in = λ j q. w.core.listed_in f j q;
                exact = λ l id h. take-times s.watches f l id ∙ w.exact l id h;
                pairs = λ j h two. taken-pair j (w.pairs j h two);
              };
          here = here;
          done = taken-done;
        }

  -- one round, by the literal at the head
  pub assigned_ok : (s : Solver) (o : Option Literal) → get_elem? s.assignment.trail s.assignment.propagation_head ≡ o → Idle n C s → RoundOk n C (propagate_assigned s o)
  unfolding propagate_assigned
  assigned_ok s none e w = record { idle = w; end = past_end s.assignment.trail s.assignment.propagation_head e }
  assigned_ok s (some l) e w = pending_ok s.assignment.propagation_head (negate l) (get_or s.watches (negate l) []) _ (taken_busy s l w e)

  rounds_ok : (k : ℕ) (x : Propagation) → RoundOk n C x → RoundOk n C (propagate_rounds k x)
  unfolding propagate_rounds propagate_round
  rounds_ok zero x w = w
  rounds_ok (suc k) (propagating s) w = rounds_ok k (propagate_round s) (assigned_ok s _ refl w)
  rounds_ok (suc k) (complete s) w = w
  rounds_ok (suc k) (conflict i s) w = w

  -- the whole propagation
  pub propagate-keeps : (s : Solver) → Idle n C s → RoundOk n C (propagate s)
  unfolding propagate
  propagate-keeps s w = rounds_ok (suc (length s.assignment.assignments)) (propagating s) w
