-- One clause visited keeps the invariant of the search: what `visit` does in each of its cases. Assumes nothing.
use Rattle.std.specs.Prelude.{ℕ, ◌+◌, suc, ◌≤◌, ◌<◌, ◌≡◌, ◌≢◌, ◌⊎◌, List, [], ◌∷◌, set}
use native.Mathlib.Omega.{arith}
use Rattle.std.proofs.Common.{zero-add, ◌∙◌}
use Rattle.std.proofs.Math.Path.{refl, sym, ap, subst}
use Rattle.std.proofs.Math.Logic.{inl, inr}
use Rattle.std.proofs.Math.Option.{Option, none, some}
use Rattle.std.proofs.Math.ListN.{length, get_or, length-set, get_or-eq_default}
use Rattle.std.proofs.Math.Seq.{get_or-set_same, get_or-set_other}
use Rattle.model.specs.Literal.{Literal, node, negate}
use Rattle.laws.specs.Search.Listed.{same, times, pending_times, slot_count, same-yes, pending_yes, keep_times, move_times_other, move_times-own, slots_none, slots_move0, slots_move1}
use Rattle.laws.specs.Graph.Values.{node-negate}
use Rattle.laws.specs.Search.Replacement.{extend, replaced, Faces, slot_faces, Replaces, Taken, Found, found_from}
use Rattle.facts.specs.Lists.{In}
use Rattle.facts.specs.Numbers.{by_eq, by_lt}
use Rattle.laws.specs.Lists.{get_or-snoc-old}
use Rattle.laws.specs.Search.Trail.{entry, Low, Range, TrailInv, new-on}
use Rattle.laws.specs.Search.Clauses.{lits}
use Rattle.laws.specs.Search.Reasons.{Earlier, Before, Justified, justified-assign}
use Rattle.laws.specs.Search.State.{clause_at, PairOf, watched-differ, Core, Held, Busy, Conflicting, VisitOk, core-assignment, core_keep, core_replace, ExactBut}
use Rattle.laws.specs.Search.Values.{negate-true, negate-negate}
use Rattle.laws.specs.Search.Watches.{TrueBy, Fixed, Safe, pair_swap, pair-map, safe_less, true-low, fixed-assign, safe_assign}
use Rattle.model.specs.Sat.{Value, False, Unassigned, True, Clause, Assignment, Solver, with_assignment, with_watches, value, assign, enqueue_valued, enqueue, empty_clause, push_watch}
use Rattle.model.specs.Sat.{Slot, slot0, slot1, neither, watched0, watched1, false_slot, other_literal, move_watch, replacement_from, replacement, keep_watch, replace_watch, visit_enqueued, visit_replacing, visit_other, visit_slot, visit_clause, visit}

module _ (n : ℕ) (C : List Clause) where
  -- one clause less is pending
  busy_step : (p f id : ℕ) (ids : List ℕ) (s u : Solver) → Busy n C p f (id ∷ ids) s → Core n C u → Low p u.assignment
      → suc p ≡ u.assignment.propagation_head → f ≡ negate (entry u.assignment p)
      → length s.clauses ≤ length u.clauses → ExactBut f ids u
      → ((j : ℕ) → j ≢ id → clause_at u j ≡ clause_at s j)
      → ((b : ℕ) → b ≤ suc p → (w k : Literal) → Safe s.assignment b w k → Safe u.assignment b w k)
      → (id < length C → 2 ≤ length (lits C id) → PairOf u.assignment (suc p) (clause_at u id))
      → Busy n C p f ids u
  busy_step p f id ids s u w core low at here more exact same safes mine =
      record {
        held =
            record {
              core = core;
              low = low;
              at_head = at;
              small = w.held.small;
              pending_in = λ j q. omega (arith, more, w.held.pending_in j (inr q));
              exact = exact;
              pairs =
                  λ j h e.
                  by_eq j id
                  (λ z.
                  subst (λ i. PairOf u.assignment p (clause_at u i)) (sym z)
                  (pair-map (safe_less u.assignment (suc p) p (omega arith))
                  (mine (subst (λ i. i < length C) z h) (subst (λ i. 2 ≤ length (lits C i)) z e))))
                  (λ z.
                  subst (PairOf u.assignment p) (sym (same j z))
                  (pair-map (safes p (omega arith)) (w.held.pairs j h e)));
            };
        here = here;
        done =
            λ j h e.
            by_eq j id
            (λ z.
            inr
            (subst (λ i. PairOf u.assignment (suc p) (clause_at u i)) (sym z)
            (mine (subst (λ i. i < length C) z h) (subst (λ i. 2 ≤ length (lits C i)) z e))))
            (λ z. go j z (w.done j h e));
      }
    where
      go : (j : ℕ) → j ≢ id → In j (id ∷ ids) ⊎ PairOf s.assignment (suc p) (clause_at s j)
          → In j ids ⊎ PairOf u.assignment (suc p) (clause_at u j)
      go j z (inl (inl e)) = absurd (z e)
      go j z (inl (inr q)) = inl q
      go j z (inr q) =
          inr
          (subst (PairOf u.assignment (suc p)) (sym (same j z))
          (pair-map (safes (suc p) (omega arith)) q))

  module _ (p f id : ℕ) (ids : List ℕ) (s : Solver) (w : Busy n C p f (id ∷ ids) s) where
    -- the assignment
    abbrev t : Assignment
    t = s.assignment

    -- the clause in hand
    abbrev c : Clause
    c = clause_at s id

    -- the trail's invariant
    abbrev inv : TrailInv n t
    inv = w.held.core.justified.trail_inv

    p_in : p < length t.trail
    p_in = omega (arith, w.held.at_head, inv.head)

    f_in : f < length s.watches
    f_in = omega (arith, w.held.core.watch_size, w.held.small)

    -- the two watched literals of an original clause differ
    differ : id < length C → 2 ≤ length (lits C id) → watched0 c ≢ watched1 c
    differ h two = watched-differ c (w.held.core.places id (omega (arith, w.held.core.count))) (omega (arith, two, ap length (w.held.core.kept id h)))

    -- one of the two watched literals is f, since the clause is pending on it
    neither_never : (watched0 c ≢ f) × (watched1 c ≢ f) → ⊥
    unfolding times same
    neither_never e =
        omega (
          arith,
          w.held.exact f id (w.held.pending_in id (inl refl)),
          slots_none c f e.0 e.1,
          pending_yes f (id ∷ ids) f id refl,
          same-yes id id refl,
        )

    -- the clause kept in the list of f
    keep_exact : ExactBut f ids (keep_watch f id s)
    unfolding keep_watch with_watches
    keep_exact l j h = keep_times s.watches f id ids l j f_in ∙ w.held.exact l j h

    -- the slot's literal is f, and there is a slot
    abbrev Facing : Slot → Type 0
    Facing slot0 = watched0 c ≡ f
    Facing slot1 = watched1 c ≡ f
    Facing neither = ⊥

    f_big : 2 ≤ f
    unfolding node
    f_big = omega (arith, w.here, node-negate (entry t p), (inv.range p p_in).0)

    some-literal : (ls : List Literal) (x : ℕ) → get_or ls x 0 ≡ f → 0 < length ls
    some-literal [] x e = absurd (omega (arith, f_big))
    some-literal (l ∷ ls) x e = omega arith

    -- the clause is there
    id_in : (x : ℕ) → get_or c.literals x 0 ≡ f → id < length s.clauses
    unfolding empty_clause
    id_in x e =
        by_lt id (length s.clauses) (λ lt. lt)
        (λ ge.
        absurd
        (let q : 0 < 0 = subst (λ d. 0 < length d.literals) (get_or-eq_default s.clauses empty_clause ge) (some-literal c.literals x e) in
        omega arith))

    facing_in : (k : Slot) → Facing k → id < length s.clauses
    unfolding watched0 watched1
    facing_in slot0 e = id_in c.watched.0 e
    facing_in slot1 e = id_in c.watched.1 e
    facing_in neither e = absurd e

    other_range : (k : Slot) → Facing k → Range n (other_literal c k)
    unfolding other_literal watched0 watched1
    other_range slot0 e = w.held.core.in_range id _ (w.held.core.places id (facing_in slot0 e)).second
    other_range slot1 e = w.held.core.in_range id _ (w.held.core.places id (facing_in slot1 e)).first
    other_range neither e = absurd e

    keep_mine : (k : Slot) → Facing k → (u : Assignment) → f ≡ negate (entry u p) → TrueBy u p (other_literal c k) → watched0 c ≢ watched1 c → PairOf u p c → PairOf u (suc p) c
    unfolding other_literal
    keep_mine slot0 e u h tb d q = extend u p f h (watched0 c) (watched1 c) q e d tb
    keep_mine slot1 e u h tb d q = pair_swap (extend u p f h (watched1 c) (watched0 c) (pair_swap q) e (λ z. d (sym z)) tb)
    keep_mine neither e u h tb d q = absurd e

    -- the clause stays in the list of f, and the other literal is true under the assignment u
    keep_ok : (k : Slot) → Facing k → (u : Assignment) → Justified n C s.clauses u → Low p u → suc p ≡ u.propagation_head → f ≡ negate (entry u p)
        → ((l : Literal) → Fixed t l → Fixed u l) → ((b : ℕ) → b ≤ suc p → (x l : Literal) → Safe t b x l → Safe u b x l)
        → TrueBy u p (other_literal c k) → Busy n C p f ids (with_assignment (keep_watch f id s) u)
    unfolding with_assignment keep_watch with_watches
    keep_ok k e u ju low at here fx sf tb =
        busy_step p f id ids s (with_assignment (keep_watch f id s) u) w (core-assignment n C (keep_watch f id s) u ju fx (core_keep n C s f id (facing_in k e) w.held.core)) low at here
        (omega arith) (unfold keep_watch with_watches in keep_exact) (λ j z. refl) sf
        (λ h two. keep_mine k e u here tb (differ h two) (pair-map (sf p (omega arith)) (w.held.pairs id h two)))

    true_ok : (k : Slot) → Facing k → value t (other_literal c k) ≡ True → Busy n C p f ids (keep_watch f id s)
    unfolding with_assignment keep_watch with_watches
    true_ok k e v =
        keep_ok k e t w.held.core.justified w.held.low w.held.at_head w.here (λ l q. q) (λ b h x l q. q)
        (true-low t p (other_literal c k) w.held.low (inv.on_trail (other_literal c k) v))

    in_hand : entry t p ≡ negate f
    in_hand = sym (negate-negate (entry t p)) ∙ ap negate (sym w.here)

    f-placed : Earlier t (length t.trail) f
    f-placed = (p, p_in, in_hand)

    false-placed : (l : Literal) → value t l ≡ False → Earlier t (length t.trail) l
    false-placed l e = let o = inv.on_trail (negate l) (negate-true t l e) in (o.0, o.1, o.2)

    -- every place is watched or false
    abbrev AllTaken : Type 0
    AllTaken = (i : ℕ) → i < length c.literals → Taken t c i (get_or c.literals i 0)

    before_other : (k : Slot) → Facing k → AllTaken → Before t (length t.trail) c.literals (other_literal c k)
    unfolding watched0 watched1 other_literal
    before_other slot0 e a i h = go (a i h)
      where
        go : Taken t c i (get_or c.literals i 0) → (get_or c.literals i 0 ≡ get_or c.literals c.watched.1 0) ⊎ Earlier t (length t.trail) (get_or c.literals i 0)
        go (inl z) = inr (subst (Earlier t (length t.trail)) (sym (ap (λ j. get_or c.literals j 0) z ∙ e)) f-placed)
        go (inr (inl z)) = inl (ap (λ j. get_or c.literals j 0) z)
        go (inr (inr z)) = inr (false-placed (get_or c.literals i 0) z)
    before_other slot1 e a i h = go (a i h)
      where
        go : Taken t c i (get_or c.literals i 0) → (get_or c.literals i 0 ≡ get_or c.literals c.watched.0 0) ⊎ Earlier t (length t.trail) (get_or c.literals i 0)
        go (inl z) = inl (ap (λ j. get_or c.literals j 0) z)
        go (inr (inl z)) = inr (subst (Earlier t (length t.trail)) (sym (ap (λ j. get_or c.literals j 0) z ∙ e)) f-placed)
        go (inr (inr z)) = inr (false-placed (get_or c.literals i 0) z)
    before_other neither e a i h = absurd e

    conflict-here : (k : Slot) → Facing k → AllTaken → value t (other_literal c k) ≡ False → Conflicting (keep_watch f id s) id p
    unfolding keep_watch with_watches watched0 watched1
    conflict-here k e a v =
        let z = front k e in
        record {
          known = facing_in k e;
          all = λ i h. go i (before_other k e a i h);
          one = z.0;
          one_in = z.1;
          one_here = in_hand ∙ ap negate (sym z.2);
        }
      where
        front : (k : Slot) → Facing k → (x : ℕ) × (x < length c.literals) × (get_or c.literals x 0 ≡ f)
        front slot0 q = (c.watched.0, (w.held.core.places id (facing_in slot0 q)).first, q)
        front slot1 q = (c.watched.1, (w.held.core.places id (facing_in slot1 q)).second, q)
        front neither q = absurd q

        go : (i : ℕ) → (get_or c.literals i 0 ≡ other_literal c k) ⊎ Earlier t (length t.trail) (get_or c.literals i 0) → Earlier t (length t.trail) (get_or c.literals i 0)
        go i (inl z) = subst (Earlier t (length t.trail)) (sym z) (false-placed (other_literal c k) v)
        go i (inr z) = z

    unset_ok : (k : Slot) → Facing k → AllTaken → value t (other_literal c k) ≡ Unassigned
        → Busy n C p f ids (with_assignment (keep_watch f id s) (assign t (other_literal c k) (some id)))
    unset_ok k e a v =
        let l = other_literal c k in
        let r = some id in
        keep_ok k e (assign t l r)
        (justified-assign n C s.clauses t l r w.held.core.follow w.held.core.justified (other_range k e) v (id, facing_in k e, refl, before_other k e a))
        (unfold assign in w.held.low) (unfold assign in w.held.at_head)
        (w.here ∙ ap negate (unfold assign in sym (get_or-snoc-old t.trail l 0 p p_in))) (fixed-assign t l r) (λ b h. safe_assign t l r b (omega (arith, p_in)))
        (true-low (assign t l r) p l (unfold assign in w.held.low) (new-on n t l r))

    -- the other literal is false: a conflict
    false_ok : id < length s.clauses → Held n C p f ids (keep_watch f id s)
    unfolding keep_watch with_watches
    false_ok h =
        record {
          core = core_keep n C s f id h w.held.core;
          low = w.held.low;
          at_head = w.held.at_head;
          small = w.held.small;
          pending_in = λ j q. w.held.pending_in j (inr q);
          exact = unfold keep_watch with_watches in keep_exact;
          pairs = w.held.pairs;
        }

    enqueued_ok : (k : Slot) → Facing k → AllTaken → (v : Value) → value t (other_literal c k) ≡ v
        → VisitOk n C p f ids (visit_enqueued id (keep_watch f id s) (enqueue_valued t (other_literal c k) (some id) v))
    unfolding visit_enqueued enqueue_valued with_assignment keep_watch with_watches
    enqueued_ok k e a True v = true_ok k e v
    enqueued_ok k e a Unassigned v = unset_ok k e a v
    enqueued_ok k e a False v = (false_ok (facing_in k e), conflict-here k e a v)

    -- the watch moves to place i
    module _ (i : ℕ) (hi : i < length c.literals) (free : Replaces t c i (get_or c.literals i 0)) where
      -- the solver with the watch moved
      abbrev moved : Slot → Solver
      moved k = replace_watch id s c k i

      literal_in : get_or c.literals i 0 < length s.watches
      unfolding node
      literal_in = omega (arith, w.held.core.watch_size, (w.held.core.in_range id i hi).1)

      moved-clause : (k : Slot) → id < length C → clause_at (moved k) id ≡ move_watch c k i
      unfolding replace_watch
      moved-clause k h = get_or-set_same s.clauses id (move_watch c k i) empty_clause (omega (arith, w.held.core.count))

      moved_mine : (k : Slot) → Facing k → watched0 c ≢ watched1 c → PairOf t p c → PairOf t (suc p) (move_watch c k i)
      unfolding move_watch watched0 watched1
      moved_mine slot0 e d q = replaced t p f w.here (watched0 c) (watched1 c) q n inv p_in e d (get_or c.literals i 0) free.free
      moved_mine slot1 e d q = pair_swap (replaced t p f w.here (watched1 c) (watched0 c) (pair_swap q) n inv p_in e (λ z. d (sym z)) (get_or c.literals i 0) free.free)
      moved_mine neither e d q = absurd e

      -- two places are watched, since a third or second is free
      two-places : id < length s.clauses → c.watched.0 ≢ c.watched.1
      two-places h = let x = w.held.core.places id h in x.split (omega (arith, x.first, free.not0))

      slots_moved : (k : Slot) (l : Literal) → Facing k → id < length s.clauses → slot_count (move_watch c k i) l + same f l ≡ slot_count c l + same (get_or c.literals i 0) l
      slots_moved slot0 l e h = slots_move0 c i f l (two-places h) free.not1 e
      slots_moved slot1 l e h = slots_move1 c i f l (two-places h) free.not0 e
      slots_moved neither l e h = absurd e

      moved-exact : (k : Slot) → Facing k → ExactBut f ids (moved k)
      unfolding replace_watch
      moved-exact k e l j h =
          let here = facing_in k e in
          let cs = s.clauses in
          let d = move_watch c k i in
          let g = get_or c.literals i 0 in
          let hj : j < length cs = omega (arith, length-set cs id d) in
          by_eq j id
          (λ z.
          subst (λ y. times y (get_or (push_watch s.watches g id) l []) + pending_times f ids l y ≡ slot_count (get_or (set cs id d) y empty_clause) l) (sym z)
          (omega (arith, move_times-own s.watches f g id ids l literal_in, w.held.exact l id here, slots_moved k l e here, ap (λ y. slot_count y l) (get_or-set_same cs id d empty_clause here))))
          (λ z. move_times_other s.watches f g id ids l j literal_in z ∙ w.held.exact l j hj ∙ ap (λ y. slot_count y l) (sym (get_or-set_other cs id j d empty_clause z)))

      moved_ok : (k : Slot) → Facing k → Busy n C p f ids (moved k)
      unfolding replace_watch
      moved_ok k e =
          busy_step p f id ids s (moved k) w (core_replace n C s id k i (facing_in k e) hi free.not0 free.not1 w.held.core) w.held.low w.held.at_head w.here
          (omega (arith, length-set s.clauses id (move_watch c k i))) (unfold replace_watch in moved-exact k e) (λ j z. get_or-set_other s.clauses id j (move_watch c k i) empty_clause z) (λ b h x l q. q)
          (λ h two. subst (PairOf t (suc p)) (sym (moved-clause k h)) (moved_mine k e (differ h two) (w.held.pairs id h two)))

    replacing_ok : (k : Slot) → Facing k → (o : Option ℕ) → Found t c 0 c.literals o → VisitOk n C p f ids (visit_replacing f id s c k o)
    unfolding visit_replacing enqueue
    replacing_ok k e none h = enqueued_ok k e (λ i q. subst (λ j. Taken t c j (get_or c.literals i 0)) (zero-add i) (h i q)) (value t (other_literal c k)) refl
    replacing_ok k e (some i) h =
        let z : h.0 ≡ i = omega (arith, h.2) in
        moved_ok i (subst (λ j. j < length c.literals) z h.1) (subst (λ j. Replaces t c i (get_or c.literals j 0)) z h.3) k e

    other_ok : (k : Slot) → Facing k → (v : Value) → value t (other_literal c k) ≡ v → VisitOk n C p f ids (visit_other f id s c k v)
    unfolding visit_other replacement
    other_ok k e True v = true_ok k e v
    other_ok k e Unassigned v = replacing_ok k e (replacement_from t c 0 c.literals) (found_from t c 0 c.literals)
    other_ok k e False v = replacing_ok k e (replacement_from t c 0 c.literals) (found_from t c 0 c.literals)

    slot_ok : (k : Slot) → Faces f c k → VisitOk n C p f ids (visit_slot f id s c k)
    unfolding visit_slot
    slot_ok neither e = absurd (neither_never e)
    slot_ok slot0 e = other_ok slot0 e (value t (other_literal c slot0)) refl
    slot_ok slot1 e = other_ok slot1 e (value t (other_literal c slot1)) refl

    -- one clause of the watch list
    pub visit_ok : VisitOk n C p f ids (visit f id s)
    unfolding visit visit_clause
    visit_ok = slot_ok (false_slot f c) (slot_faces f c)
