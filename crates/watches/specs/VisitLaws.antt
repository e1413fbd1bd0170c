-- What each outcome of a visit makes of the solver that the words stand for. Assumes nothing.
use Rattle.std.proofs.Math.Path.{◌≡◌, refl, sym}
use Rattle.std.proofs.Common.{ap, ◌∙◌, inl, eqb-true}
use Rattle.std.specs.Prelude.{Bool, true, false, List, ◌∷◌, eqb, get_or}
use Rattle.std.specs.Prelude as Std
use Rattle.std.proofs.Math.Option.{none, some}
use Prim.Native.Nat.{ℕ, zero, suc, ◌+◌, ◌-◌, ◌*◌, ◌<◌}
use native.Mathlib.Omega.{arith}
use Rattle.std.proofs.Math.Numerals.{add-one}
use Rattle.words.specs.Layout.{SMALL, CELLS, WATCH-TAILS, WATCH-COUNTS, CLAUSE-STARTS, WATCHED, LINKS}
use Rattle.words.specs.Region.{region, stored, stored_out}
use Rattle.model.specs.Sat as Sat
use Rattle.model.specs.Sat.{Solver}
use Rattle.assignment.specs.State.{assignment_of, value_of, Assigns, word_reason}
use Rattle.assignment.specs.StateLaws.{unchanged_none}
use Rattle.assignment.specs.declared.state.Trail.{Trail}
use Rattle.clauses.specs.declared.state.Store.{Store}
use Rattle.clauses.specs.declared.state.Clause.{Clause}
use Rattle.watches.specs.declared.state.Pending.{Pending}
use Rattle.clauses.specs.Queue.{HasRoom, queues_of, pushed_words, walk}
use Rattle.clauses.specs.Sound.{lists, drop-sound}
use Rattle.clauses.specs.Clauses.{clause_at, literals_of, place_in, Stands, half, queue-fits, clause-is}
use Rattle.clauses.specs.ClauseLaws.{read-clause}
use Rattle.clauses.specs.State.{solver_of, span_of, clause_of, Formed, SoundStore, Watchable, slot_of, search_regions}
use Rattle.clauses.specs.StepLaws.{push_step, push_solver, push_pending, replaced_words, replace_step, replace_pending, replace_solver, has_room, assign-step, assign_solver, step_both, same-assignment, pushed_unchanged, literal-range}
use Rattle.watches.specs.State.{pending_of, rest_of, slot_by, other_by, Visiting, Visits}

walk_cons : (ls : List ℕ) (n c : ℕ) → 0 < n → walk ls n c ≡ c ∷ walk ls (n - 1) (get_or ls c 0)
unfolding walk
walk_cons ls zero c h = absurd (omega arith)
walk_cons ls (suc n) c h = let e : suc n - 1 ≡ n = omega arith in rw e

-- the pending cells are the first and the rest
pub pending_cons : (d : Pending) (w : List ℕ) → 0 < d.left → pending_of d w ≡ d.cell ∷ rest_of d w w
unfolding pending_of rest_of
pending_cons d w h = walk_cons (region LINKS w) d.left d.cell h

module _ (m : Store) (t : Trail) (w : List ℕ) (d : Pending) (v : Visiting m t w d) where
  pub visit-sound : SoundStore m t w (d.cell ∷ rest_of d w w)
  visit-sound = rw (pending_cons d w v.some) at v.sound

  -- the clause of the first pending cell is one of the clauses
  pub clause_there : half d.cell < m.clauses
  unfolding lists
  clause_there = omega (arith, visit-sound.queues.below 0 d.cell (inl refl))

  -- and its cell one of the cells
  pub cell_there : d.cell < CELLS
  unfolding lists
  cell_there = omega (arith, visit-sound.queues.below 0 d.cell (inl refl), v.sound.formed.clauses)

  -- any queue has room for one cell more
  pub queue-room : (l : ℕ) → l < t.variables * 2 → HasRoom w l
  queue-room l b = queue-fits t.variables w v.sound.formed.ready.words v.sound.formed.ready.variables (m.clauses * 2) (omega (arith, v.sound.formed.clauses)) _ visit-sound.queues l b

  -- also after a change of a watched literal
  pub moved-room : (u : List ℕ) (j i : ℕ) → u ≡ stored WATCHED w j i → (l : ℕ) → l < t.variables * 2 → HasRoom u l
  moved-room u j i e l b =
      let q = queue-room l b in
      record {
        near = q.near;
        more = rw (e, stored_out WATCH-COUNTS w WATCHED j i refl) q.more;
        tail = rw (e, stored_out WATCH-COUNTS w WATCHED j i refl, stored_out WATCH-TAILS w WATCHED j i refl) q.tail;
      }

  module _ (f : ℕ) (in_range : f < t.variables * 2) where
    pub kept_visits : Visits m t w d t (pushed_words w f d.cell)
    unfolding rest_of
    kept_visits = record {
      step = push_step m t w f d.cell (rest_of d w w) visit-sound in_range;
      same = push_pending m t w f d.cell (rest_of d w w) visit-sound in_range (d.left - 1) (get_or (region LINKS w) d.cell 0) refl;
    }

    -- the clause kept
    pub kept : (s : Solver) → solver_of s m t (pushed_words w f d.cell) ≡ Sat.keep_watch f (half d.cell) (solver_of s m t w)
    kept s = push_solver m t w f d.cell (rest_of d w w) visit-sound in_range s

    module _ (o : ℕ) (u : List ℕ) (e : u ≡ pushed_words w f d.cell) where
      assignment-kept : assignment_of t u ≡ assignment_of t w
      assignment-kept = ap (λ (x : List ℕ). assignment_of t x) e ∙ same-assignment t w (pushed_words w f d.cell) (pushed_unchanged w f d.cell)

      value-kept : Sat.value (assignment_of t u) o ≡ Sat.value (assignment_of t w) o
      value-kept = ap (λ (a : Sat.Assignment). Sat.value a o) assignment-kept

      -- the other literal enqueued: it is true already
      pub enqueued-true : {x : Std.Option Bool} → value_of x ≡ Sat.value (assignment_of t u) o → x ≡ Std.Some true
          → Visits m t w d t u × ((s : Solver) → Sat.propagating (solver_of s m t u)
          ≡ Sat.visit_enqueued (half d.cell) (Sat.keep_watch f (half d.cell) (solver_of s m t w)) (Sat.enqueue (assignment_of t w) o (some (half d.cell))))
      unfolding Sat.visit_enqueued Sat.enqueue Sat.enqueue_valued Sat.keep_watch Sat.with_assignment Sat.with_watches solver_of
      enqueued-true {x} g k = (rw e kept_visits, λ s. rw (← value-kept, ← g, k, e) (ap (λ (q : Solver). Sat.propagating q) (kept s)))

      -- it is false: a conflict
      pub enqueued-false : {x : Std.Option Bool} → value_of x ≡ Sat.value (assignment_of t u) o → x ≡ Std.Some false → {id : ℕ} → id ≡ half d.cell
          → Visits m t w d t u × ((s : Solver) → Sat.conflict id (solver_of s m t u)
          ≡ Sat.visit_enqueued (half d.cell) (Sat.keep_watch f (half d.cell) (solver_of s m t w)) (Sat.enqueue (assignment_of t w) o (some (half d.cell))))
      unfolding Sat.visit_enqueued Sat.enqueue Sat.enqueue_valued
      enqueued-false {x} g k {id} h = (rw e kept_visits, λ s. rw (← value-kept, ← g, k, e, h) (ap (λ (q : Solver). Sat.conflict (half d.cell) q) (kept s)))

      -- it is unassigned
      module _ {x : Std.Option Bool} (g : value_of x ≡ Sat.value (assignment_of t u) o) (k : x ≡ Std.None) (b : o < t.variables * 2) where
        formed-after : Formed m t u
        formed-after = rw e kept_visits.step.sound.formed

        free-after : Sat.value (assignment_of t u) o ≡ Sat.Unassigned
        free-after = sym g ∙ ap value_of k

        pub assign-room : t.length < SMALL
        assign-room = has_room m t u o formed-after b free-after

        pub enqueued_assigned : (r : Trail) (z : List ℕ) → Assigns t u o (half d.cell + 1) r z
            → Visits m t w d r z × ((s : Solver) → Sat.propagating (solver_of s m r z)
            ≡ Sat.visit_enqueued (half d.cell) (Sat.keep_watch f (half d.cell) (solver_of s m t w)) (Sat.enqueue (assignment_of t w) o (some (half d.cell))))
        unfolding Sat.visit_enqueued Sat.enqueue Sat.enqueue_valued word_reason rest_of
        enqueued_assigned r z a =
            let v1 : Visits m t w d t u = rw e kept_visits in (
              record {
                step = step_both m t w t u r z (rest_of d w w) (rest_of d w w) v1.step (assign-step m t u o formed-after b free-after (half d.cell + 1) r z a (rest_of d w w) v1.step.sound.queues);
                same = rw (a.frame.same LINKS refl) v1.same;
              },
              λ s. rw (← value-kept, free-after) (ap (λ (q : Solver). Sat.propagating q) (
                  assign_solver m t u o formed-after b free-after (half d.cell + 1) r z a s
                  ∙ rw (assignment-kept, add-one, e) (ap (λ (q : Solver). Sat.with_assignment q (Sat.assign (assignment_of t w) o (some (half d.cell)))) (kept s)))),
            )

  -- a literal that stands in the clause is one of the variables'
  pub stands-range : (l : ℕ) → Stands l (literals_of w (half d.cell)) → l < t.variables * 2
  stands-range l z = rw (← z) (literal-range m t w v.sound.formed (half d.cell) clause_there (place_in l (literals_of w (half d.cell))))

  -- the clause of the first pending cell given to another literal
  module _ (k l : ℕ) (b : k < 2) (there : Stands l (literals_of w (half d.cell))) where
    pub replaced : Visits m t w d t (replaced_words w d.cell k l)
        × ((s : Solver) → solver_of s m t (replaced_words w d.cell k l) ≡ Sat.replace_watch (half d.cell) (solver_of s m t w) (clause_at w (half d.cell)) (slot_of k) (place_in l (literals_of w (half d.cell))))
    unfolding rest_of
    replaced = (
      record {
        step = replace_step m t w d.cell k l b there (rest_of d w w) visit-sound (stands-range l there);
        same = replace_pending m t w d.cell k l b there (rest_of d w w) visit-sound (stands-range l there) (d.left - 1) (get_or (region LINKS w) d.cell 0) refl;
      },
      λ s. replace_solver m t w d.cell k l b there (rest_of d w w) visit-sound (stands-range l there) clause_there s,
    )

  -- its clause as it is read: what is asked where its spare literal is looked for
  module _ (c : Clause) (e : span_of c w ≡ literals_of w (half d.cell)) (ea : c.first.0 ≡ get_or (region WATCHED w) (half d.cell * 2) 0) (eb : c.second.0 ≡ get_or (region WATCHED w) (half d.cell * 2 + 1) 0) where
    pub is-clause : clause_of c w ≡ clause_at w (half d.cell)
    is-clause = read-clause c w (half d.cell) e ea eb

    pub watchable : c.end ≡ get_or (region CLAUSE-STARTS w) (half d.cell + 1) 0 → Watchable t w c
    watchable g =
        let f = v.sound.formed in
        let h = clause_there in
        record {
          ready = f.ready;
          inside = omega (arith, f.within (half d.cell + 1) (omega arith), f.literals);
          apart = rw e (f.watching.apart (half d.cell) h);
          first = rw (e, ea) (f.watching.first (half d.cell) h);
          second = rw (e, eb) (f.watching.second (half d.cell) h);
          range = rw e (literal-range m t w f (half d.cell) h);
        }

-- ---- by the other literal's value

-- a value that is none counts as not true
pub if_true : (o : Std.Option Bool) → Std.unwrap_or o false ≡ Sat.is_true (value_of o)
unfolding Sat.is_true
if_true Std.None = refl
if_true (Std.Some true) = refl
if_true (Std.Some false) = refl

true_other : (f id : ℕ) (s : Solver) (c : Sat.Clause) (k : Sat.Slot) (v : Sat.Value) → true ≡ Sat.is_true v → Sat.visit_other f id s c k v ≡ Sat.propagating (Sat.keep_watch f id s)
unfolding Sat.visit_other Sat.is_true
true_other f id s c k Sat.True e = refl
true_other f id s c k Sat.False e = absurd (let z : ◌≡◌ {A = ℕ} 0 1 = cc e in omega arith)
true_other f id s c k Sat.Unassigned e = absurd (let z : ◌≡◌ {A = ℕ} 0 1 = cc e in omega arith)

untrue_other : (f id : ℕ) (s : Solver) (c : Sat.Clause) (k : Sat.Slot) (v : Sat.Value) → false ≡ Sat.is_true v → Sat.visit_other f id s c k v ≡ Sat.visit_replacing f id s c k (Sat.replacement s.assignment c)
unfolding Sat.visit_other Sat.is_true
untrue_other f id s c k Sat.True e = absurd (let z : ◌≡◌ {A = ℕ} 0 1 = cc e in omega arith)
untrue_other f id s c k Sat.False e = refl
untrue_other f id s c k Sat.Unassigned e = refl

-- ---- by the replacement

module _ (m : Store) (t : Trail) (w : List ℕ) (d : Pending) (f k : ℕ) where
  -- the clause goes over to another literal
  pub untrue_found : (i : ℕ) → some i ≡ Sat.replacement (assignment_of t w) (clause_at w (half d.cell)) → (s : Solver) (q : Solver)
      → q ≡ Sat.replace_watch (half d.cell) (solver_of s m t w) (clause_at w (half d.cell)) (slot_of k) i
      → Sat.propagating q ≡ Sat.visit_replacing f (half d.cell) (solver_of s m t w) (clause_at w (half d.cell)) (slot_of k) (Sat.replacement (assignment_of t w) (clause_at w (half d.cell)))
  unfolding Sat.visit_replacing
  untrue_found i h s q g = rw (← h) (ap (λ (x : Solver). Sat.propagating x) g)

  -- there is none
  pub untrue_none : none ≡ Sat.replacement (assignment_of t w) (clause_at w (half d.cell)) → (o : ℕ) → o ≡ Sat.other_literal (clause_at w (half d.cell)) (slot_of k) → (s : Solver) (q : Sat.Propagation)
      → q ≡ Sat.visit_enqueued (half d.cell) (Sat.keep_watch f (half d.cell) (solver_of s m t w)) (Sat.enqueue (assignment_of t w) o (some (half d.cell)))
      → q ≡ Sat.visit_replacing f (half d.cell) (solver_of s m t w) (clause_at w (half d.cell)) (slot_of k) (Sat.replacement (assignment_of t w) (clause_at w (half d.cell)))
  unfolding Sat.visit_replacing solver_of
  untrue_none h o j s q g = rw (← h, ← j) g

-- ---- by the watched literals

-- a number past both slots is neither
pub slot_past : (n : ℕ) → 1 < n → Sat.neither ≡ slot_of n
unfolding slot_of
slot_past zero h = absurd (omega arith)
slot_past (suc zero) h = absurd (omega arith)
slot_past (suc (suc k)) h = refl

module _ (m : Store) (t : Trail) (w : List ℕ) (d : Pending) (v : Visiting m t w d) (f a b : ℕ) (ea : a ≡ get_or (region WATCHED w) (half d.cell * 2) 0) (eb : b ≡ get_or (region WATCHED w) (half d.cell * 2 + 1) 0) where
  first-stands : Stands a (literals_of w (half d.cell))
  first-stands = rw ea (v.sound.formed.watching.first (half d.cell) (clause_there m t w d v))

  second-stands : Stands b (literals_of w (half d.cell))
  second-stands = rw eb (v.sound.formed.watching.second (half d.cell) (clause_there m t w d v))

  first-is : Sat.watched0 (clause_at w (half d.cell)) ≡ a
  unfolding Sat.watched0 clause_at
  first-is = rw (← ea) first-stands

  second_is : Sat.watched1 (clause_at w (half d.cell)) ≡ b
  unfolding Sat.watched1 clause_at
  second_is = rw (← eb) second-stands

  slot_is : Sat.false_slot f (clause_at w (half d.cell)) ≡ slot_by a b f
  unfolding Sat.false_slot slot_by
  slot_is = rw (first-is, second_is)

  visited : (s : Solver) → Sat.visit f (half d.cell) (solver_of s m t w) ≡ Sat.visit_slot f (half d.cell) (solver_of s m t w) (clause_at w (half d.cell)) (slot_by a b f)
  unfolding Sat.visit Sat.visit_clause solver_of
  visited s = rw (clause-is m.clauses w (half d.cell) Sat.empty_clause (clause_there m t w d v), slot_is)

  -- neither is the false literal: nothing is changed
  pub slot_neither : Sat.neither ≡ slot_by a b f → (s : Solver) → Sat.propagating (solver_of s m t w) ≡ Sat.visit f (half d.cell) (solver_of s m t w)
  unfolding Sat.visit_slot
  slot_neither e s = rw (visited s, ← e)

  module _ (n : ℕ) (e : slot_of n ≡ slot_by a b f) where
    -- one of them is the false literal, which is of the variables
    pub false-range : n < 2 → f < t.variables * 2
    unfolding slot_by slot_of
    false-range low = go (eqb a f) (eqb b f) refl refl
      where
        some_slot : (k : ℕ) → k < 2 → slot_of k ≡ Sat.neither → ⊥
        some_slot zero h z = let y : ◌≡◌ {A = ℕ} 0 1 = cc z in omega arith
        some_slot (suc zero) h z = let y : ◌≡◌ {A = ℕ} 0 1 = cc z in omega arith
        some_slot (suc (suc k)) h z = omega arith

        go : (p q : Bool) → eqb a f ≡ p → eqb b f ≡ q → f < t.variables * 2
        go true q g h = rw (← eqb-true a f g) (stands-range m t w d v a first-stands)
        go false true g h = rw (← eqb-true b f h) (stands-range m t w d v b second-stands)
        go false false g h = absurd (some_slot n low (rw (g, h) at e))

    module _ (low : n < 2) (o : ℕ) (eo : o ≡ other_by n a b) where
      pub other_is : o ≡ Sat.other_literal (clause_at w (half d.cell)) (slot_of n)
      unfolding other_by Sat.other_literal slot_of
      other_is = eo ∙ go n low
        where
          go : (k : ℕ) → k < 2 → other_by k a b ≡ Sat.other_literal (clause_at w (half d.cell)) (slot_of k)
          go zero h = sym second_is
          go (suc zero) h = sym first-is
          go (suc (suc k)) h = absurd (omega arith)

      -- the other literal is one of the variables'
      pub other_range : o < t.variables * 2
      unfolding other_by
      other_range = rw eo (go n)
        where
          go : (k : ℕ) → other_by k a b < t.variables * 2
          go zero = stands-range m t w d v b second-stands
          go (suc k) = stands-range m t w d v a first-stands

      by_other : (s : Solver) → Sat.visit f (half d.cell) (solver_of s m t w) ≡ Sat.visit_other f (half d.cell) (solver_of s m t w) (clause_at w (half d.cell)) (slot_of n) (Sat.value (assignment_of t w) o)
      unfolding solver_of Sat.visit_slot slot_of
      by_other s = visited s ∙ rw (← e, other_is) (go n low)
        where
          go : (k : ℕ) → k < 2 → Sat.visit_slot f (half d.cell) (solver_of s m t w) (clause_at w (half d.cell)) (slot_of k)
              ≡ Sat.visit_other f (half d.cell) (solver_of s m t w) (clause_at w (half d.cell)) (slot_of k) (Sat.value (solver_of s m t w).assignment (Sat.other_literal (clause_at w (half d.cell)) (slot_of k)))
          go zero h = refl
          go (suc zero) h = refl
          go (suc (suc k)) h = absurd (omega arith)

      -- the clause is kept since the other literal is true
      pub visit-true : true ≡ Sat.is_true (Sat.value (assignment_of t w) o) → (u : List ℕ) → u ≡ pushed_words w f d.cell
          → Visits m t w d t u × ((s : Solver) → Sat.propagating (solver_of s m t u) ≡ Sat.visit f (half d.cell) (solver_of s m t w))
      visit-true z u g = (
        rw g (kept_visits m t w d v f (false-range low)),
        λ s. rw g (ap (λ (q : Solver). Sat.propagating q) (kept m t w d v f (false-range low) s) ∙ sym (true_other f (half d.cell) (solver_of s m t w) (clause_at w (half d.cell)) (slot_of n) _ z) ∙ sym (by_other s)),
      )

      -- it is not true
      pub visit_untrue : false ≡ Sat.is_true (Sat.value (assignment_of t w) o) → (s : Solver) (q : Sat.Propagation)
          → q ≡ Sat.visit_replacing f (half d.cell) (solver_of s m t w) (clause_at w (half d.cell)) (slot_of n) (Sat.replacement (assignment_of t w) (clause_at w (half d.cell)))
          → q ≡ Sat.visit f (half d.cell) (solver_of s m t w)
      unfolding solver_of
      visit_untrue z s q g = g ∙ sym (untrue_other f (half d.cell) (solver_of s m t w) (clause_at w (half d.cell)) (slot_of n) (Sat.value (assignment_of t w) o) z) ∙ sym (by_other s)

-- nothing is changed: the cell is dropped
pub dropped_visits : (m : Store) (t : Trail) (w : List ℕ) (d : Pending) → Visiting m t w d → Visits m t w d t w
dropped_visits m t w d v = record {
  step = record {
    frame = unchanged_none search_regions w;
    sound = record { formed = v.sound.formed; queues = drop-sound (queues_of t.variables w) (m.clauses * 2) d.cell (rest_of d w w) (visit-sound m t w d v).queues };
    variables = refl;
    level = refl;
    head = refl;
    grows = λ y f. f;
  };
  same = refl;
}
