-- Laws of the unit clauses that are enqueued at the start. Assumes nothing.
use Rattle.std.specs.Prelude.{◌≡◌, refl, true, false, ℕ, ◌+◌, ◌-◌, ◌*◌, ◌<◌, ◌≤◌, get_or, length, drop}
use Rattle.std.proofs.Math.Path.{ap, sym}
use Rattle.std.proofs.Common.{◌∙◌, arith, add-one, drop_of_length-le, drop-cons}
use mathlib.Core.List.{List, [], ◌∷◌}
use Rattle.std.specs.Prelude as Std
use Rattle.std.proofs.Math.Option.{Option, none, some}
use Rattle.words.specs.Layout.{SMALL, POOL, CLAUSE-STARTS, LITERALS}
use Rattle.words.specs.Region.{region}
use Rattle.model.specs.Sat as Sat
use Rattle.model.specs.Sat.{Assignment}
use Rattle.assignment.specs.State.{assignment_of, assignment_regions, value_of, enqueued, trail_after, word_reason, Assigns}
use Rattle.assignment.specs.StateLaws.{unchanged_none, unchanged_both}
use Rattle.assignment.specs.declared.state.Trail.{Trail}
use Rattle.clauses.specs.declared.state.Store.{Store}
use Rattle.clauses.specs.declared.state.Clause.{Clause}
use Rattle.clauses.specs.Clauses.{clause_at, literals_of, clauses_of, clause-is, same-literals, length-clauses}
use Rattle.clauses.specs.State.{span_of, SoundStore}
use Rattle.clauses.specs.StepLaws.{has_room, assign-step}
use Rattle.clauses.specs.ClauseLaws.{length_span, span_in}
use Rattle.watches.specs.State.{UnitStep}

-- ---- a literal

module _ (m : Store) (t : Trail) (w : List ℕ) (l reason : ℕ) (s : SoundStore m t w []) {x : Std.Option Std.Bool} (e : value_of x ≡ Sat.value (assignment_of t w) l) where
  pub unit_true : x ≡ Std.Some true → UnitStep m t w t w × (enqueued (Std.Ok t) w ≡ Sat.enqueue (assignment_of t w) l (word_reason reason))
  unfolding enqueued Sat.enqueue Sat.enqueue_valued
  unit_true k = (record { frame = unchanged_none assignment_regions w; sound = s; variables = refl; level = refl; head = refl; grows = λ y f. f }, rw (← e, k))

  pub unit_false : x ≡ Std.Some false → UnitStep m t w t w × (enqueued (Std.Err t) w ≡ Sat.enqueue (assignment_of t w) l (word_reason reason))
  unfolding enqueued Sat.enqueue Sat.enqueue_valued
  unit_false k = (record { frame = unchanged_none assignment_regions w; sound = s; variables = refl; level = refl; head = refl; grows = λ y f. f }, rw (← e, k))

  module _ (k : x ≡ Std.None) (b : l < t.variables * 2) where
    free : Sat.value (assignment_of t w) l ≡ Sat.Unassigned
    free = sym e ∙ ap value_of k

    pub unit_room : t.length < SMALL
    unit_room = has_room m t w l s.formed b free

    pub unit_assigned : (r : Trail) (w' : List ℕ) → Assigns t w l reason r w' → UnitStep m t w r w' × (enqueued (Std.Ok r) w' ≡ Sat.enqueue (assignment_of t w) l (word_reason reason))
    unfolding enqueued Sat.enqueue Sat.enqueue_valued
    unit_assigned r w' a =
        let z = assign-step m t w l s.formed b free reason r w' a [] s.queues in
        (record { frame = a.frame; sound = z.sound; variables = z.variables; level = z.level; head = z.head; grows = z.grows }, rw free (ap (λ (q : Assignment). some q) a.is))

-- ---- a clause

unit_is : (t : Assignment) (id : ℕ) (xs : List ℕ) → length xs ≡ 1 → Sat.initialize_unit t id xs ≡ Sat.enqueue t (get_or xs 0 0) (some id)
unfolding Sat.initialize_unit
unit_is t id [] e = absurd (omega arith)
unit_is t id (x ∷ []) e = refl
unit_is t id (x ∷ y ∷ ys) e = absurd (omega arith)

unit_not : (t : Assignment) (id : ℕ) (xs : List ℕ) → (length xs ≡ 1 → ⊥) → Sat.initialize_unit t id xs ≡ some t
unfolding Sat.initialize_unit
unit_not t id [] n = refl
unit_not t id (x ∷ []) n = absurd (n refl)
unit_not t id (x ∷ y ∷ ys) n = refl

module _ (m : Store) (t : Trail) (w : List ℕ) (id : ℕ) (s : SoundStore m t w []) (h : id < m.clauses) (c : Clause) (e : span_of c w ≡ literals_of w id) (g : c.end ≡ get_or (region CLAUSE-STARTS w) (id + 1) 0) where
  pub unit_inside : c.end ≤ POOL
  unit_inside = omega (arith, s.formed.within (id + 1) (omega arith), s.formed.literals)

  size : length (literals_of w id) ≡ c.end - c.start
  size = rw e at (length_span c w s.formed.ready.words unit_inside)

  module _ (z : c.start + 1 ≡ c.end) (l : ℕ) (k : l ≡ get_or (region LITERALS w) c.start 0) where
    first-is : l ≡ get_or (literals_of w id) 0 0
    first-is =
        let n : c.start - c.start ≡ 0 = omega arith in
        rw (e, n) at (k ∙ sym (span_in c w c.start (omega arith) (omega arith)))

    -- one literal
    pub unit_clause : (r : Std.Result Trail Trail) (w' : List ℕ) (reason : ℕ) → reason ≡ id + 1
        → UnitStep m t w (trail_after r) w' × (enqueued r w' ≡ Sat.enqueue (assignment_of t w) l (word_reason reason))
        → UnitStep m t w (trail_after r) w' × (enqueued r w' ≡ Sat.initialize_unit (assignment_of t w) id (literals_of w id))
    unfolding word_reason
    unit_clause r w' reason q a =
        (a.0, rw (unit_is (assignment_of t w) id (literals_of w id) (omega (arith, size)), ← first-is) (rw (q, add-one) at a.1))

  -- not one
  pub unit_skipped : (c.start + 1 ≡ c.end → ⊥) → UnitStep m t w t w × (enqueued (Std.Ok t) w ≡ Sat.initialize_unit (assignment_of t w) id (literals_of w id))
  unfolding enqueued
  unit_skipped n = (
    record { frame = unchanged_none assignment_regions w; sound = s; variables = refl; level = refl; head = refl; grows = λ y f. f },
    sym (unit_not (assignment_of t w) id (literals_of w id) (λ z. n (omega (arith, size)))),
  )

-- ---- all clauses

units-end : (id : ℕ) (cs : List Sat.Clause) (r : Option Assignment) → length cs ≤ id → Sat.initialize_units id (drop id cs) r ≡ r
unfolding Sat.initialize_units
units-end id cs r h = rw (drop_of_length-le cs h)

units-more : (id : ℕ) (cs : List Sat.Clause) (t : Assignment) → id < length cs
    → Sat.initialize_units id (drop id cs) (some t) ≡ Sat.initialize_units (id + 1) (drop (id + 1) cs) (Sat.initialize_unit t id (get_or cs id Sat.empty_clause).literals)
unfolding Sat.initialize_units
units-more id cs t h = rw (drop-cons cs id Sat.empty_clause h, add-one)

units-none : (id : ℕ) (cs : List Sat.Clause) → Sat.initialize_units id cs none ≡ none
unfolding Sat.initialize_units
units-none id [] = refl
units-none id (c ∷ cs) = refl

-- while units are enqueued: the clauses that are left decide
pub record Units (m : Store) (t₀ : Trail) (w₀ : List ℕ) (t : Trail) (w : List ℕ) (id : ℕ) : Type 0 where
  pub most : id ≤ m.clauses
  pub step : UnitStep m t₀ w₀ t w
  pub left : Sat.initialize_units id (drop id (clauses_of m.clauses w₀)) (some (assignment_of t w)) ≡ Sat.initialize_units 0 (clauses_of m.clauses w₀) (some (assignment_of t₀ w₀))

module _ (m : Store) (t₀ : Trail) (w₀ : List ℕ) where
  module _ (t : Trail) (w : List ℕ) (id : ℕ) (u : Units m t₀ w₀ t w id) where
    pub units-done : m.clauses ≤ id → UnitStep m t₀ w₀ t w × (enqueued (Std.Ok t) w ≡ Sat.initialize_units 0 (clauses_of m.clauses w₀) (some (assignment_of t₀ w₀)))
    unfolding enqueued
    units-done h = (u.step, sym (units-end id (clauses_of m.clauses w₀) (some (assignment_of t w)) (omega (arith, length-clauses m.clauses w₀))) ∙ u.left)

    module _ (h : id < m.clauses) (t' : Trail) (w' : List ℕ) (a : UnitStep m t w t' w') where
      same-clause : (get_or (clauses_of m.clauses w₀) id Sat.empty_clause).literals ≡ literals_of w id
      unfolding clause_at
      same-clause = ap (λ (c : Sat.Clause). c.literals) (clause-is m.clauses w₀ id Sat.empty_clause h) ∙ sym (same-literals w w₀ (u.step.frame.same CLAUSE-STARTS refl) (u.step.frame.same LITERALS refl) id)

      left : (r : Option Assignment) → r ≡ Sat.initialize_unit (assignment_of t w) id (literals_of w id)
          → Sat.initialize_units (id + 1) (drop (id + 1) (clauses_of m.clauses w₀)) r ≡ Sat.initialize_units 0 (clauses_of m.clauses w₀) (some (assignment_of t₀ w₀))
      left r k = rw (k, ← same-clause) (sym (units-more id (clauses_of m.clauses w₀) (assignment_of t w) (omega (arith, length-clauses m.clauses w₀))) ∙ u.left)

      steps : UnitStep m t₀ w₀ t' w'
      steps = record {
        frame = unchanged_both assignment_regions u.step.frame a.frame;
        sound = a.sound;
        variables = a.variables ∙ u.step.variables;
        level = a.level ∙ u.step.level;
        head = a.head ∙ u.step.head;
        grows = λ y f. u.step.grows y (a.grows y f);
      }

      pub units-next : enqueued (Std.Ok t') w' ≡ Sat.initialize_unit (assignment_of t w) id (literals_of w id) → Units m t₀ w₀ t' w' (id + 1)
      unfolding enqueued
      units-next k = record { most = omega arith; step = steps; left = left _ k }

      pub units_failed : enqueued (Std.Err t') w' ≡ Sat.initialize_unit (assignment_of t w) id (literals_of w id)
          → UnitStep m t₀ w₀ t' w' × (enqueued (Std.Err t') w' ≡ Sat.initialize_units 0 (clauses_of m.clauses w₀) (some (assignment_of t₀ w₀)))
      unfolding enqueued
      units_failed k = (steps, sym (units-none (id + 1) (drop (id + 1) (clauses_of m.clauses w₀))) ∙ left _ k)
