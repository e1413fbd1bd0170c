-- The start of the search: the unit clauses enqueued, from which on the invariant holds and the answers are right. Assumes nothing.
use Prim.Native.Nat.{ℕ, zero, suc, ◌+◌, ◌<◌}
use Rattle.std.proofs.Common.{arith, ◌∙◌}
use Rattle.std.proofs.Math.Path.{◌≡◌, refl, sym, ap, subst}
use Rattle.std.proofs.Math.Logic.{inl}
use Rattle.std.specs.Prelude.{Bool, true, false}
use mathlib.Core.List.{List, [], ◌∷◌}
use Rattle.std.proofs.Math.Option.{Option, none, some}
use Rattle.std.proofs.Math.ListN.{length, get_or, length-replicate, get_or-eq_default}
use Rattle.model.specs.Literal.{Literal, node, negate}
use Rattle.model.specs.Aig.{evaluate}
use Rattle.model.specs.Sat.{Value, False, Unassigned, True, Clause, Assignment, Solver, with_assignment, literal_value, value, assign, enqueue_valued, enqueue, empty_clause, new, after_enqueue, search_rounds, initialize_unit, initialize_units, start_unless, start}
use Rattle.facts.specs.Lists.{get_or-replicate, All, all-at}
use Rattle.facts.specs.Numbers.{by_lt}
use Rattle.laws.specs.Search.Values.{negate-true}
use Rattle.laws.specs.Search.Clauses.{lits, clause_value, Satisfied, true-literal}
use Rattle.laws.specs.Search.Trail.{OnTrail, Range, TrailInv, on-snoc, new-on}
use Rattle.laws.specs.Search.Reasons.{Justified, justified-assign, bottom_false}
use Rattle.laws.specs.Search.State.{Idle}
use Rattle.laws.specs.Search.Encode.{Encoded}
use Rattle.laws.specs.Search.Loop.{Keeps, search_keeps}
use Rattle.laws.specs.Search.Step.{AnswerOk, step_keeps}

module _ (n : ℕ) where
  new-inv : TrailInv n (new n).assignment
  unfolding new value literal_value
  new-inv =
      record {
        size = length-replicate n Unassigned;
        range = λ p h. absurd (omega arith);
        true_at = λ p h. absurd (omega arith);
        on_trail = λ l e. absurd (let q : Unassigned ≡ True = rw (get_or-replicate n (node l) Unassigned) at e in let z : ◌≡◌ {A = ℕ} 0 1 = cc in omega arith);
        apart = λ p q a h. absurd (omega arith);
        head = omega arith;
        rise = λ i j a h. absurd (omega arith);
        fits = λ i h. absurd (omega arith);
        level = λ v. omega (arith, get_or-replicate {A = ℕ} n v 0);
        level_place = λ v i h. absurd (omega arith);
        deep = λ p i h q r. absurd (omega arith);
        level_size = length-replicate {A = ℕ} n 0;
        reason_size = length-replicate {A = Option ℕ} n none;
        phase_size = length-replicate n false;
      }

  new-justified : (C : List Clause) → Justified n C C (new n).assignment
  unfolding new
  new-justified C =
      record {
        trail_inv = unfold new in new-inv;
        strict = λ i h. absurd (omega arith);
        reasoned = λ p h. absurd (omega arith);
        reasons_in = λ v id e. absurd (let q : none ≡ some id = sym (get_or-replicate {A = Option ℕ} n v none) ∙ e in let z : ◌≡◌ {A = ℕ} 0 1 = cc in omega arith);
        grounding = λ vs sat p h. absurd (omega arith);
      }

  -- ---- the unit clauses

  -- an assignment with no decision, and nothing propagated
  pub record Started (CS : List Clause) (t : Assignment) : Type 0 where
    pub justified : Justified n CS CS t
    pub no-level : t.trail_limits ≡ []
    pub no-head : t.propagation_head ≡ 0

  -- a unit clause's literal is on the trail
  abbrev UnitOn : Assignment → List Literal → Type 0
  UnitOn t ls = length ls ≡ 1 → OnTrail t (get_or ls 0 0)

  module _ (CS : List Clause) where
    -- nothing makes the clauses true
    abbrev Refuted : Type 0
    Refuted = (vs : List Bool) → Satisfied vs CS → ⊥

    -- what one or more clauses leave
    abbrev UnitOk : Assignment → (Assignment → Type 0) → Option Assignment → Type 0
    UnitOk t P none = Refuted
    UnitOk t P (some u) = Started CS u × ((l : Literal) → OnTrail t l → OnTrail u l) × P u

    started_assign : (t : Assignment) (l : Literal) (id : ℕ) → id < length CS → lits CS id ≡ l ∷ [] → Range n l → Started CS t → value t l ≡ Unassigned → Started CS (assign t l (some id))
    unfolding assign
    started_assign t l id q z h w e =
        record {
          justified = justified-assign n CS CS t l (some id) (λ vs sat. sat) w.justified h e (id, q, refl, λ i hi. inl (alone i hi));
          no-level = w.no-level;
          no-head = w.no-head;
        }
      where
        alone_in : (i : ℕ) → i < length (l ∷ []) → get_or (l ∷ []) i 0 ≡ l
        alone_in zero h = refl
        alone_in (suc i) h = absurd (omega arith)

        alone : (i : ℕ) → i < length (lits CS id) → get_or (lits CS id) i 0 ≡ l
        alone = subst (λ ls. (i : ℕ) → i < length ls → get_or ls i 0 ≡ l) (sym z) alone_in

    -- a unit clause whose literal is false: its negation is of level 0
    unit_refutes : (t : Assignment) (l : Literal) (id : ℕ) → id < length CS → lits CS id ≡ l ∷ [] → Started CS t → value t l ≡ False → Refuted
    unit_refutes t l id q z w e vs sat =
        let o = w.justified.trail_inv.on_trail (negate l) (negate-true t l e) in
        let x = true-literal vs (l ∷ []) (subst (λ ls. clause_value vs ls ≡ true) z (sat id q)) in
        bottom_false vs t (length t.trail) l (w.justified.grounding vs sat) (omega arith) (λ p h i k. absurd (omega (arith, ap length w.no-level))) (o.0, o.1, o.2)
        (first x.0 x.1 x.2)
      where
        first : (i : ℕ) → i < 1 → evaluate vs (get_or (l ∷ []) i 0) ≡ true → evaluate vs l ≡ true
        first zero h y = y
        first (suc i) h y = absurd (omega arith)

    enqueue_unit : (t : Assignment) (l : Literal) (id : ℕ) → id < length CS → lits CS id ≡ l ∷ [] → Range n l → Started CS t → (v : Value) → value t l ≡ v
        → UnitOk t (λ u. OnTrail u l) (enqueue_valued t l (some id) v)
    unfolding enqueue_valued
    enqueue_unit t l id q z h w True e = (w, (λ k q. q), w.justified.trail_inv.on_trail l e)
    enqueue_unit t l id q z h w False e = unit_refutes t l id q z w e
    enqueue_unit t l id q z h w Unassigned e = (started_assign t l id q z h w e, on-snoc n t l (some id), new-on n t l (some id))

    unit_weaken : (t : Assignment) (P Q : Assignment → Type 0) → ((u : Assignment) → P u → Q u) → (o : Option Assignment) → UnitOk t P o → UnitOk t Q o
    unit_weaken t P Q f none h = h
    unit_weaken t P Q f (some u) h = (h.0, h.1, f u h.2)

    unit_ok : (t : Assignment) (id : ℕ) (ls : List Literal) → id < length CS → lits CS id ≡ ls → All (Range n) ls → Started CS t
        → UnitOk t (λ u. UnitOn u ls) (initialize_unit t id ls)
    unfolding initialize_unit enqueue
    unit_ok t id [] q z h w = (w, (λ k q. q), λ e. absurd (omega arith))
    unit_ok t id (l ∷ []) q z h w =
        unit_weaken t (λ u. OnTrail u l) (λ u. UnitOn u (l ∷ [])) (λ u q e. q) (enqueue_valued t l (some id) (value t l)) (enqueue_unit t l id q z h.0 w (value t l) refl)
    unit_ok t id (l ∷ k ∷ ls) q z h w = (w, (λ k q. q), λ e. absurd (omega arith))

    none_stays : (cs : List Clause) (id : ℕ) → initialize_units id cs none ≡ none
    unfolding initialize_units
    none_stays [] id = refl
    none_stays (c ∷ cs) id = refl

    -- the literal of each unit clause is on the trail
    abbrev UnitsOn : List Clause → Assignment → Type 0
    UnitsOn cs u = (j : ℕ) → j < length cs → UnitOn u (lits cs j)

    -- cs are the clauses from number id on
    abbrev From : ℕ → List Clause → Type 0
    From id cs = (j : ℕ) → j < length cs → (id + j < length CS) × (lits CS (id + j) ≡ lits cs j)

    from_next : (id : ℕ) (c : Clause) (cs : List Clause) → From id (c ∷ cs) → From (suc id) cs
    from_next id c cs f j h = let z : id + suc j ≡ suc id + j = omega arith in subst (λ k. (k < length CS) × (lits CS k ≡ lits cs j)) z (f (suc j) (omega arith))

    from-here : (id : ℕ) (c : Clause) (cs : List Clause) → From id (c ∷ cs) → (id < length CS) × (lits CS id ≡ c.literals)
    from-here id c cs f = let z : id + 0 ≡ id = omega arith in subst (λ k. (k < length CS) × (lits CS k ≡ c.literals)) z (f 0 (omega arith))

    units_ok : (cs : List Clause) (id : ℕ) (t : Assignment) → From id cs → All (λ c. All (Range n) c.literals) cs → Started CS t
        → UnitOk t (UnitsOn cs) (initialize_units id cs (some t))
    unfolding initialize_units
    units_ok [] id t from h w = (w, (λ k q. q), λ j q. absurd (omega arith))
    units_ok (c ∷ cs) id t from h w =
        go (initialize_unit t id c.literals) (unit_ok t id c.literals (from-here id c cs from).0 (from-here id c cs from).1 h.0 w)
        (λ u q. units_ok cs (suc id) u (from_next id c cs from) h.1 q)
      where
        cons : (u v : Assignment) → UnitOn u c.literals → ((l : Literal) → OnTrail u l → OnTrail v l) → UnitsOn cs v → UnitsOn (c ∷ cs) v
        cons u v a g b zero q e = g _ (a e)
        cons u v a g b (suc j) q e = b j (omega arith) e

        join : (u : Assignment) → Started CS u × ((l : Literal) → OnTrail t l → OnTrail u l) × UnitOn u c.literals → (o : Option Assignment) → UnitOk u (UnitsOn cs) o → UnitOk t (UnitsOn (c ∷ cs)) o
        join u a none b = b
        join u a (some v) b = (b.0, (λ l q. b.1 l (a.1 l q)), cons u v a.2 b.1 b.2)

        go : (o : Option Assignment) → UnitOk t (λ u. UnitOn u c.literals) o → ((u : Assignment) → Started CS u → UnitOk u (UnitsOn cs) (initialize_units (suc id) cs (some u)))
            → UnitOk t (UnitsOn (c ∷ cs)) (initialize_units (suc id) cs o)
        go none a f = subst (λ o. UnitOk t (UnitsOn (c ∷ cs)) o) (sym (none_stays cs (suc id))) a
        go (some u) a f = join u a (initialize_units (suc id) cs (some u)) (f u a.0)

  -- ---- the start

  all-clauses : (P : Clause → Type 0) (cs : List Clause) → ((id : ℕ) → id < length cs → P (get_or cs id empty_clause)) → All P cs
  all-clauses P [] f = tt
  all-clauses P (c ∷ cs) f = (f 0 (omega arith), all-clauses P cs (λ id h. f (suc id) (omega arith)))

  clause-range : (s : Solver) → Encoded n s → (id i : ℕ) → i < length (lits s.clauses id) → Range n (get_or (lits s.clauses id) i 0)
  unfolding empty_clause
  clause-range s w id i h =
      by_lt id (length s.clauses) (λ lt. all-at (Range n) (lits s.clauses id) (w.fresh id lt).range i h)
      (λ ge. absurd (let q : i < 0 = subst (λ c. i < length c.literals) (get_or-eq_default s.clauses empty_clause ge) h in omega arith))

  -- the invariant at the start
  start-idle : (s : Solver) → Encoded n s → (t : Assignment) → Started s.clauses t → UnitsOn s.clauses s.clauses t → Idle n s.clauses (with_assignment s t)
  unfolding with_assignment
  start-idle s w t b on =
      record {
        core =
            record {
              justified = b.justified;
              watch_size = w.watch_size;
              listed_in = w.listed_in;
              activity_size = w.activity_size;
              in_range = clause-range s w;
              places = λ id h. (w.fresh id h).well;
              count = omega arith;
              kept = λ id h. refl;
              follow = λ vs sat. sat;
              units = λ id h e. let o = on id h e in (o.0, o.1, o.2, λ i q. absurd (omega (arith, ap length b.no-level)));
              clause_total = omega arith;
              literal_total = omega (arith, w.none_learned);
            };
        exact = w.exact;
        low = λ i q. absurd (omega (arith, ap length b.no-level));
        pairs = λ id h two. record { safe0 = λ p q e. absurd (omega (arith, b.no-head)); safe1 = λ p q e. absurd (omega (arith, b.no-head)) };
      }

module _ (n : ℕ) (s : Solver) (w : Encoded n s) where
  -- the original clauses
  abbrev C : List Clause
  C = s.clauses

  first : Started n C s.assignment
  first = subst (λ t. Started n C t) (sym w.empty) (record { justified = new-justified n C; no-level = unfold new in refl; no-head = unfold new in refl })

  enqueued-start : (o : Option Assignment) → UnitOk n C s.assignment (UnitsOn n C C) o → Keeps (Idle n C) (AnswerOk n C) (after_enqueue s o)
  unfolding after_enqueue
  enqueued-start none h = h
  enqueued-start (some t) h = start-idle n s w t h.0 h.2

  whole : From n C 0 C
  whole j h = let z : j ≡ 0 + j = omega arith in subst (λ k. (k < length C) × (lits C k ≡ lits C j)) z (h, refl)

  -- the search of a solver that is consistent begins in the invariant
  pub start-keeps : s.inconsistent ≡ false → Keeps (Idle n C) (AnswerOk n C) (start s)
  unfolding start start_unless
  start-keeps e =
      subst (λ b. Keeps (Idle n C) (AnswerOk n C) (start_unless s b)) (sym e)
      (enqueued-start (initialize_units 0 C (some s.assignment))
      (units_ok n C C 0 s.assignment whole (all-clauses n (λ c. All (Range n) c.literals) C (λ id h. (w.fresh id h).range)) first))

  -- so it answers rightly
  pub search_answers : (limit k : ℕ) → s.inconsistent ≡ false → AnswerOk n C (search_rounds limit k (start s))
  search_answers limit k e = search_keeps (Idle n C) (AnswerOk n C) limit (step_keeps n C limit) (λ u h. tt) k (start s) (start-keeps e)
