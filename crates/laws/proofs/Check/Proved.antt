-- What a check that gives up has proved: through which cycle the outputs are equal, by the place where it gave up, of two designs and in the numbers of a call. Assumes nothing.
use Rattle.std.specs.Prelude.{ℕ, ◌-◌, ◌≤◌, ◌<◌, ◌⊎◌, ◌↔◌, Bool, cond, length, ltb, Float}
use native.Mathlib.Omega.{arith}
use Rattle.std.proofs.Math.Path.{◌≡◌, refl, ap, subst}
use Rattle.std.proofs.Common.{sym, ◌∙◌, inl, inr, ltb-true, ltb-false, lt-ltb}
use Rattle.std.proofs.Math.Bool.{true, false, true≢false}
use mathlib.Core.List.{List, [], ◌∷◌}
use Rattle.std.proofs.Math.Option.{Option, none, some}
use Rattle.model.specs.Answers.{Refusal, accepted, ReplayAnswer, status_number, Asked, CheckAnswer, refused_answer, is_proved, proved_cycle, accepted_answer}
use Rattle.model.specs.Lists.{snoc}
use Rattle.model.specs.Options.{Options, first_query}
use Rattle.model.specs.Netlist.{Design}
use Rattle.model.specs.Run.{StoredBits, InputSequence, initial_bits}
use Rattle.model.specs.Pair.{replay_fault, ReadPair, both, read_pair, check_refusal}
use Rattle.model.specs.Replay.{claim_inputs, differ_at, replay}
use Rattle.model.specs.Equivalence.{Problem, Query, base_counterexample, Verdict, Equivalent, NotEquivalent, Inconclusive, GaveUp, OutOfFuel, Outcome, asked_too, prove_sequential_equivalence, largest_learned, proved_before, proved_through}
use Rattle.model.specs.Check.{problem_of, check_designs, verdict_answer, check_answer, CheckResult, check_result, lent_of, check}
use Rattle.facts.specs.Numbers.{by_eq, by_lt}
use Rattle.laws.specs.Terms.{replay_refusal_of, replay_refusal, proved_of, TraceLeft, Comparable, QueryOf, query_1, NoModel, Passed, Cycle0Passed, Stops, at_query_1, at_query_2, at_query_3, at_query_4, StopsAt, at_query_0, at_depth_lem, EqualThrough, proved_by_place}
use Rattle.laws.specs.Induction.Pairs.{Accepted, accepted-pair, free_of, comparable, depth-positive}
use Rattle.laws.specs.Check.Call.{check-refused, call-is}
use Rattle.laws.specs.Check.Replaying.{replay_rule, replay-zero}
use Rattle.laws.proofs.Check.Queries.{no-model-no}
use Rattle.laws.proofs.Check.Walk.{Final, Asking, nothing, first, deeper, further, Walked, all_passed, last_gave_up, last_decided, prove_walk, asked_low, asking-high}
use Rattle.laws.proofs.Check.Asked.{asking-begins, designs_first}
use Rattle.laws.proofs.Check.GiveUp.{designs_give_up}
use Rattle.laws.proofs.Check.Numbers.{trace-left}

-- ---- by the place of the give-up

-- in the first query of depth 1 nothing is proved
first-place : (earliest : Bool) → none ≡ proved_by_place earliest 1 (first_query earliest)
unfolding proved_by_place first_query
first-place true = refl
first-place false = refl

-- in one after it the depth, or the depth before it
after-some : (earliest : Bool) (d k : ℕ) → (d ≡ 1 → k ≡ first_query earliest → ⊥) → 1 ≤ d → (d ≡ 1 → first_query earliest ≤ k) → some (cond (ltb 1 k) d (d - 1)) ≡ proved_by_place earliest d k
unfolding proved_by_place
after-some earliest d k apart low late = go (ltb 1 k) (ltb 1 d) refl refl
  where
    go : (x y : Bool) → ltb 1 k ≡ x → ltb 1 d ≡ y → some (cond (ltb 1 k) d (d - 1)) ≡ cond (ltb 1 k) (some d) (cond (ltb 1 d) (some (d - 1)) (cond (ltb (first_query earliest) k) (some 0) none))
    go true y e f = rw e
    go false true e f = rw (e, f)
    go false false e f =
        let z : d ≡ 1 = omega (arith, low, ltb-false 1 d f) in
        let l : first_query earliest < k = by_eq k (first_query earliest) (λ h. absurd (apart z h)) (λ h. omega (arith, h, late z)) in
        rw (e, f, lt-ltb (first_query earliest) k l, z)

module _ (earliest : Bool) (limit : ℕ) (p : Problem) (D : ℕ) where
  first_small : (e : Bool) → first_query e ≤ 1
  unfolding first_query
  first_small true = omega arith
  first_small false = omega arith

  -- at depth 1 no query stands before the first
  late_first : (d k : ℕ) (earlier : List Asked) → Asking earliest limit p D d k earlier → first_query earliest ≤ k
  late_first d k earlier (nothing z) = omega (arith, first_small earliest)
  late_first d k earlier (first l) = omega arith
  late_first d k earlier (deeper l h m) = first_small earliest
  late_first d k earlier (further {k = j} {earlier = es} q a n h w e t l) = omega (arith, late_first d j es h, l)

  -- before the first query of depth 1 nothing was asked
  first-before : (d k : ℕ) (earlier : List Asked) → Asking earliest limit p D d k earlier → d ≡ 1 → k ≡ first_query earliest → earlier ≡ []
  first-before d k earlier (nothing z) x y = refl
  first-before d k earlier (first l) x y = refl
  first-before d k earlier (deeper l h m) x y = absurd (omega arith)
  first-before d k earlier (further {k = j} {earlier = es} q a n h w e t l) x y = absurd (omega (arith, late_first d j es h, l, y))

  -- where something was asked before it
  place_after : (d k : ℕ) (a : Asked) (rest : List Asked) (q : Query) → Asking earliest limit p D d k (a ∷ rest) → QueryOf p d k q → some (cond (ltb 1 k) d (d - 1)) ≡ proved_by_place earliest d k
  place_after d k a rest q h w =
      after-some earliest d k (λ z y. absurd (omega (arith, ap length (first-before d k (a ∷ rest) h z y)))) (asked_low earliest limit p D d k (a ∷ rest) q h w) (λ z. late_first d k (a ∷ rest) h)

  place : (d k n : ℕ) (earlier : List Asked) (q : Query) → Asking earliest limit p D d k earlier → QueryOf p d k q → proved_before d k (asked_too earlier d k n) ≡ proved_by_place earliest d k
  unfolding asked_too snoc proved_before
  place d k n [] q h w = alone (asking-begins earliest limit p D d k [] h)
    where
      alone : (D ≡ 0) ⊎ ((d ≡ 1) × (k ≡ first_query earliest)) → none ≡ proved_by_place earliest d k
      alone (inl z) = absurd (omega (arith, z, asked_low earliest limit p D d k [] q h w, asking-high earliest limit p D d k [] h))
      alone (inr z) = rw (z.0, z.1) (first-place earliest)
  place d k n (a ∷ []) q h w = place_after d k a [] q h w
  place d k n (a ∷ b ∷ rest) q h w = place_after d k a (b ∷ rest) q h w

  walk-place : (v : Verdict) (asked : List Asked) → Walked earliest limit p D v asked → (d q : ℕ) → v ≡ GaveUp d q → proved_through v asked ≡ proved_by_place earliest d q
  unfolding proved_through
  walk-place v asked (all_passed h) d q z = absurd (let y : ◌≡◌ {A = ℕ} 0 1 = cc in omega arith)
  walk-place v asked (last_gave_up {d = c} {k = j} {earlier = es} r n h w e) d q z =
      let x : c ≡ d = cc in
      let y : j ≡ q = cc in
      place c j n es r h w ∙ ap (λ i. proved_by_place earliest i j) x ∙ ap (proved_by_place earliest d) y
  walk-place v asked (last_decided r a h w e t f) d q z = absurd (subst Final z f)

  -- a check that gives up at depth d in query q has proved the cycle of that place
  pub prove_place : (d q : ℕ) → (prove_sequential_equivalence earliest limit p D).verdict ≡ GaveUp d q
      → proved_through (prove_sequential_equivalence earliest limit p D).verdict (prove_sequential_equivalence earliest limit p D).asked ≡ proved_by_place earliest d q
  prove_place d q z = walk-place _ _ (prove_walk limit p earliest D) d q z

-- ---- of two designs

module _ (limit : ℕ) (gold gate : Design) (c : Comparable gold gate) (s t : StoredBits) where
  -- where query 1 of a depth has no model, outputs differ in no cycle up to it
  first_proves : (through : ℕ) → NoModel limit (base_counterexample (problem_of gold gate s t) through) → EqualThrough gold gate s t through
  first_proves through x ins i le = go (differ_at gold gate s t ins i) refl
    where
      go : (z : Bool) → differ_at gold gate s t ins i ≡ z → differ_at gold gate s t ins i ≡ false
      go false e = e
      go true e = absurd (no-model-no limit gold gate c s t through 1 _ query_1 x.0 x.1 (record { ins = ins; cycle = i; within = le; differ = e }))

-- in the mode, where query 0 was passed, a check that proves cycle 0 had no model in it
zeroth_first : (earliest : Bool) (limit : ℕ) (p : Problem) (q through : ℕ) → q ≡ 1 → Cycle0Passed earliest limit p → cond (ltb (first_query earliest) q) (some 0) none ≡ some through → NoModel limit (base_counterexample p through)
unfolding first_query
zeroth_first true limit p q through one x h = let e : 0 ≡ through = cc in subst (λ i. NoModel limit (base_counterexample p i)) e x
zeroth_first false limit p q through one x h = absurd (let z : ◌≡◌ {A = ℕ} 0 1 = cc in omega arith)

-- a check that stops at a depth had no model in query 1 of the cycle that the place gives, or in query 0
depth-first : (o : Options) (p : Problem) (d q through : ℕ) → 1 ≤ d → Cycle0Passed o.earliest o.limit p → ((e : ℕ) → 1 ≤ e → e < d → Passed o.limit p e) → Stops o.limit p d q
    → proved_by_place o.earliest d q ≡ some through → NoModel o.limit (base_counterexample p through)
depth-first o p d q through low zeroth passed w e = go q w e
  where
    passed_first : (z : Bool) → ltb 1 d ≡ z → cond z (some (d - 1)) (cond (ltb (first_query o.earliest) 1) (some 0) none) ≡ some through → NoModel o.limit (base_counterexample p through)
    passed_first true h k =
        let x : d - 1 ≡ through = cc in
        let l = ltb-true 1 d h in
        (passed through (omega (arith, l, x)) (omega (arith, l, x))).first
    passed_first false h k = zeroth_first o.earliest o.limit p 1 through refl zeroth k

    same-depth : NoModel o.limit (base_counterexample p d) → some d ≡ some through → NoModel o.limit (base_counterexample p through)
    same-depth f k = let x : d ≡ through = cc in subst (λ i. NoModel o.limit (base_counterexample p i)) x f

    go : (k : ℕ) → Stops o.limit p d k → proved_by_place o.earliest d k ≡ some through → NoModel o.limit (base_counterexample p through)
    go k (at_query_1 x) h = passed_first (ltb 1 d) refl (unfold proved_by_place in h)
    go k (at_query_2 f x) h = same-depth f (unfold proved_by_place in h)
    go k (at_query_3 f n x) h = same-depth f (unfold proved_by_place in h)
    go k (at_query_4 f n x) h = same-depth f (unfold proved_by_place in h)

-- a check that stops in query 0 proves nothing
stopped-first : (o : Options) (p : Problem) (d q through : ℕ) → StopsAt o p d q → proved_by_place o.earliest d q ≡ some through → NoModel o.limit (base_counterexample p through)
unfolding first_query
stopped-first o p d q through (at_query_0 mode low x) e =
    let z : none ≡ some through = first-place true ∙ ap (λ z. proved_by_place z 1 0) (sym mode) ∙ e in
    absurd (let y : ◌≡◌ {A = ℕ} 0 1 = cc in omega arith)
stopped-first o p d q through (at_depth_lem low high zeroth passed w) e = depth-first o p d q through low zeroth passed w e

module _ (o : Options) (gold gate : Design) where
  -- a check of two designs that gives up has proved the cycle of that place
  pub designs_place : (s t : StoredBits) (d q : ℕ) → (check_designs o gold gate s t).verdict ≡ GaveUp d q
      → proved_through (check_designs o gold gate s t).verdict (check_designs o gold gate s t).asked ≡ proved_by_place o.earliest d q
  unfolding check_designs
  designs_place s t d q z = prove_place o.earliest o.limit (problem_of gold gate s t) o.depth d q z

  -- and up to the cycle proved no outputs differ, whatever the inputs
  pub designs_proved : Comparable gold gate → (s t : StoredBits) (through : ℕ)
      → proved_through (check_designs o gold gate s t).verdict (check_designs o gold gate s t).asked ≡ some through → EqualThrough gold gate s t through
  unfolding proved_through
  designs_proved c s t through h = go (check_designs o gold gate s t).verdict refl h
    where
      go : (v : Verdict) → (check_designs o gold gate s t).verdict ≡ v → proved_through v (check_designs o gold gate s t).asked ≡ some through → EqualThrough gold gate s t through
      go (Equivalent d) e k = absurd (let z : ◌≡◌ {A = ℕ} 0 1 = cc in omega arith)
      go (NotEquivalent d m bytes) e k = absurd (let z : ◌≡◌ {A = ℕ} 0 1 = cc in omega arith)
      go (Inconclusive d) e k = absurd (let z : ◌≡◌ {A = ℕ} 0 1 = cc in omega arith)
      go (GaveUp d q) e k =
          first_proves o.limit gold gate c s t through
          (stopped-first o (problem_of gold gate s t) d q through ((designs_give_up o gold gate s t d q).0 e) (sym (designs_place s t d q e) ∙ h))
      go OutOfFuel e k = absurd (let z : ◌≡◌ {A = ℕ} 0 1 = cc in omega arith)

-- ---- the numbers of an answer

verdict-equal : (v : Verdict) (most : Asked) (proved : Option ℕ) → (verdict_answer v most proved).equal ≡ is_proved proved
unfolding verdict_answer accepted_answer
verdict-equal (Equivalent d) most proved = refl
verdict-equal (NotEquivalent d m bytes) most proved = refl
verdict-equal (Inconclusive d) most proved = refl
verdict-equal (GaveUp d q) most proved = refl
verdict-equal OutOfFuel most proved = refl

verdict-through : (v : Verdict) (most : Asked) (proved : Option ℕ) → (verdict_answer v most proved).through ≡ proved_cycle proved
unfolding verdict_answer accepted_answer
verdict-through (Equivalent d) most proved = refl
verdict-through (NotEquivalent d m bytes) most proved = refl
verdict-through (Inconclusive d) most proved = refl
verdict-through (GaveUp d q) most proved = refl
verdict-through OutOfFuel most proved = refl

told_again : (proved : Option ℕ) → cond (is_proved proved) (some (proved_cycle proved)) none ≡ proved
unfolding is_proved proved_cycle
told_again none = refl
told_again (some c) = refl

verdict-proved : (v : Verdict) (most : Asked) (proved : Option ℕ) → proved_of (verdict_answer v most proved) ≡ proved
unfolding proved_of
verdict-proved v most proved = rw (verdict-equal v most proved, verdict-through v most proved) (told_again proved)

-- of status 3 the verdict is a give-up at the depth and in the query answered
verdict_gave : (v : Verdict) (most : Asked) (proved : Option ℕ) → (verdict_answer v most proved).status ≡ 3 → v ≡ GaveUp (verdict_answer v most proved).depth (verdict_answer v most proved).query
unfolding verdict_answer accepted_answer status_number
verdict_gave (Equivalent d) most proved h = absurd (omega arith)
verdict_gave (NotEquivalent d m bytes) most proved h = absurd (omega arith)
verdict_gave (Inconclusive d) most proved h = absurd (omega arith)
verdict_gave (GaveUp d q) most proved h = refl
verdict_gave OutOfFuel most proved h = absurd (omega arith)

equal-through : (c : CheckAnswer) → c.equal ≡ true → proved_of c ≡ some c.through
unfolding proved_of
equal-through c h = rw h

-- by a give-up nothing is proved exactly where one query was asked
one-asked : (d q : ℕ) (a : Asked) (rest : List Asked) → (is_proved (proved_before d q (a ∷ rest)) ≡ false) ↔ ((x : Asked) × (a ∷ rest ≡ x ∷ []))
unfolding is_proved proved_before
one-asked d q a [] = (λ h. (a, refl), λ x. refl)
one-asked d q a (b ∷ rest) = (λ h. absurd (true≢false h), λ x. absurd (omega (arith, ap length x.1)))

-- ---- the call

module _ (a b : List ℕ) (o : Options) (trace words : List ℕ) (scores : List Float) where
  -- a call that does not answer as a refused one is accepted
  unlike_free : ((r : Refusal) → (check a b o trace words scores).answer ≡ refused_answer r → ⊥) → check_refusal a b o (lent_of trace words scores) ≡ none
  unlike_free f = go (check_refusal a b o (lent_of trace words scores)) refl
    where
      go : (x : Option Refusal) → check_refusal a b o (lent_of trace words scores) ≡ x → x ≡ none
      go none e = refl
      go (some r) e = absurd (f r (ap (λ (x : CheckResult). x.answer) (check-refused a b o trace words scores r e)))

  -- so is one with a status above 0
  status-free : 1 ≤ (check a b o trace words scores).answer.status → check_refusal a b o (lent_of trace words scores) ≡ none
  unfolding refused_answer
  status-free h = unlike_free (λ r e. let z : (check a b o trace words scores).answer.status ≡ 0 = ap (λ (x : CheckAnswer). x.status) e in omega (arith, z, h))

  -- one that found a difference
  pub differs-free : (check a b o trace words scores).answer.status ≡ 1 → check_refusal a b o (lent_of trace words scores) ≡ none
  differs-free h = status-free (omega (arith, h))

  -- one that gives up
  pub gave_free : (check a b o trace words scores).answer.status ≡ 3 → check_refusal a b o (lent_of trace words scores) ≡ none
  gave_free h = status-free (omega (arith, h))

  -- and one that has proved a cycle
  proved-free : (check a b o trace words scores).answer.equal ≡ true → check_refusal a b o (lent_of trace words scores) ≡ none
  unfolding refused_answer
  proved-free h = unlike_free (λ r e. true≢false (sym h ∙ ap (λ (x : CheckAnswer). x.equal) e))

  module _ (gold gate : Design) (free : check_refusal a b o (lent_of trace words scores) ≡ none) (pair : read_pair a b ≡ both gold gate) where
    -- the outcome of its designs
    abbrev outcome : Outcome
    outcome = check_designs o gold gate (initial_bits gold) (initial_bits gate)

    -- what they prove
    abbrev proved : Option ℕ
    proved = proved_through outcome.verdict outcome.asked

    -- the answer is that of the outcome
    pub answer-is : (check a b o trace words scores).answer ≡ verdict_answer outcome.verdict (largest_learned outcome.asked) proved
    unfolding check_result check_answer
    answer-is = ap (λ (x : CheckResult). x.answer) (call-is a b o trace words scores gold gate free pair)

    answer-equal : (check a b o trace words scores).answer.equal ≡ is_proved proved
    answer-equal = ap (λ (x : CheckAnswer). x.equal) answer-is ∙ verdict-equal outcome.verdict (largest_learned outcome.asked) proved

    answer-proved : proved_of (check a b o trace words scores).answer ≡ proved
    answer-proved = ap proved_of answer-is ∙ verdict-proved outcome.verdict (largest_learned outcome.asked) proved

    -- of status 3 the check of its designs gave up at the depth and in the query answered
    pub answer_gave : (check a b o trace words scores).answer.status ≡ 3 → outcome.verdict ≡ GaveUp (check a b o trace words scores).answer.depth (check a b o trace words scores).answer.query
    answer_gave h =
        subst (λ (x : CheckAnswer). x.status ≡ 3 → outcome.verdict ≡ GaveUp x.depth x.query) (sym answer-is) (verdict_gave outcome.verdict (largest_learned outcome.asked) proved) h

  module _ (gold gate : Design) (pair : read_pair a b ≡ both gold gate) where
    -- up to the cycle that a call says is proved no outputs differ, whatever the inputs
    pub call-proved : (check a b o trace words scores).answer.equal ≡ true → EqualThrough gold gate (initial_bits gold) (initial_bits gate) (check a b o trace words scores).answer.through
    call-proved h =
        let free = proved-free h in
        designs_proved o gold gate (comparable a b o (lent_of trace words scores) gold gate free pair) (initial_bits gold) (initial_bits gate) (check a b o trace words scores).answer.through
        (sym (answer-proved gold gate free pair) ∙ equal-through (check a b o trace words scores).answer h)

    -- so a cycle in which they differ lies beyond it
    pub call-beyond : (check a b o trace words scores).answer.equal ≡ true
        → (ins : InputSequence) (c : ℕ) → differ_at gold gate (initial_bits gold) (initial_bits gate) ins c ≡ true → (check a b o trace words scores).answer.through < c
    call-beyond h ins c differ = by_lt (check a b o trace words scores).answer.through c (λ l. l) (λ l. absurd (true≢false (sym differ ∙ call-proved h ins c l)))

    -- where it gives up, nothing is proved exactly where no query was asked but the one that gave up
    pub call-proved-nothing : (check a b o trace words scores).answer.status ≡ 3
        → ((check a b o trace words scores).answer.equal ≡ false) ↔ ((x : Asked) × ((check_designs o gold gate (initial_bits gold) (initial_bits gate)).asked ≡ x ∷ []))
    unfolding proved_through
    call-proved-nothing h =
        let free = gave_free h in
        let asked = (check_designs o gold gate (initial_bits gold) (initial_bits gate)).asked in
        let d = (check a b o trace words scores).answer.depth in
        let q = (check a b o trace words scores).answer.query in
        let e : (check a b o trace words scores).answer.equal ≡ is_proved (proved_before d q asked) =
        answer-equal gold gate free pair ∙ ap (λ (v : Verdict). is_proved (proved_through v asked)) (answer_gave gold gate free pair h) in
        let f = designs_first o gold gate (initial_bits gold) (initial_bits gate) (depth-positive gold gate o (lent_of trace words scores) (free_of a b o (lent_of trace words scores) gold gate free pair)) in
        let w = subst (λ (l : List Asked). (is_proved (proved_before d q l) ≡ false) ↔ ((x : Asked) × (l ≡ x ∷ []))) (sym f.2) (one-asked d q _ f.1) in
        (λ k. w.0 (sym e ∙ k), λ x. e ∙ w.1 x)

  -- a call that gives up has proved the cycle of the depth and the query that it answers
  pub call-place : (check a b o trace words scores).answer.status ≡ 3
      → proved_of (check a b o trace words scores).answer ≡ proved_by_place o.earliest (check a b o trace words scores).answer.depth (check a b o trace words scores).answer.query
  call-place h =
      let k : Accepted a b o (lent_of trace words scores) = accepted-pair a b o (lent_of trace words scores) (gave_free h) in
      answer-proved k.gold k.gate (gave_free h) k.pair
      ∙ designs_place o k.gold k.gate (initial_bits k.gold) (initial_bits k.gate) _ _ (answer_gave k.gold k.gate (gave_free h) k.pair h)

-- a replay of two records that says yes has a cycle in which outputs differ
yes-differs : (a b : List ℕ) (cycle : ℕ) (claim : List ℕ) (gold gate : Design) → read_pair a b ≡ both gold gate → replay a b cycle claim ≡ record { refusal = accepted; yes = true }
    → differ_at gold gate (initial_bits gold) (initial_bits gate) (claim_inputs gold claim) cycle ≡ true
unfolding accepted replay_refusal replay_refusal_of
yes-differs a b cycle claim gold gate pair e =
    let z : replay_refusal a b cycle claim ≡ none = (replay-zero a b cycle claim).0 (ap (λ (x : ReplayAnswer). x.refusal.number) e) in
    let f : replay_fault gold gate cycle claim ≡ none = subst (λ (p : ReadPair). replay_refusal_of p cycle claim ≡ none) pair z in
    ((replay_rule a b cycle claim gold gate pair f).0 (ap (λ (x : ReplayAnswer). x.yes) e)).differ

-- the mismatch that a call under other options answers lies beyond the cycle that a call says is proved
pub call-found-beyond : (a b : List ℕ) (o : Options) (trace words : List ℕ) (scores : List Float) (other : Options) (t w : List ℕ) (s : List Float)
    → (check a b o trace words scores).answer.equal ≡ true → (check a b other t w s).answer.status ≡ 1
    → (check a b o trace words scores).answer.through < (check a b other t w s).answer.mismatch
call-found-beyond a b o trace words scores other t w s equal one =
    let free = proved-free a b o trace words scores equal in
    let k : Accepted a b o (lent_of trace words scores) = accepted-pair a b o (lent_of trace words scores) free in
    let x : TraceLeft a b other t w s = trace-left a b other t w s (differs-free a b other t w s one) one in
    call-beyond a b o trace words scores k.gold k.gate k.pair equal _ (check a b other t w s).answer.mismatch
    (yes-differs a b (check a b other t w s).answer.mismatch x.bytes k.gold k.gate k.pair x.yes)
