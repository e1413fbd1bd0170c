-- The earliest cycle in which outputs differ: at depth 2 and above the mismatch of a check is the least over all input sequences, in the mode of the earliest cycle at depth 1 too; and what that mode leaves as it is, of two designs and in the numbers of a call. Assumes nothing.
use Rattle.std.specs.Prelude.{ℕ, zero, suc, ◌-◌, ◌≤◌, ◌<◌, refl, ◌≢◌, ◌⊎◌, ◌↔◌, Bool, true, false, List, [], ◌∷◌, length, Float}
use Rattle.std.proofs.Common.{arith, ◌∙◌, true≢false}
use Rattle.std.proofs.Math.Path.{◌≡◌, sym, ap, subst}
use Rattle.std.proofs.Math.Logic.{inl, inr}
use Rattle.std.proofs.Math.Option.{Option, none, some}
use Rattle.model.specs.Answers.{Refusal, Status, status_number, Asked, CheckAnswer, accepted_answer}
use Rattle.model.specs.Answers as Answers
use Rattle.model.specs.Lists.{snoc}
use Rattle.model.specs.Options.{Options}
use Rattle.model.specs.Netlist.{Design}
use Rattle.model.specs.Run.{StoredBits, initial_bits}
use Rattle.model.specs.Pair.{Lent, ReadPair, both, refused_pair, read_pair, check_fault, check_refusal_of, check_refusal}
use Rattle.model.specs.Replay.{claim_inputs}
use Rattle.model.specs.Induction.{Query1, Says, not_equivalent, answered}
use Rattle.model.specs.Sat.{Answer, model}
use Rattle.model.specs.Equivalence.{Problem, base_counterexample, ask, first_mismatch, trace_bytes, Verdict, Equivalent, NotEquivalent, Inconclusive, GaveUp, OutOfFuel, Outcome, undecided, asked_too, not_equivalent_at, depths, after_query0, query0, before_query1, prove_sequential_equivalence, largest_learned, proved_through}
use Rattle.model.specs.Check.{problem_of, check_designs, CheckOutcome, verdict_answer, verdict_trace, trace_after, CheckResult, lent_of, check, verdict_says}
use Rattle.facts.specs.Numbers.{by_eq, by_lt}
use Rattle.facts.specs.Bools.{is_false}
use Rattle.laws.specs.Terms.{Numbered, seven_of, verdict_seven, outcome_seven, Comparable, checked_designs, in_mode, TraceGood, NoModel, Passed, EqualThrough, CanDiffer, Earliest, EarliestAt}
use Rattle.laws.specs.Replay.{replays-yes}
use Rattle.laws.specs.Induction.Chain.{output-length}
use Rattle.laws.specs.Induction.Pairs.{Accepted, accepted-pair, free_of, comparable, depth-positive}
use Rattle.laws.specs.Induction.Sound.{functional}
use Rattle.laws.specs.Check.Call.{outcome-is, checked-is, check-refused, check-numbered}
use Rattle.laws.proofs.Check.Course.{Decides, differs, closes_named, closes, stops, Decides0, differs_0, stops_0, Course, decides_0, decides, passes, verdict_course, course_verdict}
use Rattle.laws.proofs.Check.Ending.{check-answers}
use Rattle.laws.proofs.Check.Meaning.{no_1, yes_1, model-replays}
use Rattle.laws.proofs.Check.Designs.{designs_sound, designs_trace}
use Rattle.laws.proofs.Check.Learned.{call_as_outcome}
use Rattle.laws.proofs.Check.Demand3.{number-zero}
use Rattle.laws.proofs.Check.Proved.{differs-free, answer-is}

-- ---- the least cycle

-- a no to query 1 of a depth, or to query 0 with depth 0: outputs are alike through it
no_difference : (gold gate : Design) (s t : StoredBits) (d : ℕ) → ¬ Query1 gold gate s t d → EqualThrough gold gate s t d
no_difference gold gate s t d n ins i le = is_false _ (λ e. n (record { ins = ins; cycle = i; within = le; differ = e }))

module _ (gold gate : Design) (c : Comparable gold gate) (s t : StoredBits) where
  -- the trace of a difference has inputs that make outputs differ in its cycle
  trace-differs : (d m : ℕ) (bytes : List ℕ) → TraceGood gold gate s t d m bytes → CanDiffer gold gate s t m
  trace-differs d m bytes r =
      let ins = claim_inputs gold bytes in
      (ins, ((replays-yes gold gate s t m bytes (output-length gold s ins m ∙ ap length c.output_names ∙ sym (output-length gate t ins m))).0 r.replay).differ)

  -- a difference within depth d where outputs are alike before d lies at d, and is the least
  only_last : (d m : ℕ) (bytes : List ℕ) → 1 ≤ d → EqualThrough gold gate s t (d - 1) → TraceGood gold gate s t d m bytes → (m ≡ d) × Earliest gold gate s t m
  only_last d m bytes low alike r =
      let x = trace-differs d m bytes r in
      let late : d ≤ m = by_lt m d (λ l. absurd (true≢false (sym x.1 ∙ alike x.0 m (omega (arith, l))))) (λ l. l) in
      (omega (arith, late, r.early), record { differs = x; alike = λ ins i l. alike ins i (omega (arith, l, r.early)) })

-- ---- depth 2 and above, in either mode

not-equivalent-says : (gold gate : Design) (s t : StoredBits) (D d : ℕ) → Says gold gate s t D Answers.NotEquivalent d → (1 ≤ d) × (2 ≤ d → ¬ Query1 gold gate s t (d - 1))
not-equivalent-says gold gate s t D d (not_equivalent low high before q) = (low, λ two. (before (d - 1) (omega arith) (omega arith)).same)

module _ (o : Options) (gold gate : Design) (c : Comparable gold gate) (s t : StoredBits) (d m : ℕ) (bytes : List ℕ) (v : (check_designs o gold gate s t).verdict ≡ NotEquivalent d m bytes) where
  says-differs : Says gold gate s t o.depth Answers.NotEquivalent d
  unfolding verdict_says
  says-differs = designs_sound o gold gate c s t Answers.NotEquivalent d (ap verdict_says v) (λ q. let z : ◌≡◌ {A = ℕ} 0 1 = cc in omega arith)

  -- NotEquivalent at depth 2 or above: the mismatch is the depth, and the least cycle over all input sequences
  pub designs_deep : 2 ≤ d → (m ≡ d) × Earliest gold gate s t m
  designs_deep two =
      only_last gold gate c s t d m bytes (omega (arith, two)) (no_difference gold gate s t (d - 1) ((not-equivalent-says gold gate s t o.depth d says-differs).1 two))
      (designs_trace o gold gate c s t d m bytes v).1

-- NotEquivalent with mismatch 0 is of depth 1
pub designs_depth_1 : (o : Options) (gold gate : Design) → Comparable gold gate → (s t : StoredBits) (d : ℕ) (bytes : List ℕ) → (check_designs o gold gate s t).verdict ≡ NotEquivalent d 0 bytes → d ≡ 1
designs_depth_1 o gold gate c s t d bytes v =
    let low = (not-equivalent-says gold gate s t o.depth d (says-differs o gold gate c s t d 0 bytes v)).0 in
    by_lt d 2 (λ l. omega (arith, l, low)) (λ two. absurd (omega (arith, two, (designs_deep o gold gate c s t d 0 bytes v two).0)))

-- ---- the course of a check in the mode

module _ (gold gate : Design) (c : Comparable gold gate) (s t : StoredBits) (limit D : ℕ) where
  -- the problem of the two designs from the start bits
  abbrev p : Problem
  p = problem_of gold gate s t

  -- a model of query 0: outputs differ in cycle 0
  first-zero : (values : List Bool) (n : ℕ) → ask limit (base_counterexample p 0) ≡ model values n → first_mismatch values (base_counterexample p 0).comparisons ≡ 0
  first-zero values n e = omega (arith, (model-replays limit gold gate c s t 0 values n e).early)

  -- before a depth that decides outputs are alike, by query 0 or by query 1 of the depth before it
  alike-before : (d : ℕ) → 1 ≤ d → NoModel limit (base_counterexample p 0) → ((e : ℕ) → 1 ≤ e → e < d → Passed limit p e) → EqualThrough gold gate s t (d - 1)
  alike-before d low first passed =
      by_eq d 1 (λ z. let y : 0 ≡ d - 1 = omega (arith, z) in subst (EqualThrough gold gate s t) y (no_difference gold gate s t 0 (no_1 limit gold gate c s t 0 first)))
      (λ z. no_difference gold gate s t (d - 1) (no_1 limit gold gate c s t (d - 1) (passed (d - 1) (omega (arith, z, low)) (omega (arith, low))).first))

  decided-earliest : (e : ℕ) (v : Verdict) → 1 ≤ e → EqualThrough gold gate s t (e - 1) → Decides limit p e v → (d m : ℕ) (bytes : List ℕ) → v ≡ NotEquivalent d m bytes → EarliestAt gold gate s t d m
  unfolding not_equivalent_at
  decided-earliest e v low alike (differs values n q) d m bytes z =
      let x = only_last gold gate c s t e _ _ low alike (model-replays limit gold gate c s t e values n q) in
      let i : first_mismatch values (base_counterexample p e).comparisons ≡ m = cc in
      let j : e ≡ d = cc in
      record { least = subst (Earliest gold gate s t) i x.1; place = inl (sym i ∙ x.0 ∙ j) }
  decided-earliest e v low alike (closes_named f x y) d m bytes z = absurd (let z : ◌≡◌ {A = ℕ} 0 1 = cc in omega arith)
  decided-earliest e v low alike (closes f x y) d m bytes z = absurd (let z : ◌≡◌ {A = ℕ} 0 1 = cc in omega arith)
  decided-earliest e v low alike (stops x) d m bytes z = absurd (let z : ◌≡◌ {A = ℕ} 0 1 = cc in omega arith)

  decided_0_earliest : (v : Verdict) → Decides0 limit p v → (d m : ℕ) (bytes : List ℕ) → v ≡ NotEquivalent d m bytes → EarliestAt gold gate s t d m
  unfolding not_equivalent_at
  decided_0_earliest v (differs_0 values n q) d m bytes z =
      let x = trace-differs gold gate c s t 0 _ _ (model-replays limit gold gate c s t 0 values n q) in
      let i : first_mismatch values (base_counterexample p 0).comparisons ≡ m = cc in
      let k : m ≡ 0 = sym i ∙ first-zero values n q in
      let j : d ≡ 1 = cc in
      record { least = record { differs = subst (CanDiffer gold gate s t) i x; alike = λ ins a l. absurd (omega (arith, l, k)) }; place = inr (j, k) }
  decided_0_earliest v (stops_0 x) d m bytes z = absurd (let z : ◌≡◌ {A = ℕ} 0 1 = cc in omega arith)

  course_earliest : (v : Verdict) → Course true limit p D v → (d m : ℕ) (bytes : List ℕ) → v ≡ NotEquivalent d m bytes → EarliestAt gold gate s t d m
  course_earliest v (decides_0 mode low w) d m bytes z = decided_0_earliest v w d m bytes z
  course_earliest v (decides e low high first passed w) d m bytes z = decided-earliest e v low (alike-before e low first passed) w d m bytes z
  course_earliest v (passes first f) d m bytes z = absurd (let z : ◌≡◌ {A = ℕ} 0 1 = cc in omega arith)

  -- where cycle 0 cannot differ, a check that is not stopped in query 0 goes the course of the check without the mode
  course_keeps : EqualThrough gold gate s t 0 → (v : Verdict) → Course true limit p D v → (v ≡ (prove_sequential_equivalence false limit p D).verdict) ⊎ (v ≡ GaveUp 1 0)
  course_keeps alike v (decides_0 mode low (differs_0 values n e)) =
      let x = yes_1 limit gold gate c s t 0 (values, n, e) in
      absurd (true≢false (sym x.differ ∙ alike x.ins x.cycle x.within))
  course_keeps alike v (decides_0 mode low (stops_0 x)) = inr refl
  course_keeps alike v (decides d low high first passed w) = inl (sym (course_verdict limit p false D v (decides d low high tt passed w)))
  course_keeps alike v (passes first f) = inl (sym (course_verdict limit p false D v (passes (λ l. tt) f)))

  -- where cycle 0 can differ, query 0 gives up or finds it
  no-model_0 : CanDiffer gold gate s t 0 → NoModel limit (base_counterexample p 0) → ⊥
  no-model_0 x n = no_1 limit gold gate c s t 0 n (record { ins = x.0; cycle = 0; within = omega arith; differ = x.1 })

  course_cycle_0 : 1 ≤ D → CanDiffer gold gate s t 0 → (v : Verdict) → Course true limit p D v → v ≢ GaveUp 1 0 → (bytes : List ℕ) × (v ≡ NotEquivalent 1 0 bytes)
  unfolding not_equivalent_at
  course_cycle_0 low x v (decides_0 mode l (differs_0 values n e)) h =
      let cs = (base_counterexample p 0).comparisons in
      let bytes = trace_bytes values cs (first_mismatch values cs) in
      (bytes, ap (λ (m : ℕ). NotEquivalent 1 m bytes) (first-zero values n e))
  course_cycle_0 low x v (decides_0 mode l (stops_0 w)) h = absurd (h refl)
  course_cycle_0 low x v (decides d l high first passed w) h = absurd (no-model_0 x first)
  course_cycle_0 low x v (passes first f) h = absurd (no-model_0 x (first low))

-- ---- two designs in the mode

mode_course : (o : Options) → o.earliest ≡ true → (gold gate : Design) (s t : StoredBits) → Course true o.limit (problem_of gold gate s t) o.depth (check_designs o gold gate s t).verdict
unfolding check_designs
mode_course o mode gold gate s t =
    let p = problem_of gold gate s t in
    subst (λ (e : Bool). Course e o.limit p o.depth (check_designs o gold gate s t).verdict) mode (verdict_course o.limit p o.earliest o.depth)

-- in the mode the mismatch of NotEquivalent is the least cycle over all input sequences: the depth, or at depth 1 cycle 0
pub designs_earliest : (o : Options) → o.earliest ≡ true → (gold gate : Design) → Comparable gold gate → (s t : StoredBits) (d m : ℕ) (bytes : List ℕ)
    → (check_designs o gold gate s t).verdict ≡ NotEquivalent d m bytes → EarliestAt gold gate s t d m
designs_earliest o mode gold gate c s t d m bytes v = course_earliest gold gate c s t o.limit o.depth _ (mode_course o mode gold gate s t) d m bytes v

-- unless query 0 gives up, mismatch 0 is found exactly where outputs can differ in cycle 0
pub designs_cycle_0 : (o : Options) → o.earliest ≡ true → 1 ≤ o.depth → (gold gate : Design) → Comparable gold gate → (s t : StoredBits)
    → (check_designs o gold gate s t).verdict ≢ GaveUp 1 0
    → ((d : ℕ) × (bytes : List ℕ) × ((check_designs o gold gate s t).verdict ≡ NotEquivalent d 0 bytes)) ↔ CanDiffer gold gate s t 0
designs_cycle_0 o mode low gold gate c s t h = (
  λ x. trace-differs gold gate c s t x.0 0 x.1 (designs_trace o gold gate c s t x.0 0 x.1 x.2).1,
  λ x. let y = course_cycle_0 gold gate c s t o.limit o.depth low x _ (mode_course o mode gold gate s t) h in (1, y.0, y.1),
)

-- the outcome of a model of query 0
abbrev found_first : Problem → List Bool → ℕ → Outcome
found_first p values n = record { verdict = not_equivalent_at 1 values (base_counterexample p 0).comparisons; asked = record { depth = 1; query = 0; learned = n } ∷ [] }

loop_decided : (limit : ℕ) (p : Problem) (D : ℕ) (values : List Bool) (n : ℕ) → 1 ≤ D → ask limit (base_counterexample p 0) ≡ model values n → prove_sequential_equivalence true limit p D ≡ found_first p values n
unfolding prove_sequential_equivalence depths before_query1 query0 after_query0 asked_too snoc
loop_decided limit p zero values n low e = absurd (omega arith)
loop_decided limit p (suc k) values n low e = ap (λ (a : Answer). depths limit p (suc k) 0 (after_query0 (base_counterexample p 0).comparisons a)) e

-- a model of query 0 decides: its own trace is the verdict's, and no other query is asked
pub designs_first-decides : (o : Options) → o.earliest ≡ true → 1 ≤ o.depth → (gold gate : Design) (s t : StoredBits) (values : List Bool) (n : ℕ)
    → ask o.limit (base_counterexample (problem_of gold gate s t) 0) ≡ model values n
    → check_designs o gold gate s t
    ≡ record { verdict = not_equivalent_at 1 values (base_counterexample (problem_of gold gate s t) 0).comparisons; asked = record { depth = 1; query = 0; learned = n } ∷ [] }
unfolding check_designs
designs_first-decides o mode low gold gate s t values n e =
    let p = problem_of gold gate s t in
    ap (λ (m : Bool). prove_sequential_equivalence m o.limit p o.depth) mode ∙ loop_decided o.limit p o.depth values n low e

-- ---- what the mode leaves as it is

-- without the mode the check is the loop over depths alone
pub designs_without : (o : Options) → o.earliest ≡ false → (gold gate : Design) (s t : StoredBits) → check_designs o gold gate s t ≡ depths o.limit (problem_of gold gate s t) o.depth 0 (undecided [])
unfolding check_designs prove_sequential_equivalence before_query1
designs_without o mode gold gate s t =
    let p = problem_of gold gate s t in
    ap (λ (m : Bool). depths o.limit p o.depth 0 (before_query1 m o.limit p o.depth)) mode

-- under options of the same depth, in any modes and under any limits: the same status and depth where neither check gives up
pub designs_agree : (o other : Options) → o.depth ≡ other.depth → (gold gate : Design) → Comparable gold gate → (s t : StoredBits) (p q : Status) (d e : ℕ)
    → checked_designs o gold gate s t ≡ answered p d → checked_designs other gold gate s t ≡ answered q e → p ≢ Answers.GaveUp → q ≢ Answers.GaveUp → (p ≡ q) × (d ≡ e)
designs_agree o other same gold gate c s t p q d e x y u v =
    functional (designs_sound o gold gate c s t p d x u) (subst (λ (D : ℕ). Says gold gate s t D q e) (sym same) (designs_sound other gold gate c s t q e y v))

-- where cycle 0 cannot differ, the verdict in the mode is the one without it, its trace too, or query 0 gives up
pub designs_keep : (o : Options) (gold gate : Design) → Comparable gold gate → (s t : StoredBits) → EqualThrough gold gate s t 0
    → ((check_designs (in_mode true o) gold gate s t).verdict ≡ (check_designs (in_mode false o) gold gate s t).verdict) ⊎ ((check_designs (in_mode true o) gold gate s t).verdict ≡ GaveUp 1 0)
unfolding check_designs in_mode
designs_keep o gold gate c s t alike = course_keeps gold gate c s t o.limit o.depth alike _ (verdict_course o.limit (problem_of gold gate s t) true o.depth)

-- ---- the call

-- a refusal does not depend on the mode
pub modes_refuse : (a b : List ℕ) (o : Options) (earliest : Bool) (lent : Lent) → check_refusal a b (in_mode earliest o) lent ≡ check_refusal a b o lent
unfolding check_refusal check_refusal_of check_fault in_mode
modes_refuse a b o earliest lent = go (read_pair a b)
  where
    go : (p : ReadPair) → check_refusal_of p (in_mode earliest o) lent ≡ check_refusal_of p o lent
    go (refused_pair r) = refl
    go (both gold gate) = refl

-- of status 1 the verdict is NotEquivalent at the depth and with the mismatch answered
verdict-differs : (v : Verdict) (most : Asked) (proved : Option ℕ) → (verdict_answer v most proved).status ≡ 1
    → (bytes : List ℕ) × (v ≡ NotEquivalent (verdict_answer v most proved).depth (verdict_answer v most proved).mismatch bytes)
unfolding verdict_answer accepted_answer status_number
verdict-differs (Equivalent d) most proved h = absurd (omega arith)
verdict-differs (NotEquivalent d m bytes) most proved h = (bytes, refl)
verdict-differs (Inconclusive d) most proved h = absurd (omega arith)
verdict-differs (GaveUp d q) most proved h = absurd (omega arith)
verdict-differs OutOfFuel most proved h = absurd (omega arith)

module _ (a b : List ℕ) (o : Options) (trace words : List ℕ) (scores : List Float) where
  module _ (gold gate : Design) (free : check_refusal a b o (lent_of trace words scores) ≡ none) (pair : read_pair a b ≡ both gold gate) where
    -- the outcome of its designs
    abbrev outcome : Outcome
    outcome = check_designs o gold gate (initial_bits gold) (initial_bits gate)

    -- of status 1 the check of its designs says so
    answer-differs : (check a b o trace words scores).answer.status ≡ 1
        → (bytes : List ℕ) × (outcome.verdict ≡ NotEquivalent (check a b o trace words scores).answer.depth (check a b o trace words scores).answer.mismatch bytes)
    answer-differs h =
        subst (λ (x : CheckAnswer). x.status ≡ 1 → (bytes : List ℕ) × (outcome.verdict ≡ NotEquivalent x.depth x.mismatch bytes)) (sym (answer-is a b o trace words scores gold gate free pair))
        (verdict-differs outcome.verdict (largest_learned outcome.asked) (proved_through outcome.verdict outcome.asked)) h

    -- the answer of its verdict
    answer_by : (v : Verdict) → outcome.verdict ≡ v → (check a b o trace words scores).answer ≡ verdict_answer v (largest_learned outcome.asked) (proved_through outcome.verdict outcome.asked)
    answer_by v e = answer-is a b o trace words scores gold gate free pair ∙ ap (λ (x : Verdict). verdict_answer x (largest_learned outcome.asked) (proved_through outcome.verdict outcome.asked)) e

    -- one that gave up in query 0 says so
    gave_0 : outcome.verdict ≡ GaveUp 1 0 → ((check a b o trace words scores).answer.status ≡ 3) × ((check a b o trace words scores).answer.query ≡ 0)
    unfolding verdict_answer accepted_answer status_number
    gave_0 e = let x = answer_by (GaveUp 1 0) e in (ap (λ (y : CheckAnswer). y.status) x, ap (λ (y : CheckAnswer). y.query) x)

  module _ (gold gate : Design) (pair : read_pair a b ≡ both gold gate) where
    call-comparable : (check a b o trace words scores).answer.status ≡ 1 → Comparable gold gate
    call-comparable one = comparable a b o (lent_of trace words scores) gold gate (differs-free a b o trace words scores one) pair

    -- outputs can differ in the mismatch answered
    call-differs : (check a b o trace words scores).answer.status ≡ 1 → CanDiffer gold gate (initial_bits gold) (initial_bits gate) (check a b o trace words scores).answer.mismatch
    call-differs one =
        let c = call-comparable one in
        let x = answer-differs gold gate (differs-free a b o trace words scores one) pair one in
        trace-differs gold gate c (initial_bits gold) (initial_bits gate) _ _ x.0 (designs_trace o gold gate c (initial_bits gold) (initial_bits gate) _ _ x.0 x.1).1

    -- status 1 at depth 2 or above: the mismatch answered is the depth, and the least cycle over all input sequences
    pub call-deep : (check a b o trace words scores).answer.status ≡ 1 → 2 ≤ (check a b o trace words scores).answer.depth
        → ((check a b o trace words scores).answer.mismatch ≡ (check a b o trace words scores).answer.depth)
        × Earliest gold gate (initial_bits gold) (initial_bits gate) (check a b o trace words scores).answer.mismatch
    call-deep one two =
        let x = answer-differs gold gate (differs-free a b o trace words scores one) pair one in
        designs_deep o gold gate (call-comparable one) (initial_bits gold) (initial_bits gate) _ _ x.0 x.1 two

module _ (a b : List ℕ) (o : Options) (trace words : List ℕ) (scores : List Float) (gold gate : Design) (mode : o.earliest ≡ true) where
  -- status 1 in the mode: the mismatch answered is the least cycle over all input sequences, the depth or at depth 1 cycle 0
  pub call-earliest : read_pair a b ≡ both gold gate → (check a b o trace words scores).answer.status ≡ 1
      → EarliestAt gold gate (initial_bits gold) (initial_bits gate) (check a b o trace words scores).answer.depth (check a b o trace words scores).answer.mismatch
  call-earliest pair one =
      let x = answer-differs a b o trace words scores gold gate (differs-free a b o trace words scores one) pair one in
      designs_earliest o mode gold gate (call-comparable a b o trace words scores gold gate pair one) (initial_bits gold) (initial_bits gate) _ _ x.0 x.1

  -- an accepted call in the mode, unless query 0 gives up, answers status 1 with mismatch 0 exactly where outputs can differ in cycle 0
  pub call-cycle_0 : check_refusal a b o (lent_of trace words scores) ≡ none → read_pair a b ≡ both gold gate
      → ((check a b o trace words scores).answer.status ≡ 3 → (check a b o trace words scores).answer.query ≢ 0)
      → (((check a b o trace words scores).answer.status ≡ 1) × ((check a b o trace words scores).answer.mismatch ≡ 0)) ↔ CanDiffer gold gate (initial_bits gold) (initial_bits gate) 0
  unfolding verdict_answer accepted_answer status_number
  call-cycle_0 free pair h = (λ x. subst (CanDiffer gold gate (initial_bits gold) (initial_bits gate)) x.1 (call-differs a b o trace words scores gold gate pair x.0), back)
    where
      apart : (check_designs o gold gate (initial_bits gold) (initial_bits gate)).verdict ≢ GaveUp 1 0
      apart e = let g = gave_0 a b o trace words scores gold gate free pair e in h g.0 g.1

      back : CanDiffer gold gate (initial_bits gold) (initial_bits gate) 0 → ((check a b o trace words scores).answer.status ≡ 1) × ((check a b o trace words scores).answer.mismatch ≡ 0)
      back x =
          let low = depth-positive gold gate o (lent_of trace words scores) (free_of a b o (lent_of trace words scores) gold gate free pair) in
          let y = (designs_cycle_0 o mode low gold gate (comparable a b o (lent_of trace words scores) gold gate free pair) (initial_bits gold) (initial_bits gate) apart).1 x in
          let z = answer_by a b o trace words scores gold gate free pair (NotEquivalent y.0 0 y.1) y.2 in
          (ap (λ (k : CheckAnswer). k.status) z, ap (λ (k : CheckAnswer). k.mismatch) z)

-- no call on the same records answers a smaller mismatch than one in the mode
pub call-no_smaller : (a b : List ℕ) (o : Options) (trace words : List ℕ) (scores : List Float) (other : Options) (t w : List ℕ) (s : List Float)
    → o.earliest ≡ true → (check a b o trace words scores).answer.status ≡ 1 → (check a b other t w s).answer.status ≡ 1
    → (check a b o trace words scores).answer.mismatch ≤ (check a b other t w s).answer.mismatch
call-no_smaller a b o trace words scores other t w s mode one once =
    let k : Accepted a b o (lent_of trace words scores) = accepted-pair a b o (lent_of trace words scores) (differs-free a b o trace words scores one) in
    let x = call-earliest a b o trace words scores k.gold k.gate mode k.pair one in
    let y = call-differs a b other t w s k.gold k.gate k.pair once in
    by_lt (check a b other t w s).answer.mismatch (check a b o trace words scores).answer.mismatch
    (λ l. absurd (true≢false (sym y.1 ∙ x.least.alike y.0 _ l)))
    (λ l. l)

-- two accepted calls on the same records to the same maximum depth, in any modes and under any limits: the same status and depth, unless one gives up
pub call_agrees : (a b : List ℕ) (o other : Options) → o.depth ≡ other.depth → (trace words : List ℕ) (scores : List Float) (t w : List ℕ) (s : List Float)
    → (check a b o trace words scores).answer.number ≡ 0 → (check a b other t w s).answer.number ≡ 0
    → (check a b o trace words scores).answer.status ≢ 3 → (check a b other t w s).answer.status ≢ 3
    → ((check a b o trace words scores).answer.status ≡ (check a b other t w s).answer.status) × ((check a b o trace words scores).answer.depth ≡ (check a b other t w s).answer.depth)
unfolding status_number
call_agrees a b o other same trace words scores t w s z z' g g' =
    let free = (number-zero a b o trace words scores).0 z in
    let free' = (number-zero a b other t w s).0 z' in
    let k : Accepted a b o (lent_of trace words scores) = accepted-pair a b o (lent_of trace words scores) free in
    let r = check-answers a b o (lent_of trace words scores) free in
    let r' = check-answers a b other (lent_of t w s) free' in
    let n : Numbered (check a b o trace words scores).answer r.0 r.1 = check-numbered a b o trace words scores r.0 r.1 r.2 in
    let n' : Numbered (check a b other t w s).answer r'.0 r'.1 = check-numbered a b other t w s r'.0 r'.1 r'.2 in
    let v =
    designs_agree o other same k.gold k.gate (comparable a b o (lent_of trace words scores) k.gold k.gate free k.pair) (initial_bits k.gold) (initial_bits k.gate) r.0 r'.0 r.1 r'.1
    (sym (checked-is a b o (lent_of trace words scores) k.gold k.gate free k.pair) ∙ r.2)
    (sym (checked-is a b other (lent_of t w s) k.gold k.gate free' k.pair) ∙ r'.2)
    (λ q. g (n.status_number_lem ∙ ap status_number q)) (λ q. g' (n'.status_number_lem ∙ ap status_number q)) in
    (n.status_number_lem ∙ ap status_number v.0 ∙ sym n'.status_number_lem, n.depth ∙ v.1 ∙ sym n'.depth)

-- ---- where cycle 0 cannot differ

module _ (a b : List ℕ) (o : Options) (trace words : List ℕ) (scores : List Float) where
  -- the seven numbers and the trace of a call in the mode are those without it
  abbrev Kept : Type 0
  Kept =
      (seven_of (check a b (in_mode true o) trace words scores).answer ≡ seven_of (check a b (in_mode false o) trace words scores).answer)
      × ((check a b (in_mode true o) trace words scores).trace ≡ (check a b (in_mode false o) trace words scores).trace)

  refused-kept : (r : Refusal) → check_refusal a b o (lent_of trace words scores) ≡ some r → Kept
  refused-kept r e =
      let x = check-refused a b (in_mode true o) trace words scores r (modes_refuse a b o true (lent_of trace words scores) ∙ e) in
      let y = check-refused a b (in_mode false o) trace words scores r (modes_refuse a b o false (lent_of trace words scores) ∙ e) in
      (ap (λ (z : CheckResult). seven_of z.answer) (x ∙ sym y), ap (λ (z : CheckResult). z.trace) (x ∙ sym y))

  module _ (gold gate : Design) (pair : read_pair a b ≡ both gold gate) where
    -- what an accepted call in a mode answers and leaves is of its designs' verdict
    by_verdict : (earliest : Bool) → check_refusal a b o (lent_of trace words scores) ≡ none
        → (seven_of (check a b (in_mode earliest o) trace words scores).answer ≡ verdict_seven (check_designs (in_mode earliest o) gold gate (initial_bits gold) (initial_bits gate)).verdict)
        × ((check a b (in_mode earliest o) trace words scores).trace ≡ verdict_trace (check_designs (in_mode earliest o) gold gate (initial_bits gold) (initial_bits gate)).verdict trace)
    unfolding outcome_seven trace_after
    by_verdict earliest e =
        let x = call_as_outcome a b (in_mode earliest o) trace words scores in
        let y = outcome-is a b (in_mode earliest o) (lent_of trace words scores) gold gate (modes_refuse a b o earliest (lent_of trace words scores) ∙ e) pair in
        (x.seven ∙ ap outcome_seven y, x.traced ∙ ap (λ (z : CheckOutcome). trace_after z trace) y)

    -- where cycle 0 cannot differ and query 0 does not give up, a call in the mode, refused or not, answers the numbers and leaves the trace that it does without it, but for what was learned and what is proved
    pub call-keeps : EqualThrough gold gate (initial_bits gold) (initial_bits gate) 0
        → ((check a b (in_mode true o) trace words scores).answer.status ≡ 3 → (check a b (in_mode true o) trace words scores).answer.query ≢ 0)
        → (seven_of (check a b (in_mode true o) trace words scores).answer ≡ seven_of (check a b (in_mode false o) trace words scores).answer)
        × ((check a b (in_mode true o) trace words scores).trace ≡ (check a b (in_mode false o) trace words scores).trace)
    call-keeps alike h = go (check_refusal a b o (lent_of trace words scores)) refl
      where
        accepted-kept : check_refusal a b o (lent_of trace words scores) ≡ none
            → ((check_designs (in_mode true o) gold gate (initial_bits gold) (initial_bits gate)).verdict ≡ (check_designs (in_mode false o) gold gate (initial_bits gold) (initial_bits gate)).verdict)
            ⊎ ((check_designs (in_mode true o) gold gate (initial_bits gold) (initial_bits gate)).verdict ≡ GaveUp 1 0)
            → Kept
        accepted-kept e (inl q) =
            let x = by_verdict true e in
            let y = by_verdict false e in
            (x.0 ∙ ap verdict_seven q ∙ sym y.0, x.1 ∙ ap (λ (v : Verdict). verdict_trace v trace) q ∙ sym y.1)
        accepted-kept e (inr q) =
            let g = gave_0 a b (in_mode true o) trace words scores gold gate (modes_refuse a b o true (lent_of trace words scores) ∙ e) pair q in
            absurd (h g.0 g.1)

        go : (f : Option Refusal) → check_refusal a b o (lent_of trace words scores) ≡ f → Kept
        go (some r) e = refused-kept r e
        go none e = accepted-kept e (designs_keep o gold gate (comparable a b o (lent_of trace words scores) gold gate e pair) (initial_bits gold) (initial_bits gate) alike)
