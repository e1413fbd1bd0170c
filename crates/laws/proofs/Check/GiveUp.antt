-- A whole check gives up exactly where every earlier query was answered without deciding and the query that it names, the last that is asked, gives up. Assumes nothing.
use Rattle.std.specs.Prelude.{ℕ, zero, suc, ◌≤◌, ◌<◌, refl, ◌↔◌, Bool, true, false, List, Float}
use Rattle.std.proofs.Common.{arith, sym, ◌∙◌}
use Rattle.std.proofs.Math.Path.{◌≡◌, ap, subst}
use Rattle.std.proofs.Math.Option.{Option, none, some}
use Rattle.std.proofs.Math.ListN.{length}
use Rattle.model.specs.Answers.{Asked, CheckAnswer, is_proved, proved_cycle, accepted_answer, status_number}
use Rattle.model.specs.Lists.{snoc}
use Rattle.model.specs.Options.{Options}
use Rattle.model.specs.Netlist.{Design}
use Rattle.model.specs.Run.{StoredBits, initial_bits}
use Rattle.model.specs.Pair.{both, read_pair, check_refusal}
use Rattle.model.specs.Equivalence.{Problem, Query, base_counterexample, base_preserves_named_state, induction_closes, ask, Verdict, Equivalent, NotEquivalent, Inconclusive, GaveUp, OutOfFuel, asked_too, not_equivalent_at, largest_learned, proved_through}
use Rattle.model.specs.Check.{problem_of, check_designs, verdict_answer, check_answer, CheckResult, check_result, lent_of, check}
use Rattle.laws.proofs.Check.Course.{Decides, differs, closes_named, closes, stops, Decides0, differs_0, stops_0, Course, decides_0, decides, passes, verdict_course, course_verdict}
use Rattle.laws.proofs.Check.Walk.{Final, Asking, nothing, first, deeper, further, Walked, all_passed, last_gave_up, last_decided, prove_walk}
use Rattle.laws.proofs.Check.Queries.{query_gives_up}
use Rattle.laws.specs.Check.Call.{call-is}
use Rattle.laws.specs.Lists.{length-snoc, last-same}
use Rattle.laws.specs.Search.Total.{solve-total}
use Rattle.laws.specs.Terms.{learned_of, proved_of, Settled, answer_total, QueryOf, query_0, query_1, query_2, query_3, query_4, Passed, Cycle0Passed, StopsAt, at_query_0, at_depth_lem, LastGivesUp}

-- ---- a give-up is where the check stops, and the other way round

decided-stops : (o : Options) (p : Problem) (d : ℕ) (v : Verdict) → 1 ≤ d → d ≤ o.depth → Cycle0Passed o.earliest o.limit p → ((e : ℕ) → 1 ≤ e → e < d → Passed o.limit p e)
    → Decides o.limit p d v → (e q : ℕ) → v ≡ GaveUp e q → StopsAt o p e q
unfolding not_equivalent_at
decided-stops o p d v low high zeroth passed (differs values n x) e q z = absurd (let y : ◌≡◌ {A = ℕ} 0 1 = cc in omega arith)
decided-stops o p d v low high zeroth passed (closes_named f s x) e q z = absurd (let y : ◌≡◌ {A = ℕ} 0 1 = cc in omega arith)
decided-stops o p d v low high zeroth passed (closes f s x) e q z = absurd (let y : ◌≡◌ {A = ℕ} 0 1 = cc in omega arith)
decided-stops o p d v low high zeroth passed (stops {q = k} s) e q z =
    let a : d ≡ e = cc in
    let b : k ≡ q = cc in
    subst (λ x. StopsAt o p x q) a (subst (StopsAt o p d) b (at_depth_lem low high zeroth passed s))

decided_0_stops : (o : Options) (p : Problem) (v : Verdict) → o.earliest ≡ true → 1 ≤ o.depth → Decides0 o.limit p v → (e q : ℕ) → v ≡ GaveUp e q → StopsAt o p e q
unfolding not_equivalent_at
decided_0_stops o p v mode low (differs_0 values n x) e q z = absurd (let y : ◌≡◌ {A = ℕ} 0 1 = cc in omega arith)
decided_0_stops o p v mode low (stops_0 x) e q z =
    let a : 1 ≡ e = cc in
    let b : 0 ≡ q = cc in
    subst (λ i. StopsAt o p i q) a (subst (StopsAt o p 1) b (at_query_0 mode low x))

course_stops : (o : Options) (p : Problem) (v : Verdict) → Course o.earliest o.limit p o.depth v → (e q : ℕ) → v ≡ GaveUp e q → StopsAt o p e q
course_stops o p v (decides_0 mode low w) e q z = decided_0_stops o p v mode low w e q z
course_stops o p v (decides d low high zeroth passed w) e q z = decided-stops o p d v low high zeroth passed w e q z
course_stops o p v (passes zeroth f) e q z = absurd (let y : ◌≡◌ {A = ℕ} 0 1 = cc in omega arith)

-- and where the check stops there is a course to its give-up
stops_course : (o : Options) (p : Problem) (d q : ℕ) → StopsAt o p d q → Course o.earliest o.limit p o.depth (GaveUp d q)
stops_course o p d q (at_query_0 mode low x) = decides_0 mode low (stops_0 x)
stops_course o p d q (at_depth_lem low high zeroth passed w) = decides d low high zeroth passed (stops w)

-- the verdict on two designs, from any start bits, names depth and query exactly where the check stops
pub designs_give_up : (o : Options) (gold gate : Design) (s t : StoredBits) (d q : ℕ) → ((check_designs o gold gate s t).verdict ≡ GaveUp d q) ↔ StopsAt o (problem_of gold gate s t) d q
unfolding check_designs
designs_give_up o gold gate s t d q =
    let p = problem_of gold gate s t in (
      λ e. course_stops o p _ (verdict_course o.limit p o.earliest o.depth) d q e,
      λ w. course_verdict o.limit p o.earliest o.depth (GaveUp d q) (stops_course o p d q w),
    )

-- ---- and in the last query asked

-- a query by its number
query_at : Problem → ℕ → ℕ → Query
query_at p d zero = base_counterexample p 0
query_at p d (suc zero) = base_counterexample p d
query_at p d (suc (suc zero)) = base_preserves_named_state p d
query_at p d (suc (suc (suc zero))) = induction_closes p true d
query_at p d (suc (suc (suc (suc k)))) = induction_closes p false d

query-is : (p : Problem) (d k : ℕ) (q : Query) → QueryOf p d k q → q ≡ query_at p d k
unfolding query_at
query-is p d k q query_0 = refl
query-is p d k q query_1 = refl
query-is p d k q query_2 = refl
query-is p d k q query_3 = refl
query-is p d k q query_4 = refl

same-query : (p : Problem) (d k c j : ℕ) (q r : Query) → QueryOf p d k q → QueryOf p c j r → d ≡ c → k ≡ j → q ≡ r
same-query p d k c j q r w v x y = query-is p d k q w ∙ ap (λ i. query_at p i k) x ∙ ap (query_at p c) y ∙ sym (query-is p c j r v)

module _ (earliest : Bool) (limit : ℕ) (p : Problem) (D : ℕ) where
  -- the last of those so far was settled
  asking_settled : (d k : ℕ) (earlier : List Asked) → Asking earliest limit p D d k earlier → (before : List Asked) (c j n : ℕ) (r : Query)
      → earlier ≡ snoc before (record { depth = c; query = j; learned = n }) → QueryOf p c j r → Settled (ask limit r)
  unfolding asked_too
  asking_settled d k earlier (nothing y) before c j n r z w = absurd (omega (arith, ap length z, length-snoc before (record { depth = c; query = j; learned = n })))
  asking_settled d k earlier (first l) before c j n r z w = absurd (omega (arith, ap length z, length-snoc before (record { depth = c; query = j; learned = n })))
  asking_settled d k earlier (deeper {d = b} l h m) before c j n r z w = asking_settled b 5 earlier h before c j n r z w
  asking_settled d k earlier (further {k = i} {earlier = es} q a next h v e t l) before c j n r z w =
      let x = last-same es before _ _ z in
      subst Settled (sym e ∙ ap (ask limit) (same-query p d i c j q r v w (ap (λ (b : Asked). b.depth) x) (ap (λ (b : Asked). b.query) x))) t

  -- no query both gives up and is settled
  gives_unsettled : (asked : List Asked) (d q : ℕ) (x : LastGivesUp limit p asked d q) → Settled (ask limit x.query) → ⊥
  gives_unsettled asked d q x t = subst Settled ((query_gives_up limit p d q x.query x.named x.total).1 x.gives_up) t

  walk_gives : (v : Verdict) (asked : List Asked) → Walked earliest limit p D v asked → (d q : ℕ) → v ≡ GaveUp d q → LastGivesUp limit p asked d q
  unfolding asked_too answer_total ask
  walk_gives v asked (all_passed h) d q z = absurd (let y : ◌≡◌ {A = ℕ} 0 1 = cc in omega arith)
  walk_gives v asked (last_gave_up {d = c} {k = j} {earlier = es} r n h w e) d q z =
      let x : c ≡ d = cc in
      let y : j ≡ q = cc in
      let k : LastGivesUp limit p asked c j = record {
        before = es;
        total = n;
        last = refl;
        query = r;
        named = w;
        gives_up = (query_gives_up limit p c j r w n).0 e;
        within = subst (λ a. answer_total a ≤ limit) e (solve-total limit r.aig r.assumptions);
      } in
      subst (λ i. LastGivesUp limit p asked i q) x (subst (LastGivesUp limit p asked c) y k)
  walk_gives v asked (last_decided r a h w e t f) d q z = absurd (subst Final z f)

  walk-given : (v : Verdict) (asked : List Asked) → Walked earliest limit p D v asked → (d q : ℕ) → LastGivesUp limit p asked d q → v ≡ GaveUp d q
  unfolding asked_too
  walk-given v asked (all_passed h) d q x = absurd (gives_unsettled asked d q x (asking_settled D 5 asked h x.before d q x.total x.query x.last x.named))
  walk-given v asked (last_gave_up {d = c} {k = j} {earlier = es} r n h w e) d q x =
      let y = last-same es x.before _ _ x.last in
      ap (λ i. GaveUp i j) (ap (λ (b : Asked). b.depth) y) ∙ ap (GaveUp d) (ap (λ (b : Asked). b.query) y)
  walk-given v asked (last_decided {d = c} {k = j} {earlier = es} r a h w e t f) d q x =
      let y = last-same es x.before _ _ x.last in
      absurd (gives_unsettled asked d q x
      (subst Settled (sym e ∙ ap (ask limit) (same-query p c j d q r x.query w x.named (ap (λ (b : Asked). b.depth) y) (ap (λ (b : Asked). b.query) y))) t))

-- the verdict on two designs, from any start bits, is a give-up exactly where the last query asked gives up: there its total is within the limit, and the next learned clause would pass it
pub designs_last : (o : Options) (gold gate : Design) (s t : StoredBits) (d q : ℕ)
    → ((check_designs o gold gate s t).verdict ≡ GaveUp d q) ↔ LastGivesUp o.limit (problem_of gold gate s t) (check_designs o gold gate s t).asked d q
unfolding check_designs
designs_last o gold gate s t d q =
    let p = problem_of gold gate s t in
    let w = prove_walk o.limit p o.earliest o.depth in
    (walk_gives o.earliest o.limit p o.depth _ _ w d q, walk-given o.earliest o.limit p o.depth _ _ w d q)

-- ---- the call

-- the answer of a give-up is the verdict's
gave_verdict : (v : Verdict) (most other : Asked) (proved told : Option ℕ) (d q : ℕ) → verdict_answer v most proved ≡ accepted_answer 3 d 0 q other told → v ≡ GaveUp d q
unfolding verdict_answer accepted_answer status_number
gave_verdict (Equivalent e) most other proved told d q h = absurd (let z : ◌≡◌ {A = ℕ} 0 3 = ap (λ (x : CheckAnswer). x.status) h in omega arith)
gave_verdict (NotEquivalent e m bytes) most other proved told d q h = absurd (let z : ◌≡◌ {A = ℕ} 1 3 = ap (λ (x : CheckAnswer). x.status) h in omega arith)
gave_verdict (Inconclusive e) most other proved told d q h = absurd (let z : ◌≡◌ {A = ℕ} 2 3 = ap (λ (x : CheckAnswer). x.status) h in omega arith)
gave_verdict (GaveUp e k) most other proved told d q h =
    let x : e ≡ d = ap (λ (x : CheckAnswer). x.depth) h in
    let y : k ≡ q = ap (λ (x : CheckAnswer). x.query) h in
    ap (λ i. GaveUp i k) x ∙ ap (GaveUp d) y
gave_verdict OutOfFuel most other proved told d q h = absurd (let z : ◌≡◌ {A = ℕ} 4 3 = ap (λ (x : CheckAnswer). x.status) h in omega arith)

-- and it has what it tells
gave_told : (d q : ℕ) (most : Asked) (told : Option ℕ) → verdict_answer (GaveUp d q) most told ≡ accepted_answer 3 d 0 q (learned_of (verdict_answer (GaveUp d q) most told)) (proved_of (verdict_answer (GaveUp d q) most told))
unfolding verdict_answer accepted_answer status_number learned_of proved_of is_proved proved_cycle
gave_told d q most none = refl
gave_told d q most (some c) = refl

-- a call that is not refused answers status 3 with a depth and a query exactly where the check of its designs stops there, whatever it learned and proved
pub call_gives_up : (a b : List ℕ) (o : Options) (trace words : List ℕ) (scores : List Float) (gold gate : Design) → check_refusal a b o (lent_of trace words scores) ≡ none → read_pair a b ≡ both gold gate
    → (d q : ℕ) → ((check a b o trace words scores).answer ≡ accepted_answer 3 d 0 q (learned_of (check a b o trace words scores).answer) (proved_of (check a b o trace words scores).answer)) ↔ StopsAt o (problem_of gold gate (initial_bits gold) (initial_bits gate)) d q
unfolding check_result check_answer
call_gives_up a b o trace words scores gold gate free r d q =
    let v = (check_designs o gold gate (initial_bits gold) (initial_bits gate)).verdict in
    let most = largest_learned (check_designs o gold gate (initial_bits gold) (initial_bits gate)).asked in
    let told = proved_through v (check_designs o gold gate (initial_bits gold) (initial_bits gate)).asked in
    let e : (check a b o trace words scores).answer ≡ verdict_answer v most told = ap (λ (x : CheckResult). x.answer) (call-is a b o trace words scores gold gate free r) in
    let w = designs_give_up o gold gate (initial_bits gold) (initial_bits gate) d q in (
      λ h. w.0 (gave_verdict v most _ told _ d q (sym e ∙ h)),
      λ s. subst (λ (x : CheckAnswer). x ≡ accepted_answer 3 d 0 q (learned_of x) (proved_of x)) (sym (e ∙ ap (λ (x : Verdict). verdict_answer x most told) (w.1 s))) (gave_told d q most told),
    )
