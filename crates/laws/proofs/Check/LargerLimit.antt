-- A larger limit of learned literals changes nothing of a check but a give-up: no answer, no query asked, and nothing of a call. Assumes nothing.
use Prim.Native.Nat.{ℕ, zero, suc, ◌≤◌}
use Rattle.std.proofs.Common.{arith, ◌∙◌, subst}
use Rattle.std.specs.Prelude.{◌≡◌, ◌≢◌, Bool, List, Float}
use Rattle.std.proofs.Math.Path.{refl, sym, ap}
use Rattle.std.proofs.Math.Bool.{true, false}
use Rattle.std.proofs.Math.Option.{Option, none, some}
use Rattle.model.specs.Answers.{Refusal, Status, status_number, Asked}
use Rattle.model.specs.Answers as Answers
use Rattle.model.specs.Options.{Options}
use Rattle.model.specs.Netlist.{Design}
use Rattle.model.specs.Run.{StoredBits, initial_bits}
use Rattle.model.specs.Pair.{Lent, check_refusal}
use Rattle.model.specs.Induction.{answered}
use Rattle.model.specs.Sat.{Answer, model, no_model, gave_up, out_of_fuel}
use Rattle.model.specs.Equivalence.{Problem, Query, base_counterexample, base_preserves_named_state, induction_closes, ask, Verdict, Equivalent, NotEquivalent, Inconclusive, GaveUp, OutOfFuel, Outcome, Proving, undecided, decided, asked_too, after_query4, query4, after_query3, after_query2, after_query1, query1, at_depth, depths, after_query0, query0, before_query1, prove_sequential_equivalence}
use Rattle.model.specs.Check.{problem_of, check_designs, check_outcome, check_answer, trace_after, cleared_after, check_result, lent_of, check, verdict_says, checked}
use Rattle.laws.specs.Search.Limits.{solve-same}
use Rattle.laws.specs.Terms.{Numbered, checked_designs, LargerLimit, Settled}
use Rattle.laws.specs.Induction.Pairs.{Accepted, accepted-pair}
use Rattle.laws.specs.Check.Call.{check_accepts, outcome-is, checked-is, check-refused, check-numbered}
use Rattle.laws.proofs.Check.Ending.{check-answers}
use Rattle.laws.proofs.Check.Walk.{Final}
use Rattle.laws.proofs.Check.Limited.{refuse-alike}

module _ (limit larger : ℕ) (le : limit ≤ larger) (p : Problem) where
  -- a query that the smaller limit settles has the same answer under the larger one
  pub asked-same : (q : Query) (a : Answer) → ask limit q ≡ a → Settled a → ask larger q ≡ a
  unfolding ask
  asked-same q a e h = solve-same limit larger le q.aig q.assumptions (subst Settled (sym e) h) ∙ e

  -- a verdict so far, if there is one, was not cut short
  abbrev FinalSoFar : Proving → Type 0
  FinalSoFar (undecided earlier) = Unit {0}
  FinalSoFar (decided v earlier) = Final v

  module _ (d : ℕ) where
    same_4 : (earlier : List Asked) (a : Answer) → ask limit (induction_closes p false d) ≡ a → FinalSoFar (after_query4 d earlier a) → ask larger (induction_closes p false d) ≡ a
    unfolding after_query4
    same_4 earlier (model values n) e f = asked-same _ _ e tt
    same_4 earlier (no_model n) e f = asked-same _ _ e tt
    same_4 earlier (gave_up n) e f = absurd f
    same_4 earlier (out_of_fuel n) e f = absurd f

    query_4_same : (earlier : List Asked) → FinalSoFar (query4 limit p d earlier) → query4 larger p d earlier ≡ query4 limit p d earlier
    unfolding query4
    query_4_same earlier f = ap (after_query4 d earlier) (same_4 earlier (ask limit (induction_closes p false d)) refl f)

    same_3 : (earlier : List Asked) (a : Answer) → ask limit (induction_closes p true d) ≡ a → FinalSoFar (after_query3 limit p d earlier a)
        → after_query3 larger p d earlier (ask larger (induction_closes p true d)) ≡ after_query3 limit p d earlier a
    unfolding after_query3
    same_3 earlier (model values n) e f = ap (after_query3 larger p d earlier) (asked-same _ _ e tt) ∙ query_4_same (asked_too earlier d 3 n) f
    same_3 earlier (no_model n) e f = ap (after_query3 larger p d earlier) (asked-same _ _ e tt)
    same_3 earlier (gave_up n) e f = absurd f
    same_3 earlier (out_of_fuel n) e f = absurd f

    same_2 : (earlier : List Asked) (a : Answer) → ask limit (base_preserves_named_state p d) ≡ a → FinalSoFar (after_query2 limit p d earlier a)
        → after_query2 larger p d earlier (ask larger (base_preserves_named_state p d)) ≡ after_query2 limit p d earlier a
    unfolding after_query2
    same_2 earlier (model values n) e f = ap (after_query2 larger p d earlier) (asked-same _ _ e tt) ∙ query_4_same (asked_too earlier d 2 n) f
    same_2 earlier (no_model n) e f = ap (after_query2 larger p d earlier) (asked-same _ _ e tt) ∙ same_3 (asked_too earlier d 2 n) (ask limit (induction_closes p true d)) refl f
    same_2 earlier (gave_up n) e f = absurd f
    same_2 earlier (out_of_fuel n) e f = absurd f

    same_1 : (earlier : List Asked) (a : Answer) → ask limit (base_counterexample p d) ≡ a → FinalSoFar (after_query1 limit p d earlier (base_counterexample p d).comparisons a)
        → after_query1 larger p d earlier (base_counterexample p d).comparisons (ask larger (base_counterexample p d)) ≡ after_query1 limit p d earlier (base_counterexample p d).comparisons a
    unfolding after_query1
    same_1 earlier (model values n) e f = ap (after_query1 larger p d earlier (base_counterexample p d).comparisons) (asked-same _ _ e tt)
    same_1 earlier (no_model n) e f =
        ap (after_query1 larger p d earlier (base_counterexample p d).comparisons) (asked-same _ _ e tt) ∙ same_2 (asked_too earlier d 1 n) (ask limit (base_preserves_named_state p d)) refl f
    same_1 earlier (gave_up n) e f = absurd f
    same_1 earlier (out_of_fuel n) e f = absurd f

    depth_same : (earlier : List Asked) → FinalSoFar (at_depth limit p d earlier) → at_depth larger p d earlier ≡ at_depth limit p d earlier
    unfolding at_depth query1
    depth_same earlier f = same_1 earlier (ask limit (base_counterexample p d)) refl f

  final_so_far : (n d : ℕ) (r : Proving) → Final (depths limit p n d r).verdict → FinalSoFar r
  unfolding depths
  final_so_far n d (undecided earlier) f = tt
  final_so_far zero d (decided v earlier) f = f
  final_so_far (suc n) d (decided v earlier) f = f

  depths-same : (n d : ℕ) (r : Proving) → Final (depths limit p n d r).verdict → depths larger p n d r ≡ depths limit p n d r
  unfolding depths
  depths-same zero d (undecided earlier) f = refl
  depths-same zero d (decided v earlier) f = refl
  depths-same (suc n) d (undecided earlier) f =
      ap (depths larger p n (suc d)) (depth_same (suc d) earlier (final_so_far n (suc d) (at_depth limit p (suc d) earlier) f)) ∙ depths-same n (suc d) (at_depth limit p (suc d) earlier) f
  depths-same (suc n) d (decided v earlier) f = refl

  same_0 : (a : Answer) → ask limit (base_counterexample p 0) ≡ a → FinalSoFar (after_query0 (base_counterexample p 0).comparisons a) → ask larger (base_counterexample p 0) ≡ a
  unfolding after_query0
  same_0 (model values n) e f = asked-same _ _ e tt
  same_0 (no_model n) e f = asked-same _ _ e tt
  same_0 (gave_up n) e f = absurd f
  same_0 (out_of_fuel n) e f = absurd f

  before_same : (earliest : Bool) (D : ℕ) → FinalSoFar (before_query1 earliest limit p D) → before_query1 earliest larger p D ≡ before_query1 earliest limit p D
  unfolding before_query1 query0
  before_same false D f = refl
  before_same true zero f = refl
  before_same true (suc n) f = ap (after_query0 (base_counterexample p 0).comparisons) (same_0 (ask limit (base_counterexample p 0)) refl f)

  -- the whole outcome, where the verdict was not cut short
  prove_same : (earliest : Bool) (D : ℕ) → Final (prove_sequential_equivalence earliest limit p D).verdict → prove_sequential_equivalence earliest larger p D ≡ prove_sequential_equivalence earliest limit p D
  unfolding prove_sequential_equivalence
  prove_same earliest D f =
      ap (depths larger p D 0) (before_same earliest D (final_so_far D 0 (before_query1 earliest limit p D) f)) ∙ depths-same D 0 (before_query1 earliest limit p D) f

-- a status other than GaveUp comes of a verdict that was not cut short
final-says : (v : Verdict) (status : Status) (d : ℕ) → verdict_says v ≡ answered status d → status ≢ Answers.GaveUp → Final v
unfolding verdict_says
final-says (Equivalent e) status d h n = tt
final-says (NotEquivalent e m bytes) status d h n = tt
final-says (Inconclusive e) status d h n = tt
final-says (GaveUp e q) status d h n = n (let p : status ≡ Answers.GaveUp = cc in p)
final-says OutOfFuel status d h n = let z : ◌≡◌ {A = ℕ} 0 1 = cc in omega arith

module _ (o larger : Options) (le : LargerLimit o larger) where
  -- a larger limit keeps the whole outcome of two designs, verdict, trace and the queries asked, where its status is not GaveUp
  pub designs_larger : (gold gate : Design) (s t : StoredBits) (status : Status) (d : ℕ) → checked_designs o gold gate s t ≡ answered status d → status ≢ Answers.GaveUp
      → check_designs larger gold gate s t ≡ check_designs o gold gate s t
  unfolding check_designs
  designs_larger gold gate s t status d h n =
      let p = problem_of gold gate s t in
      ap (λ e. prove_sequential_equivalence e larger.limit p larger.depth) (sym le.earliest)
      ∙ ap (prove_sequential_equivalence o.earliest larger.limit p) (sym le.depth) ∙ prove_same o.limit larger.limit le.limit p o.earliest o.depth (final-says _ status d h n)

  module _ (small : larger.limit ≤ 262144) where
    -- it refuses what the smaller one does
    refusal-same : (a b : List ℕ) (lent : Lent) → check_refusal a b o lent ≡ none → check_refusal a b larger lent ≡ none
    refusal-same a b lent h = refuse-alike a b larger o lent (sym le.depth) small (omega (arith, le.limit)) ∙ h

    -- a larger limit keeps each status other than GaveUp, with its depth
    pub check_larger : (a b : List ℕ) (lent : Lent) (status : Status) (d : ℕ) → checked a b o lent ≡ answered status d → status ≢ Answers.GaveUp
        → checked a b larger lent ≡ answered status d
    check_larger a b lent status d h n =
        let free = check_accepts a b o lent status d h in
        let k : Accepted a b o lent = accepted-pair a b o lent free in
        let s = sym (checked-is a b o lent k.gold k.gate free k.pair) ∙ h in
        checked-is a b larger lent k.gold k.gate (refusal-same a b lent free) k.pair
        ∙ ap (λ (x : Outcome). verdict_says x.verdict) (designs_larger k.gold k.gate (initial_bits k.gold) (initial_bits k.gate) status d s n) ∙ s

    -- and the whole result of the check: mismatch, query and place too, what was learned, and every lent element
    pub result_larger : (a b : List ℕ) (lent : Lent) (status : Status) (d : ℕ) → checked a b o lent ≡ answered status d → status ≢ Answers.GaveUp
        → (trace words : List ℕ) (scores : List Float) → check_result (check_outcome a b larger lent) trace words scores ≡ check_result (check_outcome a b o lent) trace words scores
    unfolding check_result check_answer trace_after cleared_after
    result_larger a b lent status d h n trace words scores =
        let free = check_accepts a b o lent status d h in
        let k : Accepted a b o lent = accepted-pair a b o lent free in
        let s = sym (checked-is a b o lent k.gold k.gate free k.pair) ∙ h in
        let v = designs_larger k.gold k.gate (initial_bits k.gold) (initial_bits k.gate) status d s n in
        rw (outcome-is a b larger lent k.gold k.gate (refusal-same a b lent free) k.pair, outcome-is a b o lent k.gold k.gate free k.pair, v)

-- a larger limit keeps the whole result of a call, refused or not, that does not give up
pub call_larger : (a b : List ℕ) (o larger : Options) → LargerLimit o larger → larger.limit ≤ 262144 → (trace words : List ℕ) (scores : List Float)
    → (check a b o trace words scores).answer.status ≢ 3 → check a b larger trace words scores ≡ check a b o trace words scores
call_larger a b o larger le small trace words scores n = go (check_refusal a b o (lent_of trace words scores)) refl
  where
    go : (f : Option Refusal) → check_refusal a b o (lent_of trace words scores) ≡ f → check a b larger trace words scores ≡ check a b o trace words scores
    go (some r) e =
        check-refused a b larger trace words scores r (refuse-alike a b larger o (lent_of trace words scores) (sym le.depth) small (omega (arith, le.limit)) ∙ e)
        ∙ sym (check-refused a b o trace words scores r e)
    go none e =
        let r = check-answers a b o (lent_of trace words scores) e in
        let k : Numbered (check a b o trace words scores).answer r.0 r.1 = check-numbered a b o trace words scores r.0 r.1 r.2 in
        unfold check status_number in
        result_larger o larger le small a b (lent_of trace words scores) r.0 r.1 r.2 (λ z. n (k.status_number_lem ∙ ap status_number z)) trace words scores
