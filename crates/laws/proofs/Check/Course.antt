-- The course of a check, in one place: which queries are asked at each depth, and the verdict that their answers make. Assumes nothing.
use Prim.Native.Nat.{ℕ, zero, suc, ◌+◌, ◌≤◌, ◌<◌}
use native.Mathlib.Omega.{arith}
use Rattle.std.specs.Prelude.{◌≡◌, Bool}
use Rattle.std.proofs.Math.Path.{refl, ap, subst}
use Rattle.std.proofs.Common.{sym, ◌∙◌, inl, inr}
use Rattle.std.proofs.Math.Bool.{true, false}
use mathlib.Core.List.{List, []}
use Rattle.model.specs.Answers.{Asked}
use Rattle.model.specs.Sat.{Answer, model, no_model, gave_up, out_of_fuel}
use Rattle.model.specs.Equivalence.{Problem, Query, base_counterexample, base_preserves_named_state, induction_closes, ask, Verdict, Equivalent, Inconclusive, GaveUp, Proving, undecided, decided, asked_too, not_equivalent_at, after_query4, query4, after_query3, after_query2, after_query1, query1, at_depth, depths, after_query0, query0, before_query1, prove_sequential_equivalence}
use Rattle.laws.specs.Terms.{NoModel, Exceeds, NamedOpen, Passed, Cycle0Passed, Stops, at_query_1, at_query_2, at_query_3, at_query_4}
use Rattle.facts.specs.Numbers.{by_eq}
use Rattle.laws.specs.Queries.Formed.{Askable, query_1_askable, query_2_askable, query_3_4_askable}
use Rattle.laws.specs.Search.Ending.{solve-not_out}
use Rattle.laws.proofs.Search.Reached.{solve_gives_up}

-- the answers of depth d make this verdict
pub data Decides (limit : ℕ) (p : Problem) (d : ℕ) : Verdict → Type 0 where
  differs : (values : List Bool) (n : ℕ) → ask limit (base_counterexample p d) ≡ model values n → Decides limit p d (not_equivalent_at d values (base_counterexample p d).comparisons)
  closes_named : NoModel limit (base_counterexample p d) → NoModel limit (base_preserves_named_state p d) → NoModel limit (induction_closes p true d) → Decides limit p d (Equivalent d)
  closes : NoModel limit (base_counterexample p d) → NamedOpen limit p d → NoModel limit (induction_closes p false d) → Decides limit p d (Equivalent d)
  stops : {q : ℕ} → Stops limit p d q → Decides limit p d (GaveUp d q)

-- the answer to query 0 makes this verdict
pub data Decides0 (limit : ℕ) (p : Problem) : Verdict → Type 0 where
  differs_0 : (values : List Bool) (n : ℕ) → ask limit (base_counterexample p 0) ≡ model values n → Decides0 limit p (not_equivalent_at 1 values (base_counterexample p 0).comparisons)
  stops_0 : Exceeds limit (base_counterexample p 0) → Decides0 limit p (GaveUp 1 0)

-- in the mode of the earliest cycle query 0 makes the verdict; or it was passed, every depth before d was, and d makes it; or all were passed
pub data Course (earliest : Bool) (limit : ℕ) (p : Problem) (D : ℕ) : Verdict → Type 0 where
  decides_0 : {v : Verdict} → earliest ≡ true → 1 ≤ D → Decides0 limit p v → Course earliest limit p D v
  decides : (d : ℕ) {v : Verdict} → 1 ≤ d → d ≤ D → Cycle0Passed earliest limit p → ((e : ℕ) → 1 ≤ e → e < d → Passed limit p e) → Decides limit p d v → Course earliest limit p D v
  passes : (1 ≤ D → Cycle0Passed earliest limit p) → ((e : ℕ) → 1 ≤ e → e ≤ D → Passed limit p e) → Course earliest limit p D (Inconclusive D)

-- ---- a query that is asked

ends : (limit : ℕ) (q : Query) → Askable q → (n : ℕ) → ask limit q ≡ out_of_fuel n → ⊥
unfolding ask
ends limit q a n e = solve-not_out limit q.aig a.formed q.assumptions a.inside n e

exceeds : (limit : ℕ) (q : Query) → Askable q → (n : ℕ) → ask limit q ≡ gave_up n → Exceeds limit q
unfolding ask
exceeds limit q a n e = (n, (solve_gives_up limit q.aig q.assumptions a.formed a.inside n).0 e)

gave_up_lem : (limit : ℕ) (q : Query) → Askable q → Exceeds limit q → (n : ℕ) × (ask limit q ≡ gave_up n)
unfolding ask
gave_up_lem limit q a x = (x.0, (solve_gives_up limit q.aig q.assumptions a.formed a.inside x.0).1 x.1)

module _ (limit : ℕ) (p : Problem) where
  -- ---- the verdict has a course

  module _ (d : ℕ) where
    -- what the queries of depth d leave
    abbrev Leaves : Proving → Type 0
    Leaves (undecided earlier) = Passed limit p d
    Leaves (decided v earlier) = Decides limit p d v

    after_4 : NoModel limit (base_counterexample p d) → NamedOpen limit p d → (earlier : List Asked) (a : Answer) → ask limit (induction_closes p false d) ≡ a → Leaves (after_query4 d earlier a)
    unfolding after_query4
    after_4 f s earlier (model values n) e = record { first = f; named = s; last = (values, n, e) }
    after_4 f s earlier (no_model n) e = closes f s (n, e)
    after_4 f s earlier (gave_up n) e = stops (at_query_4 f s (exceeds limit _ (query_3_4_askable p false d) n e))
    after_4 f s earlier (out_of_fuel n) e = absurd (ends limit _ (query_3_4_askable p false d) n e)

    ask_4 : NoModel limit (base_counterexample p d) → NamedOpen limit p d → (earlier : List Asked) → Leaves (query4 limit p d earlier)
    unfolding query4
    ask_4 f s earlier = after_4 f s earlier (ask limit (induction_closes p false d)) refl

    after_3 : NoModel limit (base_counterexample p d) → NoModel limit (base_preserves_named_state p d) → (earlier : List Asked) (a : Answer) → ask limit (induction_closes p true d) ≡ a → Leaves (after_query3 limit p d earlier a)
    unfolding after_query3
    after_3 f s earlier (model values n) e = ask_4 f (inr (s, (values, n, e))) _
    after_3 f s earlier (no_model n) e = closes_named f s (n, e)
    after_3 f s earlier (gave_up n) e = stops (at_query_3 f s (exceeds limit _ (query_3_4_askable p true d) n e))
    after_3 f s earlier (out_of_fuel n) e = absurd (ends limit _ (query_3_4_askable p true d) n e)

    after_2 : NoModel limit (base_counterexample p d) → (earlier : List Asked) (a : Answer) → ask limit (base_preserves_named_state p d) ≡ a → Leaves (after_query2 limit p d earlier a)
    unfolding after_query2
    after_2 f earlier (model values n) e = ask_4 f (inl (values, n, e)) _
    after_2 f earlier (no_model n) e = after_3 f (n, e) _ (ask limit (induction_closes p true d)) refl
    after_2 f earlier (gave_up n) e = stops (at_query_2 f (exceeds limit _ (query_2_askable p d) n e))
    after_2 f earlier (out_of_fuel n) e = absurd (ends limit _ (query_2_askable p d) n e)

    after_1 : (earlier : List Asked) (a : Answer) → ask limit (base_counterexample p d) ≡ a → Leaves (after_query1 limit p d earlier (base_counterexample p d).comparisons a)
    unfolding after_query1
    after_1 earlier (model values n) e = differs values n e
    after_1 earlier (no_model n) e = after_2 (n, e) _ (ask limit (base_preserves_named_state p d)) refl
    after_1 earlier (gave_up n) e = stops (at_query_1 (exceeds limit _ (query_1_askable p d) n e))
    after_1 earlier (out_of_fuel n) e = absurd (ends limit _ (query_1_askable p d) n e)

    depth_leaves : (earlier : List Asked) → Leaves (at_depth limit p d earlier)
    unfolding at_depth query1
    depth_leaves earlier = after_1 earlier (ask limit (base_counterexample p d)) refl

  module _ (earliest : Bool) where
    -- what the loop carries after depth d
    abbrev SoFar : ℕ → ℕ → Proving → Type 0
    SoFar D d (undecided earlier) = (1 ≤ D → Cycle0Passed earliest limit p) × ((e : ℕ) → 1 ≤ e → e ≤ d → Passed limit p e)
    SoFar D d (decided v earlier) = Course earliest limit p D v

    so_far : (D d : ℕ) → 1 ≤ d → d ≤ D → (1 ≤ D → Cycle0Passed earliest limit p) → ((e : ℕ) → 1 ≤ e → e < d → Passed limit p e) → (r : Proving) → Leaves d r → SoFar D d r
    so_far D d low high first passed (undecided earlier) h = (first, λ e a b. by_eq e d (λ z. subst (Passed limit p) (sym z) h) (λ z. passed e a (omega arith)))
    so_far D d low high first passed (decided v earlier) h = decides d low high (first (omega arith)) passed h

    depths_course : (D n d : ℕ) → n + d ≡ D → (r : Proving) → SoFar D d r → Course earliest limit p D (depths limit p n d r).verdict
    unfolding depths
    depths_course D zero d z (undecided earlier) h =
        let q : D ≡ d = omega arith in subst (λ k. Course earliest limit p D (Inconclusive k)) q (passes h.0 (λ e a b. h.1 e a (omega arith)))
    depths_course D zero d z (decided v earlier) h = h
    depths_course D (suc n) d z (undecided earlier) h =
        depths_course D n (suc d) (omega arith) (at_depth limit p (suc d) earlier)
        (so_far D (suc d) (omega arith) (omega arith) h.0 (λ e a b. h.1 e a (omega arith)) (at_depth limit p (suc d) earlier) (depth_leaves (suc d) earlier))
    depths_course D (suc n) d z (decided v earlier) h = h

  -- what is known before query 1 of depth 1
  after_0 : (D : ℕ) → 1 ≤ D → (a : Answer) → ask limit (base_counterexample p 0) ≡ a → SoFar true D 0 (after_query0 (base_counterexample p 0).comparisons a)
  unfolding after_query0
  after_0 D low (model values n) e = decides_0 refl low (differs_0 values n e)
  after_0 D low (no_model n) e = (λ l. (n, e), λ i a b. absurd (omega arith))
  after_0 D low (gave_up n) e = decides_0 refl low (stops_0 (exceeds limit _ (query_1_askable p 0) n e))
  after_0 D low (out_of_fuel n) e = absurd (ends limit _ (query_1_askable p 0) n e)

  before_course : (earliest : Bool) (D : ℕ) → SoFar earliest D 0 (before_query1 earliest limit p D)
  unfolding before_query1 query0
  before_course false D = (λ l. tt, λ e a b. absurd (omega arith))
  before_course true zero = (λ l. absurd (omega arith), λ e a b. absurd (omega arith))
  before_course true (suc n) = after_0 (suc n) (omega arith) (ask limit (base_counterexample p 0)) refl

  -- every verdict has its course; none is that a search ran out of rounds
  pub verdict_course : (earliest : Bool) (D : ℕ) → Course earliest limit p D (prove_sequential_equivalence earliest limit p D).verdict
  unfolding prove_sequential_equivalence
  verdict_course earliest D = depths_course earliest D D 0 (omega arith) (before_query1 earliest limit p D) (before_course earliest D)

  -- ---- a course has one verdict

  -- query 4 is asked after the others, whatever comes of it
  to_4 : (d : ℕ) → NoModel limit (base_counterexample p d) → NamedOpen limit p d → (earlier : List Asked) → (later : List Asked) × (at_depth limit p d earlier ≡ query4 limit p d later)
  unfolding at_depth query1 after_query1 after_query2 after_query3
  to_4 d f (inl m) earlier =
      let x = asked_too earlier d 1 f.0 in
      (asked_too x d 2 m.1, ap (after_query1 limit p d earlier (base_counterexample p d).comparisons) f.1 ∙ ap (after_query2 limit p d x) m.2)
  to_4 d f (inr m) earlier =
      let x = asked_too earlier d 1 f.0 in
      let y = asked_too x d 2 m.0.0 in (
        asked_too y d 3 m.1.1,
        ap (after_query1 limit p d earlier (base_counterexample p d).comparisons) f.1 ∙ ap (after_query2 limit p d x) m.0.1 ∙ ap (after_query3 limit p d y) m.1.2,
      )

  -- the answers of the first three queries, put in one after another
  to_2 : (d : ℕ) (f : NoModel limit (base_counterexample p d)) (a : Answer) → ask limit (base_preserves_named_state p d) ≡ a → (earlier : List Asked)
      → at_depth limit p d earlier ≡ after_query2 limit p d (asked_too earlier d 1 f.0) a
  unfolding at_depth query1 after_query1
  to_2 d f a e earlier = ap (after_query1 limit p d earlier (base_counterexample p d).comparisons) f.1 ∙ ap (after_query2 limit p d (asked_too earlier d 1 f.0)) e

  to_3 : (d : ℕ) (f : NoModel limit (base_counterexample p d)) (s : NoModel limit (base_preserves_named_state p d)) (a : Answer) → ask limit (induction_closes p true d) ≡ a → (earlier : List Asked)
      → at_depth limit p d earlier ≡ after_query3 limit p d (asked_too (asked_too earlier d 1 f.0) d 2 s.0) a
  unfolding after_query2
  to_3 d f s a e earlier = to_2 d f (no_model s.0) s.1 earlier ∙ ap (after_query3 limit p d (asked_too (asked_too earlier d 1 f.0) d 2 s.0)) e

  pass : (d : ℕ) → Passed limit p d → (earlier : List Asked) → (later : List Asked) × (at_depth limit p d earlier ≡ undecided later)
  unfolding query4 after_query4
  pass d w earlier =
      let x = to_4 d w.first w.named earlier in
      (asked_too x.0 d 4 w.last.1, x.1 ∙ ap (after_query4 d x.0) w.last.2)

  -- a give-up's query answers so
  stop : (d q : ℕ) → Stops limit p d q → (earlier : List Asked) → (later : List Asked) × (at_depth limit p d earlier ≡ decided (GaveUp d q) later)
  unfolding at_depth query1 after_query1 after_query2 after_query3 query4 after_query4
  stop d q (at_query_1 x) earlier =
      let g = gave_up_lem limit _ (query_1_askable p d) x in
      (asked_too earlier d 1 g.0, ap (after_query1 limit p d earlier (base_counterexample p d).comparisons) g.1)
  stop d q (at_query_2 f x) earlier =
      let g = gave_up_lem limit _ (query_2_askable p d) x in
      (asked_too (asked_too earlier d 1 f.0) d 2 g.0, unfold at_depth query1 after_query1 in to_2 d f (gave_up g.0) g.1 earlier)
  stop d q (at_query_3 f s x) earlier =
      let g = gave_up_lem limit _ (query_3_4_askable p true d) x in
      (asked_too (asked_too (asked_too earlier d 1 f.0) d 2 s.0) d 3 g.0, to_3 d f s (gave_up g.0) g.1 earlier)
  stop d q (at_query_4 f s x) earlier =
      let g = gave_up_lem limit _ (query_3_4_askable p false d) x in
      let y = to_4 d f s earlier in
      (asked_too y.0 d 4 g.0, y.1 ∙ ap (after_query4 d y.0) g.1)

  decide : (d : ℕ) (v : Verdict) → Decides limit p d v → (earlier : List Asked) → (later : List Asked) × (at_depth limit p d earlier ≡ decided v later)
  unfolding at_depth query1 after_query1 after_query3 query4 after_query4
  decide d v (differs values n e) earlier = (asked_too earlier d 1 n, ap (after_query1 limit p d earlier (base_counterexample p d).comparisons) e)
  decide d v (closes_named f s x) earlier =
      (asked_too (asked_too (asked_too earlier d 1 f.0) d 2 s.0) d 3 x.0, to_3 d f s (no_model x.0) x.1 earlier)
  decide d v (closes f s x) earlier = let y = to_4 d f s earlier in (asked_too y.0 d 4 x.0, y.1 ∙ ap (after_query4 d y.0) x.1)
  decide d v (stops {q = q} s) earlier = stop d q s earlier

  verdict_now : (n d : ℕ) (v : Verdict) (earlier : List Asked) → (depths limit p n d (decided v earlier)).verdict ≡ v
  unfolding depths
  verdict_now zero d v earlier = refl
  verdict_now (suc n) d v earlier = refl

  -- from depth d on, to the depth e that decides
  depths-decide : (n d e : ℕ) (v : Verdict) → d < e → e ≤ n + d → ((k : ℕ) → 1 ≤ k → k < e → Passed limit p k) → Decides limit p e v → (earlier : List Asked)
      → (depths limit p n d (undecided earlier)).verdict ≡ v
  unfolding depths
  depths-decide zero d e v a b f s earlier = absurd (omega arith)
  depths-decide (suc n) d e v a b f s earlier =
      by_eq (suc d) e
      (λ z. let x = decide (suc d) v (subst (λ k. Decides limit p k v) (sym z) s) earlier in ap (λ r. (depths limit p n (suc d) r).verdict) x.1 ∙ verdict_now n (suc d) v x.0)
      (λ z.
      let x = pass (suc d) (f (suc d) (omega arith) (omega arith)) earlier in
      ap (λ r. (depths limit p n (suc d) r).verdict) x.1 ∙ depths-decide n (suc d) e v (omega arith) (omega arith) f s x.0)

  depths_pass : (n d : ℕ) → ((k : ℕ) → 1 ≤ k → k ≤ n + d → Passed limit p k) → (earlier : List Asked) → (depths limit p n d (undecided earlier)).verdict ≡ Inconclusive (n + d)
  unfolding depths
  depths_pass zero d f earlier = let z : d ≡ 0 + d = omega arith in ap Inconclusive z
  depths_pass (suc n) d f earlier =
      let x = pass (suc d) (f (suc d) (omega arith) (omega arith)) earlier in
      let z : n + suc d ≡ suc n + d = omega arith in
      ap (λ r. (depths limit p n (suc d) r).verdict) x.1 ∙ depths_pass n (suc d) (λ k a b. f k a (omega arith)) x.0 ∙ ap Inconclusive z

  -- query 0 decides
  decide_0 : (v : Verdict) → Decides0 limit p v → (asked : List Asked) × (query0 limit (base_counterexample p 0) ≡ decided v asked)
  unfolding query0 after_query0
  decide_0 v (differs_0 values n e) = (asked_too [] 1 0 n, ap (after_query0 (base_counterexample p 0).comparisons) e)
  decide_0 v (stops_0 x) =
      let g = gave_up_lem limit _ (query_1_askable p 0) x in
      (asked_too [] 1 0 g.0, ap (after_query0 (base_counterexample p 0).comparisons) g.1)

  -- or it is passed
  before_passed : (earliest : Bool) (D : ℕ) → (1 ≤ D → Cycle0Passed earliest limit p) → (asked : List Asked) × (before_query1 earliest limit p D ≡ undecided asked)
  unfolding before_query1 query0 after_query0
  before_passed false D f = ([], refl)
  before_passed true zero f = ([], refl)
  before_passed true (suc n) f =
      let x = f (omega arith) in
      (asked_too [] 1 0 x.0, ap (after_query0 (base_counterexample p 0).comparisons) x.1)

  before-decided : (D : ℕ) (v : Verdict) → 1 ≤ D → Decides0 limit p v → (depths limit p D 0 (before_query1 true limit p D)).verdict ≡ v
  unfolding before_query1
  before-decided zero v low w = absurd (omega arith)
  before-decided (suc n) v low w = let x = decide_0 v w in ap (λ r. (depths limit p (suc n) 0 r).verdict) x.1 ∙ verdict_now (suc n) 0 v x.0

  -- the verdict of a course is the check's
  pub course_verdict : (earliest : Bool) (D : ℕ) (v : Verdict) → Course earliest limit p D v → (prove_sequential_equivalence earliest limit p D).verdict ≡ v
  unfolding prove_sequential_equivalence
  course_verdict earliest D v (decides_0 mode low w) = ap (λ e. (depths limit p D 0 (before_query1 e limit p D)).verdict) mode ∙ before-decided D v low w
  course_verdict earliest D v (decides d low high first passed w) =
      let x = before_passed earliest D (λ l. first) in
      ap (λ r. (depths limit p D 0 r).verdict) x.1 ∙ depths-decide D 0 d v (omega arith) (omega arith) passed w x.0
  course_verdict earliest D v (passes first f) =
      let x = before_passed earliest D first in
      let z : D + 0 ≡ D = omega arith in
      ap (λ r. (depths limit p D 0 r).verdict) x.1 ∙ depths_pass D 0 (λ k a b. f k a (omega arith)) x.0 ∙ ap Inconclusive z
