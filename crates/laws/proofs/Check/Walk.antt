-- The walk of a check over its queries: which it asks, one after another, until its verdict. Assumes nothing.
use Prim.Native.Nat.{ℕ, zero, suc, ◌+◌, ◌≤◌, ◌<◌}
use native.Mathlib.Omega.{arith}
use Rattle.std.specs.Prelude.{◌≡◌, Bool, List, []}
use Rattle.std.proofs.Math.Path.{refl, subst}
use Rattle.std.proofs.Common.{sym}
use Rattle.std.proofs.Math.Bool.{true, false}
use Rattle.model.specs.Answers.{Asked}
use Rattle.model.specs.Options.{first_query}
use Rattle.model.specs.Sat.{Answer, model, no_model, gave_up, out_of_fuel}
use Rattle.model.specs.Equivalence.{Problem, Query, base_counterexample, base_preserves_named_state, induction_closes, ask, Verdict, Equivalent, NotEquivalent, Inconclusive, GaveUp, OutOfFuel, Proving, undecided, decided, asked_too, not_equivalent_at, after_query4, query4, after_query3, after_query2, after_query1, query1, at_depth, depths, after_query0, query0, before_query1, prove_sequential_equivalence}
use Rattle.facts.specs.Lists.{All}
use Rattle.laws.specs.Lists.{all_snoc}
use Rattle.laws.specs.Terms.{Settled, answer_total, QueryOf, query_0, query_1, query_2, query_3, query_4}
use Rattle.laws.proofs.Check.Queries.{query-ends}

-- a verdict that neither the limit nor the rounds cut short
abbrev pub Final : Verdict → Type 0
Final (Equivalent d) = Unit {0}
Final (NotEquivalent d m bytes) = Unit {0}
Final (Inconclusive d) = Unit {0}
Final (GaveUp d q) = ⊥
Final OutOfFuel = ⊥

-- the queries asked before the one with number k of depth d, each settled without deciding; after the last of a depth k is 5. To depth 0 none is asked
pub data Asking (earliest : Bool) (limit : ℕ) (p : Problem) (D : ℕ) : ℕ → ℕ → List Asked → Type 0 where
  nothing : D ≡ 0 → Asking earliest limit p D 0 5 []
  first : 1 ≤ D → Asking earliest limit p D 1 (first_query earliest) []
  deeper : {d : ℕ} {earlier : List Asked} → 1 ≤ d → Asking earliest limit p D d 5 earlier → suc d ≤ D → Asking earliest limit p D (suc d) 1 earlier
  further : {d k : ℕ} {earlier : List Asked} (q : Query) (a : Answer) (next : ℕ) → Asking earliest limit p D d k earlier → QueryOf p d k q → ask limit q ≡ a → Settled a → k < next
      → Asking earliest limit p D d next (asked_too earlier d k (answer_total a))

-- the queries asked until the verdict: all were settled without deciding, the last gave up, or the last was settled and decided
pub data Walked (earliest : Bool) (limit : ℕ) (p : Problem) (D : ℕ) : Verdict → List Asked → Type 0 where
  all_passed : {earlier : List Asked} → Asking earliest limit p D D 5 earlier → Walked earliest limit p D (Inconclusive D) earlier
  last_gave_up : {d k : ℕ} {earlier : List Asked} (q : Query) (n : ℕ) → Asking earliest limit p D d k earlier → QueryOf p d k q → ask limit q ≡ gave_up n
      → Walked earliest limit p D (GaveUp d k) (asked_too earlier d k n)
  last_decided : {d k : ℕ} {earlier : List Asked} {v : Verdict} (q : Query) (a : Answer) → Asking earliest limit p D d k earlier → QueryOf p d k q → ask limit q ≡ a → Settled a → Final v
      → Walked earliest limit p D v (asked_too earlier d k (answer_total a))

module _ (earliest : Bool) (limit : ℕ) (p : Problem) (D : ℕ) where
  -- what the queries of depth d leave
  abbrev Leaves : ℕ → Proving → Type 0
  Leaves d (undecided earlier) = Asking earliest limit p D d 5 earlier
  Leaves d (decided v earlier) = Walked earliest limit p D v earlier

  module _ (d : ℕ) where
    after_4 : (earlier : List Asked) → Asking earliest limit p D d 4 earlier → (a : Answer) → ask limit (induction_closes p false d) ≡ a → Leaves d (after_query4 d earlier a)
    unfolding after_query4 answer_total
    after_4 earlier h (model values n) e = further _ (model values n) 5 h query_4 e tt (omega arith)
    after_4 earlier h (no_model n) e = last_decided _ (no_model n) h query_4 e tt tt
    after_4 earlier h (gave_up n) e = last_gave_up _ n h query_4 e
    after_4 earlier h (out_of_fuel n) e = absurd (query-ends limit p d 4 _ query_4 n e)

    ask_4 : (earlier : List Asked) → Asking earliest limit p D d 4 earlier → Leaves d (query4 limit p d earlier)
    unfolding query4
    ask_4 earlier h = after_4 earlier h (ask limit (induction_closes p false d)) refl

    after_3 : (earlier : List Asked) → Asking earliest limit p D d 3 earlier → (a : Answer) → ask limit (induction_closes p true d) ≡ a → Leaves d (after_query3 limit p d earlier a)
    unfolding after_query3 answer_total
    after_3 earlier h (model values n) e = ask_4 _ (further _ (model values n) 4 h query_3 e tt (omega arith))
    after_3 earlier h (no_model n) e = last_decided _ (no_model n) h query_3 e tt tt
    after_3 earlier h (gave_up n) e = last_gave_up _ n h query_3 e
    after_3 earlier h (out_of_fuel n) e = absurd (query-ends limit p d 3 _ query_3 n e)

    after_2 : (earlier : List Asked) → Asking earliest limit p D d 2 earlier → (a : Answer) → ask limit (base_preserves_named_state p d) ≡ a → Leaves d (after_query2 limit p d earlier a)
    unfolding after_query2 answer_total
    after_2 earlier h (model values n) e = ask_4 _ (further _ (model values n) 4 h query_2 e tt (omega arith))
    after_2 earlier h (no_model n) e = after_3 _ (further _ (no_model n) 3 h query_2 e tt (omega arith)) (ask limit (induction_closes p true d)) refl
    after_2 earlier h (gave_up n) e = last_gave_up _ n h query_2 e
    after_2 earlier h (out_of_fuel n) e = absurd (query-ends limit p d 2 _ query_2 n e)

    after_1 : (earlier : List Asked) → Asking earliest limit p D d 1 earlier → (a : Answer) → ask limit (base_counterexample p d) ≡ a → Leaves d (after_query1 limit p d earlier (base_counterexample p d).comparisons a)
    unfolding after_query1 answer_total not_equivalent_at
    after_1 earlier h (model values n) e = last_decided _ (model values n) h query_1 e tt tt
    after_1 earlier h (no_model n) e = after_2 _ (further _ (no_model n) 2 h query_1 e tt (omega arith)) (ask limit (base_preserves_named_state p d)) refl
    after_1 earlier h (gave_up n) e = last_gave_up _ n h query_1 e
    after_1 earlier h (out_of_fuel n) e = absurd (query-ends limit p d 1 _ query_1 n e)

    depth_leaves : (earlier : List Asked) → Asking earliest limit p D d 1 earlier → Leaves d (at_depth limit p d earlier)
    unfolding at_depth query1
    depth_leaves earlier h = after_1 earlier h (ask limit (base_counterexample p d)) refl

  depths-walk : (n d : ℕ) → 1 ≤ d → n + d ≡ D → (r : Proving) → Leaves d r → Walked earliest limit p D (depths limit p n d r).verdict (depths limit p n d r).asked
  unfolding depths
  depths-walk zero d low z (undecided earlier) h =
      let e : D ≡ d = omega arith in subst (λ k. Walked earliest limit p D (Inconclusive k) earlier) e (all_passed (subst (λ k. Asking earliest limit p D k 5 earlier) (sym e) h))
  depths-walk zero d low z (decided v earlier) h = h
  depths-walk (suc n) d low z (undecided earlier) h =
      depths-walk n (suc d) (omega arith) (omega arith) (at_depth limit p (suc d) earlier) (depth_leaves (suc d) earlier (deeper low h (omega arith)))
  depths-walk (suc n) d low z (decided v earlier) h = h

  -- what comes before query 1 of depth 1, where there is one
  abbrev Begins : Proving → Type 0
  Begins (undecided earlier) = Asking earliest limit p D 1 1 earlier
  Begins (decided v earlier) = Walked earliest limit p D v earlier

  begun-walk : (n : ℕ) → suc n ≡ D → (r : Proving) → Begins r → Walked earliest limit p D (depths limit p (suc n) 0 r).verdict (depths limit p (suc n) 0 r).asked
  unfolding depths
  begun-walk n z (undecided earlier) h = depths-walk n 1 (omega arith) (omega arith) (at_depth limit p 1 earlier) (depth_leaves 1 earlier h)
  begun-walk n z (decided v earlier) h = h

module _ (limit : ℕ) (p : Problem) where
  after_0 : (D : ℕ) → 1 ≤ D → (a : Answer) → ask limit (base_counterexample p 0) ≡ a → Begins true limit p D (after_query0 (base_counterexample p 0).comparisons a)
  unfolding after_query0 answer_total not_equivalent_at first_query
  after_0 D low (model values n) e = last_decided _ (model values n) (first low) query_0 e tt tt
  after_0 D low (no_model n) e = further _ (no_model n) 1 (first low) query_0 e tt (omega arith)
  after_0 D low (gave_up n) e = last_gave_up _ n (first low) query_0 e
  after_0 D low (out_of_fuel n) e = absurd (query-ends limit p 1 0 _ query_0 n e)

  before_1 : (earliest : Bool) (n : ℕ) → Begins earliest limit p (suc n) (before_query1 earliest limit p (suc n))
  unfolding before_query1 query0 first_query
  before_1 false n = first (omega arith)
  before_1 true n = after_0 (suc n) (omega arith) (ask limit (base_counterexample p 0)) refl

  -- to depth 0 nothing is asked
  before-none : (earliest : Bool) → before_query1 earliest limit p 0 ≡ undecided []
  unfolding before_query1
  before-none false = refl
  before-none true = refl

  -- every check walks so
  pub prove_walk : (earliest : Bool) (D : ℕ) → Walked earliest limit p D (prove_sequential_equivalence earliest limit p D).verdict (prove_sequential_equivalence earliest limit p D).asked
  unfolding prove_sequential_equivalence depths
  prove_walk earliest zero = rw (before-none earliest) (all_passed (nothing refl))
  prove_walk earliest (suc n) = begun-walk earliest limit p (suc n) n refl (before_query1 earliest limit p (suc n)) (before_1 earliest n)

module _ (earliest : Bool) (limit : ℕ) (p : Problem) (D : ℕ) where
  -- ---- the depths

  number_small : (d k : ℕ) (q : Query) → QueryOf p d k q → k ≤ 4
  number_small d k q query_0 = omega arith
  number_small d k q query_1 = omega arith
  number_small d k q query_2 = omega arith
  number_small d k q query_3 = omega arith
  number_small d k q query_4 = omega arith

  depth_low : (d k : ℕ) (earlier : List Asked) → Asking earliest limit p D d k earlier → k ≤ 4 → 1 ≤ d
  depth_low d k earlier (nothing z) s = absurd (omega arith)
  depth_low d k earlier (first l) s = omega arith
  depth_low d k earlier (deeper l h m) s = omega arith
  depth_low d k earlier (further {k = j} {earlier = es} q a n h w e t l) s = depth_low d j es h (omega arith)

  -- a depth that is reached is at most the maximum
  pub asking-high : (d k : ℕ) (earlier : List Asked) → Asking earliest limit p D d k earlier → d ≤ D
  asking-high d k earlier (nothing z) = omega arith
  asking-high d k earlier (first l) = l
  asking-high d k earlier (deeper l h m) = m
  asking-high d k earlier (further {k = j} {earlier = es} q a n h w e t l) = asking-high d j es h

  -- a query that is asked has depth 1 or more
  pub asked_low : (d k : ℕ) (earlier : List Asked) (q : Query) → Asking earliest limit p D d k earlier → QueryOf p d k q → 1 ≤ d
  asked_low d k earlier q h w = depth_low d k earlier h (number_small d k q w)

  -- ---- a fact of every query asked

  module _ (P : Asked → Type 0) (asks : (d k : ℕ) (q : Query) → QueryOf p d k q → 1 ≤ d → d ≤ D → P (record { depth = d; query = k; learned = answer_total (ask limit q) })) where
    one_more : (d k : ℕ) (earlier : List Asked) (q : Query) (a : Answer) → Asking earliest limit p D d k earlier → QueryOf p d k q → ask limit q ≡ a → All P earlier
        → All P (asked_too earlier d k (answer_total a))
    unfolding asked_too
    one_more d k earlier q a h w e f =
        all_snoc P earlier _ f
        (subst (λ x. P (record { depth = d; query = k; learned = answer_total x })) e
        (asks d k q w (asked_low d k earlier q h w) (asking-high d k earlier h)))

    asking-all : (d k : ℕ) (earlier : List Asked) → Asking earliest limit p D d k earlier → All P earlier
    asking-all d k earlier (nothing z) = tt
    asking-all d k earlier (first l) = tt
    asking-all d k earlier (deeper {d = c} l h m) = asking-all c 5 earlier h
    asking-all d k earlier (further {k = j} {earlier = es} q a n h w e t l) = one_more d j es q a h w e (asking-all d j es h)

    -- what every query that may be asked has, every query asked has
    pub walk-all : (v : Verdict) (asked : List Asked) → Walked earliest limit p D v asked → All P asked
    unfolding answer_total
    walk-all v asked (all_passed h) = asking-all D 5 asked h
    walk-all v asked (last_gave_up {d = d} {k = k} {earlier = es} q n h w e) = one_more d k es q (gave_up n) h w e (asking-all d k es h)
    walk-all v asked (last_decided {d = d} {k = k} {earlier = es} q a h w e t f) = one_more d k es q a h w e (asking-all d k es h)
