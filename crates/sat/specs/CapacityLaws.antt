-- What an analysis learns fits its region and is a clause: the learned literals have distinct variables above 0. Assumes nothing.
use Rattle.std.specs.Prelude.{◌≢◌, ◌≡◌, refl, true, not, List, [], ◌∷◌, ℕ, zero, suc, ◌-◌, ◌*◌, ◌<◌, ◌≤◌, length, get_or}
use Rattle.std.proofs.Common.{ap, sym, ◌∙◌, arith}
use Rattle.words.specs.Layout.{MOST-NODES}
use Rattle.model.specs.Literal.{Literal, node, negate}
use Rattle.model.specs.Sat as Sat
use Rattle.laws.specs.Graph.Values.{node-negate}
use Rattle.facts.specs.Lists.{All, all-at, all_map}
use Rattle.laws.specs.Search.Trail.{Range}
use Rattle.laws.specs.Search.Pigeonhole.{pigeon}
use Rattle.laws.specs.Search.State.{Stuck}
use Rattle.laws.specs.Search.Sorting.{Distinct, sort-all, sort-distinct, sort-length, distinct_plain, distinct-at}
use Rattle.laws.specs.Search.Analysis.{Analyzed, AnalysisEnded}
use Rattle.laws.specs.Search.Learning.{learned-range}
use Rattle.clauses.specs.State.{AllBelow, clean}
use Rattle.analysis.specs.Analysis.{Bounded}

-- fewer than there are variables
few : (n : ℕ) (ls : List Literal) → All (Range n) ls → Distinct ls → length ls ≤ n - 1
few n ls r d =
    pigeon (n - 1) (length ls) (λ p. node (get_or ls p 0) - 1) (λ p h. omega (arith, (all-at (Range n) ls r p h).0, (all-at (Range n) ls r p h).1))
    (λ p q a h e. distinct-at ls d p q a h (omega (arith, e, (all-at (Range n) ls r p (omega arith)).0, (all-at (Range n) ls r q h).0)))

-- an analysis that ended fits
pub analysis-fits : (n : ℕ) (cs : List Sat.Clause) (t : Sat.Assignment) (r : Sat.Resolution) → n ≤ MOST-NODES → AnalysisEnded n cs t r → Bounded r
analysis-fits n cs t (Sat.resolving a i id v) h e = e
analysis-fits n cs t (Sat.resolved a p) h e = omega (arith, few n a.learned e.ranges e.apart)

-- ---- the learned clause

-- literals of the variables are below twice their number
all-below : (n : ℕ) (ls : List Literal) → All (Range n) ls → AllBelow (n * 2) ls
unfolding node
all-below n [] h = tt
all-below n (l ∷ ls) h = (omega (arith, h.0.1), all-below n ls h.1)

-- distinct variables make a clause
distinct-clean : (ls : List Literal) → 0 < length ls → Distinct ls → clean ls ≡ true
unfolding clean
distinct-clean [] h d = absurd (omega arith)
distinct-clean (x ∷ xs) h d = ap not (distinct_plain x xs d)

module _ (n : ℕ) (C : List Sat.Clause) (s : Sat.Solver) (w : Stuck n C s) (some_level : 0 < length s.assignment.trail_limits) (a : Sat.Analysis) (p : Literal)
    (z : Analyzed n s.clauses s.assignment a p) where
  -- the pivot's variable is of the current level
  pivot-level : length s.assignment.trail_limits ≤ get_or s.assignment.levels (node p) 0
  pivot-level = go (length s.assignment.trail_limits) refl some_level
    where
      go : (k : ℕ) → length s.assignment.trail_limits ≡ k → 0 < k → length s.assignment.trail_limits ≤ get_or s.assignment.levels (node p) 0
      go zero e h = absurd (omega arith)
      go (suc k) e h =
          omega (
            arith,
            w.core.justified.trail_inv.deep z.place k z.place_in (omega arith) (z.current k (omega arith)),
            ap (λ l. get_or s.assignment.levels (node l) 0) z.here,
          )

  -- the asserting literal and the others
  abbrev clause : List Literal
  clause = negate p ∷ a.learned

  clause-distinct : Distinct clause
  clause-distinct = (
    all_map (λ l. get_or s.assignment.levels (node l) 0 < length s.assignment.trail_limits) (λ l. node (negate p) ≢ node l)
        (λ l h e. omega (arith, h, pivot-level, ap (λ u. get_or s.assignment.levels u 0) (sym (node-negate p) ∙ e))) a.learned z.levels,
    z.apart,
  )

  -- its literals are of the variables
  clause-ranges : All (Range n) clause
  clause-ranges = (learned-range n C s w some_level a.scores a p z z.size, z.ranges)

  pub asserting_below : negate p < n * 2
  asserting_below = (all-below n clause clause-ranges).0

  pub clause-below : AllBelow (n * 2) (Sat.sort_literals clause)
  clause-below = all-below n (Sat.sort_literals clause) (sort-all (Range n) clause clause-ranges)

  pub clause-length : length (Sat.sort_literals clause) ≡ suc (length a.learned)
  clause-length = sort-length clause clause-distinct

  pub clause-clean : clean (Sat.sort_literals clause) ≡ true
  clause-clean = distinct-clean (Sat.sort_literals clause) (omega (arith, clause-length)) (sort-distinct clause clause-distinct)
