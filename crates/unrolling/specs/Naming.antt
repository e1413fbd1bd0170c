-- The comparison of literals with others at their places, one after another: outputs, and states named alike. Assumes nothing.
use Rattle.std.specs.Prelude.{◌≡◌, refl, Bool, true, false, List, [], ℕ, zero, suc, ◌+◌, ◌*◌, ◌≤◌, ◌<◌, get_or}
use Rattle.std.proofs.Math.Option.{Option, none, some}
use Rattle.std.proofs.Common.{ap, arith, add-one}
use Rattle.model.specs.Literal.{Literal}
use Rattle.model.specs.Lists.{snoc}
use Rattle.model.specs.Aig.{Built}
use Rattle.model.specs.Equivalence.{compare_pairs}
use Rattle.aig.specs.Graph.{graph_of}
use Rattle.aig.specs.Made.{Made}
use Rattle.lowering.specs.Firsts.{pairs, Below}
use Rattle.unrolling.specs.Comparing.{or_difference, compare-more}
use Rattle.unrolling.specs.Comparing as Comparing
use Rattle.unrolling.specs.Matching.{at_match, add_pair, named_by, shared_match}
use Rattle.unrolling.specs.Matched.{Places}

-- the mismatch so far, or a difference from what stands at a match
unfoldable pub or_named : Literal → Option Literal → Built → Built
or_named l none m = m
or_named l (some k) m = or_difference l k m

-- each match of the first n is at most 128, and the literals up to it are below k
pub record MatchesBelow (k n : ℕ) (ms ks : List ℕ) : Type 0 where
  pub small : (i : ℕ) → i < n → get_or ms i 0 ≤ 128
  pub at : (i : ℕ) → i < n → Below k (get_or ms i 0) ks

-- where all matches are of m literals that are below k
pub matches-below : (k n m : ℕ) (ms ks : List ℕ) → m ≤ 128 → Below (m + 1) n ms → Below k m ks → MatchesBelow k n ms ks
matches-below k n m ms ks h b c =
    record { small = λ i l. omega (arith, b.at i l); at = λ i l. record { at = λ j x. c.at j (omega (arith, b.at i l)) } }

-- the pairs of the first n literals that have another at their place
unfoldable pub paired_by : ℕ → Places → List ℕ → List (ℕ × ℕ)
paired_by zero f ls = []
paired_by (suc n) f ls = add_pair (paired_by n f ls) (get_or ls n 0) (f n)

paired-suc : (n : ℕ) (f : Places) (ls : List ℕ) → paired_by (n + 1) f ls ≡ add_pair (paired_by n f ls) (get_or ls n 0) (f n)
unfolding paired_by
paired-suc n f ls = rw add-one

-- with another at each place
pub all-paired : (n : ℕ) (ls ks : List ℕ) → paired_by n (λ i. some (get_or ks i 0)) ls ≡ pairs n ls ks
unfolding paired_by add_pair pairs
all-paired zero ls ks = refl
all-paired (suc n) ls ks = ap (λ (ps : List (ℕ × ℕ)). snoc ps (get_or ls n 0, get_or ks n 0)) (all-paired n ls ks)

-- with another at each match
pub named-paired : (n : ℕ) (ms ls ks : List ℕ) → paired_by n (λ i. at_match (get_or ms i 0) ks) ls ≡ named_by n ms ls ks
unfolding paired_by named_by
named-paired zero ms ls ks = refl
named-paired (suc n) ms ls ks = ap (λ (ps : List (ℕ × ℕ)). add_pair ps (get_or ls n 0) (at_match (get_or ms n 0) ks)) (named-paired n ms ls ks)

-- a comparison and one place more
pub paired_more : (i c₀ : ℕ) (w₀ : List ℕ) (c : ℕ) (w : List ℕ) (m c' : ℕ) (w' : List ℕ) (l : ℕ) (f : Places) (ls : List ℕ)
    → Made (4 * i) c₀ w₀ c w m (compare_pairs (graph_of c₀ w₀) (paired_by i f ls)) → Made 4 c w c' w' l (or_named (get_or ls i 0) (f i) (record { aig = graph_of c w; literal = m }))
    → Made (4 * (i + 1)) c₀ w₀ c' w' l (compare_pairs (graph_of c₀ w₀) (paired_by (i + 1) f ls))
unfolding or_named add_pair
paired_more i c₀ w₀ c w m c' w' l f ls s t = rw (paired-suc i f ls) (go (f i) t)
  where
    go : (o : Option ℕ) → Made 4 c w c' w' l (or_named (get_or ls i 0) o (record { aig = graph_of c w; literal = m }))
        → Made (4 * (i + 1)) c₀ w₀ c' w' l (compare_pairs (graph_of c₀ w₀) (add_pair (paired_by i f ls) (get_or ls i 0) o))
    go none u = Comparing.made_then (4 * i) 4 (4 * (i + 1)) c₀ w₀ c w m _ c' w' l (λ (b : Built). b) (omega arith) s u
    go (some k) u = compare-more i c₀ w₀ c w m c' w' l (paired_by i f ls) (get_or ls i 0) k s u

-- a match that counts only where named states are shared is no larger than the match
pub shared_le : (share : Bool) (m : ℕ) → shared_match share m ≤ m
unfolding shared_match
shared_le true m = omega arith
shared_le false m = omega arith
