-- Comparisons of pairs of literals, one pair after another. Assumes nothing.
use Rattle.std.specs.Prelude.{◌≡◌, refl, List, [], ◌∷◌, ℕ, ◌+◌, ◌*◌, ◌≤◌}
use Rattle.std.proofs.Common.{ap, ◌∙◌, arith}
use Rattle.model.specs.Literal.{Literal, FALSE}
use Rattle.model.specs.Lists.{snoc}
use Rattle.model.specs.Aig.{Aig, Built, xor, or}
use Rattle.model.specs.Equivalence.{or_mismatch, any_difference, compare_pairs}
use Rattle.aig.specs.Graph.{graph_of}
use Rattle.aig.specs.Made.{Ready, Made, made_none, same_trans}

-- one operation after another
pub made_then : (j k n c₀ : ℕ) (w₀ : List ℕ) (c : ℕ) (w : List ℕ) (m : ℕ) (b : Built) (c' : ℕ) (w' : List ℕ) (l : ℕ) (f : Built → Built) → j + k ≤ n
    → Made j c₀ w₀ c w m b → Made k c w c' w' l (f (record { aig = graph_of c w; literal = m })) → Made n c₀ w₀ c' w' l (f b)
made_then j k n c₀ w₀ c w m b c' w' l f h s t =
    record {
      built = t.built ∙ ap f s.built;
      ready = t.ready;
      same = same_trans s.same t.same;
      grows = omega (arith, s.grows, t.grows);
      within = omega (arith, s.within, t.within);
      below = t.below;
    }

-- the mismatch so far, or a difference of two literals
unfoldable pub or_difference : Literal → Literal → Built → Built
or_difference a b m = or_mismatch m.literal (xor m.aig a b)

-- the words after the exclusive or and the disjunction
pub difference_made : (c₀ : ℕ) (w₀ : List ℕ) (m a b c : ℕ) (w : List ℕ) (x c' : ℕ) (w' : List ℕ) (l : ℕ)
    → Made 3 c₀ w₀ c w x (xor (graph_of c₀ w₀) a b) → Made 1 c w c' w' l (or (graph_of c w) m x) → Made 4 c₀ w₀ c' w' l (or_difference a b (record { aig = graph_of c₀ w₀; literal = m }))
unfolding or_difference or_mismatch
difference_made c₀ w₀ m a b c w x c' w' l s t =
    made_then 3 1 4 c₀ w₀ c w x _ c' w' l (λ (d : Built). or d.aig m d.literal) (omega arith) s t

difference_snoc : (m : Built) (ps : List (Literal × Literal)) (p : Literal × Literal) → any_difference m (snoc ps p) ≡ or_difference p.0 p.1 (any_difference m ps)
unfolding any_difference or_difference snoc
difference_snoc m [] p = refl
difference_snoc m (q ∷ ps) p = difference_snoc (or_mismatch m.literal (xor m.aig q.0 q.1)) ps p

-- one pair more
pub compare-snoc : (g : Aig) (ps : List (Literal × Literal)) (p : Literal × Literal) → compare_pairs g (snoc ps p) ≡ or_difference p.0 p.1 (compare_pairs g ps)
unfolding compare_pairs
compare-snoc g ps p = difference_snoc (record { aig = g; literal = FALSE }) ps p

-- no pair
pub compare-none : (c : ℕ) (w : List ℕ) → Ready c w → Made 0 c w c w 0 (compare_pairs (graph_of c w) [])
unfolding compare_pairs any_difference
compare-none c w r = made_none 0 c w 0 _ r (omega (arith, r.positive)) refl

-- a comparison and one pair more
pub compare-more : (i c₀ : ℕ) (w₀ : List ℕ) (c : ℕ) (w : List ℕ) (m c' : ℕ) (w' : List ℕ) (l : ℕ) (ps : List (Literal × Literal)) (a b : Literal)
    → Made (4 * i) c₀ w₀ c w m (compare_pairs (graph_of c₀ w₀) ps) → Made 4 c w c' w' l (or_difference a b (record { aig = graph_of c w; literal = m }))
    → Made (4 * (i + 1)) c₀ w₀ c' w' l (compare_pairs (graph_of c₀ w₀) (snoc ps (a, b)))
compare-more i c₀ w₀ c w m c' w' l ps a b s t =
    rw (compare-snoc (graph_of c₀ w₀) ps (a, b)) (made_then (4 * i) 4 (4 * (i + 1)) c₀ w₀ c w m _ c' w' l (or_difference a b) (omega arith) s t)

-- at most so many nodes more
pub made_le : (j k c : ℕ) (w : List ℕ) (c' : ℕ) (w' : List ℕ) (l : ℕ) (b : Built) → j ≤ k → Made j c w c' w' l b → Made k c w c' w' l b
made_le j k c w c' w' l b h s =
    record { built = s.built; ready = s.ready; same = s.same; grows = s.grows; within = omega (arith, s.within); below = s.below }
