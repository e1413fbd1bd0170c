-- The steps of the lookup over the words: from a chain's head on, each node in turn. Assumes nothing.
use Rattle.std.specs.Prelude.{◌≡◌, refl, List, ℕ, zero, suc, ◌*◌, ◌<◌, get_or}
use Rattle.std.proofs.Math.Path.{ap, sym}
use Rattle.std.proofs.Common.{◌∙◌, arith, eq-eqb, ne_eqb}
use Rattle.words.specs.Layout.{GRAPH-LHS, GRAPH-RHS, AND-NEXT, AND-HEADS}
use Rattle.words.specs.Region.{region}
use Rattle.model.specs.Lists.{position}
use Rattle.model.specs.Aig.{is_and}
use Rattle.aig.specs.Graph.{graph_at, graph_of, ordered_le}
use Rattle.aig.specs.Index.{latest, last_and, place, chained, in_chain, first-position, latest-lt, latest-has}
use Rattle.aig.specs.Made.{Ready}

-- the node `at` heads the chain of r among the first m nodes
pub record Link (w : List ℕ) (l r m at : ℕ) : Type 0 where
  pub earlier : at < m
  pub has : 0 < at → get_or (region GRAPH-RHS w) at 0 ≡ r
  pub finds : chained (region GRAPH-LHS w) (region GRAPH-RHS w) l r at ≡ last_and (region GRAPH-LHS w) (region GRAPH-RHS w) l r m

-- a hit is the chain's answer
pub chained_hit : (ls rs : List ℕ) (l r at : ℕ) → 0 < at → get_or ls at 0 ≡ l → chained ls rs l r at ≡ at
unfolding chained
chained_hit ls rs l r zero h e = absurd (omega arith)
chained_hit ls rs l r (suc at) h e = rw (eq-eqb l (get_or ls (suc at) 0) (sym e))

-- a miss goes on before it
pub chained_miss : (ls rs : List ℕ) (l r at : ℕ) → 0 < at → (get_or ls at 0 ≡ l → ⊥) → chained ls rs l r at ≡ last_and ls rs l r at
unfolding chained
chained_miss ls rs l r zero h e = absurd (omega arith)
chained_miss ls rs l r (suc at) h e = rw (ne_eqb l (get_or ls (suc at) 0) (λ x. e (sym x)))

-- the end of a chain
pub chained-end : (ls rs : List ℕ) (l r : ℕ) → chained ls rs l r 0 ≡ 0
unfolding chained
chained-end ls rs l r = refl

positive_chain : (ls rs : List ℕ) (l r n : ℕ) → 0 < r → get_or rs 0 0 ≡ 0 → last_and ls rs l r n ≡ chained ls rs l r (latest rs r n)
positive_chain ls rs l zero n h g = absurd (omega arith)
positive_chain ls rs l (suc r) n h g = in_chain ls rs l r n g

module _ (n : ℕ) (w : List ℕ) (ready : Ready n w) (l r : ℕ) (h0 : 0 < r) where
  link : (m at : ℕ) → 0 < m → at ≡ latest (region GRAPH-RHS w) r m → Link w l r m at
  link m at h e =
      record {
        earlier = rw e (latest-lt (region GRAPH-RHS w) r m h);
        has = λ k. rw e (latest-has (region GRAPH-RHS w) r m (rw e at k));
        finds = rw e (sym (positive_chain (region GRAPH-LHS w) (region GRAPH-RHS w) l r m h0 (omega (arith, ordered_le n _ _ ready.indexed.ordered 0 ready.positive))));
      }

  -- the head
  pub link_head : r < n * 2 → (at : ℕ) → at ≡ get_or (region AND-HEADS w) r 0 → Link w l r n at
  link_head h at e = link n at ready.positive (e ∙ ready.indexed.heads r h0 h)

  -- the node after one of the chain
  pub link_next : (at next : ℕ) → 0 < at → at < n → get_or (region GRAPH-RHS w) at 0 ≡ r → next ≡ get_or (region AND-NEXT w) at 0 → Link w l r at next
  link_next at next h k e f =
      link at next h (f ∙ ready.indexed.nexts at k (rw e h0) ∙ ap (λ (x : ℕ). latest (region GRAPH-RHS w) x at) e)

  -- what the whole chain finds is the first position
  pub link_found : (at found : ℕ) → Link w l r n at → found ≡ chained (region GRAPH-LHS w) (region GRAPH-RHS w) l r at → place found ≡ position (is_and l r) (graph_of n w)
  unfolding graph_at
  link_found at found k e = ap place (e ∙ k.finds) ∙ sym (first-position (region GRAPH-LHS w) (region GRAPH-RHS w) l r n ready.indexed.once)
