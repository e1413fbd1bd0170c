-- What the resolvent of an analysis says at values that make the clauses true, and what its pivot leaves of it. Assumes nothing.
use Rattle.std.specs.Prelude.{ℕ, suc, ◌≤◌, ◌<◌, ◌≡◌, ◌≢◌, ◌⊎◌, Bool, not, length, set}
use native.Mathlib.Omega.{arith}
use Rattle.std.proofs.Common.{sym, subst, ◌∙◌}
use Rattle.std.proofs.Math.Path.{ap}
use Rattle.std.proofs.Math.Logic.{inl, inr}
use Rattle.std.proofs.Math.Bool.{true, false}
use Rattle.std.proofs.lemmas.Bool.{false≢true}
use mathlib.Core.List.{List, [], ◌∷◌}
use Rattle.std.proofs.Math.ListN.{get_or, length-set}
use Rattle.std.proofs.Math.Seq.{get_or-set_other}
use Rattle.model.specs.Literal.{Literal, node, negate}
use Rattle.model.specs.Aig.{evaluate}
use Rattle.model.specs.Sat.{Assignment, Analysis, see_variable, see_unless, skipped, see_literals, close_pivot}
use Rattle.laws.specs.Graph.Values.{lit_neg}
use Rattle.laws.specs.Search.Seeing.{level, current-level, bottom_place, earlier-node, Learned, AnalysisOk, PivotOrFalse, literals_mark, literals-new}
use Rattle.facts.specs.Bools.{or-true}
use Rattle.facts.specs.Lists.{get_or-set_default, all_map}
use Rattle.facts.specs.Numbers.{by_eq, by_lt}
use Rattle.laws.specs.Search.Clauses.{clause_value, negate-holds, true-literal, snoc-value}
use Rattle.laws.specs.Search.Trail.{entry, limit_at, Range, TrailInv}
use Rattle.laws.specs.Search.Reasons.{Earlier, Ground}
use Rattle.laws.specs.Search.Marks.{Hit, count_same, count-some, Last}

module _ (n : ℕ) (t : Assignment) (inv : TrailInv n t) (d : ℕ) (top : length t.trail_limits ≡ suc d) where
  -- ---- what the resolvent says at values vs

  -- a learned literal is true, or a seen place of the current level n t inv d top is false
  abbrev pub Meaning : List Bool → Analysis → ℕ → Type 0
  Meaning vs a i = (clause_value vs a.learned ≡ true) ⊎ ((q : ℕ) × (q < i) × Hit t (limit_at t d) a.seen q × (evaluate vs (entry t q) ≡ false))

  variable-learned : (vs : List Bool) (a : Analysis) (l : Literal) (b : Bool) → clause_value vs a.learned ≡ true → clause_value vs (see_variable a l b).learned ≡ true
  unfolding see_variable
  variable-learned vs a l true h = h
  variable-learned vs a l false h = snoc-value vs a.learned l h

  unless_learned : (vs : List Bool) (a : Analysis) (l : Literal) (b : Bool) → clause_value vs a.learned ≡ true → clause_value vs (see_unless t a l b).learned ≡ true
  unfolding see_unless
  unless_learned vs a l true h = h
  unless_learned vs a l false h = variable-learned vs a l _ h

  literals-learned : (vs : List Bool) (v : ℕ) (a : Analysis) (ls : List Literal) → clause_value vs a.learned ≡ true → clause_value vs (see_literals t v a ls).learned ≡ true
  unfolding see_literals
  literals-learned vs v a [] h = h
  literals-learned vs v a (l ∷ ls) h = literals-learned vs v (see_unless t a l (skipped t v a l)) ls (unless_learned vs a l (skipped t v a l) h)

  -- what is meant stays so when a clause is seen
  meaning_grows : (vs : List Bool) (i v : ℕ) (a : Analysis) (ls : List Literal) → Meaning vs a i → Meaning vs (see_literals t v a ls) i
  meaning_grows vs i v a ls (inl h) = inl (literals-learned vs v a ls h)
  meaning_grows vs i v a ls (inr h) = inr (h.0, h.1, (literals_mark n t inv d top v a ls (node (entry t h.0)) h.2.0, h.2.1), h.3)

  -- before a clause is seen: it is meant already, or the pivot is false
  abbrev pub Pending : List Bool → Analysis → ℕ → Literal → Type 0
  Pending vs a i x = Meaning vs a i ⊎ (Range n x → evaluate vs x ≡ false)

  -- a true clause whose pivot is false brings the meaning
  pub pending_means : (vs : List Bool) → Ground vs t → (i : ℕ) (x : Literal) (a : Analysis) (ls : List Literal) → i ≤ length t.trail → length a.seen ≡ n
      → ((q : ℕ) → q < i → node (entry t q) ≢ node x) → ((k : ℕ) → k < length ls → PivotOrFalse n t inv d top i x (get_or ls k 0)) → clause_value vs ls ≡ true
      → AnalysisOk n t inv d top (see_literals t (node x) a ls) i → Pending vs a i x → Meaning vs (see_literals t (node x) a ls) i
  pending_means vs g i x a ls hi size away ready e w (inl m) = meaning_grows vs i (node x) a ls m
  pending_means vs g i x a ls hi size away ready e w (inr off) = go (true-literal vs ls e)
    where
      after : Analysis
      after = see_literals t (node x) a ls

      at : (k : ℕ) → k < length ls → evaluate vs (get_or ls k 0) ≡ true → Range n (get_or ls k 0) → (q : Earlier t i (get_or ls k 0)) → Meaning vs (see_literals t (node x) a ls) i
      at k hk on r q =
          let l = get_or ls k 0 in
          let inside : q.0 < length t.trail = omega (arith, q.1) in
          let low : evaluate vs (entry t q.0) ≡ false = ap (evaluate vs) q.2 ∙ lit_neg vs l ∙ ap not on in
          let same = earlier-node n t inv d top i l q in
          by_eq (level n t inv d top (entry t q.0)) 0
          (λ z. absurd (false≢true (sym low ∙ g q.0 inside (bottom_place n t inv d top q.0 inside z))))
          (λ z.
          let marked : get_or (see_literals t (node x) a ls).seen (node (entry t q.0)) false ≡ true =
          subst (λ u. get_or (see_literals t (node x) a ls).seen u false ≡ true) (sym same)
          (literals-new n t inv d top (node x) a ls k size hk r.1 (λ y. away q.0 q.1 (same ∙ y)) (λ y. z (ap (λ u. get_or t.levels u 0) same ∙ y))) in
          by_lt q.0 (limit_at t d) (λ lt. inl (w.noted vs q.0 lt inside marked low)) (λ ge. inr (q.0, q.1, (marked, ge), low)))

      go : (k : ℕ) × (k < length ls) × (evaluate vs (get_or ls k 0) ≡ true) → Meaning vs (see_literals t (node x) a ls) i
      go k = side (ready k.0 k.1).1
        where
          side : (get_or ls k.0 0 ≡ x) ⊎ Earlier t i (get_or ls k.0 0) → Meaning vs (see_literals t (node x) a ls) i
          side (inl z) = absurd (false≢true (sym (off (subst (Range n) z (ready k.0 k.1).0)) ∙ ap (evaluate vs) (sym z) ∙ k.2))
          side (inr q) = at k.0 k.1 k.2 (ready k.0 k.1).0 q

  -- ---- the pivot

  module _ (a : Analysis) (i j : ℕ) (hi : i ≤ length t.trail) (w : AnalysisOk n t inv d top a i) (p : Last t (limit_at t d) a.seen i j) where
    -- the analysis with the pivot closed
    abbrev closed : Analysis
    closed = close_pivot a (entry t j)

    -- what is seen then
    abbrev less : List Bool
    less = set a.seen (node (entry t j)) false

    j_in : j < length t.trail
    j_in = omega (arith, p.below)

    less-seen : (u : ℕ) → get_or less u false ≡ true → get_or a.seen u false ≡ true
    less-seen u e =
        by_eq u (node (entry t j)) (λ z. absurd (false≢true (sym (get_or-set_default a.seen (node (entry t j)) false) ∙ subst (λ k. get_or less k false ≡ true) z e)))
        (λ z. sym (get_or-set_other a.seen (node (entry t j)) u false false z) ∙ e)

    still_seen : (q : ℕ) → q < j → get_or a.seen (node (entry t q)) false ≡ true → get_or less (node (entry t q)) false ≡ true
    still_seen q h e = get_or-set_other a.seen (node (entry t j)) (node (entry t q)) false false (inv.apart q j h j_in) ∙ e

    -- the books below the pivot
    pub close_ok : AnalysisOk n t inv d top closed j
    unfolding close_pivot
    close_ok =
        record {
          size = w.size;
          seen_size = length-set a.seen (node (entry t j)) false ∙ w.seen_size;
          learned =
              all_map (Learned n t inv d top a.seen) (Learned n t inv d top less)
              (λ l z.
              record {
                range = z.range;
                below = z.below;
                marked =
                    get_or-set_other a.seen (node (entry t j)) (node l) false false
                    (λ e. omega (arith, z.below, ap (λ u. get_or t.levels u 0) e, current-level n t inv d top j j_in p.hit.1, top))
                    ∙ z.marked;
                placed = z.placed;
              }) a.learned w.learned;
          apart = w.apart;
          opened =
              omega (
                arith,
                w.opened,
                p.counted,
                count_same t (limit_at t d) a.seen less j (λ q h z. (still_seen q h z.0, z.1)) (λ q h z. (less-seen (node (entry t q)) z.0, z.1)),
              );
          noted = λ vs q low h e. w.noted vs q low h (less-seen (node (entry t q)) e);
        }

    -- the pivot's literal stands for what was meant at its place
    pub close_means : (vs : List Bool) → Meaning vs a i → Pending vs closed j (entry t j)
    unfolding close_pivot
    close_means vs (inl h) = inl (inl h)
    close_means vs (inr h) =
        by_eq h.0 j (λ z. inr (λ r. ap (λ k. evaluate vs (entry t k)) (sym z) ∙ h.3))
        (λ z.
        by_lt h.0 j (λ lt. inl (inr (h.0, lt, (still_seen h.0 lt h.2.0, h.2.1), h.3)))
        (λ ge. absurd (false≢true (sym (p.last h.0 (omega arith) h.1) ∙ h.2.0))))

  -- where none is open, the pivot's negation and the learned literals hold
  pub last-holds : (vs : List Bool) (a : Analysis) (j : ℕ) → AnalysisOk n t inv d top a j → a.open_at_level ≡ 0 → Range n (entry t j) → Pending vs a j (entry t j) → clause_value vs (negate (entry t j) ∷ a.learned) ≡ true
  unfolding clause_value
  last-holds vs a j w z r (inl (inl h)) = or-true (evaluate vs (negate (entry t j))) (clause_value vs a.learned) h
  last-holds vs a j w z r (inl (inr h)) = absurd (omega (arith, count-some t (limit_at t d) a.seen j h.0 h.1 h.2, w.opened))
  last-holds vs a j w z r (inr f) = rw (negate-holds vs (entry t j) (f r))
