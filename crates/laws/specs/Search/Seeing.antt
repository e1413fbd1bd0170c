-- The books of an analysis: which variables are seen, learned and open while clauses are looked at. Assumes nothing.
use Prim.Native.Nat.{ℕ, zero, suc, ◌≤◌, ◌<◌}
use Rattle.std.proofs.Common.{arith, ◌∙◌, inl, inr, get_or-set_other}
use Rattle.std.specs.Prelude.{◌≡◌, ◌≢◌, ◌⊎◌, Bool, set}
use Rattle.std.proofs.Math.Path.{refl, sym, ap}
use Rattle.std.proofs.Math.Bool.{true, false, false≢true}
use mathlib.Core.List.{List, [], ◌∷◌}
use Rattle.std.proofs.Math.ListN.{length, get_or, length-set}
use Rattle.std.proofs.Math.Seq.{get_or-set_same}
use Rattle.std.proofs.Math.Dec.{eqb}
use borrow.Author.Tests.{eqb-true, eqb-false, not-false}
use Rattle.model.specs.Literal.{Literal, node}
use Rattle.model.specs.Aig.{evaluate}
use Rattle.model.specs.Sat.{Assignment, decision_level, Analysis, see_variable, see_unless, skipped, see_literals}
use Rattle.laws.specs.Graph.Values.{node-negate, lit_neg}
use Rattle.facts.specs.Lists.{set_any, All, all_map}
use Rattle.facts.specs.Numbers.{by_eq, by_lt}
use Rattle.laws.specs.Lists.{all_snoc}
use Rattle.laws.specs.Search.Clauses.{clause_value, snoc-value, snoc-true}
use Rattle.laws.specs.Search.Trail.{entry, limit_at, Range, TrailInv}
use Rattle.laws.specs.Search.Reasons.{Earlier, Bottom}
use Rattle.laws.specs.Search.Sorting.{Distinct, distinct_snoc}
use Rattle.laws.specs.Search.Scores.{bump_size}
use Rattle.laws.specs.Search.Marks.{count, Hit, count_same, count-more}

module _ (n : ℕ) (t : Assignment) (inv : TrailInv n t) (d : ℕ) (top : length t.trail_limits ≡ suc d) where
  -- the current level begins here
  abbrev D : ℕ
  D = limit_at t d

  -- a literal's level
  abbrev pub level : Literal → ℕ
  level l = get_or t.levels (node l) 0

  -- a place from D on is of the current level
  pub current-level : (q : ℕ) → q < length t.trail → D ≤ q → level (entry t q) ≡ suc d
  current-level q h e = omega (arith, inv.deep q d h (omega arith) e, inv.level (node (entry t q)))

  current-place : (q : ℕ) → q < length t.trail → level (entry t q) ≡ suc d → D ≤ q
  current-place q h e = go (inv.level_place (node (entry t q)) d (omega arith))
    where
      go : (level (entry t q) ≤ d) ⊎ ((p : ℕ) × (D ≤ p) × (p < length t.trail) × (node (entry t p) ≡ node (entry t q))) → D ≤ q
      go (inl z) = absurd (omega arith)
      go (inr z) = by_lt q z.0 (λ lt. absurd (inv.apart q z.0 lt z.2 (sym z.3))) (λ ge. omega (arith, z.1))

  -- a place of level 0
  pub bottom_place : (q : ℕ) → q < length t.trail → level (entry t q) ≡ 0 → Bottom t q
  bottom_place q h e i hi = by_lt q (limit_at t i) (λ lt. lt) (λ ge. absurd (omega (arith, inv.deep q i h hi ge, e)))

  -- two places of one variable are one
  same_place : (p q : ℕ) → p < length t.trail → q < length t.trail → node (entry t p) ≡ node (entry t q) → p ≡ q
  same_place p q hp hq e =
      by_eq p q (λ z. z) (λ z. absurd (by_lt p q (λ lt. inv.apart p q lt hq e) (λ ge. inv.apart q p (omega arith) hp (sym e))))

  -- the variable of a literal that is false
  pub earlier-node : (i : ℕ) (l : Literal) → (e : Earlier t i l) → node (entry t e.0) ≡ node l
  earlier-node i l e = ap node e.2 ∙ node-negate l

  -- ---- the books

  -- a learned literal: below the current level, seen, and false
  pub record Learned (seen : List Bool) (l : Literal) : Type 0 where
    pub range : Range n l
    pub below : level l < length t.trail_limits
    pub marked : get_or seen (node l) false ≡ true
    pub placed : Earlier t (length t.trail) l

  -- the analysis with trail place i
  pub record AnalysisOk (a : Analysis) (i : ℕ) : Type 0 where
    pub size : length a.scores.activity ≡ n
    pub seen_size : length a.seen ≡ n
    pub learned : All (Learned a.seen) a.learned
    pub apart : Distinct a.learned
    pub opened : a.open_at_level ≡ count t D a.seen i
    pub noted : (vs : List Bool) (q : ℕ) → q < D → q < length t.trail → get_or a.seen (node (entry t q)) false ≡ true → evaluate vs (entry t q) ≡ false → clause_value vs a.learned ≡ true

  -- what is seen stays seen
  mark_keeps : (seen : List Bool) (v u : ℕ) → get_or seen u false ≡ true → get_or (set seen v true) u false ≡ true
  mark_keeps seen v u h = set_any (λ b. b ≡ true) seen v u true false h refl

  learned-keeps : (seen more : List Bool) → ((u : ℕ) → get_or seen u false ≡ true → get_or more u false ≡ true) → (ls : List Literal) → All (Learned seen) ls → All (Learned more) ls
  learned-keeps seen more f ls h =
      all_map (Learned seen) (Learned more) (λ l w. record { range = w.range; below = w.below; marked = f (node l) w.marked; placed = w.placed }) ls h

  -- a literal of a clause: the pivot x, or false before place i
  abbrev pub PivotOrFalse : ℕ → Literal → Literal → Type 0
  PivotOrFalse i x l = Range n l × ((l ≡ x) ⊎ Earlier t i l)

  module _ (a : Analysis) (i : ℕ) (l : Literal) (hi : i ≤ length t.trail) (h : Range n l) (q : Earlier t i l) (new : get_or a.seen (node l) false ≡ false) (w : AnalysisOk a i) where
    -- what is seen after l
    abbrev more : List Bool
    more = set a.seen (node l) true

    marked_now : get_or more (node l) false ≡ true
    marked_now = get_or-set_same a.seen (node l) true false (omega (arith, h.1, w.seen_size))

    q_in : q.0 < length t.trail
    q_in = omega (arith, q.1)

    -- a seen place is the new one, or was seen
    seen-before : (p : ℕ) → p < length t.trail → p ≢ q.0 → get_or more (node (entry t p)) false ≡ true → get_or a.seen (node (entry t p)) false ≡ true
    seen-before p hp z e =
        sym (get_or-set_other a.seen (node l) (node (entry t p)) true false (λ y. z (same_place p q.0 hp q_in (y ∙ sym (earlier-node i l q))))) ∙ e

    hits_keep : (p : ℕ) → p < i → Hit t D a.seen p → Hit t D more p
    hits_keep p hp z = (mark_keeps a.seen (node l) (node (entry t p)) z.0, z.1)

    -- a variable of the current level
    see_current : D ≤ q.0 → AnalysisOk (see_variable a l true) i
    unfolding see_variable
    see_current here =
        record {
          size = bump_size a.scores (node l) ∙ w.size;
          seen_size = length-set a.seen (node l) true ∙ w.seen_size;
          learned = learned-keeps a.seen more (mark_keeps a.seen (node l)) a.learned w.learned;
          apart = w.apart;
          opened =
              ap suc w.opened
              ∙ sym
              (count-more t D a.seen more i q.0 q.1 hits_keep (λ p hp z y. (seen-before p (omega arith) z y.0, y.1))
              (λ z. false≢true (sym new ∙ ap (λ u. get_or a.seen u false) (sym (earlier-node i l q)) ∙ z.0))
              (ap (λ u. get_or more u false) (earlier-node i l q) ∙ marked_now, here));
          noted = λ vs p low hp e. w.noted vs p low hp (seen-before p hp (λ z. omega arith) e);
        }

    -- a variable of a lower level
    see_lower : q.0 < D → level l < length t.trail_limits → AnalysisOk (see_variable a l false) i
    unfolding see_variable
    see_lower low lower =
        record {
          size = bump_size a.scores (node l) ∙ w.size;
          seen_size = length-set a.seen (node l) true ∙ w.seen_size;
          learned =
              all_snoc (Learned more) a.learned l (learned-keeps a.seen more (mark_keeps a.seen (node l)) a.learned w.learned)
              (record { range = h; below = lower; marked = marked_now; placed = (q.0, q_in, q.2) });
          apart =
              distinct_snoc a.learned l w.apart
              (all_map (Learned a.seen) (λ y. node y ≢ node l) (λ y z e. false≢true (sym new ∙ ap (λ u. get_or a.seen u false) (sym e) ∙ z.marked)) a.learned w.learned);
          opened = w.opened ∙ sym (count_same t D a.seen more i hits_keep (λ p hp y. (seen-before p (omega arith) (λ z. omega (arith, y.1)) y.0, y.1)));
          noted =
              λ vs p pl hp e off.
              by_eq p q.0
              (λ z. snoc-true vs a.learned l (negate_of vs (sym (ap (λ k. evaluate vs (entry t k)) z) ∙ off)))
              (λ z. snoc-value vs a.learned l (w.noted vs p pl hp (seen-before p hp z e) off));
        }
      where
        negate_of : (vs : List Bool) → evaluate vs (entry t q.0) ≡ false → evaluate vs l ≡ true
        negate_of vs e = not-false (evaluate vs l) (sym (lit_neg vs l) ∙ ap (evaluate vs) (sym q.2) ∙ e)

    see_ok : (b : Bool) → eqb (level l) (length t.trail_limits) ≡ b → AnalysisOk (see_variable a l b) i
    see_ok true e =
        see_current (current-place q.0 q_in (ap (λ u. get_or t.levels u 0) (earlier-node i l q) ∙ eqb-true (level l) (length t.trail_limits) e ∙ top))
    see_ok false e =
        let below : level l < length t.trail_limits = omega (arith, inv.level (node l), eqb-false (level l) (length t.trail_limits) e) in
        see_lower
        (by_lt q.0 D (λ lt. lt) (λ ge. absurd (omega (arith, current-level q.0 q_in ge, ap (λ u. get_or t.levels u 0) (earlier-node i l q), top, below))))
        below

  -- what a literal that is not skipped is
  pub record Fresh (a : Analysis) (v : ℕ) (l : Literal) : Type 0 where
    pub other : node l ≢ v
    pub unseen : get_or a.seen (node l) false ≡ false

  not-skipped : (a : Analysis) (v : ℕ) (l : Literal) → skipped t v a l ≡ false → Fresh a v l
  unfolding skipped
  not-skipped a v l e = go (eqb (node l) v) (get_or a.seen (node l) false) refl refl
    where
      go : (x y : Bool) → eqb (node l) v ≡ x → get_or a.seen (node l) false ≡ y → Fresh a v l
      go true y p q = absurd (false≢true (sym (rw p at e)))
      go false true p q = absurd (false≢true (sym (rw (p, q) at e)))
      go false false p q = record { other = eqb-false (node l) v p; unseen = q }

  unless_ok : (a : Analysis) (i : ℕ) (x l : Literal) (b : Bool) → skipped t (node x) a l ≡ b → i ≤ length t.trail → PivotOrFalse i x l → AnalysisOk a i → AnalysisOk (see_unless t a l b) i
  unfolding see_unless decision_level
  unless_ok a i x l true e hi h w = w
  unless_ok a i x l false e hi h w = go h.1
    where
      go : (l ≡ x) ⊎ Earlier t i l → AnalysisOk (see_variable a l (eqb (level l) (length t.trail_limits))) i
      go (inl z) = absurd ((not-skipped a (node x) l e).other (ap node z))
      go (inr z) = see_ok a i l hi h.0 z (not-skipped a (node x) l e).unseen w (eqb (level l) (length t.trail_limits)) refl

  -- the literals of a clause in turn
  pub literals_ok : (i : ℕ) (x : Literal) (a : Analysis) (ls : List Literal) → i ≤ length t.trail → All (PivotOrFalse i x) ls → AnalysisOk a i → AnalysisOk (see_literals t (node x) a ls) i
  unfolding see_literals
  literals_ok i x a [] hi h w = w
  literals_ok i x a (l ∷ ls) hi h w =
      literals_ok i x (see_unless t a l (skipped t (node x) a l)) ls hi h.1 (unless_ok a i x l (skipped t (node x) a l) refl hi h.0 w)

  -- ---- marks

  variable-marks : (a : Analysis) (l : Literal) (b : Bool) (u : ℕ) → get_or a.seen u false ≡ true → get_or (see_variable a l b).seen u false ≡ true
  unfolding see_variable
  variable-marks a l true u h = mark_keeps a.seen (node l) u h
  variable-marks a l false u h = mark_keeps a.seen (node l) u h

  unless_marks : (a : Analysis) (l : Literal) (b : Bool) (u : ℕ) → get_or a.seen u false ≡ true → get_or (see_unless t a l b).seen u false ≡ true
  unfolding see_unless
  unless_marks a l true u h = h
  unless_marks a l false u h = variable-marks a l _ u h

  -- what is seen stays seen
  pub literals_mark : (v : ℕ) (a : Analysis) (ls : List Literal) (u : ℕ) → get_or a.seen u false ≡ true → get_or (see_literals t v a ls).seen u false ≡ true
  unfolding see_literals
  literals_mark v a [] u h = h
  literals_mark v a (l ∷ ls) u h = literals_mark v (see_unless t a l (skipped t v a l)) ls u (unless_marks a l (skipped t v a l) u h)

  variable-new : (a : Analysis) (l : Literal) (b : Bool) → node l < length a.seen → get_or (see_variable a l b).seen (node l) false ≡ true
  unfolding see_variable
  variable-new a l true h = get_or-set_same a.seen (node l) true false h
  variable-new a l false h = get_or-set_same a.seen (node l) true false h

  -- a literal of a level above 0, not of the resolved variable, is marked
  unless_new : (a : Analysis) (v : ℕ) (l : Literal) (b : Bool) → skipped t v a l ≡ b → node l < length a.seen → node l ≢ v → get_or t.levels (node l) 0 ≢ 0
      → get_or (see_unless t a l b).seen (node l) false ≡ true
  unfolding see_unless skipped
  unless_new a v l false e h z y = variable-new a l _ h
  unless_new a v l true e h z y = go (eqb (node l) v) (get_or a.seen (node l) false) (eqb (get_or t.levels (node l) 0) 0) refl refl refl
    where
      go : (p q r : Bool) → eqb (node l) v ≡ p → get_or a.seen (node l) false ≡ q → eqb (get_or t.levels (node l) 0) 0 ≡ r → get_or a.seen (node l) false ≡ true
      go true q r ep eq er = absurd (z (eqb-true (node l) v ep))
      go false true r ep eq er = eq
      go false false true ep eq er = absurd (y (eqb-true (get_or t.levels (node l) 0) 0 er))
      go false false false ep eq er = absurd (false≢true (rw (ep, eq, er) at e))

  unless_size : (a : Analysis) (l : Literal) (b : Bool) → length (see_unless t a l b).seen ≡ length a.seen
  unfolding see_unless
  unless_size a l true = refl
  unless_size a l false = variable-size (eqb (get_or t.levels (node l) 0) (decision_level t))
    where
      variable-size : (c : Bool) → length (see_variable a l c).seen ≡ length a.seen
      variable-size true = unfold see_variable in length-set a.seen (node l) true
      variable-size false = unfold see_variable in length-set a.seen (node l) true

  -- every literal above level 0 but the pivot is seen
  pub literals-new : (v : ℕ) (a : Analysis) (ls : List Literal) (k : ℕ) → length a.seen ≡ n → k < length ls → node (get_or ls k 0) < n → node (get_or ls k 0) ≢ v
      → get_or t.levels (node (get_or ls k 0)) 0 ≢ 0 → get_or (see_literals t v a ls).seen (node (get_or ls k 0)) false ≡ true
  unfolding see_literals
  literals-new v a [] k size h r z y = absurd (omega arith)
  literals-new v a (l ∷ ls) zero size h r z y =
      literals_mark v (see_unless t a l (skipped t v a l)) ls (node l) (unless_new a v l (skipped t v a l) refl (omega arith) z y)
  literals-new v a (l ∷ ls) (suc k) size h r z y =
      literals-new v (see_unless t a l (skipped t v a l)) ls k (unless_size a l (skipped t v a l) ∙ size) (omega arith) r z y
