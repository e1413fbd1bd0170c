-- A cycle's comparison put into its row of FRAMES: the row reads as the comparison, the rows before it and the other regions stay. Assumes nothing.
use Rattle.std.specs.Prelude.{◌≡◌, refl, Bool, true, false, List, ℕ, zero, suc, ◌+◌, ◌*◌, ◌≤◌, ◌<◌, eqb, length, get_or}
use Rattle.std.proofs.Common.{ap₂, ◌∙◌, arith, add-one, eqb-true, get_or-set_same, get_or-set_other}
use Rattle.std.proofs.lemmas.Bool.{eqb-false}
use Rattle.facts.specs.Bools.{and_both, both-and}
use Rattle.words.specs.Layout.{LENT, SMALL, GRAPH-LHS, GRAPH-RHS, AND-NEXT, FRAMES, ROW, GOLD-OUTPUTS, GATE-OUTPUTS, MISMATCH, AND-HEADS}
use Rattle.words.specs.Region.{region, apart, stored, stores, length-region, length-stored}
use Rattle.model.specs.Lists.{snoc}
use Rattle.model.specs.Equivalence.{FrameComparison}
use Rattle.aig.specs.Graph.{graph_of, graph_at, nodes_of}
use Rattle.aig.specs.Made.{Ready, Same, same_refl, same_trans}
use Rattle.aig.specs.Side.{side_under}
use Rattle.import.specs.Importing.{beyond, side-beyond}
use Rattle.lowering.specs.Firsts.{firsts, pairs}
use Rattle.unrolling.specs.Side.{Untouched}
use Rattle.equivalence.specs.Frames.{words_from, pairs_from, comparison_at, comparisons_of, beyond_frames}

-- the region at b shares no word with FRAMES
abbrev pub off_frames : ℕ → Bool
off_frames b = apart b FRAMES

-- ---- what stays

pub off_beyond : {w w' : List ℕ} → Same off_frames w w' → Same beyond_frames w w'
off_beyond s = record { at = λ b e. s.at b (and_both (beyond b) (apart b FRAMES) e).1 }

pub beyond_frames_lem : {w w' : List ℕ} → Same beyond w w' → Same beyond_frames w w'
beyond_frames_lem s = record { at = λ b e. s.at b (and_both (beyond b) (apart b FRAMES) e).0 }

pub untouched_frames : {w w' : List ℕ} → Same beyond_frames w w' → Untouched w w'
untouched_frames s = record { at = λ b lo hi. s.at b (both-and (beyond b) (apart b FRAMES) (side-beyond b lo hi) (side_under b lo hi FRAMES (omega arith))) }

-- the graph's words stay
pub off_graph : (c : ℕ) (w w' : List ℕ) → Same off_frames w w' → graph_of c w' ≡ graph_of c w
unfolding graph_at
off_graph c w w' s = ap₂ (λ (ls rs : List ℕ). nodes_of c ls rs) (s.at GRAPH-LHS refl) (s.at GRAPH-RHS refl)

pub off_ready : (c : ℕ) (w w' : List ℕ) → LENT ≤ length w' → Same off_frames w w' → Ready c w → Ready c w'
off_ready c w w' h s r =
    record { positive = r.positive; long = h; indexed = rw (s.at GRAPH-LHS refl, s.at GRAPH-RHS refl, s.at AND-NEXT refl, s.at AND-HEADS refl) r.indexed }

-- ---- literals one after another

-- The first n of ls stand in FRAMES from `place` on; the words before that place and the other regions are as they were.
pub record KeptRow (place n : ℕ) (ls w w' : List ℕ) : Type 0 where
  pub long : LENT ≤ length w'
  pub same : Same off_frames w w'
  pub row : (i : ℕ) → i < n → get_or (region FRAMES w') (place + i) 0 ≡ get_or ls i 0
  pub before : (j : ℕ) → j < place → get_or (region FRAMES w') j 0 ≡ get_or (region FRAMES w) j 0

pub kept-none : (place : ℕ) (ls w : List ℕ) → LENT ≤ length w → KeptRow place 0 ls w w
kept-none place ls w h = record { long = h; same = same_refl off_frames w; row = λ i k. absurd (omega arith); before = λ j k. refl }

same-stored : (w : List ℕ) (i v : ℕ) → Same off_frames w (stored FRAMES w i v)
same-stored w i v = record { at = λ b e. let q : apart b FRAMES ≡ true = e in simp (stores, q) }

-- one literal more
pub kept_more : (place n : ℕ) (ls w₀ w : List ℕ) (v : ℕ) → place + n < SMALL → v ≡ get_or ls n 0 → KeptRow place n ls w₀ w → KeptRow place (n + 1) ls w₀ (stored FRAMES w (place + n) v)
kept_more place n ls w₀ w v h e k =
    record {
      long = simp length-stored k.long;
      same = same_trans k.same (same-stored w (place + n) v);
      row = λ i l. go i l (eqb i n) refl;
      before = λ j l. simp stores (get_or-set_other (region FRAMES w) (place + n) j v 0 (λ x. omega arith) ∙ k.before j l);
    }
  where
    go : (i : ℕ) → i < n + 1 → (t : Bool) → eqb i n ≡ t → get_or (region FRAMES (stored FRAMES w (place + n) v)) (place + i) 0 ≡ get_or ls i 0
    go i l true q =
        let s : length (region FRAMES w) ≡ SMALL = length-region FRAMES w (omega (arith, k.long)) in
        simp stores (rw (eqb-true i n q) (get_or-set_same (region FRAMES w) (place + n) v 0 (omega arith) ∙ e))
    go i l false q =
        let d : i ≡ n → ⊥ = eqb-false i n q in
        simp stores (get_or-set_other (region FRAMES w) (place + n) (place + i) v 0 (λ x. d (omega arith)) ∙ k.row i (omega (arith, d)))

-- ---- a row

-- The comparison of cycle c stands in its row; the rows before it and the other regions are as they were.
pub record KeptComparison (I O c : ℕ) (ins go to : List ℕ) (m : ℕ) (w w' : List ℕ) : Type 0 where
  pub long : LENT ≤ length w'
  pub same : Same off_frames w w'
  pub inputs : (i : ℕ) → i < I → get_or (region FRAMES w') (ROW * c + i) 0 ≡ get_or ins i 0
  pub gold_outputs : (i : ℕ) → i < O → get_or (region FRAMES w') (ROW * c + GOLD-OUTPUTS + i) 0 ≡ get_or go i 0
  pub gate_outputs : (i : ℕ) → i < O → get_or (region FRAMES w') (ROW * c + GATE-OUTPUTS + i) 0 ≡ get_or to i 0
  pub mismatch : get_or (region FRAMES w') (ROW * c + MISMATCH) 0 ≡ m
  pub before : (j : ℕ) → j < ROW * c → get_or (region FRAMES w') j 0 ≡ get_or (region FRAMES w) j 0

-- the three rows of literals, and the mismatch after them
pub kept-comparison : (I O c : ℕ) (ins go to : List ℕ) (m : ℕ) (w w₁ w₂ w₃ : List ℕ) → I ≤ 128 → O ≤ 128 → c ≤ 64
    → KeptRow (ROW * c) I ins w w₁ → KeptRow (ROW * c + GOLD-OUTPUTS) O go w₁ w₂ → KeptRow (ROW * c + GATE-OUTPUTS) O to w₂ w₃
    → KeptComparison I O c ins go to m w (stored FRAMES w₃ (ROW * c + MISMATCH) m)
kept-comparison I O c ins go to m w w₁ w₂ w₃ hi ho hc r₁ r₂ r₃ =
    record {
      long = simp length-stored r₃.long;
      same = same_trans r₁.same (same_trans r₂.same (same_trans r₃.same (same-stored w₃ (ROW * c + MISMATCH) m)));
      inputs = λ i h. last (ROW * c + i) (omega arith) ∙ r₃.before (ROW * c + i) (omega arith) ∙ r₂.before (ROW * c + i) (omega arith) ∙ r₁.row i h;
      gold_outputs = λ i h. last (ROW * c + GOLD-OUTPUTS + i) (omega arith) ∙ r₃.before (ROW * c + GOLD-OUTPUTS + i) (omega arith) ∙ r₂.row i h;
      gate_outputs = λ i h. last (ROW * c + GATE-OUTPUTS + i) (omega arith) ∙ r₃.row i h;
      mismatch =
          let s : length (region FRAMES w₃) ≡ SMALL = length-region FRAMES w₃ (omega (arith, r₃.long)) in
          simp stores (get_or-set_same (region FRAMES w₃) (ROW * c + MISMATCH) m 0 (omega arith));
      before = λ j h. last j (omega arith) ∙ r₃.before j (omega arith) ∙ r₂.before j (omega arith) ∙ r₁.before j (omega arith);
    }
  where
    last : (j : ℕ) → j < ROW * c + MISMATCH → get_or (region FRAMES (stored FRAMES w₃ (ROW * c + MISMATCH) m)) j 0 ≡ get_or (region FRAMES w₃) j 0
    last j h = simp stores (get_or-set_other (region FRAMES w₃) (ROW * c + MISMATCH) j m 0 (λ x. omega arith))

-- ---- what is read there

words_are : (n at : ℕ) (fs ls : List ℕ) → ((i : ℕ) → i < n → get_or fs (at + i) 0 ≡ get_or ls i 0) → words_from n at fs ≡ firsts n ls
unfolding words_from firsts
words_are zero at fs ls r = refl
words_are (suc n) at fs ls r = ap₂ (λ (xs : List ℕ) (x : ℕ). snoc xs x) (words_are n at fs ls (λ i h. r i (omega arith))) (r n (omega arith))

pairs_are : (n at to : ℕ) (fs ls ks : List ℕ) → ((i : ℕ) → i < n → get_or fs (at + i) 0 ≡ get_or ls i 0) → ((i : ℕ) → i < n → get_or fs (to + i) 0 ≡ get_or ks i 0)
    → pairs_from n at to fs ≡ pairs n ls ks
unfolding pairs_from pairs
pairs_are zero at to fs ls ks r s = refl
pairs_are (suc n) at to fs ls ks r s =
    ap₂ (λ (xs : List (ℕ × ℕ)) (x : ℕ × ℕ). snoc xs x) (pairs_are n at to fs ls ks (λ i h. r i (omega arith)) (λ i h. s i (omega arith)))
    (ap₂ (λ (a b : ℕ). (a, b)) (r n (omega arith)) (s n (omega arith)))

-- the row as the model's comparison
pub comparison-is : (I O c : ℕ) (ins go to : List ℕ) (m : ℕ) (w w' : List ℕ) → KeptComparison I O c ins go to m w w'
    → comparison_at I O (region FRAMES w') c ≡ record { inputs = firsts I ins; outputs = pairs O go to; mismatch = m }
unfolding comparison_at
comparison-is I O c ins go to m w w' k =
    rw (words_are I (ROW * c) (region FRAMES w') ins k.inputs, pairs_are O (ROW * c + GOLD-OUTPUTS) (ROW * c + GATE-OUTPUTS) (region FRAMES w') go to k.gold_outputs k.gate_outputs, k.mismatch)

words_stay : (n at : ℕ) (fs gs : List ℕ) → ((i : ℕ) → i < n → get_or fs (at + i) 0 ≡ get_or gs (at + i) 0) → words_from n at fs ≡ words_from n at gs
unfolding words_from
words_stay zero at fs gs r = refl
words_stay (suc n) at fs gs r = ap₂ (λ (xs : List ℕ) (x : ℕ). snoc xs x) (words_stay n at fs gs (λ i h. r i (omega arith))) (r n (omega arith))

pairs_stay : (n at to : ℕ) (fs gs : List ℕ) → ((i : ℕ) → i < n → get_or fs (at + i) 0 ≡ get_or gs (at + i) 0) → ((i : ℕ) → i < n → get_or fs (to + i) 0 ≡ get_or gs (to + i) 0)
    → pairs_from n at to fs ≡ pairs_from n at to gs
unfolding pairs_from
pairs_stay zero at to fs gs r s = refl
pairs_stay (suc n) at to fs gs r s =
    ap₂ (λ (xs : List (ℕ × ℕ)) (x : ℕ × ℕ). snoc xs x) (pairs_stay n at to fs gs (λ i h. r i (omega arith)) (λ i h. s i (omega arith)))
    (ap₂ (λ (a b : ℕ). (a, b)) (r n (omega arith)) (s n (omega arith)))

-- rows whose words stay read as before
pub comparisons_stay : (I O n : ℕ) (fs gs : List ℕ) → I ≤ 128 → O ≤ 128 → ((j : ℕ) → j < ROW * n → get_or fs j 0 ≡ get_or gs j 0) → comparisons_of I O n fs ≡ comparisons_of I O n gs
unfolding comparisons_of comparison_at
comparisons_stay I O zero fs gs hi ho s = refl
comparisons_stay I O (suc n) fs gs hi ho s =
    ap₂ (λ (xs : List FrameComparison) (x : FrameComparison). snoc xs x) (comparisons_stay I O n fs gs hi ho (λ j h. s j (omega arith)))
    (rw (
      words_stay I (ROW * n) fs gs (λ i h. s (ROW * n + i) (omega arith)),
      pairs_stay O (ROW * n + GOLD-OUTPUTS) (ROW * n + GATE-OUTPUTS) fs gs (λ i h. s (ROW * n + GOLD-OUTPUTS + i) (omega arith)) (λ i h. s (ROW * n + GATE-OUTPUTS + i) (omega arith)),
      s (ROW * n + MISMATCH) (omega arith),
    ))

-- one comparison more
pub comparisons-more : (I O n : ℕ) (ins go to : List ℕ) (m : ℕ) (w w' : List ℕ) → I ≤ 128 → O ≤ 128 → KeptComparison I O n ins go to m w w'
    → comparisons_of I O (n + 1) (region FRAMES w')
    ≡ snoc (comparisons_of I O n (region FRAMES w)) (record { inputs = firsts I ins; outputs = pairs O go to; mismatch = m })
unfolding comparisons_of
comparisons-more I O n ins go to m w w' hi ho k =
    rw add-one (ap₂ (λ (xs : List FrameComparison) (x : FrameComparison). snoc xs x) (comparisons_stay I O n _ _ hi ho k.before) (comparison-is I O n ins go to m w w' k))
