-- Laws of the rounds of an analysis in lent words: a clause's literals, the pivot, and its reason. Assumes nothing.
use Rattle.std.specs.Prelude.{◌≡◌, refl, List, [], ◌∷◌, length}
use Rattle.std.proofs.Common.{◌∙◌, ⊎_elim, lt-ltb, le-ltb, take_all}
use Rattle.std.proofs.Math.Bool.{true, false}
use Rattle.std.proofs.Math.Option.{none}
use Prim.Native.Nat.{ℕ, zero, suc, ◌+◌, ◌-◌, ◌*◌, ◌<◌, ◌≤◌, min}
use native.Mathlib.Omega.{arith}
use Rattle.std.proofs.Math.ListN.{get_or, get_or-map}
use Rattle.std.proofs.Math.Seq.{slice}
use Rattle.facts.specs.Numbers.{below}
use Rattle.words.specs.Layout.{LENT, POOL, REASONS, SEEN, TRAIL, CLAUSE-STARTS, LITERALS}
use Rattle.words.specs.Region.{region, stored, stores, length-region}
use Rattle.model.specs.Literal as Literals
use Rattle.model.specs.Sat as Sat
use Rattle.assignment.specs.State.{word_reason, column, assignment_of, TrailReady}
use Rattle.assignment.specs.StateLaws.{get_or-past, unchanged_none, unchanged_stored}
use Rattle.assignment.specs.KnownLaws.{cached-kept}
use Rattle.assignment.specs.declared.state.Trail.{Trail}
use Rattle.analysis.specs.declared.state.Analysis.{Analysis}
use Rattle.analysis.specs.Analysis.{is_stamp, seen_of, analysis_of, analysis_regions, TrailBelow, Ranged, literals_at, Spans, Closes}
use Rattle.analysis.specs.SeeLaws.{stamp-here, stamp-not, stamp-none, mark_is, seen-is, unmarked_stored, node-below, word_at}

-- ---- where a clause lies

pub spans_not : (count : ℕ) (w : List ℕ) (id : ℕ) → count ≤ id → Spans count w id (record { start = 0; end = 0 })
unfolding literals_at
spans_not count w id h = record { is = rw (le-ltb id count h); inside = omega arith; below = λ n b i k. absurd (omega arith) }

slice-min : (start end : ℕ) (xs : List ℕ) (n : ℕ) → length xs ≡ n → slice start (min end n) xs ≡ slice start end xs
slice-min start end xs n e =
    ⊎_elim (λ (h : end < n). let k : min end n ≡ end = omega arith in rw k)
    (λ (h : n ≤ end). let k : min end n ≡ n = omega arith in let l : length xs ≤ end = omega arith in let m : length xs ≤ n = omega arith in rw (k, take_all n xs m, take_all end xs l))
    (below end n)

pub spans : (count : ℕ) (w : List ℕ) (id s e f : ℕ) → LENT ≤ length w → id < count → s ≡ get_or (region CLAUSE-STARTS w) id 0 → e ≡ get_or (region CLAUSE-STARTS w) (id + 1) 0 → f ≡ min e POOL
    → Spans count w id (record { start = s; end = f })
unfolding literals_at
spans count w id s e f h k a b c =
    let n : length (region LITERALS w) ≡ POOL = length-region LITERALS w (omega arith) in
    record { is = rw (lt-ltb id count k, ← a, ← b, c) (slice-min s e (region LITERALS w) POOL n); inside = omega arith; below = λ m z i l. z id k i (omega (arith, b, c)) }

-- ---- the reason of a variable

-- the word of a reason, less one, is its clause
reason_word : (a : Sat.Assignment) (v k : ℕ) → get_or a.reasons v none ≡ word_reason k → k - 1 ≡ Sat.reason_of a v
unfolding Sat.reason_of word_reason
reason_word a v zero e = rw (e, Sat.reason_of)
reason_word a v (suc k) e = rw (e, Sat.reason_of) (omega arith)

reasons_are : (t : Trail) (w : List ℕ) (v : ℕ) → get_or (assignment_of t w).reasons v none ≡ word_reason (get_or (column t.variables REASONS w) v 0)
unfolding assignment_of word_reason
reasons_are t w v = get_or-map word_reason (column t.variables REASONS w) v 0

pub reason-is : (t : Trail) (w : List ℕ) (v k : ℕ) → v < t.variables → k ≡ get_or (region REASONS w) v 0 → k - 1 ≡ Sat.reason_of (assignment_of t w) v
reason-is t w v k h e = reason_word (assignment_of t w) v k (rw (e ∙ word_at t.variables REASONS w v h) (reasons_are t w v))

-- ---- the pivot closed

pub closes : (t : Trail) (a : Analysis) (w w' : List ℕ) (p v n : ℕ) → TrailReady t w → 0 < a.stamp → v ≡ Literals.node p → n ≡ a.open_at_level - 1 → w' ≡ stored SEEN w v 0 → LENT ≤ length w'
    → Closes t a w p (record { activity = a.activity; learned = a.learned; open_at_level = n; stamp = a.stamp }) w'
unfolding analysis_of Sat.close_pivot
closes t a w w' p v n r z e f g k =
    record {
      is = λ s. rw (g, mark_is a.stamp t w v 0, stamp-none a.stamp z, e, f) (simp stores);
      same = refl;
      frame = unchanged_stored analysis_regions SEEN _ _ refl (unchanged_none analysis_regions w) g;
      words = k;
      opened = omega arith;
      learned = refl;
      stamp = refl;
      marks = λ k m. unmarked_stored k t.variables w w' v 0 g (omega arith) m;
      cached = λ s. cached-kept (SEEN ∷ []) t a.activity s refl (unchanged_stored (SEEN ∷ []) SEEN _ _ refl (unchanged_none (SEEN ∷ []) w) g);
    }

-- ---- the pivot found

-- the last place below i whose variable is seen
abbrev pub pivot_from : ℕ → Trail → List ℕ → ℕ → ℕ
pivot_from stamp t w i = Sat.pivot_index (assignment_of t w) (seen_of stamp t w) i

trail_is : (t : Trail) (w : List ℕ) → (assignment_of t w).trail ≡ column t.length TRAIL w
unfolding assignment_of
trail_is t w = refl

-- the pivot of an analysis that stood at place o: where it is, and what it is
pub record Found (stamp : ℕ) (t : Trail) (w : List ℕ) (o j p : ℕ) : Type 0 where
  pub at : j ≡ pivot_from stamp t w o
  pub is : p ≡ get_or (assignment_of t w).trail j 0
  pub place : j ≤ t.length
  pub range : p < t.variables * 2

-- a place below the trail's end has a literal of a variable
pub entry-low : (t : Trail) (w : List ℕ) (i k v : ℕ) → TrailBelow t w → i < t.length → k ≡ get_or (region TRAIL w) i 0 → v ≡ Literals.node k → v < t.variables
entry-low t w i k v r h e d = rw (d, e) (node-below _ t.variables (r i h))

module _ (stamp : ℕ) (t : Trail) (w : List ℕ) (some : 0 < stamp) (low : TrailBelow t w) where
  -- whether the literal at a place is seen
  seen_at : (i k v m : ℕ) → i < t.length → k ≡ get_or (region TRAIL w) i 0 → v ≡ Literals.node k → m ≡ get_or (region SEEN w) v 0
      → get_or (seen_of stamp t w) (Literals.node (get_or (assignment_of t w).trail i 0)) false ≡ is_stamp stamp m
  seen_at i k v m h e d f =
      let x = e ∙ word_at t.length TRAIL w i h in
      let y = f ∙ word_at t.variables SEEN w v (entry-low t w i k v low h e d) in
      rw (trail_is t w, ← x, ← d, y) (seen-is stamp t w v some)

  pub pivot_back : (i k v m : ℕ) → i ≤ t.length → 0 < i → k ≡ get_or (region TRAIL w) (i - 1) 0 → v ≡ Literals.node k → m ≡ get_or (region SEEN w) v 0 → (m ≡ stamp → ⊥)
      → pivot_from stamp t w (i - 1) ≡ pivot_from stamp t w i
  unfolding Sat.pivot_index
  pivot_back zero k v m h n e d f z = absurd (omega arith)
  pivot_back (suc i) k v m h n e d f z =
      let x : suc i - 1 ≡ i = omega arith in
      let y : get_or (seen_of stamp t w) (Literals.node (get_or (assignment_of t w).trail i 0)) false ≡ false = seen_at i k v m (omega arith) (rw x at e) d f ∙ stamp-not stamp m z in
      rw (x, y, Sat.pivot_index)

  pub pivot-here : (i k v m : ℕ) → i ≤ t.length → 0 < i → k ≡ get_or (region TRAIL w) (i - 1) 0 → v ≡ Literals.node k → m ≡ get_or (region SEEN w) v 0 → m ≡ stamp
      → i - 1 ≡ pivot_from stamp t w i
  unfolding Sat.pivot_index
  pivot-here zero k v m h n e d f z = absurd (omega arith)
  pivot-here (suc i) k v m h n e d f z =
      let x : suc i - 1 ≡ i = omega arith in
      let y : get_or (seen_of stamp t w) (Literals.node (get_or (assignment_of t w).trail i 0)) false ≡ true = seen_at i k v m (omega arith) (rw x at e) d f ∙ stamp-here stamp m z in
      rw (x, y, Sat.pivot_index)

  pub pivot-none : (i : ℕ) → i ≤ 0 → 0 ≡ pivot_from stamp t w i
  unfolding Sat.pivot_index
  pivot-none i h = let e : i ≡ 0 = omega arith in rw e

-- the literal of the pivot's place, which is 0 where the trail has none
pub found : (stamp count : ℕ) (t : Trail) (w : List ℕ) (o j p : ℕ) → Ranged count t w → o ≤ t.length → (j ≡ pivot_from stamp t w o) × (j ≤ o) → p ≡ get_or (column t.length TRAIL w) j 0 → Found stamp t w o j p
found stamp count t w o j p r h m e =
    record {
      at = m.0;
      is = e ∙ rw (trail_is t w);
      place = omega (arith, m.1);
      range =
          ⊎_elim (λ (k : j < t.length). rw (e, ← word_at t.length TRAIL w j k) (r.trail j k)) (λ (k : t.length ≤ j). omega (arith, e, get_or-past t.length (region TRAIL w) j k, r.some)) (below j t.length);
    }
