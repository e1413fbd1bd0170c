-- The comparisons in FRAMES, cycle by cycle: the first mismatch among them, and the trace's bytes. Assumes nothing.
use Rattle.std.specs.Prelude.{◌≡◌, Bool, cond, not}
use Rattle.std.proofs.Math.Path.{refl, ap, sym}
use Rattle.std.proofs.Common.{◌∙◌, take_all}
use Rattle.std.proofs.Math.Bool.{true, false}
use Rattle.std.specs.Bool.{xor as xorBool}
use mathlib.Core.Bool.{beq}
use mathlib.Core.List.{List, [], ◌∷◌, ◌++◌, map, append-nil, append_assoc}
use Rattle.std.proofs.Math.Option.{Option, none, some}
use Prim.Native.Nat.{ℕ, zero, suc, ◌+◌, ◌*◌, ◌≤◌, ◌<◌}
use native.Mathlib.Omega.{arith}
use Rattle.std.proofs.Math.Nat.{suc-mul}
use Rattle.std.proofs.Math.Numerals.{add-one}
use Rattle.std.proofs.Math.Dec.{eqb}
use borrow.Author.Tests.{eqb-true, eqb-false}
use Rattle.std.proofs.Math.ListN.{length, get_or, take, drop, length-append, length-drop, length-map}
use Rattle.std.proofs.Math.Seq.{take-append-le, drop-length}
use Rattle.std.proofs.lemmas.List.{drop-append-le}
use Rattle.words.specs.Layout.{FRAMES, ROW, GOLD-OUTPUTS, GATE-OUTPUTS, MISMATCH}
use Rattle.words.specs.Region.{region}
use Rattle.model.specs.Lists.{snoc, position, next_place, concat}
use Rattle.model.specs.Literal.{Literal}
use Rattle.model.specs.Aig.{evaluate}
use Rattle.model.specs.Equivalence.{FrameComparison, byte, first_mismatch, input_bytes, mark_bytes, first_marks, trace_bytes}
use Rattle.lowering.specs.Firsts.{map_snoc}
use Rattle.equivalence.specs.Frames.{words_from, pairs_from, comparison_at, comparisons_of}
use Rattle.model.specs.Check.{overwrite}
use Rattle.assignment.specs.State.{model_of}
use Rattle.trace.specs.Trace.{FirstMismatch, Traced}
use Rattle.trace.specs.Values.{differ_is}
use Rattle.trace.specs.Writing.{Wrote, wrote_all, bytes}

-- ---- the first mismatch

-- of two places the first that there is
abbrev or_else : Option ℕ → Option ℕ → Option ℕ
or_else none o = o
or_else (some i) o = some i

place-snoc : {A : Type 0} (p : A → Bool) (xs : List A) (x : A) → position p (snoc xs x) ≡ or_else (position p xs) (cond (p x) (some (length xs)) none)
unfolding position next_place snoc
place-snoc p [] x = refl
place-snoc p (y ∷ xs) x = go (p y) (ap next_place (place-snoc p xs x) ∙ later (position p xs) (p x))
  where
    later : (o : Option ℕ) (t : Bool) → next_place (or_else o (cond t (some (length xs)) none)) ≡ or_else (next_place o) (cond t (some (suc (length xs))) none)
    later none true = refl
    later none false = refl
    later (some i) t = refl

    go : (t : Bool) → next_place (position p (xs ++ (x ∷ []))) ≡ or_else (next_place (position p xs)) (cond (p x) (some (suc (length xs))) none)
        → cond t (some 0) (next_place (position p (xs ++ (x ∷ [])))) ≡ or_else (cond t (some 0) (next_place (position p xs))) (cond (p x) (some (suc (length xs))) none)
    go true e = refl
    go false e = e

pub length-comparisons : (I O n : ℕ) (fs : List ℕ) → length (comparisons_of I O n fs) ≡ n
unfolding comparisons_of snoc
length-comparisons I O zero fs = refl
length-comparisons I O (suc n) fs = simp length-append (omega (arith, length-comparisons I O n fs))

-- The first n cycles have no mismatch.
pub record Equal (values : List Bool) (n : ℕ) (fs : List ℕ) : Type 0 where
  pub at : (c : ℕ) → c < n → evaluate values (get_or fs (ROW * c + MISMATCH) 0) ≡ false

pub equal-none : (values : List Bool) (fs : List ℕ) → Equal values 0 fs
equal-none values fs = record { at = λ c h. absurd (omega arith) }

-- one cycle more
pub equal-more : (values : List Bool) (n : ℕ) (fs : List ℕ) → evaluate values (get_or fs (ROW * n + MISMATCH) 0) ≡ false → Equal values n fs → Equal values (n + 1) fs
equal-more values n fs e k = record { at = λ c h. go c h (eqb c n) refl }
  where
    go : (c : ℕ) → c < n + 1 → (t : Bool) → eqb c n ≡ t → evaluate values (get_or fs (ROW * c + MISMATCH) 0) ≡ false
    go c h true q = rw (eqb-true c n q) e
    go c h false q = k.at c (omega (arith, eqb-false c n q))

module _ (values : List Bool) (I O : ℕ) (fs : List ℕ) where
  -- whether the model asserts a cycle's mismatch
  abbrev differs : FrameComparison → Bool
  differs c = evaluate values c.mismatch

  equal-position : (n : ℕ) → Equal values n fs → position differs (comparisons_of I O n fs) ≡ none
  unfolding comparisons_of comparison_at position
  equal-position zero k = refl
  equal-position (suc n) k =
      place-snoc differs (comparisons_of I O n fs) (comparison_at I O fs n)
      ∙ rw (equal-position n (record { at = λ c h. k.at c (omega arith) }), k.at n (omega arith))

  first-position : (i n : ℕ) → i < n → Equal values i fs → evaluate values (get_or fs (ROW * i + MISMATCH) 0) ≡ true → position differs (comparisons_of I O n fs) ≡ some i
  unfolding comparisons_of comparison_at
  first-position i zero h k e = absurd (omega arith)
  first-position i (suc n) h k e = place-snoc differs (comparisons_of I O n fs) (comparison_at I O fs n) ∙ go (λ l. first-position i n l k e) (eqb i n) refl
    where
      go : (i < n → position differs (comparisons_of I O n fs) ≡ some i) → (t : Bool) → eqb i n ≡ t
          → or_else (position differs (comparisons_of I O n fs)) (cond (evaluate values (get_or fs (ROW * n + MISMATCH) 0)) (some (length (comparisons_of I O n fs))) none) ≡ some i
      go f true q =
          let s : i ≡ n = eqb-true i n q in
          rw (equal-position n (rw s at k), rw s at e, length-comparisons I O n fs, s)
      go f false q = rw (f (omega (arith, eqb-false i n q)))

  -- no cycle has one
  pub no-mismatch : (n : ℕ) → Equal values n fs → 0 ≡ first_mismatch values (comparisons_of I O n fs)
  unfolding first_mismatch
  no-mismatch n k = ap (λ (o : Option ℕ). elim o [ none ↦ 0 | some j ↦ j ]) (sym (equal-position n k))

  -- cycle i has the first
  pub first-mismatch : (i n : ℕ) → i < n → Equal values i fs → evaluate values (get_or fs (ROW * i + MISMATCH) 0) ≡ true → i ≡ first_mismatch values (comparisons_of I O n fs)
  unfolding first_mismatch
  first-mismatch i n h k e = ap (λ (o : Option ℕ). elim o [ none ↦ 0 | some j ↦ j ]) (sym (first-position i n h k e))

-- ---- bytes

-- the bytes of the first n literals from a place on
unfoldable pub bytes_of : List Bool → ℕ → ℕ → List ℕ → List ℕ
bytes_of values n at fs = map (λ (l : ℕ). byte (evaluate values l)) (words_from n at fs)

-- the marks of the first n pairs from two places on
unfoldable pub marks_of : List Bool → ℕ → ℕ → ℕ → List ℕ → List ℕ
marks_of values n at to fs = map (λ (p : Literal × Literal). byte (xorBool (evaluate values p.0) (evaluate values p.1))) (pairs_from n at to fs)

-- the bytes of the inputs of the first n cycles
unfoldable pub inputs_of : List Bool → ℕ → ℕ → List ℕ → List ℕ
inputs_of values I zero fs = []
inputs_of values I (suc n) fs = inputs_of values I n fs ++ bytes_of values I (ROW * n) fs

module _ (values : List Bool) (fs : List ℕ) where
  -- they are the bytes of the literals' values
  pub bytes_are : (n at : ℕ) → bytes (λ i. evaluate values (get_or fs (at + i) 0)) n ≡ bytes_of values n at fs
  unfolding bytes bytes_of words_from
  bytes_are zero at = refl
  bytes_are (suc n) at =
      ap (λ (xs : List ℕ). snoc xs (byte (evaluate values (get_or fs (at + n) 0)))) (bytes_are n at)
      ∙ sym (map_snoc (λ (l : ℕ). byte (evaluate values l)) (words_from n at fs) (get_or fs (at + n) 0))

  pub length-bytes : (n at : ℕ) → length (bytes_of values n at fs) ≡ n
  unfolding bytes_of words_from snoc
  length-bytes zero at = refl
  length-bytes (suc n) at = length-map (words_from n at fs ++ (get_or fs (at + n) 0 ∷ [])) (λ (l : ℕ). byte (evaluate values l))
      ∙ simp length-append (omega (arith, length-map (words_from n at fs) (λ (l : ℕ). byte (evaluate values l)), length-bytes n at))

  -- they are the bytes of what differs
  pub marks-bytes : (n at to : ℕ) → bytes (λ i. not (beq (evaluate values (get_or fs (at + i) 0)) (evaluate values (get_or fs (to + i) 0)))) n ≡ marks_of values n at to fs
  unfolding bytes marks_of pairs_from
  marks-bytes zero at to = refl
  marks-bytes (suc n) at to =
      let a = evaluate values (get_or fs (at + n) 0) in
      let b = evaluate values (get_or fs (to + n) 0) in
      ap (λ (xs : List ℕ). snoc xs (byte (not (beq a b)))) (marks-bytes n at to)
      ∙ ap (λ (t : Bool). snoc (marks_of values n at to fs) (byte t)) (differ_is a b)
      ∙ sym (map_snoc (λ (p : Literal × Literal). byte (xorBool (evaluate values p.0) (evaluate values p.1))) (pairs_from n at to fs) (get_or fs (at + n) 0, get_or fs (to + n) 0))

  pub inputs-none : (I : ℕ) → inputs_of values I 0 fs ≡ []
  unfolding inputs_of
  inputs-none I = refl

  -- one cycle more
  pub inputs-more : (I n : ℕ) → inputs_of values I (n + 1) fs ≡ inputs_of values I n fs ++ bytes_of values I (ROW * n) fs
  unfolding inputs_of
  inputs-more I n = rw add-one

  pub length-inputs : (I n : ℕ) → length (inputs_of values I n fs) ≡ n * I
  unfolding inputs_of
  length-inputs I zero = omega arith
  length-inputs I (suc n) = simp length-append (omega (arith, length-inputs I n, length-bytes I (ROW * n), suc-mul n I))

-- ---- the trace

concat-snoc : {A : Type 0} (xss : List (List A)) (xs : List A) → concat (snoc xss xs) ≡ concat xss ++ xs
unfolding concat snoc
concat-snoc [] xs = append-nil xs
concat-snoc (ys ∷ xss) xs = ap (λ zs. ys ++ zs) (concat-snoc xss xs) ∙ sym (append_assoc ys (concat xss) xs)

module _ (values : List Bool) (I O : ℕ) (fs : List ℕ) where
  inputs_are : (n : ℕ) → concat (map (input_bytes values) (comparisons_of I O n fs)) ≡ inputs_of values I n fs
  unfolding comparisons_of comparison_at inputs_of input_bytes bytes_of concat
  inputs_are zero = refl
  inputs_are (suc n) =
      ap concat (map_snoc (input_bytes values) (comparisons_of I O n fs) (comparison_at I O fs n))
      ∙ concat-snoc (map (input_bytes values) (comparisons_of I O n fs)) (input_bytes values (comparison_at I O fs n))
      ∙ ap (λ (xs : List ℕ). xs ++ bytes_of values I (ROW * n) fs) (inputs_are n)

  -- the first n of the comparisons
  take-comparisons : (n k : ℕ) → n ≤ k → take n (comparisons_of I O k fs) ≡ comparisons_of I O n fs
  unfolding comparisons_of snoc
  take-comparisons n zero h = let e : n ≡ 0 = omega arith in rw e
  take-comparisons n (suc k) h = go (λ l. take-comparisons n k l) (eqb n (suc k)) refl
    where
      go : (n ≤ k → take n (comparisons_of I O k fs) ≡ comparisons_of I O n fs) → (t : Bool) → eqb n (suc k) ≡ t
          → take n (comparisons_of I O k fs ++ (comparison_at I O fs k ∷ [])) ≡ comparisons_of I O n fs
      go f true q = rw (eqb-true n (suc k) q) (take_all (suc k) (comparisons_of I O k fs ++ (comparison_at I O fs k ∷ [])) (simp length-append (omega (arith, length-comparisons I O k fs))))
      go f false q =
          let l : n ≤ k = omega (arith, eqb-false n (suc k) q) in
          take-append-le n (comparisons_of I O k fs) (comparison_at I O fs k ∷ []) (omega (arith, length-comparisons I O k fs)) ∙ f l

  first_append : (xs ys : List FrameComparison) → 0 < length xs → first_marks values (xs ++ ys) ≡ first_marks values xs
  unfolding first_marks
  first_append [] ys h = absurd (omega arith)
  first_append (x ∷ xs) ys h = refl

  -- the marks of comparison m
  marks_are : (m k : ℕ) → m < k → first_marks values (drop m (comparisons_of I O k fs)) ≡ marks_of values O (ROW * m + GOLD-OUTPUTS) (ROW * m + GATE-OUTPUTS) fs
  unfolding comparisons_of snoc first_marks mark_bytes marks_of comparison_at
  marks_are m zero h = absurd (omega arith)
  marks_are m (suc k) h =
      ap (λ (cs : List FrameComparison). first_marks values cs) (drop-append-le m (comparisons_of I O k fs) (comparison_at I O fs k ∷ []) (omega (arith, length-comparisons I O k fs)))
      ∙ go (λ l. marks_are m k l) (eqb m k) refl
    where
      go : (m < k → first_marks values (drop m (comparisons_of I O k fs)) ≡ marks_of values O (ROW * m + GOLD-OUTPUTS) (ROW * m + GATE-OUTPUTS) fs) → (t : Bool) → eqb m k ≡ t
          → first_marks values (drop m (comparisons_of I O k fs) ++ (comparison_at I O fs k ∷ [])) ≡ marks_of values O (ROW * m + GOLD-OUTPUTS) (ROW * m + GATE-OUTPUTS) fs
      go f true q =
          let e : m ≡ length (comparisons_of I O k fs) = eqb-true m k q ∙ sym (length-comparisons I O k fs) in
          let z : drop m (comparisons_of I O k fs) ≡ [] = ap (λ (j : ℕ). drop j (comparisons_of I O k fs)) e ∙ drop-length (comparisons_of I O k fs) in
          rw (z, eqb-true m k q)
      go f false q =
          let l : m < k = omega (arith, eqb-false m k q) in
          first_append (drop m (comparisons_of I O k fs)) (comparison_at I O fs k ∷ []) (simp length-drop (omega (arith, length-comparisons I O k fs))) ∙ f l

  -- the bytes of the inputs of cycles 0 to m, then the marks of cycle m
  pub trace_is : (m k : ℕ) → m < k → inputs_of values I (m + 1) fs ++ marks_of values O (ROW * m + GOLD-OUTPUTS) (ROW * m + GATE-OUTPUTS) fs ≡ trace_bytes values (comparisons_of I O k fs) m
  unfolding trace_bytes
  trace_is m k h =
      rw (add-one, take-comparisons (suc m) k (omega arith), inputs_are (suc m), marks_are m k h)

-- the room of one cycle's inputs
pub row_room : (c n I : ℕ) → c < n → c * I + I ≤ n * I
row_room c zero I h = absurd (omega arith)
row_room c (suc n) I h = go (λ l. row_room c n I l) (eqb c n) refl
  where
    go : (c < n → c * I + I ≤ n * I) → (t : Bool) → eqb c n ≡ t → c * I + I ≤ suc n * I
    go f true q = rw (eqb-true c n q) (omega (arith, suc-mul n I))
    go f false q = omega (arith, suc-mul n I, f (omega (arith, eqb-false c n q)))

-- the room of the inputs of cycles 0 to c
pub rows-room : (c n I : ℕ) → c < n → (c + 1) * I ≤ n * I
rows-room c n I h = rw (add-one c) (omega (arith, suc-mul c I, row_room c n I h))

-- the whole trace
pub traced : (n I O cycles : ℕ) (w trace : List ℕ) (m : ℕ) (trace' : List ℕ) → 0 < cycles → FirstMismatch n cycles w m
    → Wrote 0 (inputs_of (model_of n w) I (m + 1) (region FRAMES w) ++ marks_of (model_of n w) O (ROW * m + GOLD-OUTPUTS) (ROW * m + GATE-OUTPUTS) (region FRAMES w)) trace trace'
    → Traced n I O cycles w trace m trace'
traced n I O cycles w trace m trace' h f k =
    record {
      mismatch_is = f.is I O;
      trace_is = wrote_all _ trace trace' k ∙ ap (λ (bs : List ℕ). overwrite bs trace) (trace_is (model_of n w) I O (region FRAMES w) m cycles (f.below h));
    }
