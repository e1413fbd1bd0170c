-- A table of marks filled by a walk: nothing marked yet, some numbers more, nothing left. Assumes nothing.
use Rattle.std.specs.Prelude.{ℕ, ◌<◌, ◌≡◌, refl, Bool, true, false, ◌||◌, List, [], ◌∷◌, ◌++◌, length, get_or, set, replicate, eqb}
use Rattle.std.proofs.Common.{sym, ap, ◌∙◌, length-set, get_or-set_same, get_or-set_other, eqb-true}
use Rattle.std.proofs.Math.Bool.{or_assoc, or-false}
use Rattle.std.proofs.lemmas.List.{length-replicate}
use Rattle.std.proofs.lemmas.Bool.{eqb-false}
use Rattle.facts.specs.Bools.{or_swap}
use Rattle.facts.specs.Lists.{get_or-replicate}
use Rattle.model.specs.Lists.{member}
use Rattle.clock_reads.specs.Marks.{with_marks, Marked, MarkedSoFar}

-- ---- numbers marked

-- the table keeps its length
length-marks : (numbers : List ℕ) (table : List Bool) → length (with_marks numbers table) ≡ length table
unfolding with_marks
length-marks [] table = refl
length-marks (n ∷ ns) table = length-marks ns (set table n true) ∙ length-set table n true

-- the numbers of two lists, one after the other
pub marks_append : (xs ys : List ℕ) (table : List Bool) → with_marks (xs ++ ys) table ≡ with_marks ys (with_marks xs table)
unfolding with_marks
marks_append [] ys table = refl
marks_append (x ∷ xs) ys table = marks_append xs ys (set table x true)

-- one number marked
mark_at : (table : List Bool) (n k : ℕ) → k < length table → get_or (set table n true) k false ≡ (eqb k n || get_or table k false)
mark_at table n k l = by (eqb k n) refl
  where
    by : (b : Bool) → eqb k n ≡ b → get_or (set table n true) k false ≡ (b || get_or table k false)
    by true e = let f : k ≡ n = eqb-true k n e in ap (λ (i : ℕ). get_or (set table i true) k false) (sym f) ∙ get_or-set_same table k true false l
    by false e = get_or-set_other table n k true false (eqb-false k n e)

-- some numbers marked
marks-at : (numbers : List ℕ) (table : List Bool) (k : ℕ) → k < length table → get_or (with_marks numbers table) k false ≡ (member k numbers || get_or table k false)
unfolding with_marks member
marks-at [] table k l = refl
marks-at (n ∷ ns) table k l = marks-at ns (set table n true) k (rw (length-set table n true) l) ∙ rw (mark_at table n k l) (or_swap (member k ns) (eqb k n) (get_or table k false) ∙ sym (or_assoc (eqb k n) (member k ns) (get_or table k false)))

-- ---- the walk

-- nothing is marked yet
pub no-marks : (property : List ℕ → ℕ → Bool) → MarkedSoFar property property (replicate 1024 false)
no-marks property = record { size = length-replicate 1024 false; marks = λ s k l. rw (get_or-replicate 1024 k false) }

-- marks of one walk, and another walk into the same table
pub marks-kept : (first second : List ℕ → ℕ → Bool) (table : List Bool) → Marked first table → MarkedSoFar (λ s k. first s k || second s k) second table
marks-kept first second table m = record { size = m.size; marks = λ s k l. ap (λ (b : Bool). b || second s k) (m.marks s k l) }

module _ (property left : List ℕ → ℕ → Bool) (table : List Bool) (so : MarkedSoFar property left table) where
  -- some numbers more
  pub more-marks : (next : List ℕ → ℕ → Bool) (numbers : List ℕ) → ((s : List ℕ) (k : ℕ) → left s k ≡ (member k numbers || next s k)) → MarkedSoFar property next (with_marks numbers table)
  more-marks next numbers e = record { size = length-marks numbers table ∙ so.size; marks = λ s k l. step s k l ∙ so.marks s k l }
    where
      step : (s : List ℕ) (k : ℕ) → k < 1024 → (get_or (with_marks numbers table) k false || next s k) ≡ (get_or table k false || left s k)
      step s k l = rw (marks-at numbers table k (rw so.size l), e s k) (or_assoc (member k numbers) (get_or table k false) (next s k) ∙ or_swap (member k numbers) (get_or table k false) (next s k))

  -- nothing is left
  pub all-marks : ((s : List ℕ) (k : ℕ) → left s k ≡ false) → Marked property table
  all-marks e = record { size = so.size; marks = λ s k l. done s k l ∙ so.marks s k l }
    where
      done : (s : List ℕ) (k : ℕ) → k < 1024 → get_or table k false ≡ (get_or table k false || left s k)
      done s k l = rw (e s k) (sym (or-false (get_or table k false)))
