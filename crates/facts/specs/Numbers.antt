-- Facts of numbers: cases of an equation and of an order, an equation tested either way round, and what `compare` gives. Assumes nothing.
use Prim.Native.Nat.compare
use Prim.Native.Nat.{Ordering}
use Prim.Native.Nat.{ℕ, zero, suc, ◌≤◌, ◌<◌, compare}
use Rattle.std.proofs.Common.{arith, sym, ◌∙◌, inl, inr, eqb-true, eq-eqb}
use Rattle.std.proofs.Math.Decide.{ℕ_discrete, dec_lt}
use Rattle.std.specs.Prelude.{◌≡◌, ◌≢◌, ◌⊎◌, Bool, true, false, cond, eqb}
use Rattle.facts.specs.Bools.{both_ways}

-- ---- cases

-- two cases of an equation, kept as a fact
pub by_eq : {C : Type 0} (a b : ℕ) → (a ≡ b → C) → (a ≢ b → C) → C
by_eq {C} a b f g = go (ℕ_discrete a b)
  where
    go : Dec (a ≡ b) → C
    go (yes e) = f e
    go (no e) = g e

-- two cases of an order
pub by_lt : {C : Type 0} (a b : ℕ) → (a < b → C) → (b ≤ a → C) → C
by_lt {C} a b f g = go (dec_lt a b)
  where
    go : Dec (a < b) → C
    go (yes e) = f e
    go (no e) = g (omega arith)

-- the same as a fact
pub below : (i n : ℕ) → (i < n) ⊎ (n ≤ i)
below i n = by_lt i n (λ h. inl h) (λ h. inr h)

-- an equation tested either way round
pub eqb_swap : (a b : ℕ) → eqb a b ≡ eqb b a
eqb_swap a b = both_ways (eqb a b) (eqb b a) (λ e. eq-eqb b a (sym (eqb-true a b e))) (λ e. eq-eqb a b (sym (eqb-true b a e)))

-- a bit counts at most 1
pub cond_le : (b : Bool) → cond b 1 0 ≤ 1
cond_le true = omega arith
cond_le false = omega arith

-- ---- the order that `compare` gives

pub compare-lt : (m n : ℕ) → m < n → compare m n ≡ Ordering.lt
compare-lt zero zero h = absurd (omega arith)
compare-lt zero (suc n) h = compare.zero-suc n
compare-lt (suc m) zero h = absurd (omega arith)
compare-lt (suc m) (suc n) h = compare.suc-suc m n ∙ compare-lt m n (omega arith)

pub compare_gt : (m n : ℕ) → n < m → compare m n ≡ Ordering.gt
compare_gt zero n h = absurd (omega arith)
compare_gt (suc m) zero h = compare.suc-zero m
compare_gt (suc m) (suc n) h = compare.suc-suc m n ∙ compare_gt m n (omega arith)

pub compare_same : (n : ℕ) → compare n n ≡ Ordering.eq
compare_same zero = compare.zero-zero
compare_same (suc n) = compare.suc-suc n n ∙ compare_same n
