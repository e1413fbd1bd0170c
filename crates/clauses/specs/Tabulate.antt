-- The list of a function's values at 0, 1 and so on, and what a store or one more value does to it. Assumes nothing.
use Rattle.std.specs.Prelude.{◌≡◌, length, get_or, set}
use Rattle.std.proofs.Math.Path.{refl, ap}
use mathlib.Core.List.{List, [], ◌∷◌, ◌++◌}
use Prim.Native.Nat.{ℕ, zero, suc, ◌≤◌, ◌<◌}
use Rattle.std.proofs.Common.{arith}
use Rattle.std.proofs.Math.ListN.{get_or-eq_default}

module _ {A : Type 0} where
  -- f 0, f 1, … up to f (n - 1)
  unfoldable pub tabulate : ℕ → (ℕ → A) → List A
  tabulate zero f = []
  tabulate (suc n) f = f 0 ∷ tabulate n (λ i. f (suc i))

  pub length-tabulate : (n : ℕ) (f : ℕ → A) → length (tabulate n f) ≡ n
  unfolding tabulate
  length-tabulate zero f = refl
  length-tabulate (suc n) f = ap suc (length-tabulate n (λ i. f (suc i)))

  pub get_or-tabulate : (n : ℕ) (f : ℕ → A) (i : ℕ) (d : A) → i < n → get_or (tabulate n f) i d ≡ f i
  unfolding tabulate
  get_or-tabulate zero f i d h = absurd (omega arith)
  get_or-tabulate (suc n) f zero d h = refl
  get_or-tabulate (suc n) f (suc i) d h = get_or-tabulate n (λ k. f (suc k)) i d (omega arith)

  pub get_or-past : (n : ℕ) (f : ℕ → A) (i : ℕ) (d : A) → n ≤ i → get_or (tabulate n f) i d ≡ d
  get_or-past n f i d h = let k : length (tabulate n f) ≤ i = omega (arith, length-tabulate n f) in get_or-eq_default (tabulate n f) d k

  -- functions that agree below n
  pub tabulate-same : (n : ℕ) (f g : ℕ → A) → ((i : ℕ) → i < n → f i ≡ g i) → tabulate n f ≡ tabulate n g
  unfolding tabulate
  tabulate-same zero f g h = refl
  tabulate-same (suc n) f g h =
      rw (h 0 (omega arith))
      (ap (λ (r : List A). g 0 ∷ r) (tabulate-same n (λ i. f (suc i)) (λ i. g (suc i)) (λ i k. h (suc i) (omega arith))))

  -- functions that agree but at i
  pub tabulate-set : (n : ℕ) (f g : ℕ → A) (i : ℕ) (v : A) → ((k : ℕ) → k < n → (k ≡ i → ⊥) → g k ≡ f k) → (i < n → g i ≡ v)
      → tabulate n g ≡ set (tabulate n f) i v
  unfolding tabulate
  tabulate-set zero f g i v h e = refl
  tabulate-set (suc n) f g zero v h e =
      rw (e (omega arith))
      (ap (λ (r : List A). v ∷ r) (tabulate-same n (λ k. g (suc k)) (λ k. f (suc k)) (λ k m. h (suc k) (omega arith) (λ z. omega arith))))
  tabulate-set (suc n) f g (suc i) v h e =
      rw (h 0 (omega arith) (λ z. omega arith))
      (ap (λ (r : List A). f 0 ∷ r) (tabulate-set n (λ k. f (suc k)) (λ k. g (suc k)) i v (λ k m z. h (suc k) (omega arith) (λ w. z (omega arith))) (λ m. e (omega arith))))

  -- one value more
  pub tabulate-suc : (n : ℕ) (f : ℕ → A) → tabulate (suc n) f ≡ tabulate n f ++ (f n ∷ [])
  unfolding tabulate
  tabulate-suc zero f = refl
  tabulate-suc (suc n) f = ap (λ (r : List A). f 0 ∷ r) (tabulate-suc n (λ i. f (suc i)))
