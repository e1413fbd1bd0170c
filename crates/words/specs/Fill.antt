-- Lists whose first n elements are one value. Assumes nothing.
use Rattle.std.specs.Prelude.{◌≡◌, refl, List, [], ◌∷◌, ℕ, zero, suc, ◌+◌, ◌≤◌, ◌<◌, length, take, set, get_or, replicate}
use Rattle.std.proofs.Common.{ap, arith, add-one}

-- the list with its first n elements replaced by a
unfoldable pub filled : {A : Type 0} → A → ℕ → List A → List A
filled a zero xs = xs
filled a (suc n) [] = []
filled a (suc n) (x ∷ xs) = a ∷ filled a n xs

pub filled-suc : {A : Type 0} (a : A) (n : ℕ) (xs : List A) → set (filled a n xs) n a ≡ filled a (suc n) xs
unfolding filled
filled-suc a zero [] = refl
filled-suc a zero (x ∷ xs) = refl
filled-suc a (suc n) [] = refl
filled-suc a (suc n) (x ∷ xs) = ap (λ ys. a ∷ ys) (filled-suc a n xs)

-- one element more
pub filled_more : {A : Type 0} (a : A) (n : ℕ) (xs : List A) → set (filled a n xs) n a ≡ filled a (n + 1) xs
filled_more a n xs = rw add-one (filled-suc a n xs)

-- none
pub filled_none : {A : Type 0} (a : A) (xs : List A) → filled a 0 xs ≡ xs
unfolding filled
filled_none a xs = refl

-- all
pub filled-all : {A : Type 0} (a : A) (n : ℕ) (xs : List A) → length xs ≤ n → filled a n xs ≡ replicate (length xs) a
unfolding filled
filled-all a zero [] h = refl
filled-all a zero (x ∷ xs) h = absurd (omega arith)
filled-all a (suc n) [] h = refl
filled-all a (suc n) (x ∷ xs) h = ap (λ ys. a ∷ ys) (filled-all a n xs (omega arith))

pub length-filled : {A : Type 0} (a : A) (n : ℕ) (xs : List A) → length (filled a n xs) ≡ length xs
unfolding filled
length-filled a zero xs = refl
length-filled a (suc n) [] = refl
length-filled a (suc n) (x ∷ xs) = ap suc (length-filled a n xs)

-- a filled element
pub get_or-filled : {A : Type 0} (a : A) (n : ℕ) (xs : List A) (i : ℕ) → i < n → get_or (filled a n xs) i a ≡ a
unfolding filled
get_or-filled a zero xs i h = absurd (omega arith)
get_or-filled a (suc n) [] i h = refl
get_or-filled a (suc n) (x ∷ xs) zero h = refl
get_or-filled a (suc n) (x ∷ xs) (suc i) h = get_or-filled a n xs i (omega arith)

-- the filled elements
pub take-filled : {A : Type 0} (a : A) (n : ℕ) (xs : List A) → n ≤ length xs → take n (filled a n xs) ≡ replicate n a
unfolding filled
take-filled a zero xs h = refl
take-filled a (suc n) [] h = absurd (omega arith)
take-filled a (suc n) (x ∷ xs) h = ap (λ ys. a ∷ ys) (take-filled a n xs (omega arith))
