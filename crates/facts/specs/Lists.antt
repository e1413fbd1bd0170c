-- Facts of lists: what `set` and `replicate` leave, elements by places, properties of all elements, members. Assumes nothing.
use Rattle.std.specs.Prelude.{ℕ, zero, suc, ◌≤◌, ◌<◌, ◌≡◌, refl, ◌⊎◌, List, [], ◌∷◌, ◌++◌, replicate, length, get_or, set}
use Rattle.std.proofs.Common.{arith, inl, inr}
use Rattle.std.proofs.Math.Option.{none, some}
use Rattle.std.proofs.Math.ListN.{get_elem?}

-- ---- by places

-- the default set is read
pub get_or-set_default : {A : Type 0} (xs : List A) (i : ℕ) (d : A) → get_or (set xs i d) i d ≡ d
get_or-set_default [] i d = refl
get_or-set_default (x ∷ xs) zero d = refl
get_or-set_default (x ∷ xs) (suc i) d = get_or-set_default xs i d

-- a number set is read, or 0 past the end
pub get_or-set_le : (xs : List ℕ) (i y : ℕ) → get_or (set xs i y) i 0 ≤ y
get_or-set_le [] i y = omega arith
get_or-set_le (x ∷ xs) zero y = omega arith
get_or-set_le (x ∷ xs) (suc i) y = get_or-set_le xs i y

-- a fact of every element, with one changed
pub set_any : {A : Type 0} (P : A → Type 0) (xs : List A) (i j : ℕ) (x d : A) → P (get_or xs j d) → P x → P (get_or (set xs i x) j d)
set_any P [] i j x d h q = h
set_any P (y ∷ xs) zero zero x d h q = q
set_any P (y ∷ xs) zero (suc j) x d h q = h
set_any P (y ∷ xs) (suc i) zero x d h q = h
set_any P (y ∷ xs) (suc i) (suc j) x d h q = set_any P xs i j x d h q

-- every place of a list of defaults has the default
pub get_or-replicate : {A : Type 0} (k i : ℕ) (d : A) → get_or (replicate k d) i d ≡ d
get_or-replicate zero i d = refl
get_or-replicate (suc k) zero d = refl
get_or-replicate (suc k) (suc i) d = get_or-replicate k i d

-- the element of a place within the list, and past it
pub get_elem_in : {A : Type 0} (xs : List A) (i : ℕ) (d : A) → i < length xs → get_elem? xs i ≡ some (get_or xs i d)
get_elem_in [] i d h = absurd (omega arith)
get_elem_in (x ∷ xs) zero d h = refl
get_elem_in (x ∷ xs) (suc i) d h = get_elem_in xs i d (omega arith)

pub get_elem_out : {A : Type 0} (xs : List A) (i : ℕ) → length xs ≤ i → get_elem? xs i ≡ none
get_elem_out [] i h = refl
get_elem_out (x ∷ xs) zero h = absurd (omega arith)
get_elem_out (x ∷ xs) (suc i) h = get_elem_out xs i (omega arith)

-- ---- a fact of all elements

-- every element has a property
abbrev pub All {ℓ} : {A : Type ℓ} → (A → Type 0) → List A → Type 0
All P [] = Unit {0}
All P (x ∷ xs) = P x × All P xs

-- a fact of every literal, by places
pub all_from : (P : ℕ → Type 0) (xs : List ℕ) → ((i : ℕ) → i < length xs → P (get_or xs i 0)) → All P xs
all_from P [] f = tt
all_from P (x ∷ xs) f = (f 0 (omega arith), all_from P xs (λ i h. f (suc i) (omega arith)))

-- by places
pub all-at : (P : ℕ → Type 0) (xs : List ℕ) → All P xs → (i : ℕ) → i < length xs → P (get_or xs i 0)
all-at P [] h i q = absurd (omega arith)
all-at P (x ∷ xs) h zero q = h.0
all-at P (x ∷ xs) h (suc i) q = all-at P xs h.1 i (omega arith)

-- a property that follows from another
pub all_map : {A : Type 0} (P Q : A → Type 0) → ((x : A) → P x → Q x) → (xs : List A) → All P xs → All Q xs
all_map P Q f [] h = tt
all_map P Q f (x ∷ xs) h = (f x h.0, all_map P Q f xs h.1)

-- of two lists one after the other
pub all_append : {A : Type 0} (P : A → Type 0) (xs ys : List A) → All P xs → All P ys → All P (xs ++ ys)
all_append P [] ys h k = k
all_append P (x ∷ xs) ys h k = (h.0, all_append P xs ys h.1 k)

-- ---- members

-- the number is one of the list
abbrev pub In : ℕ → List ℕ → Type 0
In x [] = ⊥
In x (y ∷ ys) = (x ≡ y) ⊎ In x ys

-- a member of two lists joined is a member of one
pub in_cases : (x : ℕ) (xs ys : List ℕ) → In x (xs ++ ys) → In x xs ⊎ In x ys
in_cases x [] ys h = inr h
in_cases x (y ∷ xs) ys (inl e) = inl (inl e)
in_cases x (y ∷ xs) ys (inr h) = go (in_cases x xs ys h)
  where
    go : In x xs ⊎ In x ys → In x (y ∷ xs) ⊎ In x ys
    go (inl q) = inl (inr q)
    go (inr q) = inr q
