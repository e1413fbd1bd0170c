-- Two lists whose elements are related in order. Assumes nothing.
use Rattle.std.specs.Prelude.{ℕ, zero, suc, ◌≡◌, refl, List, [], ◌∷◌, ◌++◌, map, length, get_or}
use Rattle.std.proofs.Common.{ap, ap₂}
use Rattle.model.specs.Lists.{snoc}
use Rattle.facts.specs.Lists.{All}

-- two lists whose elements are related in order
abbrev pub Pairwise : {A B : Type 0} → (A → B → Type 0) → List A → List B → Type 0
Pairwise P [] [] = Unit {0}
Pairwise P [] (y ∷ ys) = ⊥
Pairwise P (x ∷ xs) [] = ⊥
Pairwise P (x ∷ xs) (y ∷ ys) = P x y × Pairwise P xs ys

-- one pair more
pub pairs-snoc : {A B : Type 0} (P : A → B → Type 0) (xs : List A) (ys : List B) (x : A) (y : B) → Pairwise P xs ys → P x y → Pairwise P (snoc xs x) (snoc ys y)
unfolding snoc
pairs-snoc P [] [] x y h p = (p, tt)
pairs-snoc P [] (b ∷ ys) x y h p = absurd h
pairs-snoc P (a ∷ xs) [] x y h p = absurd h
pairs-snoc P (a ∷ xs) (b ∷ ys) x y h p = (h.0, pairs-snoc P xs ys x y h.1 p)

-- a relation that follows from another
pub pairs_weaken : {A B : Type 0} (P Q : A → B → Type 0) → ((x : A) (y : B) → P x y → Q x y) → (xs : List A) (ys : List B) → Pairwise P xs ys → Pairwise Q xs ys
pairs_weaken P Q f [] [] h = tt
pairs_weaken P Q f [] (b ∷ ys) h = absurd h
pairs_weaken P Q f (a ∷ xs) [] h = absurd h
pairs_weaken P Q f (a ∷ xs) (b ∷ ys) h = (f a b h.0, pairs_weaken P Q f xs ys h.1)

-- two lists one after the other
pub pairs_append : {A B : Type 0} (P : A → B → Type 0) (xs : List A) (ys : List B) (us : List A) (vs : List B)
    → Pairwise P xs ys → Pairwise P us vs → Pairwise P (xs ++ us) (ys ++ vs)
pairs_append P [] [] us vs h k = k
pairs_append P [] (y ∷ ys) us vs h k = absurd h
pairs_append P (x ∷ xs) [] us vs h k = absurd h
pairs_append P (x ∷ xs) (y ∷ ys) us vs h k = (h.0, pairs_append P xs ys us vs h.1 k)

-- by places, with related defaults
pub pairs_get : {A B : Type 0} (P : A → B → Type 0) (xs : List A) (ys : List B) (d : A) (e : B) → Pairwise P xs ys → P d e → (k : ℕ) → P (get_or xs k d) (get_or ys k e)
pairs_get P [] [] d e h p k = p
pairs_get P [] (b ∷ ys) d e h p k = absurd h
pairs_get P (a ∷ xs) [] d e h p k = absurd h
pairs_get P (a ∷ xs) (b ∷ ys) d e h p zero = h.0
pairs_get P (a ∷ xs) (b ∷ ys) d e h p (suc k) = pairs_get P xs ys d e h.1 p k

-- related lists are equally long
pub pairs-length : {A B : Type 0} (P : A → B → Type 0) (xs : List A) (ys : List B) → Pairwise P xs ys → length xs ≡ length ys
pairs-length P [] [] h = refl
pairs-length P [] (y ∷ ys) h = absurd h
pairs-length P (x ∷ xs) [] h = absurd h
pairs-length P (x ∷ xs) (y ∷ ys) h = ap suc (pairs-length P xs ys h.1)

-- what each element gives, its partner gives
pub pairs-map : {A B C : Type 0} (P : A → B → Type 0) (f : A → C) (g : B → C) → ((x : A) (y : B) → P x y → f x ≡ g y)
    → (xs : List A) (ys : List B) → Pairwise P xs ys → map f xs ≡ map g ys
pairs-map P f g t [] [] h = refl
pairs-map P f g t [] (y ∷ ys) h = absurd h
pairs-map P f g t (x ∷ xs) [] h = absurd h
pairs-map P f g t (x ∷ xs) (y ∷ ys) h = ap₂ ◌∷◌ (t x y h.0) (pairs-map P f g t xs ys h.1)

-- with a property of the first ones
pub pairs-all : {A B : Type 0} (P : A → B → Type 0) (Q : A → Type 0) (xs : List A) (ys : List B) → Pairwise P xs ys → All Q xs → Pairwise (λ (x : A) (y : B). P x y × Q x) xs ys
pairs-all P Q [] [] h k = tt
pairs-all P Q [] (y ∷ ys) h k = absurd h
pairs-all P Q (x ∷ xs) [] h k = absurd h
pairs-all P Q (x ∷ xs) (y ∷ ys) h k = ((h.0, k.0), pairs-all P Q xs ys h.1 k.1)
