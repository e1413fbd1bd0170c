-- Functions on lists that the other files share. Definitions only.
use Rattle.std.specs.Prelude.{ℕ, suc, Bool, false, cond, ◌||◌, List, [], ◌∷◌, ◌++◌, eqb}
use Rattle.std.proofs.Math.Option.{Option, none, some}

-- one more element at the end
unfoldable pub snoc : {A : Type 0} → List A → A → List A
snoc xs x = xs ++ (x ∷ [])

-- the number is one of the list
unfoldable pub member : ℕ → List ℕ → Bool
member x [] = false
member x (y ∷ ys) = let rest = member x ys in eqb x y || rest

-- one place later
unfoldable pub next_place : Option ℕ → Option ℕ
next_place none = none
next_place (some i) = some (suc i)

-- the place of the first element that passes the test
unfoldable pub position : {A : Type 0} → (A → Bool) → List A → Option ℕ
position p [] = none
position p (x ∷ xs) = let r = next_place (position p xs) in cond (p x) (some 0) r

-- the elements of two lists in pairs
unfoldable pub zip : {A B : Type 0} → List A → List B → List (A × B)
zip [] ys = []
zip (x ∷ xs) [] = []
zip (x ∷ xs) (y ∷ ys) = (x, y) ∷ zip xs ys

-- the second part of the first pair whose first part is k; z where there is none
unfoldable pub lookup : {A : Type 0} → A → List (ℕ × A) → ℕ → A
lookup z [] k = z
lookup z (p ∷ ps) k = let r = lookup z ps k in cond (eqb p.0 k) p.1 r

-- the lists one after another
unfoldable pub concat : {A : Type 0} → List (List A) → List A
concat [] = []
concat (xs ∷ xss) = xs ++ concat xss

-- naming this in an `unfolding` line opens the definitions of this file
unfoldable pub all : Unit {0}
unfolding snoc member next_place position zip lookup concat
all = tt
