-- Laws of an array's elements up to a count, each element changed by a function. Assumes nothing.
use Rattle.std.specs.Prelude.{ℕ, zero, suc, ◌+◌, ◌≤◌, ◌<◌, ◌≡◌, refl, List, [], ◌∷◌, ◌++◌, map, length, get_or, take, drop, set}
use Rattle.std.proofs.Common.{◌∙◌, arith, add-one, not-suc-le-zero, le_of_suc-le-suc, length-take, take-suc-set, length-take-le, get_or-take, drop-cons}
use Rattle.std.proofs.lemmas.List.{map-append, length-map}
use Rattle.std.proofs.Math.Option.{none, some}
use Rattle.std.proofs.Math.ListN.{get_elem?, get_or-map}
use Rattle.facts.specs.Lists.{get_elem_in, get_elem_out}

module _ {A B : Type 0} (f : A → B) where
  -- one more element is stored
  pub map-take-set : (xs : List A) (i : ℕ) (y : A) → i < length xs → map f (take (i + 1) (set xs i y)) ≡ map f (take i xs) ++ (f y ∷ [])
  map-take-set xs i y h = rw (add-one i, take-suc-set xs i y h) (map-append f (take i xs) (y ∷ []))

  pub length-map-take : (xs : List A) (n : ℕ) → n ≤ length xs → length (map f (take n xs)) ≡ n
  length-map-take xs n h = length-map (take n xs) f ∙ length-take-le n xs h

  -- the elements from i on
  pub drop-map_cons : (xs : List A) (n i : ℕ) (d : A) → i < n → n ≤ length xs → drop i (map f (take n xs)) ≡ f (get_or xs i d) ∷ drop (suc i) (map f (take n xs))
  drop-map_cons xs n i d h l =
      drop-cons (map f (take n xs)) i (f d) (rw (length-map-take xs n l) h) ∙ rw (get_or-map f (take n xs) i d, get_or-take)

  pub drop-map-take : (xs : List A) (n i : ℕ) (d : A) → i < n → n ≤ length xs → drop i (map f (take n xs)) ≡ f (get_or xs i d) ∷ drop (i + 1) (map f (take n xs))
  drop-map-take xs n i d h l = rw (add-one i) (drop-map_cons xs n i d h l)

  -- none from the count on
  pub drop-map-all : (xs : List A) (n i : ℕ) → n ≤ i → drop i (map f (take n xs)) ≡ []
  drop-map-all xs zero zero h = refl
  drop-map-all xs zero (suc i) h = refl
  drop-map-all xs (suc n) zero h = absurd (not-suc-le-zero h)
  drop-map-all [] (suc n) (suc i) h = refl
  drop-map-all (x ∷ xs) (suc n) (suc i) h = drop-map-all xs n i (le_of_suc-le-suc h)

  -- the element of a number
  pub element : (xs : List A) (n i : ℕ) (d : A) → i < n → n ≤ length xs → get_elem? (map f (take n xs)) i ≡ some (f (get_or xs i d))
  element xs n i d h l =
      get_elem_in (map f (take n xs)) i (f d) (rw (length-map-take xs n l) h) ∙ rw (get_or-map f (take n xs) i d, get_or-take)

  pub no_element : (xs : List A) (n i : ℕ) → n ≤ i → get_elem? (map f (take n xs)) i ≡ none
  no_element xs n i h = get_elem_out (map f (take n xs)) i (simp (length-map, length-take) (omega arith))
