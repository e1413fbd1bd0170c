-- Lists beside lists: sorted alike, zipped, looked up; for the lowering. Assumes nothing.
use Rattle.std.specs.Prelude.{ℕ, ◌<◌, ◌≡◌, refl, ◌⊎◌, Bool, cond, eqb}
use Rattle.std.proofs.Common.{arith, sym, ap, ◌∙◌, eqb-true, eq-eqb, ne_eqb}
use Rattle.std.proofs.Math.Logic.{inl, inr}
use Rattle.std.proofs.Math.Bool.{true, false}
use mathlib.Core.List.{List, [], ◌∷◌, ◌++◌, map}
use Rattle.std.proofs.lemmas.Bool.{eqb-false}
use Rattle.model.specs.Names.{Name, Place, before, insert_by_name, sort_by_name, sort}
use Rattle.model.specs.Lists.{zip, lookup}
use Rattle.facts.specs.Lists.{In, All}
use Rattle.laws.specs.Pairwise.{Pairwise}

-- ---- sorted alike

module _ {A : Type 0} (name : A → Name) (R : A → Place → Type 0) (same : (x : A) (p : Place) → R x p → name x ≡ p.name) where
  insert_pairs : (x : A) (p : Place) (xs : List A) (ps : List Place) → R x p → Pairwise R xs ps → Pairwise R (insert_by_name name x xs) (insert_by_name (λ (p : Place). p.name) p ps)
  unfolding insert_by_name
  insert_pairs x p [] [] r h = (r, tt)
  insert_pairs x p [] (q ∷ qs) r h = absurd h
  insert_pairs x p (y ∷ ys) [] r h = absurd h
  insert_pairs x p (y ∷ ys) (q ∷ qs) r h =
      rw (same x p r, same y q h.0) (place (before q.name p.name) (insert_pairs x p ys qs r h.1))
    where
      place : (b : Bool) → Pairwise R (insert_by_name name x ys) (insert_by_name (λ (p : Place). p.name) p qs) → Pairwise R (cond b (y ∷ insert_by_name name x ys) (x ∷ y ∷ ys)) (cond b (q ∷ insert_by_name (λ (p : Place). p.name) p qs) (p ∷ q ∷ qs))
      place true k = (h.0, k)
      place false k = (r, h)

  -- elements beside places with their names stay so when both are sorted
  pub sort-pairs : (xs : List A) (ps : List Place) → Pairwise R xs ps → Pairwise R (sort_by_name name xs) (sort ps)
  unfolding sort_by_name
  sort-pairs [] [] h = tt
  sort-pairs [] (p ∷ ps) h = absurd h
  sort-pairs (x ∷ xs) [] h = absurd h
  sort-pairs (x ∷ xs) (p ∷ ps) h = insert_pairs x p (sort_by_name name xs) (sort ps) h.0 (sort-pairs xs ps h.1)

-- ---- members

-- a number that elements of the first list give
pub in_map-left : {A : Type 0} (f : A → ℕ) (k : ℕ) (xs ys : List A) → In k (map f xs) → In k (map f (xs ++ ys))
in_map-left f k [] ys h = absurd h
in_map-left f k (x ∷ xs) ys (inl e) = inl e
in_map-left f k (x ∷ xs) ys (inr h) = inr (in_map-left f k xs ys h)

-- and one of the second
pub in_map-right : {A : Type 0} (f : A → ℕ) (k : ℕ) (xs ys : List A) → In k (map f ys) → In k (map f (xs ++ ys))
in_map-right f k [] ys h = h
in_map-right f k (x ∷ xs) ys h = inr (in_map-right f k xs ys h)

module _ {A : Type 0} (name : A → Name) (f : A → ℕ) (k : ℕ) where
  in_insert : (x : A) (ys : List A) → In k (map f (x ∷ ys)) → In k (map f (insert_by_name name x ys))
  unfolding insert_by_name
  in_insert x [] h = h
  in_insert x (y ∷ ys) h = place (before (name y) (name x)) h (in_insert x ys)
    where
      place : (b : Bool) → In k (map f (x ∷ y ∷ ys)) → (In k (map f (x ∷ ys)) → In k (map f (insert_by_name name x ys)))
          → In k (map f (cond b (y ∷ insert_by_name name x ys) (x ∷ y ∷ ys)))
      place true (inl e) r = inr (r (inl e))
      place true (inr (inl e)) r = inl e
      place true (inr (inr m)) r = inr (r (inr m))
      place false h r = h

  -- sorting loses no element
  pub in_sort : (xs : List A) → In k (map f xs) → In k (map f (sort_by_name name xs))
  unfolding sort_by_name
  in_sort [] h = h
  in_sort (x ∷ xs) (inl e) = in_insert x (sort_by_name name xs) (inl e)
  in_sort (x ∷ xs) (inr h) = in_insert x (sort_by_name name xs) (inr (in_sort xs h))

-- ---- pairs of a number and a bit, beside an environment

-- the pair has the environment's bit
abbrev pub Agree : (ℕ → Bool) → (ℕ × Bool) → Type 0
Agree e p = e p.0 ≡ p.1

-- a number that is in a list whose bits are those of an environment has the environment's bit
pub bit-agree : (e : ℕ → Bool) (ps : List (ℕ × Bool)) (k : ℕ) → All (Agree e) ps → In k (map (λ p. p.0) ps) → lookup false ps k ≡ e k
unfolding lookup
bit-agree e [] k h i = absurd i
bit-agree e (p ∷ ps) k h i = go (eqb p.0 k) refl i (bit-agree e ps k h.1)
  where
    go : (b : Bool) → eqb p.0 k ≡ b → (k ≡ p.0) ⊎ In k (map (λ q. q.0) ps) → (In k (map (λ q. q.0) ps) → lookup false ps k ≡ e k) → cond b p.1 (lookup false ps k) ≡ e k
    go true q i r = sym h.0 ∙ ap e (eqb-true p.0 k q)
    go false q (inl d) r = absurd (eqb-false p.0 k q (sym d))
    go false q (inr m) r = r m

-- numbers below k give nothing of k
pub lookup-past : {A : Type 0} (z : A) (ps qs : List (ℕ × A)) (k : ℕ) → All (λ (p : ℕ × A). p.0 < k) ps → lookup z (ps ++ qs) k ≡ lookup z qs k
unfolding lookup
lookup-past z [] qs k h = refl
lookup-past z (p ∷ ps) qs k h = rw (ne_eqb p.0 k (λ e. omega (arith, h.0, e))) (lookup-past z ps qs k h.1)

-- what stands in the first pair is found
pub lookup_first : {A : Type 0} (z : A) (k : ℕ) (x : A) (qs : List (ℕ × A)) → lookup z ((k, x) ∷ qs) k ≡ x
unfolding lookup
lookup_first z k x qs = rw (eq-eqb k k refl)

-- numbers beside bits, zipped
module _ {A B : Type 0} (e : ℕ → Bool) (P : A → B → Type 0) (f : A → ℕ) (g : B → Bool) (t : (x : A) (y : B) → P x y → e (f x) ≡ g y) where
  -- zipped pairs have the environment's bits
  pub zip-agree : (xs : List A) (ys : List B) → Pairwise P xs ys → All (Agree e) (zip (map f xs) (map g ys))
  unfolding zip
  zip-agree [] [] h = tt
  zip-agree [] (y ∷ ys) h = absurd h
  zip-agree (x ∷ xs) [] h = absurd h
  zip-agree (x ∷ xs) (y ∷ ys) h = (t x y h.0, zip-agree xs ys h.1)

  -- and their numbers are those of the elements
  pub zip_in : (k : ℕ) (xs : List A) (ys : List B) → Pairwise P xs ys → In k (map f xs) → In k (map (λ p. p.0) (zip (map f xs) (map g ys)))
  unfolding zip
  zip_in k [] [] h i = i
  zip_in k [] (y ∷ ys) h i = absurd h
  zip_in k (x ∷ xs) [] h i = absurd h
  zip_in k (x ∷ xs) (y ∷ ys) h (inl q) = inl q
  zip_in k (x ∷ xs) (y ∷ ys) h (inr i) = inr (zip_in k xs ys h.1 i)
