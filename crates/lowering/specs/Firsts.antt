-- The first elements of an array as a list, read by places: laws of a store, of pairs and of images. Assumes nothing.
use Rattle.std.specs.Prelude.{◌≡◌, refl, Bool, true, false, List, [], ◌∷◌, ◌++◌, map, ℕ, zero, suc, ◌+◌, ◌≤◌, ◌<◌, eqb, length, get_or, set, take}
use Rattle.std.proofs.Common.{ap, ap₂, sym, ◌∙◌, arith, add-one, eqb-true, length-append, get_or-set_other, get_or-set_same, take-suc}
use Rattle.std.proofs.lemmas.Bool.{eqb-false}
use Rattle.std.proofs.Math.ListN.{get_or-append}
use Rattle.std.proofs.lemmas.List.{get_or_at}
use Rattle.model.specs.Lists.{snoc, zip}

-- the first n elements; 0 past the end
unfoldable pub firsts : ℕ → List ℕ → List ℕ
firsts zero xs = []
firsts (suc n) xs = snoc (firsts n xs) (get_or xs n 0)

-- the first n pairs of two arrays
unfoldable pub pairs : ℕ → List ℕ → List ℕ → List (ℕ × ℕ)
pairs zero xs ys = []
pairs (suc n) xs ys = snoc (pairs n xs ys) (get_or xs n 0, get_or ys n 0)

pub length-firsts : (n : ℕ) (xs : List ℕ) → length (firsts n xs) ≡ n
unfolding firsts snoc
length-firsts zero xs = refl
length-firsts (suc n) xs = simp length-append (omega (arith, length-firsts n xs))

pub pairs-suc : (n : ℕ) (xs ys : List ℕ) → pairs (n + 1) xs ys ≡ snoc (pairs n xs ys) (get_or xs n 0, get_or ys n 0)
unfolding pairs
pairs-suc n xs ys = rw add-one

-- a store past the first n
pub firsts-set : (n : ℕ) (xs : List ℕ) (i v : ℕ) → n ≤ i → firsts n (set xs i v) ≡ firsts n xs
unfolding firsts
firsts-set zero xs i v h = refl
firsts-set (suc n) xs i v h =
    let p : get_or (set xs i v) n 0 ≡ get_or xs n 0 = get_or-set_other xs i n v 0 (λ e. omega arith) in
    rw (p, firsts-set n xs i v (omega arith))

-- one element more
pub firsts_more : (n : ℕ) (xs : List ℕ) (v : ℕ) → n < length xs → firsts (n + 1) (set xs n v) ≡ snoc (firsts n xs) v
unfolding firsts
firsts_more n xs v h = rw (add-one, firsts-set n xs n v (omega arith), get_or-set_same xs n v 0 h)

-- of an array that is long enough they are its first elements
pub take-firsts : (n : ℕ) (xs : List ℕ) → n ≤ length xs → take n xs ≡ firsts n xs
unfolding firsts snoc
take-firsts zero xs h = refl
take-firsts (suc n) xs h = take-suc xs n 0 (omega arith) ∙ ap (λ (ys : List ℕ). ys ++ (get_or xs n 0 ∷ [])) (take-firsts n xs (omega arith))

pub map_snoc : {A B : Type 0} (f : A → B) (xs : List A) (x : A) → map f (snoc xs x) ≡ snoc (map f xs) (f x)
unfolding snoc
map_snoc f [] x = refl
map_snoc f (y ∷ xs) x = ap (λ zs. f y ∷ zs) (map_snoc f xs x)

zip-snoc : {A B : Type 0} (xs : List A) (ys : List B) (x : A) (y : B) → length xs ≡ length ys → zip (snoc xs x) (snoc ys y) ≡ snoc (zip xs ys) (x, y)
unfolding snoc zip
zip-snoc [] [] x y e = refl
zip-snoc [] (b ∷ ys) x y e = absurd (omega arith)
zip-snoc (a ∷ xs) [] x y e = absurd (omega arith)
zip-snoc (a ∷ xs) (b ∷ ys) x y e = ap (λ zs. (a, b) ∷ zs) (zip-snoc xs ys x y (omega arith))

-- the pairs are those of the two lists
pub pairs-zip : (n : ℕ) (xs ys : List ℕ) → pairs n xs ys ≡ zip (firsts n xs) (firsts n ys)
unfolding pairs firsts zip
pairs-zip zero xs ys = refl
pairs-zip (suc n) xs ys =
    ap (λ zs. snoc zs (get_or xs n 0, get_or ys n 0)) (pairs-zip n xs ys)
    ∙ sym (zip-snoc (firsts n xs) (firsts n ys) (get_or xs n 0) (get_or ys n 0) (omega (arith, length-firsts n xs, length-firsts n ys)))

-- the first n elements are below k
pub record Below (k n : ℕ) (xs : List ℕ) : Type 0 where
  pub at : (i : ℕ) → i < n → get_or xs i 0 < k

pub below_le : (k m n : ℕ) (xs : List ℕ) → k ≤ m → Below k n xs → Below m n xs
below_le k m n xs h b = record { at = λ i l. omega (arith, b.at i l) }

-- one element more
pub below_more : (k m n : ℕ) (xs : List ℕ) (v : ℕ) → k ≤ m → n < length xs → v < m → Below k n xs → Below m (n + 1) (set xs n v)
below_more k m n xs v h l lt b = record { at = λ i j. go i j (eqb i n) refl }
  where
    go : (i : ℕ) → i < n + 1 → (t : Bool) → eqb i n ≡ t → get_or (set xs n v) i 0 < m
    go i j true e = rw (eqb-true i n e, get_or-set_same xs n v 0 l) lt
    go i j false e = rw (get_or-set_other xs n i v 0 (eqb-false i n e)) (omega (arith, b.at i (omega (arith, eqb-false i n e))))

-- the first n elements of ys are the images of those of xs
pub record Mapped (f : ℕ → ℕ) (n : ℕ) (xs ys : List ℕ) : Type 0 where
  pub at : (i : ℕ) → i < n → get_or ys i 0 ≡ f (get_or xs i 0)

pub mapped_none : (f : ℕ → ℕ) (xs ys : List ℕ) → Mapped f 0 xs ys
mapped_none f xs ys = record { at = λ i h. absurd (omega arith) }

-- one element more
pub mapped_more : (f : ℕ → ℕ) (n : ℕ) (xs ys : List ℕ) (v : ℕ) → n < length ys → v ≡ f (get_or xs n 0) → Mapped f n xs ys → Mapped f (n + 1) xs (set ys n v)
mapped_more f n xs ys v l e b = record { at = λ i j. go i j (eqb i n) refl }
  where
    go : (i : ℕ) → i < n + 1 → (t : Bool) → eqb i n ≡ t → get_or (set ys n v) i 0 ≡ f (get_or xs i 0)
    go i j true q = rw (eqb-true i n q, get_or-set_same ys n v 0 l) e
    go i j false q = rw (get_or-set_other ys n i v 0 (eqb-false i n q)) (b.at i (omega (arith, eqb-false i n q)))

-- so the lists are
pub firsts-map : (f : ℕ → ℕ) (n : ℕ) (xs ys : List ℕ) → Mapped f n xs ys → firsts n ys ≡ map f (firsts n xs)
unfolding firsts
firsts-map f zero xs ys m = refl
firsts-map f (suc n) xs ys m =
    ap₂ (λ (zs : List ℕ) (z : ℕ). snoc zs z) (firsts-map f n xs ys (record { at = λ i h. m.at i (omega arith) })) (m.at n (omega arith))
    ∙ sym (map_snoc f (firsts n xs) (get_or xs n 0))

-- an element of the list
pub get_or-firsts : (n : ℕ) (xs : List ℕ) (i : ℕ) → i < n → get_or (firsts n xs) i 0 ≡ get_or xs i 0
unfolding firsts snoc
get_or-firsts zero xs i h = absurd (omega arith)
get_or-firsts (suc n) xs i h = go (λ k. get_or-firsts n xs i k) (eqb i n) refl
  where
    go : (i < n → get_or (firsts n xs) i 0 ≡ get_or xs i 0) → (t : Bool) → eqb i n ≡ t → get_or (firsts n xs ++ (get_or xs n 0 ∷ [])) i 0 ≡ get_or xs i 0
    go f true e = rw (eqb-true i n e) (get_or_at (firsts n xs) (get_or xs n 0) [] 0 n (length-firsts n xs))
    go f false e =
        let k : i < n = omega (arith, eqb-false i n e) in
        get_or-append (firsts n xs) (get_or xs n 0 ∷ []) 0 i (omega (arith, length-firsts n xs)) ∙ f k
