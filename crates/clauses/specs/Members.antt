-- Members of lists of numbers: membership, no member twice, the last member; at most n distinct numbers are below n. Assumes nothing.
use Rattle.std.specs.Prelude.{◌≡◌, refl, Bool, true, false, List, [], ◌∷◌, ◌++◌, ◌⊎◌, ℕ, zero, suc, ◌<◌, ◌≤◌, eqb, length}
use Rattle.std.proofs.Common.{ap, sym, ◌∙◌, inl, inr, ⊎_elim, arith, eqb-true}
use Rattle.std.proofs.lemmas.Bool.{eqb-false}

-- c is a member
abbrev pub In : ℕ → List ℕ → Type 0
In c [] = ⊥
In c (y ∷ ys) = (y ≡ c) ⊎ In c ys

-- c is no member
abbrev pub Free : ℕ → List ℕ → Type 0
Free t [] = Unit {0}
Free t (y ∷ ys) = (y ≡ t → ⊥) × Free t ys

-- no member twice
abbrev pub Once : List ℕ → Type 0
Once [] = Unit {0}
Once (y ∷ ys) = (In y ys → ⊥) × Once ys

-- t is the last member of y ∷ ys, and no other
abbrev pub Ends : ℕ → ℕ → List ℕ → Type 0
Ends t y [] = y ≡ t
Ends t y (z ∷ zs) = (y ≡ t → ⊥) × Ends t z zs

-- t is the last member, and no other, where there is one
abbrev pub EndsIn : ℕ → List ℕ → Type 0
EndsIn t [] = Unit {0}
EndsIn t (y ∷ ys) = Ends t y ys

pub free : (c : ℕ) (xs : List ℕ) → (In c xs → ⊥) → Free c xs
free c [] f = tt
free c (y ∷ ys) f = ((λ e. f (inl e)), free c ys (λ i. f (inr i)))

pub in_snoc : (c x : ℕ) (xs : List ℕ) → In c (xs ++ (x ∷ [])) → In c xs ⊎ (x ≡ c)
in_snoc c x [] (inl e) = inr e
in_snoc c x [] (inr i) = absurd i
in_snoc c x (y ∷ ys) (inl e) = inl (inl e)
in_snoc c x (y ∷ ys) (inr i) = ⊎_elim (λ j. inl (inr j)) (λ e. inr e) (in_snoc c x ys i)

pub once-snoc : (x : ℕ) (xs : List ℕ) → Once xs → (In x xs → ⊥) → Once (xs ++ (x ∷ []))
once-snoc x [] o n = ((λ i. i), tt)
once-snoc x (y ∷ ys) o n =
    ((λ i. ⊎_elim (λ j. o.0 j) (λ e. n (inl (sym e))) (in_snoc y x ys i)), once-snoc x ys o.1 (λ i. n (inr i)))

ends_snoc : (x y : ℕ) (ys : List ℕ) → (y ≡ x → ⊥) → (In x ys → ⊥) → Ends x y (ys ++ (x ∷ []))
ends_snoc x y [] n f = (n, refl)
ends_snoc x y (z ∷ zs) n f = (n, ends_snoc x z zs (λ e. f (inl e)) (λ i. f (inr i)))

pub ends_in_snoc : (x : ℕ) (xs : List ℕ) → (In x xs → ⊥) → EndsIn x (xs ++ (x ∷ []))
ends_in_snoc x [] f = refl
ends_in_snoc x (y ∷ ys) f = ends_snoc x y ys (λ e. f (inl e)) (λ i. f (inr i))

last_in : (t y : ℕ) (ys : List ℕ) → Ends t y ys → In t (y ∷ ys)
last_in t y [] e = inl e
last_in t y (z ∷ zs) e = inr (last_in t z zs e.1)

pub end_in : (t : ℕ) (xs : List ℕ) → (xs ≡ [] → ⊥) → EndsIn t xs → In t xs
end_in t [] n e = absurd (n refl)
end_in t (y ∷ ys) n e = last_in t y ys e

-- a member that is not n, kept; the decided test is the last argument
keep : ℕ → (n : ℕ) → List ℕ → Bool → List ℕ
keep y n r true = r
keep y n r false = y ∷ r

-- the list without the members that equal n
without : ℕ → List ℕ → List ℕ
unfolding keep
without n [] = []
without n (y ∷ ys) = let r = without n ys in keep y n r (eqb y n)

in_without : (c n : ℕ) (xs : List ℕ) → In c (without n xs) → In c xs × (c ≡ n → ⊥)
unfolding keep without
in_without c n [] i = absurd i
in_without c n (y ∷ ys) i = go (λ j. in_without c n ys j) (eqb y n) refl i
  where
    go : (In c (without n ys) → In c ys × (c ≡ n → ⊥)) → (b : Bool) → eqb y n ≡ b → In c (keep y n (without n ys) b) → In c (y ∷ ys) × (c ≡ n → ⊥)
    go r true e j = (inr (r j).0, (r j).1)
    go r false e (inl k) = (inl k, λ z. eqb-false y n e (k ∙ z))
    go r false e (inr j) = (inr (r j).0, (r j).1)

once_without : (n : ℕ) (xs : List ℕ) → Once xs → Once (without n xs)
unfolding keep without
once_without n [] o = tt
once_without n (y ∷ ys) o = go (once_without n ys o.1) (eqb y n)
  where
    go : Once (without n ys) → (b : Bool) → Once (keep y n (without n ys) b)
    go r true = r
    go r false = ((λ i. o.0 (in_without y n ys i).0), r)

length-free : (n : ℕ) (xs : List ℕ) → (In n xs → ⊥) → length (without n xs) ≡ length xs
unfolding keep without
length-free n [] f = refl
length-free n (y ∷ ys) f = go (length-free n ys (λ i. f (inr i))) (eqb y n) refl
  where
    go : length (without n ys) ≡ length ys → (b : Bool) → eqb y n ≡ b → length (keep y n (without n ys) b) ≡ suc (length ys)
    go r true e = absurd (f (inl (eqb-true y n e)))
    go r false e = ap suc r

length_without : (n : ℕ) (xs : List ℕ) → Once xs → length xs ≤ suc (length (without n xs))
unfolding keep without
length_without n [] o = omega arith
length_without n (y ∷ ys) o = go (length_without n ys o.1) (eqb y n) refl
  where
    go : length ys ≤ suc (length (without n ys)) → (b : Bool) → eqb y n ≡ b → suc (length ys) ≤ suc (length (keep y n (without n ys) b))
    go r true e = omega (arith, length-free n ys (λ i. o.0 (rw (eqb-true y n e) i)))
    go r false e = omega arith

-- distinct numbers below n are at most n
pub few : (n : ℕ) (xs : List ℕ) → Once xs → ((c : ℕ) → In c xs → c < n) → length xs ≤ n
few zero [] o b = omega arith
few zero (y ∷ ys) o b = absurd (omega (arith, b y (inl refl)))
few (suc n) xs o b =
    omega (arith, length_without n xs o, few n (without n xs) (once_without n xs o) (λ c i. let r = in_without c n xs i in omega (arith, b c r.0, r.1)))
