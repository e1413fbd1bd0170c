-- What one more element at the end of a list leaves, by places, and that it is last; a fact of a list's members. Assumes nothing.
use Rattle.std.specs.Prelude.{ℕ, zero, suc, ◌<◌, ◌≡◌, refl, ◌⊎◌, Bool, true, false, ◌||◌, length, get_or, eqb}
use Rattle.std.proofs.Common.{arith, sym, ap, subst, ◌∙◌, inl, inr, length-append, eqb-true}
use mathlib.Core.List.Memᴰ
use mathlib.Core.List.{List, [], ◌∷◌, ◌++◌, Memᴰ}
use Rattle.std.proofs.Math.ListN.{get_or-append}
use Rattle.std.proofs.Math.Seq.{get_or-append_seam}
use Rattle.facts.specs.Lists.{All}
use Rattle.facts.specs.Numbers.{by_lt}
use Rattle.model.specs.Lists.{snoc, member}

-- one element more
pub length-snoc : {A : Type 0} (xs : List A) (x : A) → length (snoc xs x) ≡ suc (length xs)
unfolding snoc
length-snoc xs x = simp length-append (omega arith)

-- the old elements keep their places
pub get_or-snoc-old : {A : Type 0} (xs : List A) (x d : A) (i : ℕ) → i < length xs → get_or (snoc xs x) i d ≡ get_or xs i d
unfolding snoc
get_or-snoc-old xs x d i h = get_or-append xs (x ∷ []) d i h

-- and the new one is last
pub get_or-snoc-new : {A : Type 0} (xs : List A) (x d : A) → get_or (snoc xs x) (length xs) d ≡ x
unfolding snoc
get_or-snoc-new xs x d = get_or-append_seam xs x [] d

-- a fact of every place and its element, with one more element at the end
pub snoc-all : {A : Type 0} (d : A) (P : ℕ → A → Type 0) (xs : List A) (x : A) → ((p : ℕ) → p < length xs → P p (get_or xs p d)) → P (length xs) x
    → (p : ℕ) → p < length (snoc xs x) → P p (get_or (snoc xs x) p d)
snoc-all d P xs x f h p e =
    by_lt p (length xs) (λ lt. subst (λ y. P p y) (sym (get_or-snoc-old xs x d p lt)) (f p lt))
    (λ ge.
    let q : length xs ≡ p = omega (arith, length-snoc xs x) in
    subst (λ i. P i (get_or (snoc xs x) i d)) q (subst (λ y. P (length xs) y) (sym (get_or-snoc-new xs x d)) h))

-- a property of every element, with one more element
pub all_snoc : {A : Type 0} (P : A → Type 0) (xs : List A) (x : A) → All P xs → P x → All P (snoc xs x)
unfolding snoc
all_snoc P [] x h p = (p, tt)
all_snoc P (y ∷ xs) x h p = (h.0, all_snoc P xs x h.1 p)

-- a property of what stands at any place, with one more element
pub snoc_any : {A : Type 0} (P : A → Type 0) (xs : List A) (j : ℕ) (x d : A) → P (get_or xs j d) → P x → P (get_or (snoc xs x) j d)
unfolding snoc
snoc_any P [] zero x d h q = q
snoc_any P [] (suc j) x d h q = h
snoc_any P (y ∷ xs) zero x d h q = h
snoc_any P (y ∷ xs) (suc j) x d h q = snoc_any P xs j x d h q

-- what holds of every number of a list holds of a member
pub member-all : (P : ℕ → Type 0) (xs : List ℕ) (k : ℕ) → member k xs ≡ true → All P xs → P k
unfolding member
member-all P [] k h p = absurd (let z : ◌≡◌ {A = ℕ} 0 1 = cc in omega arith)
member-all P (x ∷ xs) k h p = go (eqb k x) refl h (λ g. member-all P xs k g p.1)
  where
    go : (b : Bool) → eqb k x ≡ b → (b || member k xs) ≡ true → (member k xs ≡ true → P k) → P k
    go true e g f = rw (eqb-true k x e) p.0
    go false e g f = f g

-- so it does of a list of anything
pub all-member : {A : Type 0} (P : A → Type 0) (xs : List A) → All P xs → (x : A) → Memᴰ x xs → P x
all-member P [] f x m = absurd (Memᴰ.not-nil m)
all-member P (y ∷ ys) f x m = go (Memᴰ.cases_cons m) (all-member P ys f.1 x)
  where
    go : (x ≡ y) ⊎ Memᴰ x ys → (Memᴰ x ys → P x) → P x
    go (inl e) g = subst P (sym e) f.0
    go (inr k) g = g k

-- the last element
last_of : {A : Type 0} → A → List A → A
last_of a [] = a
last_of a (b ∷ bs) = last_of b bs

last-is : {A : Type 0} (a : A) (xs : List A) (x : A) → last_of a (snoc xs x) ≡ x
unfolding last_of snoc
last-is a [] x = refl
last-is a (y ∷ ys) x = last-is y ys x

-- two lists that are equal have the same last element
pub last-same : {A : Type 0} (xs ys : List A) (x y : A) → snoc xs x ≡ snoc ys y → x ≡ y
last-same xs ys x y e = sym (last-is x xs x) ∙ ap (last_of x) e ∙ last-is x ys y

last-after : {A : Type 0} (c : A) (before : List A) (a : A) (after : List A) → last_of c (before ++ (a ∷ after)) ≡ last_of a after
unfolding last_of
last-after c [] a after = refl
last-after c (b ∷ before) a after = last-after b before a after

last_among : {A : Type 0} (a : A) (after : List A) → (last_of a after ≡ a) ⊎ Memᴰ (last_of a after) after
unfolding last_of
last_among a [] = inl refl
last_among a (b ∷ after) = inr (go (last_among b after))
  where
    go : (last_of b after ≡ b) ⊎ Memᴰ (last_of b after) after → Memᴰ (last_of b after) (b ∷ after)
    go (inl e) = Memᴰ.head e
    go (inr m) = Memᴰ.tail m

-- an element of a list is the last one, or the last one stands after it
pub last-or-later : {A : Type 0} (before after xs : List A) (a x : A) → before ++ (a ∷ after) ≡ snoc xs x → (a ≡ x) ⊎ Memᴰ x after
last-or-later before after xs a x e = go (sym (last-after a before a after) ∙ ap (last_of a) e ∙ last-is a xs x) (last_among a after)
  where
    go : last_of a after ≡ x → (last_of a after ≡ a) ⊎ Memᴰ (last_of a after) after → (a ≡ x) ⊎ Memᴰ x after
    go z (inl k) = inl (sym k ∙ z)
    go z (inr m) = inr (Memᴰ.cast (sym z) m)
