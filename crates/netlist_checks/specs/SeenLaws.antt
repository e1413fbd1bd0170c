-- Laws of the names and numbers so far. Assumes nothing.
use Prim.Native.Nat.{ℕ, zero, suc, ◌+◌, ◌-◌, ◌≤◌, ◌<◌}
use Rattle.std.specs.Prelude.{◌≡◌, Bool, true, false, ◌||◌, List, [], ◌∷◌, ◌++◌, length, get_or, set, take, eqb}
use Rattle.std.specs.List.{list_any}
use Rattle.std.proofs.Math.Path.{refl}
use Rattle.std.proofs.Common.{sym, ap, ◌∙◌, add-one, take-suc, get_or-set_same, get_or-set_other, eq-eqb, ne_eqb}
use native.Mathlib.Omega.{arith}
use Rattle.facts.specs.Numbers.{eqb_swap}
use Rattle.model.specs.Names.{Name, same_name, member_name}
use Rattle.model.specs.Lists.{member}
use Rattle.struo_ir.specs.Decoded.{name_at}
use Rattle.netlist_checks.specs.Seen.{names_before, numbers_before}

-- one more element at the end
any-snoc : {A : Type 0} (p : A → Bool) (xs : List A) (y : A) → list_any p (xs ++ (y ∷ [])) ≡ (p y || list_any p xs)
any-snoc p [] y = go (p y)
  where
    go : (b : Bool) → (b || false) ≡ (b || false)
    go b = refl
any-snoc p (x ∷ xs) y = ap (λ (b : Bool). p x || b) (any-snoc p xs y) ∙ swapped (p x) (p y) (list_any p xs)
  where
    swapped : (a b r : Bool) → (a || (b || r)) ≡ (b || (a || r))
    swapped true true r = refl
    swapped true false r = refl
    swapped false b r = refl

-- some of the first k names is the name: the first k places have one of that name
pub some-name : (s : List ℕ) (x : Name) (places : List ℕ) (k : ℕ) → k ≤ length places → list_any (λ other. same_name x (name_at s other)) (take k places) ≡ member_name x (names_before s places k)
unfolding names_before member_name
some-name s x places zero h = refl
some-name s x places (suc k) h =
    let j : k < length places = omega arith in
    rw (take-suc places k 0 j)
    (any-snoc (λ other. same_name x (name_at s other)) (take k places) (get_or places k 0)
    ∙ ap (λ (b : Bool). same_name x (name_at s (get_or places k 0)) || b) (some-name s x places k (omega arith)))

-- some of the first k numbers is the number
pub some-number : (x : ℕ) (numbers : List ℕ) (k : ℕ) → k ≤ length numbers → list_any (λ n. eqb n x) (take k numbers) ≡ member x (numbers_before numbers k)
unfolding numbers_before member
some-number x numbers zero h = refl
some-number x numbers (suc k) h =
    let j : k < length numbers = omega arith in
    rw (take-suc numbers k 0 j)
    (any-snoc (λ n. eqb n x) (take k numbers) (get_or numbers k 0)
    ∙ ap (λ (b : Bool). eqb (get_or numbers k 0) x || b) (some-number x numbers k (omega arith))
    ∙ ap (λ (b : Bool). b || member x (numbers_before numbers k)) (eqb_swap (get_or numbers k 0) x))

-- the last of the first k names, or numbers: it is the one sought, or those before it are left
module _ (s : List ℕ) (x : Name) (places : List ℕ) (k : ℕ) (h : 0 < k) where
  pub name-found : same_name x (name_at s (get_or places (k - 1) 0)) ≡ true → true ≡ member_name x (names_before s places k)
  unfolding names_before member_name
  name-found e = let d : k ≡ suc (k - 1) = omega arith in rw d (rw e)

  pub name_passed : same_name x (name_at s (get_or places (k - 1) 0)) ≡ false → member_name x (names_before s places (k - 1)) ≡ member_name x (names_before s places k)
  unfolding names_before member_name
  name_passed e = go k refl
    where
      go : (j : ℕ) → k ≡ j → member_name x (names_before s places (k - 1)) ≡ member_name x (names_before s places j)
      go zero f = absurd (omega arith)
      go (suc j) f = let d : k - 1 ≡ j = omega arith in rw (← d, e)

pub number-found : (x : ℕ) (numbers : List ℕ) (k : ℕ) → 0 < k → x ≡ get_or numbers (k - 1) 0 → true ≡ member x (numbers_before numbers k)
unfolding numbers_before member
number-found x numbers zero h e = absurd (omega arith)
number-found x numbers (suc k) h e = let d : suc k - 1 ≡ k = omega arith in let f : x ≡ get_or numbers k 0 = e ∙ ap (λ (n : ℕ). get_or numbers n 0) d in rw (eq-eqb x (get_or numbers k 0) f)

pub number_passed : (x : ℕ) (numbers : List ℕ) (k : ℕ) → 0 < k → (x ≡ get_or numbers (k - 1) 0 → ⊥) → member x (numbers_before numbers (k - 1)) ≡ member x (numbers_before numbers k)
unfolding numbers_before member
number_passed x numbers zero h e = absurd (omega arith)
number_passed x numbers (suc k) h e = let d : suc k - 1 ≡ k = omega arith in rw (d, ne_eqb x (get_or numbers k 0) (λ f. e (f ∙ ap (λ (n : ℕ). get_or numbers n 0) (sym d))))

-- a store past the first k leaves them, and one more is in front
pub names-kept : (s places : List ℕ) (k i y : ℕ) → k ≤ i → names_before s (set places i y) k ≡ names_before s places k
unfolding names_before
names-kept s places zero i y h = refl
names-kept s places (suc k) i y h = rw (get_or-set_other places i k y 0 (λ f. omega arith), names-kept s places k i y (omega arith))

pub names_more : (s places : List ℕ) (k y : ℕ) → k < length places → names_before s (set places k y) (k + 1) ≡ name_at s y ∷ names_before s places k
unfolding names_before
names_more s places k y h = rw (add-one k, get_or-set_same places k y 0 h, names-kept s places k k y (omega arith))

pub numbers-kept : (numbers : List ℕ) (k i y : ℕ) → k ≤ i → numbers_before (set numbers i y) k ≡ numbers_before numbers k
unfolding numbers_before
numbers-kept numbers zero i y h = refl
numbers-kept numbers (suc k) i y h = rw (get_or-set_other numbers i k y 0 (λ f. omega arith), numbers-kept numbers k i y (omega arith))

pub numbers_more : (numbers : List ℕ) (k y : ℕ) → k < length numbers → numbers_before (set numbers k y) (k + 1) ≡ y ∷ numbers_before numbers k
unfolding numbers_before
numbers_more numbers k y h = rw (add-one k, get_or-set_same numbers k y 0 h, numbers-kept numbers k k y (omega arith))
