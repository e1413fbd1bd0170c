-- Facts of bits: and, or, not, xor and cond. Assumes nothing.
use Rattle.std.specs.Prelude.{◌≡◌, refl, ◌⊎◌, Bool, true, false, not, ◌&&◌, ◌||◌, cond}
use Rattle.std.proofs.Common.{sym, inl, inr}
use Rattle.std.proofs.Math.Bool.{xor}
use Rattle.std.proofs.lemmas.Bool.{false≢true}

-- ---- cases

pub is_false : (b : Bool) → (b ≡ true → ⊥) → b ≡ false
is_false true f = absurd (f refl)
is_false false f = refl

pub both_ways : (x y : Bool) → (x ≡ true → y ≡ true) → (y ≡ true → x ≡ true) → x ≡ y
both_ways true y f g = sym (f refl)
both_ways false true f g = g refl
both_ways false false f g = refl

pub by_cond : {A : Type 0} (P : A → Type 0) {t : Bool} {x y : A} → (t ≡ true → P x) → (t ≡ false → P y) → P (cond t x y)
by_cond P {t = true} a b = a refl
by_cond P {t = false} a b = b refl

pub cond_same : {A : Type 0} (t : Bool) (x : A) → cond t x x ≡ x
cond_same true x = refl
cond_same false x = refl

-- ---- and

pub and_left : (x y : Bool) → (x && y) ≡ true → x ≡ true
and_left true y e = refl
and_left false y e = e

pub and_right : (x y : Bool) → (x && y) ≡ true → y ≡ true
and_right true y e = e
and_right false y e = absurd (false≢true e)

pub and_both : (x y : Bool) → (x && y) ≡ true → (x ≡ true) × (y ≡ true)
and_both x y e = (and_left x y e, and_right x y e)

pub both-and : (x y : Bool) → x ≡ true → y ≡ true → (x && y) ≡ true
both-and x y p q = rw (p, q)

-- ---- or

pub or-true : (x y : Bool) → y ≡ true → (x || y) ≡ true
or-true true y e = refl
or-true false y e = e

pub or_cases : (x y : Bool) → (x || y) ≡ true → (x ≡ true) ⊎ (y ≡ true)
or_cases true y e = inl refl
or_cases false y e = inr e

pub or_left : (x y : Bool) → (x || y) ≡ false → x ≡ false
or_left true y e = e
or_left false y e = refl

pub or_right : (x y : Bool) → (x || y) ≡ false → y ≡ false
or_right true y e = absurd (false≢true (sym e))
or_right false y e = e

pub or-both : (x y : Bool) → (x || y) ≡ false → (x ≡ false) × (y ≡ false)
or-both x y e = (or_left x y e, or_right x y e)

pub or-false : (x y : Bool) → x ≡ false → y ≡ false → (x || y) ≡ false
or-false x y p q = rw (p, q)

pub or_swap : (a b c : Bool) → (a || (b || c)) ≡ (b || (a || c))
or_swap true true c = refl
or_swap true false c = refl
or_swap false true c = refl
or_swap false false c = refl

pub or-not : (a b : Bool) → (a || (not a || b)) ≡ true
or-not true b = refl
or-not false b = refl

-- ---- xor

pub xor_swap : (x y : Bool) → xor x y ≡ xor y x
unfolding xor
xor_swap true true = refl
xor_swap true false = refl
xor_swap false true = refl
xor_swap false false = refl

pub xor_self : (a : Bool) → xor a a ≡ false
unfolding xor
xor_self true = refl
xor_self false = refl

pub xor-equal : (x y : Bool) → xor y x ≡ false → x ≡ y
unfolding xor
xor-equal true true e = refl
xor-equal true false e = e
xor-equal false true e = sym e
xor-equal false false e = refl

pub not-xor : (x y : Bool) → not (xor x y) ≡ true → x ≡ y
unfolding xor
not-xor true true e = refl
not-xor true false e = sym e
not-xor false true e = e
not-xor false false e = refl

pub xor-not : (x y : Bool) → x ≡ y → not (xor x y) ≡ true
xor-not x y e = rw (e, xor_self y)
