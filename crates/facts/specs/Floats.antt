-- The order of the floats that are neither negative nor a NaN: a strict order by value, kept by sums, and by products and quotients with what is not 0. Assumes nothing.
use Rattle.std.specs.Prelude.{◌≡◌, refl, Bool, true, false, not, cond, ℕ, zero, suc, ◌+◌, ◌*◌, ◌^◌, ◌<◌, ltb, eqb, ℤ, Float}
use Rattle.std.proofs.Common.{sym, ◌∙◌, not-le_of_lt, arith, ltb-true, ltb-false, lt-ltb, le-ltb, ne_eqb}
use Rattle.std.proofs.lemmas.Bool.{false≢true}
use Rattle.std.specs.Float.{nan, inf, fin, Format}
use Rattle.std.specs.Float.Ieee.{prec, emax, low, up, down, odd, units, round, sum, add, mul, div, lt}
use Rattle.std.specs.Float.Ieee.Fits.{down_pos}
use Rattle.std.specs.Float.Ieee.Positive.{through}
use Rattle.facts.specs.Bools.{is_false}
use Rattle.facts.specs.Numbers.{by_lt}

-- neither negative nor a NaN
unfoldable pub unsigned : Float → Bool
unsigned nan = false
unsigned (inf s) = not s
unsigned (fin s m e) = not s

-- ---- what is rounded

odd-unsigned : (d q k l : ℕ) → unsigned (odd d false q k l) ≡ true
unfolding odd unsigned
odd-unsigned d zero k l = refl
odd-unsigned d (suc q) k l = refl

cond-unsigned : (t : Bool) (x y : Float) → unsigned x ≡ true → unsigned y ≡ true → unsigned (cond t x y) ≡ true
cond-unsigned true x y p q = p
cond-unsigned false x y p q = q

units-unsigned : (f : Format) (q k : ℕ) → unsigned (units f false q k) ≡ true
unfolding units unsigned
units-unsigned f q k = cond-unsigned (ltb (q * 2 ^ k) (2 ^ (low f + suc (emax f)))) (odd (suc (prec f)) false q k (low f)) (inf false) (odd-unsigned (suc (prec f)) q k (low f)) refl

round-unsigned : (f : Format) (a c : ℕ) → unsigned (round f false a c) ≡ true
unfolding round
round-unsigned f a c = units-unsigned f _ _

pub add-unsigned : (f : Format) (x y : Float) → unsigned x ≡ true → unsigned y ≡ true → unsigned (add f x y) ≡ true
unfolding add sum unsigned
add-unsigned f nan y p q = absurd (false≢true p)
add-unsigned f (inf true) y p q = absurd (false≢true p)
add-unsigned f (fin true m e) y p q = absurd (false≢true p)
add-unsigned f (inf false) nan p q = absurd (false≢true q)
add-unsigned f (inf false) (inf true) p q = absurd (false≢true q)
add-unsigned f (inf false) (inf false) p q = refl
add-unsigned f (inf false) (fin t n d) p q = refl
add-unsigned f (fin false m e) nan p q = absurd (false≢true q)
add-unsigned f (fin false m e) (inf t) p q = q
add-unsigned f (fin false m e) (fin true n d) p q = absurd (false≢true q)
add-unsigned f (fin false m e) (fin false n d) p q = round-unsigned f _ _

some : (n : ℕ) → eqb (suc n) 0 ≡ false
some n = ne_eqb (suc n) 0 (λ e. absurd (omega (arith, e)))

-- by a value above zero
pub mul-unsigned : (f : Format) (x : Float) (n : ℕ) (d : ℤ) → unsigned x ≡ true → unsigned (mul f x (fin false (suc n) d)) ≡ true
unfolding mul unsigned
mul-unsigned f nan n d p = absurd (false≢true p)
mul-unsigned f (inf true) n d p = absurd (false≢true p)
mul-unsigned f (inf false) n d p = rw (some n)
mul-unsigned f (fin true m e) n d p = absurd (false≢true p)
mul-unsigned f (fin false m e) n d p = round-unsigned f _ _

pub div-unsigned : (f : Format) (x : Float) (n : ℕ) (d : ℤ) → unsigned x ≡ true → unsigned (div f x (fin false (suc n) d)) ≡ true
unfolding div unsigned
div-unsigned f nan n d p = absurd (false≢true p)
div-unsigned f (inf true) n d p = absurd (false≢true p)
div-unsigned f (inf false) n d p = refl
div-unsigned f (fin true m e) n d p = absurd (false≢true p)
div-unsigned f (fin false m e) n d p = rw (some n) (round-unsigned f _ _)

-- ---- the order

-- a / p < b / q ≤ c / r
fractions : (a b c p q r : ℕ) → 0 < r → ltb (a * q) (b * p) ≡ true → ltb (c * q) (b * r) ≡ false → ltb (a * r) (c * p) ≡ true
fractions a b c p q r R h k =
    by_lt (a * r) (c * p) (λ l. lt-ltb (a * r) (c * p) l)
    (λ l. absurd (not-le_of_lt (ltb-true (a * q) (b * p) h) (through b c a q r p R (ltb-false (c * q) (b * r) k) l)))

-- x < y ≤ z
pub lt_le : (x y z : Float) → unsigned x ≡ true → unsigned y ≡ true → unsigned z ≡ true → lt x y ≡ true → lt z y ≡ false → lt x z ≡ true
unfolding lt unsigned
lt_le nan y z p q r h k = absurd (false≢true p)
lt_le (inf true) y z p q r h k = absurd (false≢true p)
lt_le (inf false) nan z p q r h k = absurd (false≢true q)
lt_le (inf false) (inf t) z p q r h k = absurd (false≢true h)
lt_le (inf false) (fin t n d) z p q r h k = absurd (false≢true h)
lt_le (fin true m e) y z p q r h k = absurd (false≢true p)
lt_le (fin false m e) y nan p q r h k = absurd (false≢true r)
lt_le (fin false m e) y (inf true) p q r h k = absurd (false≢true r)
lt_le (fin false m e) y (inf false) p q r h k = refl
lt_le (fin false m e) y (fin true o c) p q r h k = absurd (false≢true r)
lt_le (fin false m e) nan (fin false o c) p q r h k = absurd (false≢true q)
lt_le (fin false m e) (inf true) (fin false o c) p q r h k = absurd (false≢true q)
lt_le (fin false m e) (inf false) (fin false o c) p q r h k = absurd (false≢true (sym k))
lt_le (fin false m e) (fin true n d) (fin false o c) p q r h k = absurd (false≢true q)
lt_le (fin false m e) (fin false n d) (fin false o c) p q r h k =
    fractions (m * up e) (n * up d) (o * up c) (down e) (down d) (down c) (down_pos c) h k

-- a value is not below itself
pub lt-self : (x : Float) → lt x x ≡ false
unfolding lt
lt-self nan = refl
lt-self (inf true) = refl
lt-self (inf false) = refl
lt-self (fin true m e) = le-ltb (m * up e * down e) (m * up e * down e) (omega arith)
lt-self (fin false m e) = le-ltb (m * up e * down e) (m * up e * down e) (omega arith)

-- of two values at most one is below the other
pub lt-once : (x y : Float) → unsigned x ≡ true → unsigned y ≡ true → lt x y ≡ true → lt y x ≡ false
unfolding lt unsigned
lt-once nan y p q h = absurd (false≢true p)
lt-once (inf true) y p q h = absurd (false≢true p)
lt-once (inf false) nan p q h = absurd (false≢true q)
lt-once (inf false) (inf t) p q h = absurd (false≢true h)
lt-once (inf false) (fin t n d) p q h = absurd (false≢true h)
lt-once (fin true m e) y p q h = absurd (false≢true p)
lt-once (fin false m e) nan p q h = absurd (false≢true q)
lt-once (fin false m e) (inf true) p q h = absurd (false≢true q)
lt-once (fin false m e) (inf false) p q h = refl
lt-once (fin false m e) (fin true n d) p q h = absurd (false≢true q)
lt-once (fin false m e) (fin false n d) p q h = le-ltb (n * up d * down e) (m * up e * down d) (omega (arith, ltb-true (m * up e * down d) (n * up d * down e) h))

-- x ≤ y ≤ z
pub le_le : (x y z : Float) → unsigned x ≡ true → unsigned y ≡ true → unsigned z ≡ true → lt y x ≡ false → lt z y ≡ false → lt z x ≡ false
le_le x y z p q r h k = is_false (lt z x) (λ e. false≢true (sym k ∙ lt_le z x y r p q e h))

-- x ≤ y < z
pub le_lt : (x y z : Float) → unsigned x ≡ true → unsigned y ≡ true → unsigned z ≡ true → lt y x ≡ false → lt y z ≡ true → lt x z ≡ true
le_lt x y z p q r h k = go (lt x z) refl
  where
    go : (b : Bool) → lt x z ≡ b → b ≡ true
    go true e = refl
    go false e = sym (le_le z x y r p q e h) ∙ k

-- x < y < z
pub lt-lt : (x y z : Float) → unsigned x ≡ true → unsigned y ≡ true → unsigned z ≡ true → lt x y ≡ true → lt y z ≡ true → lt x z ≡ true
lt-lt x y z p q r h k = lt_le x y z p q r h (lt-once y z q r k)
