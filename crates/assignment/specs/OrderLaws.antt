-- The scores stay ordered: none becomes negative or a NaN, and neither does the increment. Assumes nothing.
use Rattle.std.specs.Prelude.{◌≡◌, refl, Bool, true, false, List, [], ◌∷◌, map, ℕ, zero, suc, replicate, Float}
use Rattle.std.specs.Float.{binary64}
use Rattle.std.specs.Float.Ieee as Ieee
use Rattle.facts.specs.Lists.{set_any}
use Rattle.facts.specs.Floats.{unsigned, add-unsigned, mul-unsigned, div-unsigned}
use Rattle.model.specs.Sat as Sat
use Rattle.assignment.specs.Blocks.{Unsigned}

pub one-unsigned : unsigned Sat.score_one ≡ true
unfolding Sat.score_one unsigned
one-unsigned = refl

zero-unsigned : unsigned Sat.score_zero ≡ true
unfolding Sat.score_zero unsigned
zero-unsigned = refl

pub raise_unsigned : (xs : List Float) (v : ℕ) (x : Float) → unsigned x ≡ true → Unsigned xs → Unsigned (Sat.add_score xs v x)
unfolding Sat.add_score
raise_unsigned xs v x p u i = set_any (λ (y : Float). unsigned y ≡ true) xs v i _ Sat.score_zero (u i) (add-unsigned binary64 _ x (u v) p)

scaled_unsigned : (x : Float) → unsigned x ≡ true → unsigned (Ieee.mul binary64 x Sat.rescale_factor) ≡ true
unfolding Sat.rescale_factor
scaled_unsigned x p = mul-unsigned binary64 x _ _ p

map-unsigned : (f : Float → Float) → ((x : Float) → unsigned x ≡ true → unsigned (f x) ≡ true) → (xs : List Float) → Unsigned xs → Unsigned (map f xs)
map-unsigned f h [] u i = u i
map-unsigned f h (x ∷ xs) u zero = h x (u 0)
map-unsigned f h (x ∷ xs) u (suc i) = map-unsigned f h xs (λ j. u (suc j)) i

pub rescale_unsigned : (xs : List Float) → Unsigned xs → Unsigned (map (λ (x : Float). Ieee.mul binary64 x Sat.rescale_factor) xs)
rescale_unsigned xs u = map-unsigned (λ (x : Float). Ieee.mul binary64 x Sat.rescale_factor) scaled_unsigned xs u

-- both, after a bump
bump_if : (b : Bool) (xs : List Float) (x : Float) → Unsigned xs → unsigned x ≡ true → Unsigned (Sat.rescale_if b xs x).activity × (unsigned (Sat.rescale_if b xs x).activity_increment ≡ true)
unfolding Sat.rescale_if
bump_if true xs x u p = (rescale_unsigned xs u, scaled_unsigned x p)
bump_if false xs x u p = (u, p)

pub bump_unsigned : (c : Sat.Scores) (v : ℕ) → Unsigned c.activity → unsigned c.activity_increment ≡ true
    → Unsigned (Sat.bump_activity c v).activity × (unsigned (Sat.bump_activity c v).activity_increment ≡ true)
unfolding Sat.bump_activity
bump_unsigned c v u p = bump_if _ _ _ (raise_unsigned c.activity v c.activity_increment p u) p

pub decay-unsigned : (x : Float) → unsigned x ≡ true → unsigned (Ieee.div binary64 x Sat.decay) ≡ true
unfolding Sat.decay
decay-unsigned x p = div-unsigned binary64 x _ _ p

pub zeros-unsigned : (n : ℕ) → Unsigned (replicate n Sat.score_zero)
zeros-unsigned zero i = zero-unsigned
zeros-unsigned (suc n) zero = zero-unsigned
zeros-unsigned (suc n) (suc i) = zeros-unsigned n i
