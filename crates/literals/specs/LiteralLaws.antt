-- Laws of a literal's negation. Assumes nothing.
use Rattle.std.specs.Prelude.{◌≡◌, ℕ, ◌+◌, ◌%◌}
use Rattle.model.specs.Literal.{inverted, negate}

-- a literal that is not inverted is negated by one more
pub negate-even : (l : ℕ) → l % 2 ≡ 0 → negate l ≡ l + 1
unfolding negate inverted
negate-even l e = rw e
