-- A refusal by its numbers, and the laws of 'the first that applies'. Assumes nothing.
use Rattle.std.specs.Prelude.{ℕ, ◌≡◌, refl}
use Rattle.std.proofs.Math.Option.{Option, none, some}
use Rattle.model.specs.Answers.{Refusal}
use Rattle.model.specs.Validate.{◌otherwise◌}

-- a refusal by its three numbers
unfoldable pub refusal : (number side place : ℕ) → Refusal
refusal number side place = record { number = number; side = side; place = place }

-- ---- the first that applies

-- the first check refuses
pub first-refuses : (f g : Option Refusal) (r : Refusal) → f ≡ some r → some r ≡ (f otherwise g)
unfolding ◌otherwise◌
first-refuses f g r e = rw e

-- it does not: the checks after it decide
pub second-decides : (f g : Option Refusal) → f ≡ none → g ≡ (f otherwise g)
unfolding ◌otherwise◌
second-decides f g e = rw e

-- checks in turn, however they are joined
pub otherwise_assoc : (f g h : Option Refusal) → ((f otherwise g) otherwise h) ≡ (f otherwise (g otherwise h))
unfolding ◌otherwise◌
otherwise_assoc none g h = refl
otherwise_assoc (some r) g h = refl
