-- The values of nodes by the words of VALUES, and bits as bytes. Assumes nothing.
use Rattle.std.specs.Prelude.{◌≡◌, refl, Bool, true, false, cond, not, List, [], ◌∷◌, map, ℕ, zero, suc, ◌%◌, eqb}
use Rattle.std.proofs.Common.{ap₂, sym}
use Rattle.std.proofs.Math.Bool.{xor as xorBool}
use mir.Val.{bool_byte}
use mathlib.Core.Bool.{beq}
use Rattle.model.specs.Equivalence.{byte}
use Rattle.model.specs.Sat as Sat
use Rattle.aig.specs.Operations.{is_true}
use Rattle.assignment.specs.State.{word_value}

true_word : (v : ℕ) → Sat.is_true (word_value v) ≡ eqb (v % 2) 1
unfolding word_value Sat.is_true
true_word zero = refl
true_word (suc k) = go (eqb (suc k % 2) 1)
  where
    go : (t : Bool) → Sat.is_true (cond t Sat.True Sat.False) ≡ t
    go true = refl
    go false = refl

-- the values of the nodes by their words are the model
pub model_is : (xs : List ℕ) → map is_true xs ≡ map Sat.is_true (map word_value xs)
model_is [] = refl
model_is (x ∷ xs) = ap₂ (λ (b : Bool) (bs : List Bool). b ∷ bs) (sym (true_word x)) (model_is xs)

-- a bit as a byte
pub byte_is : (b : Bool) → bool_byte b ≡ byte b
unfolding byte
byte_is true = refl
byte_is false = refl

-- whether two bits differ
pub differ_is : (a b : Bool) → not (beq a b) ≡ xorBool a b
unfolding xorBool
differ_is true true = refl
differ_is true false = refl
differ_is false true = refl
differ_is false false = refl
