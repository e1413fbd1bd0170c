-- What the check of a claimed trace says. Definitions only.
use Rattle.std.specs.Prelude.{ℕ, suc, ◌+◌, ◌*◌, Bool, not, ◌||◌, List, eqb, ltb, length}
use Rattle.std.proofs.Math.Option.{Option}
use Rattle.model.specs.Answers.{Refusal}
use Rattle.model.specs.Netlist.{Design}
use Rattle.model.specs.Validate.{◌otherwise◌, refuse_if}
use Rattle.model.specs.Pair.{all_bits, initial_fault, bad_claim}

-- 25, from the counts of inputs and outputs
unfoldable pub claim_bad : ℕ → ℕ → ℕ → List ℕ → Bool
claim_bad inputs outputs cycle claim = ltb 64 cycle || not (eqb (length claim) (suc cycle * inputs + outputs)) || not (all_bits claim)

-- 25 as a check
unfoldable pub claim_fault : ℕ → ℕ → ℕ → List ℕ → Option Refusal
claim_fault inputs outputs cycle claim = refuse_if 25 0 0 (claim_bad inputs outputs cycle claim)

-- 22 and 25
unfoldable pub initial_and_claim_fault : Design → Design → ℕ → List ℕ → Option Refusal
initial_and_claim_fault gold gate cycle claim = initial_fault gold gate otherwise refuse_if 25 0 0 (bad_claim gold cycle claim)
