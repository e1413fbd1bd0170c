-- A check, then those after it: as `?` passes a refusal on, and at one place. Assumes nothing.
use Rattle.std.specs.Prelude.{ℕ, ◌≡◌, Bool, true, false, Result}
use Rattle.std.specs.Result.{IsErrAnd}
use Rattle.std.proofs.Common.{sym, ◌∙◌}
use Rattle.std.proofs.Math.Option.{Option, none, some}
use Rattle.model.specs.Answers.{Refusal}
use Rattle.model.specs.Validate.{◌otherwise◌, refuse_if}
use Rattle.calls.specs.Faults.{refusal, first-refuses, second-decides}
use Rattle.calls.specs.Causes.{numbers_of, fault_of, fault_passed}
use Rattle.calls.specs.declared.refusal.Refusal as Code

-- ---- one check after the other

module _ (check next : Option Refusal) where
  -- the first refuses
  pub stops : {A : Type 0} (f : Result A Code.Refusal) (x : Code.Refusal) → IsErrAnd f (λ y. y ≡ x) → some (numbers_of x) ≡ check → fault_of f ≡ (check otherwise next)
  stops f x h e = fault_passed f x h ∙ first-refuses check next (numbers_of x) (sym e)

  -- it finds nothing: the checks after it decide
  pub goes_on : none ≡ check → (g : Option Refusal) → g ≡ next → g ≡ (check otherwise next)
  goes_on e g k = k ∙ second-decides check next (sym e)

-- ---- one check at one place

-- the fault is there
pub refused_by : (number i : ℕ) (b : Bool) (next : Option Refusal) → true ≡ b → some (refusal number 0 i) ≡ (refuse_if number 0 i b otherwise next)
unfolding refusal refuse_if ◌otherwise◌
refused_by number i b next e = rw (← e)

-- it is not
pub passed_by : (number i : ℕ) (b : Bool) (next : Option Refusal) → false ≡ b → next ≡ (refuse_if number 0 i b otherwise next)
unfolding refuse_if ◌otherwise◌
passed_by number i b next e = rw (← e)
