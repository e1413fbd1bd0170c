-- `initial_and_short_fault` takes the initial fault, or the length's where there is none. Assumes nothing.
use Rattle.calls.specs.FaultLaws.{stops, goes_on}
use Rattle.calls.specs.Causes.{fault_of}
use Rattle.model.specs.Pair.{initial_fault}
use Rattle.stepping.specs.LentBits.{short_fault, initial_and_short_fault}
use Rattle.stepping.proofs.stepping.initial_and_short_fault.Goals as goal

pub returns-in_err-initial_fault : goal.returns-in_err-initial_fault
unfolding fault_of initial_and_short_fault
returns-in_err-initial_fault c = λ s t v u. stops (initial_fault _ _) _ _ _ c.from_residual.ensures.1 (c.in_err-initial_fault.ensures s t v u)

pub returns : goal.returns
unfolding fault_of initial_and_short_fault short_fault
returns c = λ s t v u. goes_on (initial_fault _ _) _ (c.in_ok-initial_fault.ensures s t v u) _ c.short_fault.ensures
