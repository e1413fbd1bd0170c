-- `initial_and_size_fault` takes the initial refusal, or the sizes' where there is none. Assumes nothing.
use Rattle.std.proofs.Common.{◌∙◌}
use Rattle.calls.specs.FaultLaws.{stops, goes_on}
use Rattle.calls.specs.Causes.{fault_of}
use Rattle.calls.specs.Options.{lent_of}
use Rattle.model.specs.Pair.{initial_fault}
use Rattle.refusals.specs.RefusalLaws.{sizes_of}
use Rattle.refusals.specs.Refusals.{initial_and_size_fault}
use Rattle.refusals.proofs.initial_and_size_fault.Goals as goal

pub returns-in_err-initial_fault : goal.returns-in_err-initial_fault
unfolding fault_of initial_and_size_fault
returns-in_err-initial_fault c = λ s t v u. stops (initial_fault _ _) _ _ _ c.from_residual.ensures.1 (c.in_err-initial_fault.ensures s t v u)

pub returns : goal.returns
unfolding fault_of initial_and_size_fault
returns c =
    let a = c.args in
    λ s t v u. goes_on (initial_fault _ _) _ (c.in_ok-initial_fault.ensures s t v u) _ (c.size_fault.ensures ∙ sizes_of s t a.gold.now a.gate.now a.depth (lent_of a.lent) v u)
