-- `initial_and_claim_fault` takes the initial refusal, or the claim's where there is none. Assumes nothing.
use Rattle.std.proofs.Common.{◌∙◌}
use Rattle.calls.specs.FaultLaws.{stops, goes_on}
use Rattle.calls.specs.Causes.{fault_of}
use Rattle.model.specs.Pair.{initial_fault}
use Rattle.replay.specs.ClaimChecks.{initial_and_claim_fault}
use Rattle.replay.specs.ReplayRight.{claim_of}
use Rattle.replay.proofs.replay.initial_and_claim_fault.Goals as goal

pub returns-in_err-initial_fault : goal.returns-in_err-initial_fault
unfolding fault_of initial_and_claim_fault
returns-in_err-initial_fault c = λ s t v u. stops (initial_fault _ _) _ _ _ c.from_residual.ensures.1 (c.in_err-initial_fault.ensures s t v u)

pub returns : goal.returns
unfolding fault_of initial_and_claim_fault
returns c =
    let a = c.args in
    λ s t v u. goes_on (initial_fault _ _) _ (c.in_ok-initial_fault.ensures s t v u) _ (c.claim_fault.ensures ∙ claim_of s a.gold.now a.cycle a.claim.now v.ordered)
