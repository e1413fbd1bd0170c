-- `claim_fault` is the test of the claim. Assumes nothing.
use Rattle.calls.specs.Faults.{refusal}
use Rattle.calls.specs.Causes.{fault_of}
use Rattle.model.specs.Validate.{refuse_if}
use Rattle.replay.specs.ClaimChecks.{claim_fault}
use Rattle.replay.proofs.claim.claim_fault.Goals as goal

pub returns-then-bad_claim : goal.returns-then-bad_claim
unfolding fault_of refusal claim_fault refuse_if
returns-then-bad_claim c = rw (c.of_pair.ensures, ← c.bad_claim.ensures, c.if-bad_claim.true)

pub returns-else-bad_claim : goal.returns-else-bad_claim
unfolding fault_of claim_fault refuse_if
returns-else-bad_claim c = rw (← c.bad_claim.ensures, c.if-bad_claim.false)
