-- `initial_fault` takes gold's refusal, or gate's where gold has none. Assumes nothing.
use Rattle.std.proofs.Common.{◌∙◌}
use Rattle.calls.specs.FaultLaws.{stops, goes_on}
use Rattle.calls.specs.Causes.{fault_of}
use Rattle.pair.specs.PairCheckLaws.{initial_of}
use Rattle.pair.proofs.checks.initial_fault.Goals as goal

pub returns-in_err-resets_fault : goal.returns-in_err-resets_fault
unfolding fault_of
returns-in_err-resets_fault c = λ s t v u. stops _ _ _ _ c.from_residual.ensures.1 (c.in_err-resets_fault.ensures s) ∙ initial_of s t _ _ v u

pub returns : goal.returns
unfolding fault_of
returns c = λ s t v u. goes_on _ _ (c.in_ok-resets_fault.ensures s) _ (c.resets_fault-2.ensures t) ∙ initial_of s t _ _ v u
