-- `netlist_checks::validate::after_connections` meets its contract: the first check that refuses decides. Assumes nothing.
use Rattle.calls.specs.FaultLaws.{stops, goes_on}
use Rattle.calls.specs.Causes.{fault_of}
use Rattle.netlist_checks.specs.Chain.{after_connections}
use Rattle.netlist_checks.proofs.validate.after_connections.Goals as goal

pub returns-in_err-reset_fault : goal.returns-in_err-reset_fault
unfolding after_connections fault_of
returns-in_err-reset_fault c = λ s. stops _ _ _ _ c.from_residual.ensures.1 (c.in_err-reset_fault.ensures s)

pub returns : goal.returns
unfolding after_connections fault_of
returns c = λ s. goes_on _ _ (c.in_ok-reset_fault.ensures s) _ (c.after_resets.ensures s)
