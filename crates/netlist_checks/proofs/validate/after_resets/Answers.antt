-- `netlist_checks::validate::after_resets` meets its contract: the first check that refuses decides. Assumes nothing.
use Rattle.calls.specs.FaultLaws.{stops, goes_on}
use Rattle.calls.specs.Causes.{fault_of}
use Rattle.netlist_checks.specs.Chain.{after_resets}
use Rattle.netlist_checks.proofs.validate.after_resets.Goals as goal

pub returns-in_err-clock_fault : goal.returns-in_err-clock_fault
unfolding after_resets fault_of
returns-in_err-clock_fault c = λ s. stops _ _ _ _ c.from_residual.ensures.1 (c.in_err-clock_fault.ensures s)

pub returns : goal.returns
unfolding after_resets fault_of
returns c = λ s. goes_on _ _ (c.in_ok-clock_fault.ensures s) _ (c.clock_read_fault.ensures s)
