-- `netlist_checks::validate::validate` meets its contract: the first check that refuses decides. Assumes nothing.
use Rattle.calls.specs.FaultLaws.{stops, goes_on}
use Rattle.calls.specs.Causes.{fault_of}
use Rattle.model.specs.Validate.{validate}
use Rattle.netlist_checks.specs.Chain.{after_resets, after_connections, after_registers, after_nodes}
use Rattle.netlist_checks.proofs.validate.validate.Goals as goal

pub returns-in_err-nodes_fault : goal.returns-in_err-nodes_fault
unfolding validate after_nodes after_registers after_connections after_resets fault_of
returns-in_err-nodes_fault c = stops _ _ _ _ c.from_residual.ensures.1 c.in_err-nodes_fault.ensures

pub returns-in_err-registers_fault : goal.returns-in_err-registers_fault
unfolding validate after_nodes after_registers after_connections after_resets fault_of
returns-in_err-registers_fault c =
    goes_on _ _ c.in_ok-nodes_fault.ensures _ (stops _ _ _ _ c.from_residual-in_err-registers_fault.ensures.1 c.in_err-registers_fault.ensures)

pub returns : goal.returns
unfolding validate after_nodes after_registers after_connections after_resets fault_of
returns c =
    goes_on _ _ c.in_ok-nodes_fault.ensures _ (goes_on _ _ c.in_ok-registers_fault.ensures _ (c.after_registers.ensures c.args.bytes.now))
