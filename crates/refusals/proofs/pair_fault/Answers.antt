-- `pair_fault` takes the interface's fault, or the initial bits' and the sizes' where there is none. Assumes nothing.
use Rattle.calls.specs.FaultLaws.{stops, goes_on}
use Rattle.calls.specs.Causes.{fault_of}
use Rattle.model.specs.Pair.{interface_fault}
use Rattle.refusals.specs.Refusals.{pair_fault}
use Rattle.refusals.proofs.pair_fault.Goals as goal

pub initial_and_size_fault-requires : goal.initial_and_size_fault-requires
initial_and_size_fault-requires c =
    let p = c.args.pair.now in
    let gold = p.gold.sided.ordered in
    (p.gold.sided.valid.within.sized, p.gate.sided.valid.within.sized, gold.formed_inputs, gold.formed_outputs, gold.formed_registers, p.gate.sided.ordered.formed_registers, c.requires)

pub returns-in_err-interface_fault : goal.returns-in_err-interface_fault
unfolding fault_of pair_fault
returns-in_err-interface_fault c = stops (interface_fault _ _) _ _ _ c.from_residual.ensures.1 c.in_err-interface_fault.ensures

pub returns : goal.returns
unfolding fault_of pair_fault
returns c =
    let p = c.args.pair.now in
    goes_on (interface_fault _ _) _ c.in_ok-interface_fault.ensures _ (c.initial_and_size_fault.ensures _ _ p.gold.sided p.gate.sided)
