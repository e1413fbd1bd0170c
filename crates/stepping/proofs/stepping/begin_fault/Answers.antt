-- `begin_fault` takes the interface's fault, or the initial bits' and the length's where there is none. Assumes nothing.
use Rattle.calls.specs.FaultLaws.{stops, goes_on}
use Rattle.calls.specs.Causes.{fault_of}
use Rattle.model.specs.Pair.{interface_fault}
use Rattle.model.specs.Stepping.{begin_fault}
use Rattle.stepping.specs.LentBits.{initial_and_short_fault}
use Rattle.stepping.proofs.stepping.begin_fault.Goals as goal

pub initial_and_short_fault-requires : goal.initial_and_short_fault-requires
initial_and_short_fault-requires c =
    let p = c.args.pair.now in
    (p.gold.sided.valid.within.sized, p.gate.sided.valid.within.sized, p.gold.sided.ordered.formed_registers, p.gate.sided.ordered.formed_registers)

pub returns-in_err-interface_fault : goal.returns-in_err-interface_fault
unfolding fault_of begin_fault
returns-in_err-interface_fault c = stops (interface_fault _ _) _ _ _ c.from_residual.ensures.1 c.in_err-interface_fault.ensures

pub returns : goal.returns
unfolding fault_of begin_fault initial_and_short_fault
returns c =
    let p = c.args.pair.now in
    goes_on (interface_fault _ _) _ c.in_ok-interface_fault.ensures _ (c.initial_and_short_fault.ensures _ _ p.gold.sided p.gate.sided)
