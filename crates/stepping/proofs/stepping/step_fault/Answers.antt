-- `step_fault` takes the replay's fault, or the lent bits' where there is none. Assumes nothing.
use Rattle.std.proofs.Common.{◌∙◌}
use Rattle.calls.specs.FaultLaws.{stops, goes_on}
use Rattle.calls.specs.Causes.{fault_of}
use Rattle.model.specs.Pair.{replay_fault}
use Rattle.model.specs.Stepping.{step_fault}
use Rattle.pair.specs.CountLaws.{count-registers}
use Rattle.stepping.specs.LentBitsLaws.{bits-counted}
use Rattle.stepping.proofs.stepping.step_fault.Goals as goal

pub bits_fault-requires : goal.bits_fault-requires
bits_fault-requires c =
    let p = c.args.pair.now in
    (p.gold.sided.valid.within.sized.registers, p.gate.sided.valid.within.sized.registers)

pub returns-in_err-replay_fault : goal.returns-in_err-replay_fault
unfolding fault_of step_fault
returns-in_err-replay_fault c = stops (replay_fault _ _ _ _) _ _ _ c.from_residual.ensures.1 c.in_err-replay_fault.ensures

pub returns : goal.returns
unfolding fault_of step_fault
returns c =
    let a = c.args in
    let gold = a.pair.now.gold in
    let gate = a.pair.now.gate in
    goes_on (replay_fault _ _ _ _) _ c.in_ok-replay_fault.ensures _
    (c.bits_fault.ensures
    ∙ bits-counted _ _ gold.design.netlist.register_count gate.design.netlist.register_count a.bits.now
    (count-registers gold.bytes.now gold.design.netlist gold.sided.valid.padded) (count-registers gate.bytes.now gate.design.netlist gate.sided.valid.padded))
