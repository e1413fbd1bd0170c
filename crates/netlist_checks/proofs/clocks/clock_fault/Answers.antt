-- `netlist_checks::clocks::clock_fault` meets its contract: the registers that are left to check give the whole outcome. Assumes nothing.
use Rattle.std.proofs.Common.{◌<◌, ◌∙◌, arith}
use Rattle.calls.specs.Faults.{refusal}
use Rattle.calls.specs.Causes.{fault_of}
use Rattle.netlist_checks.specs.ClockLaws.{clock_undefined, clock_other, clock-input, all-clocked}
use Rattle.netlist_checks.proofs.clocks.clock_fault.Goals as goal
use Rattle.netlist_checks.proofs.clocks.clock_fault.Goals.{In-loop-i}

-- the register's number is below 128
small : (c : In-loop-i) → c.loop-i.i < 128
small c = omega (arith, c.requires.registers_padded.fits)

pub returns-then-count-clock : goal.returns-then-count-clock
unfolding fault_of refusal
returns-then-count-clock c = λ s. rw c.at.ensures (clock_undefined s _ c.requires _ (omega arith) c.if-count-clock.true ∙ c.loop-i.invariant s)

pub returns-then-node-ne-INPUT : goal.returns-then-node-ne-INPUT
unfolding fault_of refusal
returns-then-node-ne-INPUT c = λ s. rw c.at-then-node-ne-INPUT.ensures (clock_other s _ c.requires _ (omega arith) c.if-count-clock.false c.if-node-ne-INPUT.true ∙ c.loop-i.invariant s)

pub loop-i-preserved : goal.loop-i-preserved
loop-i-preserved c = λ s. clock-input s _ c.requires _ (omega arith) c.if-count-clock.false c.if-node-ne-INPUT.false ∙ c.loop-i.invariant s

pub returns : goal.returns
unfolding fault_of refusal
returns c = λ s. all-clocked s _ _ (omega arith) ∙ c.loop-i.invariant s
