-- `bits_fault` takes the length's fault, or tests gold's bytes, then gate's where there is none. Assumes nothing.
use Rattle.std.proofs.Common.{arith}
use Rattle.calls.specs.FaultLaws.{stops}
use Rattle.calls.specs.Faults.{refusal}
use Rattle.calls.specs.Causes.{fault_of}
use Rattle.model.specs.Validate.{◌otherwise◌, refuse_if}
use Rattle.stepping.specs.LentBits.{short_fault, counted_fault}
use Rattle.stepping.specs.LentBitsLaws.{long_enough, not_refused}
use Rattle.stepping.proofs.bits.bits_fault.Goals as goal

pub returns-in_err-short_fault : goal.returns-in_err-short_fault
unfolding fault_of counted_fault short_fault
returns-in_err-short_fault c = stops _ _ _ _ c.from_residual.ensures.1 c.in_err-short_fault.ensures

pub stored_bad-requires : goal.stored_bad-requires
unfolding fault_of
stored_bad-requires c =
    let bits = c.args.bits.now in
    omega (arith, long_enough bits (not_refused bits c.in_ok-short_fault.ensures))

pub stored_bad-requires-2 : goal.stored_bad-requires-2
unfolding fault_of
stored_bad-requires-2 c =
    let bits = c.args.bits.now in
    omega (arith, long_enough bits (not_refused bits c.in_ok-short_fault.ensures))

pub returns-then-stored_bad : goal.returns-then-stored_bad
unfolding fault_of refusal counted_fault refuse_if ◌otherwise◌
returns-then-stored_bad c =
    rw (not_refused c.args.bits.now c.in_ok-short_fault.ensures, ← c.stored_bad.ensures, c.if-stored_bad.true, c.of_pair.ensures)

pub returns-then-stored_bad-2 : goal.returns-then-stored_bad-2
unfolding fault_of refusal counted_fault refuse_if ◌otherwise◌
returns-then-stored_bad-2 c =
    rw (not_refused c.args.bits.now c.in_ok-short_fault.ensures, ← c.stored_bad.ensures, c.if-stored_bad.false, ← c.stored_bad-2.ensures, c.if-stored_bad-2.true, c.of_pair-then-stored_bad-2.ensures)

pub returns : goal.returns
unfolding fault_of counted_fault refuse_if ◌otherwise◌
returns c =
    rw (not_refused c.args.bits.now c.in_ok-short_fault.ensures, ← c.stored_bad.ensures, c.if-stored_bad.false, ← c.stored_bad-2.ensures, c.if-stored_bad-2.false)
