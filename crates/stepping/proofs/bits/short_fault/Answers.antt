-- `short_fault` is the test of the length. Assumes nothing.
use Rattle.calls.specs.Faults.{refusal}
use Rattle.calls.specs.Causes.{fault_of}
use Rattle.model.specs.Validate.{refuse_if}
use Rattle.stepping.specs.LentBits.{short_fault}
use Rattle.stepping.specs.LentBitsLaws.{too_short, not_short}
use Rattle.stepping.proofs.bits.short_fault.Goals as goal

pub returns-then-bits-lt-LENT_BITS : goal.returns-then-bits-lt-LENT_BITS
unfolding fault_of refusal short_fault refuse_if
returns-then-bits-lt-LENT_BITS c = rw (c.of_pair.ensures, too_short c.args.bits.now c.if-bits-lt-LENT_BITS.true)

pub returns-else-bits-lt-LENT_BITS : goal.returns-else-bits-lt-LENT_BITS
unfolding fault_of short_fault refuse_if
returns-else-bits-lt-LENT_BITS c = rw (not_short c.args.bits.now c.if-bits-lt-LENT_BITS.false)
