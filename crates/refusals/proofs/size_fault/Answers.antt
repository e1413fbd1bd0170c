-- `size_fault` tests 23, then 24. Assumes nothing.
use Rattle.calls.specs.Faults.{refusal}
use Rattle.calls.specs.Causes.{fault_of}
use Rattle.model.specs.Validate.{◌otherwise◌, refuse_if}
use Rattle.refusals.specs.Refusals.{size_fault}
use Rattle.refusals.proofs.size_fault.Goals as goal

pub returns-then-too_large : goal.returns-then-too_large
unfolding fault_of refusal size_fault refuse_if ◌otherwise◌
returns-then-too_large c = rw (c.of_pair.ensures, ← c.too_large.ensures, c.if-too_large.true)

pub returns-then-too_short : goal.returns-then-too_short
unfolding fault_of refusal size_fault refuse_if ◌otherwise◌
returns-then-too_short c = rw (c.of_pair-then-too_short.ensures, ← c.too_large.ensures, c.if-too_large.false, ← c.too_short.ensures, c.if-too_short.true)

pub returns : goal.returns
unfolding fault_of refusal size_fault refuse_if ◌otherwise◌
returns c = rw (← c.too_large.ensures, c.if-too_large.false, ← c.too_short.ensures, c.if-too_short.false)
