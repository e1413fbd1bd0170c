-- `all_bits` passes every byte 0 or 1. Assumes nothing.
use Rattle.std.proofs.Common.{sym, ◌∙◌, arith}
use Rattle.replay.specs.ClaimLaws.{bits_bad, bits-more, bits-done}
use Rattle.replay.proofs.claim.all_bits.Goals as goal

pub returns-then-byte-ge2 : goal.returns-then-byte-ge2
returns-then-byte-ge2 c = sym (c.loop-byte.invariant ∙ bits_bad c.args.claim.now c.loop-byte.byte-index (omega arith) c.if-byte-ge2.true)

pub loop-byte-preserved : goal.loop-byte-preserved
loop-byte-preserved c = c.loop-byte.invariant ∙ bits-more c.args.claim.now c.loop-byte.byte-index (omega arith) c.if-byte-ge2.false

pub returns : goal.returns
returns c = sym (c.loop-byte.invariant ∙ bits-done c.args.claim.now _ (omega arith))
