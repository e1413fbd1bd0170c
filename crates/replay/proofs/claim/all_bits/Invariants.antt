-- `all_bits` passes every byte 0 or 1. Assumes nothing.
use Rattle.std.proofs.Common.{◌≡◌, drop}
use Rattle.model.specs.Pair.{all_bits}
use Rattle.replay.proofs.claim.all_bits.Given as goal

abbrev pub invariant-loop-byte : goal.invariant-loop-byte
invariant-loop-byte l = all_bits l.claim ≡ all_bits (drop l.byte-index l.claim)
