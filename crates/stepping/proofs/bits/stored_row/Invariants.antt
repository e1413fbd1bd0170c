-- `stored_row` reads the bits in order. Assumes nothing.
use Rattle.std.proofs.Common.{◌≡◌, length, take}
use Rattle.model.specs.Stepping.{stored_bits}
use Rattle.stepping.proofs.bits.stored_row.Given as goal

abbrev pub invariant-loop-k : goal.invariant-loop-k
invariant-loop-k l = (length l.row ≡ 128) × (take l.k l.row ≡ stored_bits l.at l.k l.bits)
