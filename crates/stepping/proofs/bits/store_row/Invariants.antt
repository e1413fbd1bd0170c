-- `store_row` writes the bits in order: those written so far, every other byte as it was. Assumes nothing.
use Rattle.std.proofs.Common.{◌≡◌, length, take}
use Rattle.model.specs.Stepping.{with_stored}
use Rattle.stepping.proofs.bits.store_row.Given as goal

abbrev pub invariant-loop-k : goal.invariant-loop-k
invariant-loop-k l = (length l.bits ≡ length l.initial.bits) × (length l.row ≡ 128) × (l.bits ≡ with_stored l.at (take l.k l.row) l.initial.bits)
