-- `unrolling::frame::remap_literals` meets its contract. Assumes nothing.
use Rattle.std.proofs.Common.{◌≡◌, length}
use Rattle.lowering.specs.Firsts.{Mapped}
use Rattle.model.specs.Equivalence.{remap_literal}
use Rattle.words.specs.Layout.{IMPORTED}
use Rattle.words.specs.Region.{region}
use Rattle.unrolling.proofs.frame.remap_literals.Given as goal

abbrev pub invariant-loop-i : goal.invariant-loop-i
invariant-loop-i l = (length l.mapped ≡ 128) × Mapped (remap_literal (region IMPORTED l.words)) l.i l.literals l.mapped
