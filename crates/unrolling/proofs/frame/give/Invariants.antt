-- `unrolling::frame::give` meets its contract. Assumes nothing.
use Rattle.std.proofs.Common.{◌≡◌, length}
use Rattle.lowering.specs.Firsts.{pairs}
use Rattle.unrolling.specs.Give.{given}
use Rattle.unrolling.proofs.frame.give.Given as goal

abbrev pub invariant-loop-i : goal.invariant-loop-i
invariant-loop-i l = (length l.words ≡ length l.initial.words) × (given (pairs l.i l.places l.literals) l.words ≡ given (pairs l.n l.places l.literals) l.initial.words)
