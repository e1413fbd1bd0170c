-- `equivalence::counterexample::keep_row` meets its contract. Assumes nothing.
use Rattle.std.proofs.Common.{◌≡◌, length}
use Rattle.equivalence.specs.Rows.{KeptRow}
use Rattle.equivalence.proofs.counterexample.keep_row.Given as goal

abbrev pub invariant-loop-i : goal.invariant-loop-i
invariant-loop-i l =
    (length l.words ≡ length l.initial.words) × KeptRow l.place l.i l.literals l.initial.words l.words
