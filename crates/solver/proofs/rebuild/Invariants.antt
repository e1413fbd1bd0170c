-- `rebuild` meets its contract. The invariant: the words hold the graph of the pairs passed. Assumes nothing.
use Rattle.std.proofs.Common.{◌≡◌, length}
use Rattle.solver.specs.QueryLaws.{Partly}
use Rattle.solver.proofs.rebuild.Given as goal

abbrev pub invariant-loop-i : goal.invariant-loop-i
invariant-loop-i l = (length l.words ≡ length l.initial.words) × Partly l.nodes l.i l.aig.count l.words
