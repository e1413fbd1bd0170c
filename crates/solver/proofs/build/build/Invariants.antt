-- `build` meets its contract. The invariant: the graph is built, and the next can be built after it. Assumes nothing.
use Rattle.std.proofs.Common.{◌≡◌, length}
use Rattle.solver.specs.Built.{Built}
use Rattle.solver.proofs.build.build.Given as goal

abbrev pub invariant-loop : goal.invariant-loop
invariant-loop l = (length l.words ≡ length l.initial.words) × Built l.netlist l.count l.words
