-- `trace::first_mismatch` meets its contract. Assumes nothing.
use Rattle.assignment.specs.State.{model_of}
use Rattle.words.specs.Layout.{FRAMES}
use Rattle.words.specs.Region.{region}
use Rattle.trace.specs.Cycles.{Equal}
use Rattle.trace.proofs.first_mismatch.Given as goal

abbrev pub invariant-loop-cycle : goal.invariant-loop-cycle
invariant-loop-cycle l = Equal (model_of l.nodes l.words) l.cycle (region FRAMES l.words)
