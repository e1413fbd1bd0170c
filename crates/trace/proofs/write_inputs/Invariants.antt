-- `trace::write_inputs` meets its contract. Assumes nothing.
use Rattle.std.proofs.Common.{◌≡◌, length}
use Rattle.assignment.specs.State.{model_of}
use Rattle.words.specs.Layout.{FRAMES}
use Rattle.words.specs.Region.{region}
use Rattle.trace.specs.Cycles.{inputs_of}
use Rattle.trace.specs.Writing.{Wrote}
use Rattle.trace.proofs.write_inputs.Given as goal

abbrev pub invariant-loop-cycle : goal.invariant-loop-cycle
invariant-loop-cycle l =
    (length l.trace ≡ length l.initial.trace) × Wrote 0 (inputs_of (model_of l.nodes l.words) l.input_count l.cycle (region FRAMES l.words)) l.initial.trace l.trace
