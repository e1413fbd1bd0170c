-- `equivalence::counterexample::counterexample_cycles` meets its contract. Assumes nothing.
use Rattle.std.proofs.Common.{◌≡◌, ◌-◌, ◌*◌, ◌<◌, length}
use Rattle.unrolling.specs.Cycling.{Startable}
use Rattle.equivalence.specs.Counterexample.{compared_cost, ComparedLeft}
use Rattle.equivalence.proofs.counterexample.counterexample_cycles.Given as goal

abbrev pub invariant-loop-i : goal.invariant-loop-i
invariant-loop-i l =
    (length l.words ≡ length l.initial.words)
    × (Startable (l.n * compared_cost l.gold l.gate l.initial.words) l.gold l.gate l.initial.base.aig.count l.initial.words l.initial.base.gold_state l.initial.base.gate_state → l.initial.base.any_mismatch.0 < l.initial.base.aig.count * 2
    → ComparedLeft l.gold l.gate l.n l.initial.base.aig.count l.initial.words l.initial.base.gold_state l.initial.base.gate_state l.initial.base.any_mismatch.0
    l.i (l.n - l.i) l.base.aig.count l.words l.base.gold_state l.base.gate_state l.base.any_mismatch.0)
