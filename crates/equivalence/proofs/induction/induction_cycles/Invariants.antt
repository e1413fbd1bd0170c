-- `equivalence::induction::induction_cycles` meets its contract. Assumes nothing.
use Rattle.std.proofs.Common.{◌≡◌, suc, ◌-◌, ◌*◌, length}
use Rattle.unrolling.specs.Cycling.{Startable}
use Rattle.equivalence.specs.Inducing.{cycle_cost, Induced}
use Rattle.equivalence.proofs.induction.induction_cycles.Given as goal

abbrev pub invariant-loop-i : goal.invariant-loop-i
invariant-loop-i l =
    (length l.words ≡ length l.initial.words) × (length l.state.assumptions ≡ 128)
    × (Startable (suc l.depth * cycle_cost l.gold l.gate l.initial.words) l.gold l.gate l.initial.state.aig.count l.initial.words l.initial.state.gold_state l.initial.state.gate_state
    → Induced l.gold l.gate l.matches l.include l.depth l.initial.state.aig.count l.initial.words l.initial.state.gold_state l.initial.state.gate_state l.initial.state.assumptions
    l.i (l.depth - l.i) l.state.aig.count l.words l.state.gold_state l.state.gate_state l.state.assumptions)
