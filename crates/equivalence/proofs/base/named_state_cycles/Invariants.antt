-- `equivalence::base::named_state_cycles` meets its contract. Assumes nothing.
use Rattle.std.proofs.Common.{◌≡◌, ◌-◌, ◌*◌, ◌<◌, length}
use Rattle.unrolling.specs.Cycling.{Startable}
use Rattle.equivalence.specs.NamedState.{named_cost, NamedLeft}
use Rattle.equivalence.proofs.base.named_state_cycles.Given as goal

abbrev pub invariant-loop : goal.invariant-loop
invariant-loop l =
    (length l.words ≡ length l.initial.words)
    × (Startable (l.n * named_cost l.gold l.gate l.initial.words) l.gold l.gate l.initial.base.aig.count l.initial.words l.initial.base.gold_state l.initial.base.gate_state → l.initial.base.any_mismatch.0 < l.initial.base.aig.count * 2
    → NamedLeft l.gold l.gate l.matches l.n l.initial.base.aig.count l.initial.words l.initial.base.gold_state l.initial.base.gate_state l.initial.base.any_mismatch.0
    (l.n - l.counter) l.base.aig.count l.words l.base.gold_state l.base.gate_state l.base.any_mismatch.0)
