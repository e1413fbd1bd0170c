-- `replays` goes a step for each cycle: the position is that after `k` steps. Assumes nothing.
use Rattle.std.proofs.Common.{◌≡◌, ℕ, List, take}
use Rattle.model.specs.Replay.{initial_position, position_after}
use Rattle.steps.specs.StepSides.{Paired}
use Rattle.struo_ir.specs.Decoded.{decoded}
use Rattle.steps.specs.StepSides as Sides
use Rattle.replay.proofs.replay.replays.Given as goal

abbrev pub invariant-loop : goal.invariant-loop
invariant-loop l =
    (s t : List ℕ) → Paired s t l.inputs l.gold l.gate
    → Sides.position l.gold.netlist.register_count l.gate.netlist.register_count l.position
    ≡ position_after (decoded s l.gold.netlist) (decoded t l.gate.netlist) l.cycle l.claim l.counter (initial_position (take l.gold.netlist.register_count l.initial.position.gold.old) (take l.gate.netlist.register_count l.initial.position.gate.old))
