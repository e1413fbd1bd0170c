-- `lower_gate` meets its contract. Assumes nothing.
use Rattle.lowering.specs.Step.{entered_gate}
use Rattle.lowering.proofs.walk.lower_gate.Goals as goal

pub returns : goal.returns
returns c =
    rw c.stash.ensures.0 (entered_gate _ _ _ _ _ _ _ c.requires.0 c.gate-made.ensures)
