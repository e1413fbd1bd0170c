-- `step` meets its contract: by the end of the propagation, and by the decision. Assumes nothing.
use Rattle.sat.specs.StepLaws.{never-unfinished, conflict-asked, step-conflict, decide_needs, step-model, step-decided}
use Rattle.sat.proofs.round.step.Goals as goal

pub unreachable-requires : goal.unreachable-requires
unreachable-requires c =
    never-unfinished _ _ _ _ c.requires _ _ c.propagate.ensures.0 c.propagate.ensures.1 _ c.in-Propagating.is

pub decide-requires : goal.decide-requires
decide-requires c =
    decide_needs _ _ _ _ c.requires _ _ c.propagate.ensures.0 c.propagate.ensures.1 _ c.in-Complete.is

pub after_conflict-requires : goal.after_conflict-requires
after_conflict-requires c =
    conflict-asked _ _ _ _ c.requires _ _ c.propagate.ensures.0 c.propagate.ensures.1 _ _ c.in-Conflict.is

pub returns-in-None : goal.returns-in-None
returns-in-None c =
    step-model _ _ _ _ c.requires _ _ c.propagate.ensures.0 c.propagate.ensures.1 _ c.in-Complete.is _ (rw c.in-None.is at c.decide.ensures)

pub returns-in-Some : goal.returns-in-Some
returns-in-Some c =
    step-decided _ _ _ _ c.requires _ _ c.propagate.ensures.0 c.propagate.ensures.1 _ c.in-Complete.is _ _ (rw c.in-Some.is at c.decide.ensures)

pub returns-in-Conflict : goal.returns-in-Conflict
returns-in-Conflict c =
    step-conflict _ _ _ _ c.requires _ _ c.propagate.ensures.0 c.propagate.ensures.1 _ _ c.in-Conflict.is _ _ _ c.after_conflict.ensures
