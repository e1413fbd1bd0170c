-- `propagate_round` meets its contract: the queue of the negated literal at the head is taken and visited. Assumes nothing.
use Rattle.std.proofs.Common.{ap, ◌∙◌}
use Rattle.watches.specs.PropagateLaws.{advanced-sound, round-done}
use Rattle.model.specs.Literal as Literals
use Rattle.watches.proofs.propagate.propagate_round.Goals as goal

pub visit_pending-requires : goal.visit_pending-requires
visit_pending-requires c =
    let a = c.args in
    (advanced-sound a.store a.t _ _ c.take_watches-d.ensures.step.sound, c.take_watches-d.ensures.literal)

pub returns : goal.returns
returns c =
    let a = c.args in
    round-done a.store a.t a.words.now c.negate-f.result.0 c.take_watches-d.result _ c.take_watches-d.ensures c.requires.0.formed.ready c.requires.1 (c.negate-f.ensures ∙ ap Literals.negate c.load.ensures) c.visit_pending.result _ c.visit_pending.ensures.0 c.visit_pending.ensures.1
