-- `replays` goes a step for each cycle: the position is that after `k` steps. Assumes nothing.
use Rattle.std.proofs.Common.{◌≡◌, refl, ◌∙◌, arith}
use Rattle.model.specs.Replay.{initial_position, position_after}
use Rattle.struo_ir.specs.Decoded.{decoded}
use Rattle.replay.specs.ReplayRight.{position-more, answer-after, replay_steps}
use Rattle.steps.specs.StepSides as Sides
use Rattle.replay.proofs.replay.replays.Goals as goal

pub loop-init : goal.loop-init
unfolding position_after initial_position Sides.position
loop-init c = λ s t q. refl

pub loop-preserved : goal.loop-preserved
loop-preserved c =
    let a = c.args in
    let t = c.loop in
    λ s u q. position-more s u a.gold.now a.gate.now a.cycle a.claim.now _ t.counter t.position c.step-stepped.result (t.invariant s u q) (c.step-stepped.ensures s u q)

pub returns : goal.returns
returns c =
    let a = c.args in
    let t = c.loop in
    let e : t.counter ≡ a.cycle = omega arith in
    λ s u q. answer-after s u a.gold.now a.gate.now a.cycle a.claim.now _ t.counter t.position c.step-last.result (t.invariant s u q) (c.step-last.ensures s u q) ∙ rw e (replay_steps (decoded s a.gold.now.netlist) (decoded u a.gate.now.netlist) _ _ a.cycle a.claim.now)
