-- `advance` runs both sides and compares their outputs. Assumes nothing.
use Rattle.std.proofs.Common.{refl, ◌+◌, ◌*◌, ◌≤◌, arith}
use Rattle.steps.specs.StepLaws.{rows-small}
use Rattle.steps.specs.StepRight.{advanced}
use Rattle.steps.proofs.step.advance.Goals as goal
use Rattle.steps.proofs.step.advance.Goals.{Start}

-- what the cycle and the claimed cycle give: places of the claim that fit
at_small : (c : Start) → c.args.p.cycle * c.args.inputs ≤ 8320
at_small c = rows-small c.args.p.cycle c.args.inputs (omega (arith, c.requires.4)) c.requires.2

place-small : (c : Start) → (c.args.cycle + 1) * c.args.inputs ≤ 8320
place-small c = rows-small (c.args.cycle + 1) c.args.inputs (omega (arith, c.requires.3)) c.requires.2

pub overflow_mul-at : goal.overflow_mul-at
overflow_mul-at c = omega (arith, at_small (goal.at.overflow_mul-at c).Start)

pub overflow_mul-place : goal.overflow_mul-place
overflow_mul-place c = omega (arith, place-small (goal.at.overflow_mul-place c).Start)

pub cycle_of-gold_cycle-requires : goal.cycle_of-gold_cycle-requires
cycle_of-gold_cycle-requires c = (c.requires.0, omega (arith, at_small (goal.at.cycle_of-gold_cycle-requires c).Start))

pub cycle_of-gate_cycle-requires : goal.cycle_of-gate_cycle-requires
cycle_of-gate_cycle-requires c = (c.requires.1, omega (arith, at_small (goal.at.cycle_of-gate_cycle-requires c).Start))

pub compare-c-requires : goal.compare-c-requires
compare-c-requires c = (omega (arith, place-small (goal.at.compare-c-requires c).Start), c.requires.0.formed.fits, c.requires.1.formed.fits)

pub returns : goal.returns
returns c =
    let a = c.args in
    let x = c.cycle_of-gold_cycle.result in
    let y = c.cycle_of-gate_cycle.result in
    λ s t q. advanced s t a.inputs a.gold.now a.gate.now a.cycle a.claim.now a.p c.requires.0 c.requires.1 q _ _ x.outputs y.outputs x.rows y.rows c.compare-c.result.differ c.compare-c.result.marked c.outcome.result refl refl
    (c.cycle_of-gold_cycle.ensures s _ q.gold_prepared) (c.cycle_of-gate_cycle.ensures t _ q.gate_prepared) c.compare-c.ensures.0 c.compare-c.ensures.1 c.outcome.ensures
