-- `step` stands still past the claimed cycle. Assumes nothing.
use Rattle.steps.specs.StepRight.{step_still, step-taken}
use Rattle.steps.proofs.step.step.Goals as goal

pub returns-then-p-cycle : goal.returns-then-p-cycle
returns-then-p-cycle c = let a = c.args in let p = c.requires in λ s t q. step_still s t a.inputs a.gold.now a.gate.now a.cycle a.claim.now a.p p.0 p.1 q c.if-p-cycle.true

pub returns : goal.returns
returns c = let a = c.args in let p = c.requires in λ s t q. step-taken s t a.inputs a.gold.now a.gate.now a.cycle a.claim.now a.p p.0 p.1 q c.advance.result c.if-p-cycle.false (c.advance.ensures s t q)
