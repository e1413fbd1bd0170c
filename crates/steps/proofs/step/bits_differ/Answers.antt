-- `bits_differ` passes every pair of equal bits: what is left of both rows decides. Assumes nothing.
use Rattle.std.proofs.Common.{sym, ◌∙◌, inl, inr, arith}
use Rattle.steps.specs.StepLaws.{differ-here, differ-more, differ-end}
use Rattle.steps.proofs.step.bits_differ.Goals as goal

pub returns-then-x-y : goal.returns-then-x-y
returns-then-x-y c =
    let p = c.in-Some.ensures.steps in
    sym (c.loop-x.invariant ∙ differ-here _ _ _ _ _ _ p.0 p.1 c.if-x-y.true)

pub loop-x-preserved : goal.loop-x-preserved
loop-x-preserved c =
    let p = c.in-Some.ensures.steps in
    c.loop-x.invariant ∙ differ-more _ _ _ _ _ _ p.0 p.1 c.if-x-y.false

pub returns : goal.returns
returns c = sym (c.loop-x.invariant ∙ differ-end _ _ (elim c.in-None.ensures.steps [ inl w ↦ omega (arith, w.1) | inr w ↦ omega (arith, w.1) ]))
