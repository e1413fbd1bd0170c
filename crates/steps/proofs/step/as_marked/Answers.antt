-- `as_marked` passes every pair of bits that differs as marked. Assumes nothing.
use Rattle.std.proofs.Common.{sym, ◌∙◌, arith}
use Rattle.steps.specs.StepLaws.{marked_wrong, marked_more, marked-end}
use Rattle.steps.proofs.step.as_marked.Goals as goal

pub returns-then-xs-k : goal.returns-then-xs-k
returns-then-xs-k c =
    let t = c.loop-k in
    let a = c.args in
    sym (t.invariant.1 ∙ marked_wrong a.claim.now a.place a.xs.now a.ys.now t.k (omega arith) (omega arith) (rw (← c.claim_bit.ensures) c.if-xs-k.true))

pub loop-k-preserved : goal.loop-k-preserved
loop-k-preserved c =
    let t = c.loop-k in
    let a = c.args in
    (omega arith, t.invariant.1 ∙ marked_more a.claim.now a.place a.xs.now a.ys.now t.k (omega arith) (omega arith) (rw (← c.claim_bit.ensures) c.if-xs-k.false))

pub returns : goal.returns
returns c = let t = c.loop-k in let a = c.args in sym (t.invariant.1 ∙ marked-end a.claim.now a.place a.xs.now a.ys.now t.k (omega arith))
