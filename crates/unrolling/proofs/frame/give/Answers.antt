-- `unrolling::frame::give` meets its contract. Assumes nothing.
use Rattle.std.proofs.Common.{◌≡◌, ◌∙◌, arith, rules}
use Rattle.lowering.specs.Firsts.{pairs}
use Rattle.unrolling.specs.Give.{given, given-last}
use Rattle.unrolling.proofs.frame.give.Goals as goal

pub loop-i-preserved : goal.loop-i-preserved
loop-i-preserved c =
    let l = c.loop-i in
    let a = c.args in
    (search rules, rw c.stash.ensures.0 (given-last l.i a.places.now a.literals.now l.words c.loop-i-test.true ∙ l.invariant.1))

pub returns : goal.returns
unfolding given pairs
returns c =
    let l = c.loop-i in
    let e : l.i ≡ 0 = omega (arith, c.loop-i-test.false) in
    (rw e at l.invariant.1, search rules)
