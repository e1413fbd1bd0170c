-- `propagate` meets its contract. The invariant: the rounds that are left decide, and there are enough. Assumes nothing.
use Rattle.std.proofs.Common.{rules}
use Rattle.watches.specs.PropagateLaws.{rounds-start, rounds-end, rounds-next, rounds-ended}
use Rattle.watches.proofs.propagate.propagate.Goals as goal

pub loop-t-init : goal.loop-t-init
loop-t-init c =
    let a = c.args in
    (search rules, rounds-start a.store a.start a.words.now c.requires)

pub loop-t-preserved : goal.loop-t-preserved
loop-t-preserved c =
    let l = c.loop-t in
    let a = c.args in
    (search rules, rounds-next a.store a.start a.words.now l.t l.words l.invariant.1 c.loop-t-test.true _ _ c.propagate_round.ensures.0 c.propagate_round.ensures.1 _ c.in-Propagating.is)

pub returns-in_default : goal.returns-in_default
returns-in_default c =
    let l = c.loop-t in
    let a = c.args in
    rounds-ended a.store a.start a.words.now l.t l.words l.invariant.1 c.loop-t-test.true _ _ c.propagate_round.ensures.0 c.propagate_round.ensures.1 c.in_default.not-Propagating

pub returns : goal.returns
returns c =
    let l = c.loop-t in
    let a = c.args in
    (l.invariant.1.done, rounds-end a.store a.start a.words.now l.t l.words l.invariant.1 c.loop-t-test.false)
