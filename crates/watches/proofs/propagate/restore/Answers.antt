-- `restore` meets its contract. The invariant: what is left of the pending clauses is to be appended. Assumes nothing.
use Rattle.std.proofs.Common.{rules}
use Rattle.watches.specs.PropagateLaws.{restore_visiting, restore_more, restore_end}
use Rattle.watches.specs.VisitLaws.{cell_there}
use Rattle.watches.proofs.propagate.restore.Goals as goal

pub rest-next-requires : goal.rest-next-requires
rest-next-requires c =
    let l = c.loop-d in
    let a = c.args in
    let v = restore_visiting a.store a.t a.f.0 a.words.now a.first l.words l.d l.invariant.1 c.loop-d-test.true in
    (l.invariant.1.step.sound.formed.ready.words, c.loop-d-test.true, cell_there a.store a.t l.words l.d v.0)

pub loop-d-preserved : goal.loop-d-preserved
loop-d-preserved c =
    let l = c.loop-d in
    let a = c.args in
    (search rules, restore_more a.store a.t a.f.0 a.words.now a.first l.words l.d l.invariant.1 c.loop-d-test.true _ c.keep.ensures.0 c.keep.ensures.1 c.rest-next.result c.rest-next.ensures.0 c.rest-next.ensures.1)

pub returns : goal.returns
returns c =
    let l = c.loop-d in
    let a = c.args in
    restore_end a.store a.t a.f.0 a.words.now a.first l.words l.d l.invariant.1 c.loop-d-test.false
