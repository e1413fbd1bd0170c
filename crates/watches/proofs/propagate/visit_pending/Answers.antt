-- `visit_pending` meets its contract. The invariant: what is left of the pending clauses is to be visited. Assumes nothing.
use Rattle.std.proofs.Common.{rules}
use Rattle.watches.specs.PropagateLaws.{pends_visiting, pends_end, pends_more, pends_complete, conflict-sound, pends_conflict}
use Rattle.watches.specs.VisitLaws.{cell_there}
use Rattle.watches.proofs.propagate.visit_pending.Goals as goal

pub rest-next-requires : goal.rest-next-requires
rest-next-requires c =
    let l = c.loop-d in
    let a = c.args in
    let v = pends_visiting a.store a.f.0 a.start a.words.now a.first l.t l.words l.d l.invariant.1 c.loop-d-test.true in
    (l.invariant.1.step.sound.formed.ready.words, c.loop-d-test.true, cell_there a.store l.t l.words l.d v)

pub loop-d-preserved : goal.loop-d-preserved
loop-d-preserved c =
    let l = c.loop-d in
    let a = c.args in
    (search rules, pends_more a.store a.f.0 a.start a.words.now a.first l.t l.words l.d l.invariant.1 c.loop-d-test.true _ _ c.visit.ensures.0 c.visit.ensures.1 c.rest-next.result c.rest-next.ensures.0 c.rest-next.ensures.1 _ c.in-Propagating.is)

pub returns-in-Complete : goal.returns-in-Complete
returns-in-Complete c =
    let l = c.loop-d in
    let a = c.args in
    pends_complete a.store a.f.0 a.start a.words.now a.first l.t l.words l.d l.invariant.1 c.loop-d-test.true _ _ c.visit.ensures.0 c.visit.ensures.1 c.rest-next.result c.rest-next.ensures.0 c.rest-next.ensures.1 _ c.in-Complete.is

pub restore-requires : goal.restore-requires
restore-requires c =
    let l = c.loop-d in
    let a = c.args in
    conflict-sound a.store a.f.0 a.start a.words.now a.first l.t l.words l.d l.invariant.1 c.loop-d-test.true _ _ c.visit.ensures.0 c.visit.ensures.1 c.rest-next.result c.rest-next.ensures.0 c.rest-next.ensures.1 _ _ c.in-Conflict.is

pub returns-in-Conflict : goal.returns-in-Conflict
returns-in-Conflict c =
    let l = c.loop-d in
    let a = c.args in
    pends_conflict a.store a.f.0 a.start a.words.now a.first l.t l.words l.d l.invariant.1 c.loop-d-test.true _ _ c.visit.ensures.0 c.visit.ensures.1 c.rest-next.result c.rest-next.ensures.0 c.rest-next.ensures.1 _ _ c.in-Conflict.is _ c.restore.ensures.0 c.restore.ensures.1

pub returns : goal.returns
returns c =
    let l = c.loop-d in
    let a = c.args in
    pends_end a.store a.f.0 a.start a.words.now a.first l.t l.words l.d l.invariant.1 c.loop-d-test.false
