-- `initialize_units` meets its contract. The invariant: the clauses that are left decide. Assumes nothing.
use Rattle.std.proofs.lemmas.Result.{err_from_is_err_and}
use Rattle.std.proofs.Common.{rules}
use Rattle.watches.specs.UnitLaws.{units-done, units-next, units_failed}
use Rattle.watches.proofs.units.initialize_units.Goals as goal

pub returns-in_err-t : goal.returns-in_err-t
returns-in_err-t c =
    let l = c.loop-id in
    let a = c.args in
    let p = err_from_is_err_and c.from_residual.result c.from_residual.ensures.1 in
    rw (p.1, p.2) (units_failed a.store a.start a.words.now l.t l.words l.id l.invariant.1 c.loop-id-test.true _ _ c.in_err-t.ensures.0 c.in_err-t.ensures.1)

pub loop-id-preserved : goal.loop-id-preserved
loop-id-preserved c =
    let l = c.loop-id in
    let a = c.args in
    (search rules, units-next a.store a.start a.words.now l.t l.words l.id l.invariant.1 c.loop-id-test.true _ _ c.in_ok-t.ensures.0 c.in_ok-t.ensures.1)

pub returns : goal.returns
returns c =
    let l = c.loop-id in
    let a = c.args in
    units-done a.store a.start a.words.now l.t l.words l.id l.invariant.1 c.loop-id-test.false
