-- `equivalence::counterexample::keep_row` meets its contract. Assumes nothing.
use Rattle.std.proofs.Common.{◌≡◌, ◌<◌, refl, arith, rules, take, length}
use Rattle.std.proofs.lemmas.List.{get_or-take, length-take-le}
use Rattle.equivalence.specs.Rows.{kept-none, kept_more}
use Rattle.equivalence.proofs.counterexample.keep_row.Goals as goal

pub loop-i-init : goal.loop-i-init
loop-i-init c = (refl, kept-none c.args.place _ _ c.requires.0)

pub loop-i-preserved : goal.loop-i-preserved
loop-i-preserved c =
    let l = c.loop-i in
    let a = c.args in
    let n : length (take a.n a.literals.now) ≡ a.n = length-take-le a.n a.literals.now (omega (arith, c.requires.1, c.told-literals)) in
    let h : l.i < a.n = omega (arith, n, c.loop-i-test.true) in
    (search rules, rw c.stash.ensures.0 (kept_more a.place l.i _ _ _ _ (omega (arith, c.requires.2, h)) (get_or-take a.n a.literals.now l.i 0 h) l.invariant.1))

pub returns : goal.returns
returns c =
    let l = c.loop-i in
    let a = c.args in
    let n : length (take a.n a.literals.now) ≡ a.n = length-take-le a.n a.literals.now (omega (arith, c.requires.1, c.told-literals)) in
    let e : l.i ≡ a.n = omega (arith, n, l.auto.i-end, c.loop-i-test.false) in
    rw e at l.invariant.1
