-- `unrolling::frame::remap_literals` meets its contract. Assumes nothing.
use Rattle.std.proofs.Common.{◌≡◌, ◌<◌, refl, ap, ◌∙◌, ℕ, arith, length, length-set, take, get_or}
use Rattle.std.proofs.lemmas.List.{get_or-take, length-take-le}
use Rattle.model.specs.Equivalence.{remap_literal}
use Rattle.words.specs.Layout.{IMPORTED}
use Rattle.words.specs.Region.{region}
use Rattle.lowering.specs.Firsts.{mapped_none, mapped_more}
use Rattle.unrolling.proofs.frame.remap_literals.Goals as goal

pub loop-i-init : goal.loop-i-init
loop-i-init c = (refl, mapped_none _ _ _)

pub loop-i-preserved : goal.loop-i-preserved
loop-i-preserved c =
    let l = c.loop-i in
    let a = c.args in
    let n : length (take a.n a.literals.now) ≡ a.n = length-take-le a.n a.literals.now (omega (arith, c.requires.1, c.told-literals)) in
    let h : l.i < a.n = omega (arith, n, c.loop-i-test.true) in
    let e : c.remap_literal-target.result.0 ≡ remap_literal (region IMPORTED a.words.now) (get_or a.literals.now l.i 0) =
    c.remap_literal-target.ensures ∙ ap (λ (x : ℕ). remap_literal (region IMPORTED a.words.now) x) (get_or-take a.n a.literals.now l.i 0 h) in
    (simp length-set l.invariant.0, mapped_more _ _ _ _ _ (omega (arith, l.invariant.0, h, c.requires.1)) e l.invariant.1)

pub returns : goal.returns
returns c =
    let l = c.loop-i in
    let a = c.args in
    let n : length (take a.n a.literals.now) ≡ a.n = length-take-le a.n a.literals.now (omega (arith, c.requires.1, c.told-literals)) in
    let e : l.i ≡ a.n = omega (arith, n, l.auto.i-end, c.loop-i-test.false) in
    rw e at l.invariant.1
