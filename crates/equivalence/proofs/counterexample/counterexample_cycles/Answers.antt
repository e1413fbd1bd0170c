-- `equivalence::counterexample::counterexample_cycles` meets its contract. Assumes nothing.
use Rattle.std.proofs.Common.{◌≡◌, refl, suc, ◌+◌, ◌-◌, arith, rules}
use Rattle.equivalence.specs.Counterexample.{compared_none, one_compared, compared_left-more}
use Rattle.equivalence.proofs.counterexample.counterexample_cycles.Goals as goal

pub loop-i-init : goal.loop-i-init
loop-i-init c = let z : c.args.n - 0 ≡ c.args.n = omega arith in (refl, λ s b. rw z (compared_none _ _ _ _ _ _ _ _ s b))

pub counterexample_cycle-base-requires : goal.counterexample_cycle-base-requires
counterexample_cycle-base-requires c =
    let l = c.loop-i in
    let s = l.invariant.1 c.requires.0 c.requires.1 in
    let e : c.args.n - l.i ≡ suc (c.args.n - (l.i + 1)) = omega (arith, c.loop-i-test.true) in
    (one_compared _ _ _ _ _ _ _ (rw e at s.startable), s.mismatch, omega (arith, c.loop-i-test.true, c.requires.2))

pub loop-i-preserved : goal.loop-i-preserved
loop-i-preserved c =
    let l = c.loop-i in
    let e : c.args.n - l.i ≡ suc (c.args.n - (l.i + 1)) = omega (arith, c.loop-i-test.true) in (
      search rules,
      λ s b. compared_left-more _ _ _ _ _ _ _ _ _ _ _ _ _ _ _ _ _ _ _ _ s.paired (rw e at (l.invariant.1 s b)) c.counterexample_cycle-base.ensures,
    )

pub returns : goal.returns
returns c =
    let l = c.loop-i in
    let e : l.i ≡ c.args.n = omega (arith, l.auto.i-end, c.loop-i-test.false) in
    let z : c.args.n - l.i ≡ 0 = omega arith in
    rw (z, e) at (l.invariant.1 c.requires.0 c.requires.1)
