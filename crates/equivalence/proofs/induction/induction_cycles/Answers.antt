-- `equivalence::induction::induction_cycles` meets its contract. Assumes nothing.
use Rattle.std.proofs.Common.{◌≡◌, refl, suc, ◌+◌, ◌-◌, arith, rules}
use Rattle.equivalence.specs.Inducing.{induced_none, induced_more, one-cycle, closed}
use Rattle.equivalence.proofs.induction.induction_cycles.Goals as goal

pub loop-i-init : goal.loop-i-init
loop-i-init c = let z : c.args.depth - 0 ≡ c.args.depth = omega arith in (refl, c.requires.3, λ s. rw z (induced_none _ _ _ _ _ _ _ _ _ _ s))

pub induction_cycle-state-requires : goal.induction_cycle-state-requires
induction_cycle-state-requires c =
    let l = c.loop-i in
    let s = l.invariant.2 c.requires.0 in
    (one-cycle _ _ _ _ _ _ _ s.startable, c.requires.1, omega (arith, c.loop-i-test.true, c.requires.2), l.invariant.1)

pub loop-i-preserved : goal.loop-i-preserved
loop-i-preserved c =
    let l = c.loop-i in
    let e : c.args.depth - l.i ≡ suc (c.args.depth - (l.i + 1)) = omega (arith, c.loop-i-test.true) in (
      search rules,
      c.induction_cycle-state.ensures.1,
      λ s. induced_more _ _ _ _ _ _ _ _ _ _ _ _ _ _ _ _ _ _ _ _ _ _ s.paired (rw e at (l.invariant.2 s)) c.induction_cycle-state.ensures.0,
    )

pub induction_cycle-requires : goal.induction_cycle-requires
induction_cycle-requires c =
    let l = c.loop-i in
    let s = l.invariant.2 c.requires.0 in
    (one-cycle _ _ _ _ _ _ _ s.startable, c.requires.1, c.requires.2, l.invariant.1)

pub returns : goal.returns
returns c =
    let l = c.loop-i in
    let e : l.i ≡ c.args.depth = omega (arith, l.auto.i-end, c.loop-i-test.false) in
    let z : c.args.depth - l.i ≡ 0 = omega arith in
    closed _ _ _ _ _ _ _ _ _ _ _ _ _ _ _ _ _ _ _ _ c.requires.0.paired (rw (z, e) at (l.invariant.2 c.requires.0)) c.induction_cycle.ensures.0
