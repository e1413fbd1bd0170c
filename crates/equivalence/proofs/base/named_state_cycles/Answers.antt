-- `equivalence::base::named_state_cycles` meets its contract. Assumes nothing.
use Rattle.std.proofs.Common.{◌≡◌, refl, suc, ◌+◌, ◌-◌, arith, rules}
use Rattle.equivalence.specs.NamedState.{named_none, one-named, named-left-more}
use Rattle.equivalence.proofs.base.named_state_cycles.Goals as goal

pub loop-init : goal.loop-init
loop-init c = let z : c.args.n - 0 ≡ c.args.n = omega arith in (refl, λ s b. rw z (named_none _ _ _ _ _ _ _ _ _ s b))

pub named_state_cycle-base-requires : goal.named_state_cycle-base-requires
named_state_cycle-base-requires c =
    let l = c.loop in
    let s = l.invariant.1 c.requires.0 c.requires.2 in
    let e : c.args.n - l.counter ≡ suc (c.args.n - (l.counter + 1)) = omega (arith, c.loop-test.true) in
    (one-named _ _ _ _ _ _ _ (rw e at s.startable), c.requires.1, s.mismatch)

pub loop-preserved : goal.loop-preserved
loop-preserved c =
    let l = c.loop in
    let e : c.args.n - l.counter ≡ suc (c.args.n - (l.counter + 1)) = omega (arith, c.loop-test.true) in (
      search rules,
      λ s b. named-left-more _ _ _ _ _ _ _ _ _ _ _ _ _ _ _ _ _ _ _ _ s.paired (rw e at (l.invariant.1 s b)) c.named_state_cycle-base.ensures,
    )

pub returns : goal.returns
returns c =
    let l = c.loop in
    let z : c.args.n - l.counter ≡ 0 = omega (arith, l.auto.counter-end, c.loop-test.false) in
    rw z at (l.invariant.1 c.requires.0 c.requires.2)
