-- `unrolling::compare::compare` meets its contract. Assumes nothing.
use Rattle.std.proofs.Common.{◌≡◌, refl, arith, rules}
use Rattle.unrolling.specs.Comparing.{compare-none}
use Rattle.unrolling.specs.Matched.{some-under}
use Rattle.unrolling.specs.Naming.{paired_by, paired_more}
use Rattle.unrolling.proofs.compare.compare.Goals as goal

pub loop-i-init : goal.loop-i-init
unfolding paired_by
loop-i-init g c = (refl, λ f h r. compare-none _ _ r)

pub or_named-made-requires : goal.or_named-made-requires
or_named-made-requires g c =
    let l = c.loop-i in
    let t = c.loop-i-test.true in
    let told = c.requires.told.1 in
    let s = l.invariant.1 c.requires.told.0 told c.requires.room.0 in (
      s.ready,
      omega (arith, s.within, t, c.requires.room.2),
      s.below,
      omega (arith, s.grows, c.requires.room.3.at l.i t),
      some-under _ _ _ _ (omega (arith, s.grows)) (told.is l.i _ t c.other.ensures) (told.below l.i t),
    )

pub loop-i-preserved : goal.loop-i-preserved
loop-i-preserved g c =
    let l = c.loop-i in
    (search rules, λ f h r. paired_more _ _ _ _ _ _ _ _ _ f _ (l.invariant.1 f h r) (rw (h.is l.i _ c.loop-i-test.true c.other.ensures) at c.or_named-made.ensures))

pub returns : goal.returns
returns g c =
    let l = c.loop-i in
    let e : l.i ≡ c.args.n = omega (arith, l.auto.i-end, c.loop-i-test.false) in
    λ f h. rw e at (l.invariant.1 f h c.requires.room.0)
