-- `unrolling::variables::literals_by` meets its contract. Assumes nothing.
use Rattle.std.proofs.Common.{◌≡◌, refl, arith, length-set, rules}
use Rattle.unrolling.specs.Matched.{some-under, gate_of, listed_by, listed-suc}
use Rattle.unrolling.specs.Variables.{listed-none, listed_more}
use Rattle.unrolling.proofs.variables.literals_by.Goals as goal

pub loop-i-init : goal.loop-i-init
unfolding listed_by
loop-i-init g c = (refl, refl, λ f h r. listed-none _ _ _ r)

pub gate_variable-made-requires : goal.gate_variable-made-requires
gate_variable-made-requires g c =
    let l = c.loop-i in
    let t = c.loop-i-test.true in
    let told = c.requires.told.1 in
    let s = l.invariant.2 c.requires.told.0 told c.requires.room.0 in (
      s.ready,
      omega (arith, s.within, t, c.requires.room.2),
      some-under _ _ _ _ (omega (arith, s.grows)) (told.is l.i _ t c.known.ensures) (told.below l.i t),
    )

pub loop-i-preserved : goal.loop-i-preserved
loop-i-preserved g c =
    let l = c.loop-i in
    let t = c.loop-i-test.true in (
      search rules,
      simp length-set l.invariant.1,
      λ f h r. rw (listed-suc l.i f)
          (listed_more _ _ _ _ _ _ _ _ _ _ (gate_of (f l.i)) (omega (arith, t, l.invariant.1)) (l.invariant.2 f h r)
          (rw (h.is l.i _ t c.known.ensures) at c.gate_variable-made.ensures)),
    )

pub returns : goal.returns
returns g c =
    let l = c.loop-i in
    let e : l.i ≡ c.args.n = omega (arith, l.auto.i-end, c.loop-i-test.false) in
    λ f h. rw e at (l.invariant.2 f h c.requires.room.0)
