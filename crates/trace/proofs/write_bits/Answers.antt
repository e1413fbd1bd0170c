-- `trace::write_bits` meets its contract. Assumes nothing.
use Rattle.std.proofs.Common.{◌≡◌, refl, ap, sym, ◌∙◌, ℕ, ◌+◌, arith, rules}
use Rattle.model.specs.Equivalence.{byte}
use Rattle.trace.specs.Values.{byte_is}
use Rattle.trace.specs.Writing.{wrote_none, wrote_more, bytes, bytes-suc, length-bytes}
use Rattle.trace.proofs.write_bits.Goals as goal

pub loop-i-init : goal.loop-i-init
unfolding bytes
loop-i-init g c = (refl, λ f h. wrote_none _ _)

pub loop-i-preserved : goal.loop-i-preserved
loop-i-preserved g c =
    let l = c.loop-i in (
      search rules,
      λ f h.
          let e : c.from.result ≡ byte (f l.i) = c.from.ensures ∙ byte_is _ ∙ ap byte (h l.i c.bit.result c.loop-i-test.true c.bit.ensures) in
          rw (bytes-suc, ← e)
          (wrote_more _ _ _ _ _ _ (ap (λ (k : ℕ). c.args.place + k) (sym (length-bytes f l.i))) (omega (arith, l.invariant.0, c.requires.room, c.loop-i-test.true)) (l.invariant.1 f h)),
    )

pub returns : goal.returns
returns g c =
    let l = c.loop-i in
    let e : l.i ≡ c.args.n = omega (arith, l.auto.i-end, c.loop-i-test.false) in
    λ f h. rw e at (l.invariant.1 f h)
