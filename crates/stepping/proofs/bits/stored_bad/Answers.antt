-- `stored_bad` tests the bytes of the stored bits. Assumes nothing.
use Rattle.std.proofs.Common.{◌≡◌, ap, ◌∙◌, ℕ, ◌+◌, ◌-◌, arith, take, drop, not}
use Rattle.model.specs.Pair.{all_bits}
use Rattle.stepping.specs.LentBits.{stored_bad}
use Rattle.stepping.proofs.bits.stored_bad.Goals as goal

pub returns : goal.returns
unfolding stored_bad
returns c =
    let a = c.args in
    let e : a.at + a.count - a.at ≡ a.count = omega arith in
    ap not (c.all_bits.ensures ∙ ap (λ (n : ℕ). all_bits (take n (drop a.at a.bits.now))) e)
