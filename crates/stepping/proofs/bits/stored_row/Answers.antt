-- `stored_row` reads the bits in order. Assumes nothing.
use Rattle.std.proofs.Common.{◌≡◌, refl, ◌∙◌, ◌+◌, ◌<◌, arith, length, length-set}
use Rattle.model.specs.Stepping.{stored_bits}
use Rattle.stepping.specs.LentBitsLaws.{stored_more}
use Rattle.stepping.proofs.bits.stored_row.Goals as goal

pub loop-k-init : goal.loop-k-init
unfolding stored_bits
loop-k-init c = (refl, refl)

pub loop-k-preserved : goal.loop-k-preserved
loop-k-preserved c =
    let a = c.args in
    let t = c.loop-k in
    let x = c.claim_bit-bit.result in
    let w : a.at + t.k < length a.bits.now = omega arith in (
      length-set t.row t.k x ∙ t.invariant.0,
      stored_more a.bits.now a.at t.k t.row x (omega arith) w c.claim_bit-bit.ensures t.invariant.1,
    )

pub returns : goal.returns
returns c =
    let a = c.args in
    let t = c.loop-k in
    let e : t.k ≡ a.count = omega arith in
    rw (← e) t.invariant.1
