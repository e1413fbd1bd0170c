-- `store_row` writes the bits in order: those written so far, every other byte as it was. Assumes nothing.
use Rattle.std.proofs.Common.{◌≡◌, refl, ◌∙◌, ◌+◌, ◌<◌, Bool, true, false, arith, length, length-set, get_or}
use Rattle.std.specs.Int.{from_bool}
use Rattle.model.specs.Encode.{bit_byte}
use Rattle.stepping.specs.LentBitsLaws.{written_none, written-more}
use Rattle.stepping.proofs.bits.store_row.Goals as goal

-- a bit as a byte, in the library's words and the definition's
told : (b : Bool) → from_bool b ≡ bit_byte b
unfolding bit_byte
told true = refl
told false = refl

pub loop-k-init : goal.loop-k-init
loop-k-init c =
    let a = c.args in
    (refl, c.well_formed.1.1.1.0.1.0.1, written_none a.row a.at a.bits.now)

pub loop-k-preserved : goal.loop-k-preserved
loop-k-preserved c =
    let a = c.args in
    let t = c.loop-k in
    let x = c.from.result in
    let w : a.at + t.k < length a.bits.now = omega arith in (
      length-set t.bits (a.at + t.k) x ∙ t.invariant.0,
      t.invariant.1,
      written-more a.row a.at a.bits.now t.bits t.k x (omega arith) w (c.from.ensures ∙ told (get_or a.row t.k false)) t.invariant.2,
    )

pub returns : goal.returns
returns c =
    let a = c.args in
    let t = c.loop-k in
    let e : t.k ≡ a.count = omega arith in
    rw (← e) t.invariant.2
