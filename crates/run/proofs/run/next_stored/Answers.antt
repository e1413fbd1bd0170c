-- `next_stored` writes the next bits in order: those written, then those of the registers left. The rest of the new row stays. Assumes nothing.
use Rattle.std.proofs.Common.{◌≡◌, refl, sym, ap, ◌∙◌, ℕ, ◌<◌, arith, length, take, length-set}
use Rattle.model.specs.Run.{next_stored}
use Rattle.run.specs.RowLaws.{kept_more, next_more, next-done}
use Rattle.run.proofs.run.next_stored.Goals as goal

pub loop-k-init : goal.loop-k-init
unfolding next_stored
loop-k-init c =
    let l : length c.args.rows.new ≡ 128 = c.well_formed.1.1.0.1.1.1.0.1.0.1 in
    (l, refl, λ s. refl)

pub loop-k-preserved : goal.loop-k-preserved
loop-k-preserved c =
    let a = c.args in
    let t = c.loop-k in
    let x = c.next_bit-bit.result in
    let lr : length a.netlist.registers ≡ 128 = c.well_formed.0.1.1.1.1.1.0.1.0.1 in
    let w : t.k < length t.new = omega arith in (
      length-set t.new t.k x ∙ t.invariant.0,
      kept_more t.new a.rows.new t.k x t.invariant.1,
      λ s. t.invariant.2 s ∙ next_more s a.netlist a.values.now a.rows.old t.new t.k x (omega arith) (omega arith) w c.next_bit-bit.ensures,
    )

pub returns : goal.returns
returns c =
    let a = c.args in
    let t = c.loop-k in
    let e : t.k ≡ a.netlist.register_count = omega arith in
    (refl, rw e at t.invariant.1, λ s. ap (λ (j : ℕ). take j t.new) (sym e) ∙ sym (t.invariant.2 s ∙ next-done s a.netlist a.values.now _ t.new t.k (omega arith)))
