-- `row_of` writes the bits in order: those of the elements so far, and false past them. Assumes nothing.
use Rattle.std.proofs.Common.{◌≡◌, sym, ap, ◌∙◌, false, ◌<◌, arith, length, take, map, length-set, take_all, rules}
use Rattle.run.specs.RunLaws.{rest_more, padded-row}
use Rattle.run.specs.RowLaws.{mapped_next}
use Rattle.run.proofs.run.row_of.Goals as goal

pub loop-k-preserved : goal.loop-k-preserved
loop-k-preserved g c =
    let t = c.loop-k in
    let x = c.index-items-k.result in
    let b = c.bit.result in
    let w : t.k < length t.row = omega (arith, c.requires.room) in (
      length-set t.row t.k b ∙ t.invariant.0,
      rest_more t.row t.k 128 b false w (omega (arith, c.requires.room)) t.invariant.1,
      λ f h. mapped_next f c.args.items.now t.row t.k x b c.loop-k-test.true w c.index-items-k.is (h x b (record { shown = _; shows = search rules; says = record { met = c.bit.ensures } })) (t.invariant.2 f h),
    )

pub returns : goal.returns
returns g c =
    let t = c.loop-k in
    let xs = c.args.items.now in
    let e : take t.k xs ≡ xs = take_all t.k xs c.loop-k-test.false in
    λ f h. padded-row t.row (map f xs) t.k 128 (omega (arith, c.requires.room, c.loop-k.auto.k-end)) t.invariant.0 t.invariant.1 (sym (t.invariant.2 f h ∙ ap (map f) e))
