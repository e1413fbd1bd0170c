-- `trace::write_inputs` meets its contract. Assumes nothing.
use Rattle.std.proofs.Common.{◌≡◌, ◌+◌, ◌*◌, refl, arith, rules, get_or}
use Rattle.assignment.specs.State.{model_of}
use Rattle.words.specs.Layout.{FRAMES, ROW}
use Rattle.model.specs.Aig.{evaluate}
use Rattle.words.specs.Region.{region}
use Rattle.trace.specs.Cycles.{bytes_are, inputs-none, inputs-more, length-inputs, row_room}
use Rattle.trace.specs.Writing.{wrote_none, wrote_append}
use Rattle.trace.proofs.write_inputs.Goals as goal

pub loop-cycle-init : goal.loop-cycle-init
loop-cycle-init c = (refl, rw inputs-none (wrote_none _ _))

pub overflow_mul-cycle : goal.overflow_mul-cycle
overflow_mul-cycle c =
    let l = c.loop-cycle in
    omega (arith, row_room l.cycle c.args.n c.args.input_count c.loop-cycle-test.true, c.requires.3)

pub loop-cycle-preserved : goal.loop-cycle-preserved
loop-cycle-preserved c =
    let l = c.loop-cycle in
    let values = model_of c.args.nodes c.args.words.now in
    let fs = region FRAMES c.args.words.now in
    let row = c.write_bits.ensures (λ i. evaluate values (get_or fs (ROW * l.cycle + i) 0)) (λ i b h p. search rules) in
    (search rules, rw inputs-more (wrote_append _ _ _ _ _ _ _ (omega (arith, length-inputs values fs c.args.input_count l.cycle)) l.invariant.1 (rw (bytes_are values fs c.args.input_count (ROW * l.cycle)) at row)))

pub returns : goal.returns
returns c =
    let l = c.loop-cycle in
    let e : l.cycle ≡ c.args.n = omega (arith, l.auto.cycle-end, c.loop-cycle-test.false) in
    rw e at l.invariant.1
