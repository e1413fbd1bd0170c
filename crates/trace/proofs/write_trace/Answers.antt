-- `trace::write_trace` meets its contract. Assumes nothing.
use Rattle.std.proofs.Common.{◌+◌, ◌*◌, arith, get_or, rules}
use Rattle.std.specs.Prelude.{not}
use mathlib.Core.Bool.{beq}
use Rattle.assignment.specs.State.{model_of}
use Rattle.words.specs.Layout.{FRAMES, ROW, GOLD-OUTPUTS, GATE-OUTPUTS}
use Rattle.model.specs.Aig.{evaluate}
use Rattle.words.specs.Region.{region}
use Rattle.trace.specs.Cycles.{marks-bytes, length-inputs}
use Rattle.trace.specs.Writing.{wrote_append}
use Rattle.trace.proofs.write_trace.Goals as goal

pub returns : goal.returns
returns c =
    let a = c.args in
    let values = model_of a.nodes a.words.now in
    let fs = region FRAMES a.words.now in
    let row = ROW * a.mismatch in
    let marks = c.write_bits.ensures (λ i. not (beq (evaluate values (get_or fs (row + GOLD-OUTPUTS + i) 0)) (evaluate values (get_or fs (row + GATE-OUTPUTS + i) 0)))) (λ i b h p. search rules) in
    wrote_append _ _ _ _ _ _ _ (omega (arith, length-inputs values fs a.input_count (a.mismatch + 1))) c.write_inputs.ensures (rw (marks-bytes values fs a.output_count (row + GOLD-OUTPUTS) (row + GATE-OUTPUTS)) at marks)
