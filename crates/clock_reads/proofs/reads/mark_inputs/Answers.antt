-- `mark_inputs` marks as many of the three numbers as the node's kind has inputs: the table with those that are left marked is the whole answer. Assumes nothing.
use Rattle.std.proofs.Common.{◌≡◌, refl, ap, ◌∙◌, arith, ℕ, List, [], ◌∷◌, take, min}
use Rattle.std.proofs.lemmas.List.{take_min}
use Rattle.model.specs.Record.{inputs_per_kind}
use Rattle.clock_reads.specs.Marks.{with_marks}
use Rattle.clock_reads.specs.ReadLaws.{inputs-next, inputs-marked}
use Rattle.clock_reads.proofs.reads.mark_inputs.Goals as goal

pub loop-number-init : goal.loop-number-init
loop-number-init c = refl

pub loop-number-preserved : goal.loop-number-preserved
loop-number-preserved c = rw c.mark.ensures (inputs-next _ _ _ c.loop-number-test.true ∙ c.loop-number.invariant)

pub returns : goal.returns
returns c =
    let a = c.args in
    let ns = a.node.first ∷ a.node.second ∷ a.node.third ∷ [] in
    let n : c.min-count.result ≡ min (inputs_per_kind a.node.kind) 3 = c.min-count.ensures ∙ ap (λ (k : ℕ). min k 3) (c.from.ensures ∙ c.inputs_per_kind.ensures) in
    let e : take c.min-count.result ns ≡ take (inputs_per_kind a.node.kind) ns = ap (λ (k : ℕ). take k ns) n ∙ take_min (inputs_per_kind a.node.kind) ns in
    inputs-marked (take c.min-count.result ns) _ _ (omega (arith, c.loop-number.auto.number-index-end, c.loop-number-test.false)) ∙ c.loop-number.invariant ∙ ap (λ (ms : List ℕ). with_marks ms a.table.now) e
