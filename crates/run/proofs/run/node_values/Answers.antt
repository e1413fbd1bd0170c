-- `node_values` evaluates the nodes in order: the values so far, the nodes left, and false past the values. Assumes nothing.
use Rattle.std.proofs.Common.{◌≡◌, refl, ap, ap₂, ◌∙◌, false, ℕ, ◌+◌, ◌-◌, ◌%◌, ◌<◌, arith, length, take, get_or, length-set}
use Rattle.model.specs.Replay.{claim_bit}
use Rattle.model.specs.Run.{node_values}
use Rattle.struo_ir.specs.Nodes.{no_node}
use Rattle.struo_ir.specs.Registers.{no_register}
use lib.ListN.{length-replicate}
use Rattle.run.specs.RunLaws.{rest_more, value-right, values-more, padded-row, values-done}
use Rattle.run.specs.RunTables.{row_inputs, node_by, shown_by}
use Rattle.run.proofs.run.node_values.Goals as goal

pub loop-i-init : goal.loop-i-init
unfolding node_values
loop-i-init c = (length-replicate 1024 false, refl, λ s ins r d. refl)

pub loop-i-preserved : goal.loop-i-preserved
loop-i-preserved c =
    let a = c.args in
    let t = c.loop-i in
    let n = a.netlist in
    let i = t.i in
    let x = c.node_value-value.result in
    let cell = get_or n.registers c.register_of.result no_register in
    let ln : length n.nodes ≡ 1024 = c.well_formed.0.1.1.1.1.0.1.0.1 in
    let lr : length n.registers ≡ 128 = c.well_formed.0.1.1.1.1.1.0.1.0.1 in
    let h : i < n.node_count = omega arith in
    let k : i < length t.values = omega arith in
    let q : cell ≡ get_or n.registers ((get_or a.drivers i 0 + 127) % 128) no_register = ap (λ (j : ℕ). get_or n.registers j no_register) c.register_of.ensures.1 in
    let e : x ≡ node_by t.values (get_or n.nodes i no_node) (claim_bit a.claim.now (a.at + get_or a.ranks i 0)) (shown_by t.values a.stored (get_or a.drivers i 0) cell) =
    c.node_value-value.ensures
    ∙ ap₂ (node_by t.values (get_or n.nodes i no_node)) c.input_bit-input.ensures (c.shown_by-shown.ensures ∙ ap (λ (j : ℕ). shown_by t.values a.stored j cell) c.from.ensures) in (
      length-set t.values i x ∙ t.invariant.0,
      rest_more t.values i 1024 x false k (omega arith) t.invariant.1,
      λ s ins r d. t.invariant.2 s ins r d
          ∙ values-more s n (row_inputs a.claim.now a.at ins) (take n.register_count a.stored) t.values i x h (omega arith) k
          (e ∙ value-right s ins n a.ranks a.drivers a.claim.now a.at a.stored t.values i (1024 - i) h (omega arith) r d t.invariant.1 cell q),
    )

pub returns : goal.returns
returns c =
    let a = c.args in
    let t = c.loop-i in
    let n = a.netlist in
    λ s ins r d. padded-row t.values _ t.i 1024 (omega arith) t.invariant.0 t.invariant.1
    (t.invariant.2 s ins r d ∙ values-done s n (row_inputs a.claim.now a.at ins) (take n.register_count a.stored) (take t.i t.values) t.i (omega arith))
