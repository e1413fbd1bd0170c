-- `cycle_of` evaluates the nodes, reads outputs and next stored bits off their values, and exchanges the rows. Assumes nothing.
use Rattle.std.proofs.Common.{◌≡◌, ap, ◌∙◌, Bool, List, take, drop}
use Rattle.model.specs.Run.{bit_at, node_values}
use Rattle.run.specs.RunLaws.{Alike}
use Rattle.run.specs.RunTables.{row_inputs, padded}
use Rattle.struo_ir.specs.Decoded.{decoded}
use Rattle.struo_ir.specs.Orders.{places}
use Rattle.steps.specs.StepLaws.{alike-padded, next_stored-alike, output_bits-alike}
use Rattle.steps.proofs.step.cycle_of.Goals as goal

pub returns : goal.returns
returns c =
    let a = c.args in
    let d = a.side.now in
    let w = c.next_stored-written.ensures in
    λ s ins r.
    let dn = decoded s d.netlist in
    let st = take d.netlist.register_count a.rows.old in
    let v = node_values dn (row_inputs a.claim.now a.at ins) st in
    let e : c.node_values-values.result ≡ padded 1024 v = c.node_values-values.ensures s ins r.ranked r.driven in
    let h : Alike c.node_values-values.result v = λ k. ap (λ (l : List Bool). bit_at l k) e ∙ alike-padded 1024 v k in
    record {
      shown = λ o. c.output_row-outputs.ensures s ∙ ap (padded 128) (output_bits-alike dn _ v (places s d.outputs) h o);
      stored = ap (take d.netlist.register_count) c.exchange-rows.ensures.0 ∙ w.2 s ∙ next_stored-alike dn _ v st h;
      kept = ap (drop d.netlist.register_count) c.exchange-rows.ensures.0 ∙ w.1;
      exchanged = c.exchange-rows.ensures.1 ∙ w.0;
    }
