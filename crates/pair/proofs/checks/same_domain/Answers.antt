-- `same_domain` compares clock names, then edges. Assumes nothing.
use Rattle.std.proofs.Common.{◌≡◌, sym, ap₂, ◌∙◌, true, false}
use Rattle.model.specs.Names.{same_name}
use Rattle.model.specs.Netlist.{input_name}
use Rattle.model.specs.Pair.{name_or, same_domain}
use Rattle.struo_ir.specs.Decoded.{decoded_node}
use Rattle.pair.specs.PairChecks.{domain_by}
use Rattle.pair.proofs.checks.same_domain.Goals as goal

pub returns-then-same : goal.returns-then-same
unfolding same_domain domain_by
returns-then-same c =
    let a = c.args in
    let e : same_name (name_or (input_name (decoded_node a.gold.now a.gold_clock))) (name_or (input_name (decoded_node a.gate.now a.gate_clock))) ≡ true =
    ap₂ same_name (sym c.input_name.ensures) (sym c.input_name-2.ensures) ∙ sym c.same.ensures ∙ c.if-same.true in
    rw e c.same_edge.ensures

pub returns-else-same : goal.returns-else-same
unfolding same_domain domain_by
returns-else-same c =
    let a = c.args in
    let e : same_name (name_or (input_name (decoded_node a.gold.now a.gold_clock))) (name_or (input_name (decoded_node a.gate.now a.gate_clock))) ≡ false =
    ap₂ same_name (sym c.input_name.ensures) (sym c.input_name-2.ensures) ∙ sym c.same.ensures ∙ c.if-same.false in
    rw e
