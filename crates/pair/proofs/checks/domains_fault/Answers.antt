-- `domains_fault` goes by the three tests in turn. Assumes nothing.
use Rattle.std.proofs.Common.{sym, ◌∙◌, true, false}
use Rattle.calls.specs.Faults.{refusal}
use Rattle.calls.specs.Causes.{fault_of}
use Rattle.model.specs.Validate.{refuse_if}
use Rattle.struo_ir.specs.Decoded.{decoded}
use Rattle.pair.specs.PairCheckLaws.{many_gold, many_gate, domains-end}
use Rattle.pair.proofs.checks.domains_fault.Goals as goal

pub returns-then-many_domains : goal.returns-then-many_domains
unfolding fault_of refusal
returns-then-many_domains c =
    let a = c.args in
    rw c.many_of.ensures
    (many_gold (decoded a.gold.now a.gold_netlist.now) (decoded a.gate.now a.gate_netlist.now) (sym c.many_domains.ensures ∙ c.if-many_domains.true))

pub returns-then-many_domains-2 : goal.returns-then-many_domains-2
unfolding fault_of refusal
returns-then-many_domains-2 c =
    let a = c.args in
    rw c.many_of-then-many_domains-2.ensures
    (many_gate (decoded a.gold.now a.gold_netlist.now) (decoded a.gate.now a.gate_netlist.now)
    (sym c.many_domains.ensures ∙ c.if-many_domains.false) (sym c.many_domains-2.ensures ∙ c.if-many_domains-2.true))

pub returns-then-domains_differ : goal.returns-then-domains_differ
unfolding fault_of refusal refuse_if
returns-then-domains_differ c =
    let a = c.args in
    rw c.of_pair.ensures
    (domains-end (decoded a.gold.now a.gold_netlist.now) (decoded a.gate.now a.gate_netlist.now) true
    (sym c.many_domains.ensures ∙ c.if-many_domains.false) (sym c.many_domains-2.ensures ∙ c.if-many_domains-2.false) (sym c.domains_differ.ensures ∙ c.if-domains_differ.true))

pub returns : goal.returns
unfolding fault_of refuse_if
returns c =
    let a = c.args in
    domains-end (decoded a.gold.now a.gold_netlist.now) (decoded a.gate.now a.gate_netlist.now) false
    (sym c.many_domains.ensures ∙ c.if-many_domains.false) (sym c.many_domains-2.ensures ∙ c.if-many_domains-2.false) (sym c.domains_differ.ensures ∙ c.if-domains_differ.false)
