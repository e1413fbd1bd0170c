-- `interface_fault` compares input names, then output names, then clock domains. Assumes nothing.
use Rattle.std.proofs.Common.{◌∙◌, ap, not}
use Rattle.calls.specs.Faults.{refusal}
use Rattle.calls.specs.Causes.{fault_of}
use Rattle.pair.specs.PairCheckLaws.{inputs_by, outputs_by, inputs_fault, outputs_fault, interface_end}
use Rattle.pair.specs.PairReading.{said}
use Rattle.pair.proofs.checks.interface_fault.Goals as goal

pub returns-then-not-same_names : goal.returns-then-not-same_names
unfolding fault_of refusal
returns-then-not-same_names c =
    let gold = said c.args.pair.now.gold in
    let gate = said c.args.pair.now.gate in
    let p = c.args.pair.now in
    rw c.of_pair.ensures (inputs_fault gold gate (inputs_by gold gate _ _ c.same_names.result p.gold.sided.ordered.inputs_are p.gate.sided.ordered.inputs_are c.same_names.ensures ∙ ap not c.if-not-same_names.true))

pub returns-then-not-same_names-2 : goal.returns-then-not-same_names-2
unfolding fault_of refusal
returns-then-not-same_names-2 c =
    let gold = said c.args.pair.now.gold in
    let gate = said c.args.pair.now.gate in
    let p = c.args.pair.now in
    rw c.of_pair-then-not-same_names-2.ensures
    (outputs_fault gold gate
    (inputs_by gold gate _ _ c.same_names.result p.gold.sided.ordered.inputs_are p.gate.sided.ordered.inputs_are c.same_names.ensures ∙ ap not c.if-not-same_names.false)
    (outputs_by gold gate _ _ c.same_names-2.result p.gold.sided.ordered.outputs_are p.gate.sided.ordered.outputs_are c.same_names-2.ensures ∙ ap not c.if-not-same_names-2.true))

pub domains_fault-requires : goal.domains_fault-requires
domains_fault-requires c =
    let p = c.args.pair.now in
    (p.gold.sided.valid.within.sized, p.gate.sided.valid.within.sized)

pub returns : goal.returns
returns c =
    let gold = said c.args.pair.now.gold in
    let gate = said c.args.pair.now.gate in
    let p = c.args.pair.now in
    c.domains_fault.ensures
    ∙ interface_end gold gate
    (inputs_by gold gate _ _ c.same_names.result p.gold.sided.ordered.inputs_are p.gate.sided.ordered.inputs_are c.same_names.ensures ∙ ap not c.if-not-same_names.false)
    (outputs_by gold gate _ _ c.same_names-2.result p.gold.sided.ordered.outputs_are p.gate.sided.ordered.outputs_are c.same_names-2.ensures ∙ ap not c.if-not-same_names-2.false)
