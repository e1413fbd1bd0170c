-- `netlist_checks::nodes::nodes_fault` meets its contract: the nodes that are left to check give the whole outcome. Assumes nothing.
use Rattle.std.proofs.Common.{◌<◌, sym, ◌∙◌, arith}
use Rattle.calls.specs.Faults.{refusal}
use Rattle.calls.specs.Causes.{fault_of}
use Rattle.netlist_checks.specs.NodeCheckLaws.{nodes_unchecked, node_undefined, node_repeated, node-checked, nodes-all-checked}
use Rattle.netlist_checks.proofs.nodes.nodes_fault.Goals as goal
use Rattle.netlist_checks.proofs.nodes.nodes_fault.Goals.{In-loop-i}

-- the node's number, and that of ports, is below 1,024
small : (c : In-loop-i) → c.loop-i.i < 1024
small c = omega (arith, c.requires.nodes_padded.fits)

few : (c : In-loop-i) → c.loop-i.found < 1024
few c = omega (arith, c.loop-i.invariant.few, small c)

pub loop-i-init : goal.loop-i-init
loop-i-init c = nodes_unchecked _ _

pub returns-then-port_repeats : goal.returns-then-port_repeats
unfolding fault_of refusal
returns-then-port_repeats c =
    rw c.at.ensures
    (node_repeated c.args.bytes.now _ _ _ _ c.loop-i.invariant c.requires (omega arith) (sym c.if-inputs_below.true ∙ c.inputs_below.ensures) (sym c.if-port_repeats.true ∙ c.port_repeats.ensures))

pub returns-else-inputs_below : goal.returns-else-inputs_below
unfolding fault_of refusal
returns-else-inputs_below c =
    rw c.at-else-inputs_below.ensures
    (node_undefined c.args.bytes.now _ _ _ _ c.loop-i.invariant c.requires (omega arith) (sym c.if-inputs_below.false ∙ c.inputs_below.ensures))

pub loop-i-preserved : goal.loop-i-preserved
loop-i-preserved c =
    rw c.ports_after-found.ensures
    (node-checked c.args.bytes.now _ _ _ _ c.loop-i.invariant c.requires (omega arith) (sym c.if-inputs_below.true ∙ c.inputs_below.ensures) (sym c.if-port_repeats.false ∙ c.port_repeats.ensures))

pub returns : goal.returns
unfolding fault_of refusal
returns c = nodes-all-checked c.args.bytes.now _ _ _ _ c.loop-i.invariant c.requires (omega arith)

pub port_repeats-requires : goal.port_repeats-requires
port_repeats-requires c = omega (arith, few (goal.at.port_repeats-requires c).In-loop-i)

pub ports_after-found-requires : goal.ports_after-found-requires
ports_after-found-requires c = omega (arith, few (goal.at.ports_after-found-requires c).In-loop-i)
