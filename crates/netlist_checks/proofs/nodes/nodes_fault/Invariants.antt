-- `netlist_checks::nodes::nodes_fault` meets its contract: the nodes that are left to check give the whole outcome. Assumes nothing.
use Rattle.netlist_checks.specs.NodeChecks.{NodesChecked}
use Rattle.netlist_checks.proofs.nodes.nodes_fault.Given as goal

abbrev pub invariant-loop-i : goal.invariant-loop-i
invariant-loop-i l = NodesChecked l.bytes l.netlist l.ports l.found l.i
