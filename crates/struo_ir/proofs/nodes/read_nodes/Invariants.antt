-- `struo_ir::nodes::read_nodes` meets its contract: the nodes that are left to read give the whole outcome. Assumes nothing.
use Rattle.struo_ir.specs.Nodes.{NodesSoFar}
use Rattle.struo_ir.proofs.nodes.read_nodes.Given as goal

abbrev pub invariant-loop-i : goal.invariant-loop-i
invariant-loop-i l = NodesSoFar l.bytes l.count l.at l.nodes l.inputs l.outputs l.next l.i
