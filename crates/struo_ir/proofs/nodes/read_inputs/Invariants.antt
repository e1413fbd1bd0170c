-- `struo_ir::nodes::read_inputs` meets its contract: the numbers that are left to read give them all. Assumes nothing.
use Rattle.struo_ir.specs.Nodes.{NumbersSoFar}
use Rattle.struo_ir.proofs.nodes.read_inputs.Given as goal

abbrev pub invariant-loop-i : goal.invariant-loop-i
invariant-loop-i l = NumbersSoFar l.bytes l.left l.at l.numbers l.next l.i
