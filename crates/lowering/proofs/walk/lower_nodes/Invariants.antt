-- `lower_nodes` takes node after node, each with its entry in the table of drivers. Assumes nothing.
use Rattle.lowering.specs.Nodes.{Walking}
use Rattle.lowering.proofs.walk.lower_nodes.Given as goal

-- the first i nodes are lowered
abbrev pub invariant-loop-i : goal.invariant-loop-i
invariant-loop-i l = Walking l.fn.netlist l.initial.aig.count l.initial.words l.i l.aig.count l.words
