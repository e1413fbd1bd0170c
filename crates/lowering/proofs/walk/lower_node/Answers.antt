-- `lower_node` meets its contract. Assumes nothing.
use Rattle.lowering.specs.Nodes.{taken-gate, taken-register}
use Rattle.lowering.proofs.walk.lower_node.Goals as goal

pub returns-then-node-eq-REGISTER_OUTPUT : goal.returns-then-node-eq-REGISTER_OUTPUT
returns-then-node-eq-REGISTER_OUTPUT c =
    taken-register _ _ _ _ _ _ _ c.requires.0 c.requires.2 _ _ c.if-node-eq-REGISTER_OUTPUT.true c.requires.4 c.driver_reset.ensures c.lower_register_output.ensures

pub returns-else-node-eq-REGISTER_OUTPUT : goal.returns-else-node-eq-REGISTER_OUTPUT
returns-else-node-eq-REGISTER_OUTPUT c =
    taken-gate _ _ _ _ _ _ _ c.requires.0 c.requires.2 c.if-node-eq-REGISTER_OUTPUT.false c.lower_gate.ensures
