-- `system` meets its contract. Assumes nothing.
use Rattle.std.proofs.Common.{refl}
use Rattle.transition.specs.Sorted.{system-made}
use Rattle.transition.proofs.named.system.Goals as goal

pub returns : goal.returns
returns c =
    system-made c.args.design c.args.base _ _ _ _ _ c.port_literals-literals.result _ c.requires c.from_netlist-lowered.ensures refl refl refl refl refl
    c.port_literals-literals.ensures c.nodes_of-input_nodes.ensures c.port_literals-output_literals.ensures c.gather-next.ensures c.gather-variables.ensures
