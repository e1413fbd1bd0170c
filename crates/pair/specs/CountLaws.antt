-- A decoded design has as many nodes, registers, inputs and outputs as its netlist and its orders count. Assumes nothing.
use Rattle.std.specs.Prelude.{ℕ, ◌≡◌, List, take}
use Rattle.std.proofs.Math.Path.{ap}
use Rattle.std.proofs.Common.{◌∙◌, arith}
use Rattle.std.proofs.Math.ListN.{length, length-map}
use Rattle.std.proofs.Math.Seq.{length-take-le}
use Rattle.model.specs.Netlist.{input_count, output_count, node_count, register_count}
use Rattle.struo_ir.specs.Decoded.{decoded_node, decoded_register, decoded}
use Rattle.struo_ir.specs.Designs.{Padded, Ordered}
use Rattle.struo_ir.specs.declared.netlist.Netlist.{Netlist}
use Rattle.struo_ir.specs.declared.design.Design.{Design}
use Rattle.name_order.specs.PortLaws.{count-places}

module _ (s : List ℕ) (n : Netlist) (p : Padded n) where
  -- the nodes
  pub count-nodes : node_count (decoded s n) ≡ n.node_count
  unfolding node_count decoded
  count-nodes =
      length-map (take n.node_count n.nodes) (decoded_node s)
      ∙ length-take-le n.node_count n.nodes (omega (arith, p.nodes_padded.size, p.nodes_padded.fits))

  -- the registers
  pub count-registers : register_count (decoded s n) ≡ n.register_count
  unfolding register_count decoded
  count-registers =
      length-map (take n.register_count n.registers) (decoded_register s)
      ∙ length-take-le n.register_count n.registers (omega (arith, p.registers_padded.size, p.registers_padded.fits))

module _ (s : List ℕ) (d : Design) (o : Ordered s d) where
  -- the inputs
  pub count-inputs : d.inputs.count ≡ input_count (decoded s d.netlist)
  unfolding input_count
  count-inputs = count-places s d.inputs o.formed_inputs ∙ ap length o.inputs_are

  -- the outputs
  pub count-outputs : d.outputs.count ≡ output_count (decoded s d.netlist)
  unfolding output_count
  count-outputs = count-places s d.outputs o.formed_outputs ∙ ap length o.outputs_are
