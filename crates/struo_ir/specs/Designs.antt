-- What is known of a decoded netlist, and of a design with its orders: one ladder, from its counts to all that its record's checks give. Definitions only.
use Rattle.std.specs.Prelude.{ℕ, ◌≤◌, ◌≡◌, true, List, length, get_or}
use Rattle.std.proofs.Math.Option.{none}
use Rattle.model.specs.Netlist.{inputs, outputs, registers_by_name, input_count, output_count}
use Rattle.model.specs.Record.{listed_kind}
use Rattle.model.specs.Validate.{validate}
use Rattle.struo_ir.specs.declared.netlist.Node.{Node}
use Rattle.struo_ir.specs.declared.netlist.RegisterCell.{RegisterCell}
use Rattle.struo_ir.specs.declared.netlist.Netlist.{Netlist}
use Rattle.struo_ir.specs.declared.design.Design.{Design}
use Rattle.struo_ir.specs.Decoded.{decoded}
use Rattle.struo_ir.specs.Nodes.{no_node}
use Rattle.struo_ir.specs.Registers.{no_register}
use Rattle.struo_ir.specs.Orders.{places, Formed}

-- 1. counts that the arrays have room for
pub record Sized (n : Netlist) : Type 0 where
  pub nodes : n.node_count ≤ 1024
  pub registers : n.register_count ≤ 128

-- an array of nodes of listed kinds with at most 1,024 of them, zeros from the count on
pub record NodesPadded (count : ℕ) (nodes : List Node) : Type 0 where
  pub size : length nodes ≡ 1024
  pub fits : count ≤ 1024
  pub past : (k : ℕ) → count ≤ k → get_or nodes k no_node ≡ no_node
  pub listed : (k : ℕ) → listed_kind (get_or nodes k no_node).kind ≡ true

-- an array of registers with at most 128 of them, zeros from the count on
pub record RegistersPadded (count : ℕ) (registers : List RegisterCell) : Type 0 where
  pub size : length registers ≡ 128
  pub fits : count ≤ 128
  pub past : (k : ℕ) → count ≤ k → get_or registers k no_register ≡ no_register

-- 2. a netlist within the limits, with zeros past its counts
pub record Padded (n : Netlist) : Type 0 where
  pub nodes_padded : NodesPadded n.node_count n.nodes
  pub registers_padded : RegistersPadded n.register_count n.registers

-- 3. no more ports than the specification allows, in the record s
pub record Within (s : List ℕ) (n : Netlist) : Type 0 where
  pub sized : Sized n
  pub inputs : input_count (decoded s n) ≤ 64
  pub outputs : output_count (decoded s n) ≤ 64

-- 4. a netlist that passed the checks of its record
pub record Valid (s : List ℕ) (n : Netlist) : Type 0 where
  pub padded : Padded n
  pub within : Within s n
  pub valid : validate (decoded s n) ≡ none

-- the orders are those of the netlist
pub record Ordered (s : List ℕ) (d : Design) : Type 0 where
  pub formed_inputs : Formed d.inputs
  pub formed_outputs : Formed d.outputs
  pub formed_registers : Formed d.registers
  pub inputs_are : places s d.inputs ≡ inputs (decoded s d.netlist)
  pub outputs_are : places s d.outputs ≡ outputs (decoded s d.netlist)
  pub registers_are : places s d.registers ≡ registers_by_name (decoded s d.netlist)

-- 5. one with its orders: a side of a pair
pub record Sided (s : List ℕ) (d : Design) : Type 0 where
  pub valid : Valid s d.netlist
  pub ordered : Ordered s d
