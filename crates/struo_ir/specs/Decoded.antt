-- The design that a decoded netlist stands for, given the record that its names are places in. Definitions only.
use Rattle.std.specs.Prelude.{ℕ, zero, suc, List, [], ◌∷◌, map, get_or, take, drop}
use Rattle.std.proofs.Math.Option.{Option, none, some}
use Rattle.model.specs.Names.{Name}
use Rattle.model.specs.Netlist as Model
use Rattle.model.specs.Netlist.{Enable, Reset, Register, Design}
use Rattle.model.specs.Record.{node_of, edge_of, level_of, bit}
use Rattle.struo_ir.specs.declared.netlist.Node.{Node}
use Rattle.struo_ir.specs.declared.netlist.RegisterCell.{RegisterCell}
use Rattle.struo_ir.specs.declared.netlist.Netlist.{Netlist}

-- the name whose length byte stands at a place of the record
unfoldable pub name_at : List ℕ → ℕ → Name
name_at s place = take (get_or s place 0) (drop (suc place) s)

-- the node that the fields say
unfoldable pub decoded_node : List ℕ → Node → Model.Node
decoded_node s n = node_of n.kind (name_at s n.detail) n.detail (n.first ∷ n.second ∷ n.third ∷ [])

-- an enable by its code: none for 0
unfoldable pub decoded_enable : ℕ → ℕ → Option Enable
decoded_enable zero signal = none
decoded_enable (suc c) signal = some (record { signal = signal; active = level_of (suc c) })

-- a reset by its code: none for 0
unfoldable pub decoded_reset : ℕ → ℕ → ℕ → ℕ → Option Reset
decoded_reset zero signal kind value = none
decoded_reset (suc c) signal kind value =
    some (record { signal = signal; active = level_of (suc c); asynchronous = bit kind; value = bit value })

-- the enable that a register's fields say
unfoldable pub cell_enable : RegisterCell → Option Enable
cell_enable r = decoded_enable r.enable r.enable_signal

-- the reset that a register's fields say
unfoldable pub cell_reset : RegisterCell → Option Reset
cell_reset r = decoded_reset r.reset r.reset_signal r.reset_kind r.reset_value

-- the register that the fields say
unfoldable pub decoded_register : List ℕ → RegisterCell → Register
decoded_register s r =
    record {
      name = name_at s r.name;
      output = r.output;
      «data» = r.«data»;
      clock = r.clock;
      edge = edge_of r.edge;
      enable = decoded_enable r.enable r.enable_signal;
      reset = decoded_reset r.reset r.reset_signal r.reset_kind r.reset_value;
    }

-- the design that a netlist stands for; its own name begins at offset 5
unfoldable pub decoded : List ℕ → Netlist → Design
decoded s n =
    record {
      name = name_at s 5;
      nodes = map (decoded_node s) (take n.node_count n.nodes);
      registers = map (decoded_register s) (take n.register_count n.registers);
    }
