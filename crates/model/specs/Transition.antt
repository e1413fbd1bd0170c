-- The transition system of a design that passed validation, as transition.rs builds it. Definitions only.
use Rattle.std.specs.Prelude.{ℕ, suc, true, false, List, [], ◌∷◌, get_or}
use Rattle.std.proofs.Math.Option.{Option, none, some}
use Rattle.model.specs.Literal.{Literal, FALSE, node, negate, constant_literal}
use Rattle.model.specs.Lists.{snoc, lookup}
use Rattle.model.specs.Aig.{Aig, Built, new, variable, and, or, xor, mux}
use Rattle.model.specs.Aig as Graph
use Rattle.model.specs.Names.{Name, sort_by_name}
use Rattle.model.specs.Netlist.{Node, Input, Constant, RegisterOutput, Not, Output, And, Or, Xor, Mux, ActiveLevel, High, Low, Enable, Reset, Register, Design}
use Rattle.model.specs.Names as Names
use Rattle.model.specs.Validate.{Driver, driver, driver_from}

-- a port and its literal
pub record Port : Type 0 where
  pub name : Name
  pub literal : Literal

-- a register: its next-state literal, and the number of its variable's node; its initial bit is Run's
pub record StateBit : Type 0 where
  pub name : Name
  pub next : Literal
  pub variable : ℕ

-- a graph with inputs, states and outputs in byte order of their names
pub record TransitionSystem : Type 0 where
  pub aig : Aig
  pub inputs : List Port
  pub states : List StateBit
  pub outputs : List Port

-- the walk over the nodes: the graph, each net's literal, ports in record order, and the variable of each register output's net
pub record Lowering : Type 0 where
  pub aig : Aig
  pub nets : List Literal
  pub inputs : List Port
  pub outputs : List Port
  pub state_variables : List (ℕ × Literal)

-- a signal's literal as its active level asks
unfoldable pub asserted_literal : Literal → ActiveLevel → Literal
asserted_literal l High = l
asserted_literal l Low = negate l

-- the literal of a net
unfoldable pub net_literal : List Literal → ℕ → Literal
net_literal nets i = get_or nets i FALSE

-- the reset of a driver's register
unfoldable pub driver_reset : Option Driver → Option Reset
driver_reset none = none
driver_reset (some d) = d.register.reset

-- the walk with one net more
unfoldable pub with_net : Lowering → Built → Lowering
with_net w m =
    record { aig = m.aig; nets = snoc w.nets m.literal; inputs = w.inputs; outputs = w.outputs; state_variables = w.state_variables }

-- a net that needs no change of the graph
unfoldable pub with_literal : Lowering → Literal → Lowering
with_literal w l = with_net w (record { aig = w.aig; literal = l })

-- a new variable that is an input
unfoldable pub lower_input : Lowering → Name → Built → Lowering
lower_input w n m =
    record {
      aig = m.aig;
      nets = snoc w.nets m.literal;
      inputs = snoc w.inputs (record { name = n; literal = m.literal });
      outputs = w.outputs;
      state_variables = w.state_variables;
    }

-- an output is its net's literal
unfoldable pub lower_output : Lowering → Name → Literal → Lowering
lower_output w n l =
    record {
      aig = w.aig;
      nets = snoc w.nets l;
      inputs = w.inputs;
      outputs = snoc w.outputs (record { name = n; literal = l });
      state_variables = w.state_variables;
    }

-- the reset value while a reset is asserted, else the value
unfoldable pub reset_mux : Aig → List Literal → Reset → Literal → Built
reset_mux g nets r value = mux g (asserted_literal (net_literal nets r.signal) r.active) (constant_literal r.value) value

-- what a register output shows: its state, or the value of an asserted asynchronous reset
unfoldable pub shown : Aig → List Literal → Option Reset → Literal → Built
shown g nets none state = record { aig = g; literal = state }
shown g nets (some r) state = elim r.asynchronous [ true ↦ reset_mux g nets r state | false ↦ record { aig = g; literal = state } ]

-- the net of a register output, and its state's variable
unfoldable pub lower_shown : Lowering → ℕ → Literal → Built → Lowering
lower_shown w net state m =
    record {
      aig = m.aig;
      nets = snoc w.nets m.literal;
      inputs = w.inputs;
      outputs = w.outputs;
      state_variables = snoc w.state_variables (net, state);
    }

-- a register output: a new variable, then what it shows
unfoldable pub lower_register_output : List Register → Lowering → ℕ → Built → Lowering
lower_register_output rs w net m = lower_shown w net m.literal (shown m.aig w.nets (driver_reset (driver rs net)) m.literal)

-- one node; the number is its net's
unfoldable pub lower_node : List Register → Lowering → ℕ → Node → Lowering
lower_node rs w net (Input n) = lower_input w n (variable w.aig)
lower_node rs w net (Constant b) = with_literal w (constant_literal b)
lower_node rs w net RegisterOutput = lower_register_output rs w net (variable w.aig)
lower_node rs w net (Not a) = with_literal w (negate (net_literal w.nets a))
lower_node rs w net (Output n a) = lower_output w n (net_literal w.nets a)
lower_node rs w net (And a b) = with_net w (and w.aig (net_literal w.nets a) (net_literal w.nets b))
lower_node rs w net (Or a b) = with_net w (or w.aig (net_literal w.nets a) (net_literal w.nets b))
lower_node rs w net (Xor a b) = with_net w (xor w.aig (net_literal w.nets a) (net_literal w.nets b))
lower_node rs w net (Mux c a b) = with_net w (mux w.aig (net_literal w.nets c) (net_literal w.nets a) (net_literal w.nets b))

-- the nodes from a net's number on
unfoldable pub lower_nodes : List Register → Lowering → ℕ → List Node → Lowering
lower_nodes rs w net [] = w
lower_nodes rs w net (n ∷ ns) = lower_nodes rs (lower_node rs w net n) (suc net) ns

-- the walk before the first node
unfoldable pub no_nodes : Lowering
no_nodes = record { aig = new; nets = []; inputs = []; outputs = []; state_variables = [] }

-- the data, or the state where an enable is not asserted
unfoldable pub enabled : Aig → List Literal → Option Enable → Literal → Literal → Built
enabled g nets none l state = record { aig = g; literal = l }
enabled g nets (some e) l state = mux g (asserted_literal (net_literal nets e.signal) e.active) l state

-- the next bit, or the reset value where a reset is asserted
unfoldable pub reset_next : Built → List Literal → Option Reset → Built
reset_next m nets none = m
reset_next m nets (some r) = reset_mux m.aig nets r m.literal

-- a graph and the states lowered so far, in record order
pub record Registers : Type 0 where
  pub aig : Aig
  pub states : List StateBit

-- one register's state, from its state variable and its next bit
unfoldable pub with_state : Registers → Register → Literal → Built → Registers
with_state g r state m =
    record {
      aig = m.aig;
      states = snoc g.states (record { name = r.name; next = m.literal; variable = node state });
    }

-- one register: the enable's mux, then the reset's
unfoldable pub lower_register : List Literal → Registers → Register → Literal → Registers
lower_register nets g r state =
    with_state g r state (reset_next (enabled g.aig nets r.enable (net_literal nets r.«data») state) nets r.reset)

-- the registers in record order
unfoldable pub lower_registers : Lowering → Registers → List Register → Registers
lower_registers w g [] = g
lower_registers w g (r ∷ rs) = lower_registers w (lower_register w.nets g r (lookup FALSE w.state_variables r.output)) rs

-- the system of a walk and its registers
unfoldable pub system_of : Lowering → Registers → TransitionSystem
system_of w g =
    record {
      aig = g.aig;
      inputs = sort_by_name (λ (p : Port). p.name) w.inputs;
      states = sort_by_name (λ (s : StateBit). s.name) g.states;
      outputs = sort_by_name (λ (p : Port). p.name) w.outputs;
    }

-- the registers' part, after the nodes' part
unfoldable pub with_registers : Lowering → List Register → TransitionSystem
with_registers w rs = system_of w (lower_registers w (record { aig = w.aig; states = [] }) rs)

-- the transition system of a design
unfoldable pub from_netlist : Design → TransitionSystem
from_netlist d = with_registers (lower_nodes d.registers no_nodes 0 d.nodes) d.registers

-- naming this in an `unfolding` line opens the definitions of this file and those it uses
unfoldable pub all : Unit {0}
unfolding asserted_literal net_literal driver_reset with_net with_literal lower_input lower_output reset_mux shown lower_shown lower_register_output lower_node lower_nodes no_nodes enabled reset_next with_state lower_register lower_registers system_of with_registers from_netlist driver driver_from Graph.all Names.all
all = tt
