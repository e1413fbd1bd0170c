-- What is asked and promised of a transition system whose ports and states are in byte order of names. Definitions only.
use Rattle.std.specs.Prelude.{◌≡◌, Bool, ◌&&◌, List, map, ℕ, ◌+◌, ◌≤◌, length}
use Rattle.words.specs.Layout.{LENT, GOLD-LHS, GATE-LHS}
use Rattle.model.specs.Literal.{constant_literal}
use Rattle.model.specs.Run.{by_name}
use Rattle.model.specs.Transition.{from_netlist}
use Rattle.struo_ir.specs.Decoded.{decoded}
use Rattle.struo_ir.specs.Orders as Orders
use Rattle.struo_ir.specs.Designs.{Sized, Sided}
use Rattle.struo_ir.specs.declared.design.Design.{Design}
use Rattle.aig.specs.Made.{Ready, Same}
use Rattle.lowering.specs.Firsts.{firsts, Below}
use Rattle.transition.specs.Side.{Formed, Stands}
use Rattle.transition.specs.Namesakes.{namesakes}
use Rattle.lowering.specs.Walk.{elsewhere}
use Rattle.lowering.specs.System.{off_side}
use Rattle.transition.specs.declared.system.System.{System}

-- What `system` asks: the words, a side's place, and counts within the specification's limits.
pub record Lowerable (d : Design) (base : ℕ) (w : List ℕ) : Type 0 where
  pub long : LENT ≤ length w
  pub low : GOLD-LHS ≤ base
  pub high : base ≤ GATE-LHS
  pub sized : Sized d.netlist
  pub formed_inputs : Orders.Formed d.inputs
  pub formed_outputs : Orders.Formed d.outputs
  pub formed_registers : Orders.Formed d.registers

-- The side y at `base` is the transition system of the design.
pub record SystemMade (d : Design) (base : ℕ) (w : List ℕ) (y : System) (w' : List ℕ) : Type 0 where
  pub base_is : y.base ≡ base
  pub input_count_lem : y.input_count ≡ d.inputs.count
  pub output_count_lem : y.output_count ≡ d.outputs.count
  pub state_count : y.state_count ≡ d.registers.count
  pub ready : Ready y.count w'
  pub small : y.count ≤ 4865
  pub same : Same (λ b. elsewhere b && off_side base b) w w'
  pub formed : (s : List ℕ) → Sided s d → Formed y w'
  pub stands : (s : List ℕ) → Sided s d → Stands y w' (from_netlist (decoded s d.netlist))

-- The literals that the states start with are those of a row of stored bits, by register number.
pub record Starts (d : Design) (row : List Bool) (xs : List ℕ) : Type 0 where
  pub below : Below 2 d.registers.count xs
  pub is : (s : List ℕ) → Sided s d → firsts d.registers.count xs ≡ map constant_literal (by_name (decoded s d.netlist) row)

-- The matches of the states of a among those of b are those of their names, in the records s and t.
pub record MatchesMade (s : List ℕ) (a : Design) (t : List ℕ) (b : Design) (ms : List ℕ) : Type 0 where
  pub below : Below (b.registers.count + 1) a.registers.count ms
  pub is : Sided s a → Sided t b
      → firsts a.registers.count ms ≡ namesakes (from_netlist (decoded s a.netlist)).states (from_netlist (decoded t b.netlist)).states
