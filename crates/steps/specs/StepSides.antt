-- What a side of a replay holds, and the position that rows by value stand for. Definitions only.
use Rattle.std.specs.Prelude.{ℕ, ◌+◌, ◌≡◌, Bool, not, ◌&&◌, eqb, List, take, drop}
use Rattle.model.specs.Names.{Place}
use Rattle.model.specs.Netlist.{inputs, outputs, input_count}
use Rattle.model.specs.Run.{node_values, next_stored, output_bits}
use Rattle.model.specs.Replay as Replay
use Rattle.drivers.specs.Drivers.{Drivers}
use Rattle.struo_ir.specs.Decoded.{decoded}
use Rattle.struo_ir.specs.Designs.{Sized}
use Rattle.struo_ir.specs.Orders.{Formed, places}
use Rattle.run.specs.RunTables.{Ranked, row_inputs, padded}
use Rattle.run.specs.declared.run.Rows.{Rows}
use Rattle.steps.specs.declared.step.Side.{Side}
use Rattle.steps.specs.declared.step.Position.{Position}
use Rattle.steps.specs.declared.step.Stepped.{Stepped}

-- the counts of a side are within the specification's limits
pub record SizedSide (side : Side) : Type 0 where
  pub sized : Sized side.netlist
  pub formed : Formed side.outputs

-- the tables of a side are those of its record, with ranks among the given inputs
pub record Prepared (s : List ℕ) (ins : List Place) (side : Side) : Type 0 where
  pub ranked : Ranked s ins side.netlist side.ranks
  pub driven : Drivers side.netlist side.drivers

-- what a cycle of a side gives: outputs by name, and the rows exchanged: the one written has the next stored bits, and past the register count it is as it was
pub record Cycled (s : List ℕ) (ins : List Place) (side : Side) (claim : List ℕ) (at : ℕ) (rows : Rows) (out : List Bool) (after : Rows) : Type 0 where
  pub shown : places s side.outputs ≡ outputs (decoded s side.netlist)
      → out ≡ padded 128 (output_bits (decoded s side.netlist) (node_values (decoded s side.netlist) (row_inputs claim at ins) (take side.netlist.register_count rows.old)))
  pub stored : take side.netlist.register_count after.old
      ≡ next_stored (decoded s side.netlist) (node_values (decoded s side.netlist) (row_inputs claim at ins) (take side.netlist.register_count rows.old))
      (take side.netlist.register_count rows.old)
  pub kept : drop side.netlist.register_count after.old ≡ drop side.netlist.register_count rows.new
  pub exchanged : after.new ≡ rows.old

-- the position that rows stand for, given the register counts of both sides: the stored bits are the first ones of the old rows
unfoldable pub position : ℕ → ℕ → Position → Replay.Position
position n m p = record { cycle = p.cycle; agreed = p.agreed; gold = take n p.gold.old; gate = take m p.gate.old }

-- what a step gives, given the register counts of both sides
unfoldable pub stepped : ℕ → ℕ → Stepped → Replay.Stepped
stepped n m r = record { position = position n m r.position; yes = r.yes }

-- two rows that were alike past the register count have there what they had
pub record Kept (n : ℕ) (before after : Rows) : Type 0 where
  pub old : drop n before.new ≡ drop n before.old → drop n after.old ≡ drop n before.old
  pub new : drop n before.new ≡ drop n before.old → drop n after.new ≡ drop n before.old

-- the same of the rows of both sides
pub record BothKept (n m : ℕ) (before after : Position) : Type 0 where
  pub gold : Kept n before.gold after.gold
  pub gate : Kept m before.gate after.gate

-- what a step gives from a position, the claimed cycle, whether outputs differ and are so marked, and the rows after it
unfoldable pub outcome_of : Position → ℕ → Bool → Bool → Rows → Rows → Stepped
outcome_of p cycle differ marked gold gate =
    record {
      position = record { cycle = p.cycle + 1; agreed = p.agreed && not differ; gold = gold; gate = gate };
      yes = eqb p.cycle cycle && (p.agreed && (differ && marked));
    }

-- two sides of a replay: ranks are those of gold's inputs, counted, and outputs are by name
pub record Paired (s t : List ℕ) (count : ℕ) (gold gate : Side) : Type 0 where
  pub gold_prepared : Prepared s (inputs (decoded s gold.netlist)) gold
  pub gate_prepared : Prepared t (inputs (decoded s gold.netlist)) gate
  pub counted : count ≡ input_count (decoded s gold.netlist)
  pub gold_outputs : places s gold.outputs ≡ outputs (decoded s gold.netlist)
  pub gate_outputs : places t gate.outputs ≡ outputs (decoded t gate.netlist)

-- a step equals the definition's, and leaves the rows past the register counts
pub record Advanced (s t : List ℕ) (gold gate : Side) (cycle : ℕ) (claim : List ℕ) (p : Position) (r : Stepped) : Type 0 where
  pub equal : stepped gold.netlist.register_count gate.netlist.register_count r
      ≡ Replay.advance (decoded s gold.netlist) (decoded t gate.netlist) cycle claim (position gold.netlist.register_count gate.netlist.register_count p)
  pub rows : BothKept gold.netlist.register_count gate.netlist.register_count p r.position

-- the same of a step that stands still past the claimed cycle
pub record StepTaken (s t : List ℕ) (gold gate : Side) (cycle : ℕ) (claim : List ℕ) (p : Position) (r : Stepped) : Type 0 where
  pub equal : stepped gold.netlist.register_count gate.netlist.register_count r
      ≡ Replay.step (decoded s gold.netlist) (decoded t gate.netlist) cycle claim (position gold.netlist.register_count gate.netlist.register_count p)
  pub rows : BothKept gold.netlist.register_count gate.netlist.register_count p r.position
