-- A step on rows by value is the definition's step. Assumes nothing.
use Prim.Native.Nat.{ℕ, suc, ◌+◌, ◌*◌, ◌<◌, ◌≤◌}
use Rattle.std.specs.Prelude.{◌≡◌, refl, Bool, false, List, length, take, drop}
use Rattle.std.proofs.Common.{sym, ◌∙◌, add-one, lt-ltb, le-ltb}
use Rattle.std.proofs.Math.Path.{ap, ap₂, subst}
use Rattle.model.specs.Names.{Place}
use Rattle.model.specs.Netlist.{inputs, outputs, input_count}
use Rattle.model.specs.Run.{node_values, output_bits}
use Rattle.model.specs.Replay as Replay
use Rattle.model.specs.Replay.{bits_differ, differ_as_marked, step_if}
use Rattle.struo_ir.specs.Decoded.{decoded}
use Rattle.struo_ir.specs.Orders.{places}
use Rattle.name_order.specs.PortLaws.{count-places}
use Rattle.run.specs.RunTables.{row_inputs}
use Rattle.run.specs.declared.run.Rows.{Rows}
use Rattle.steps.specs.StepSides.{SizedSide, Cycled, Kept, position, stepped, outcome_of, Paired, Advanced, StepTaken}
use Rattle.steps.specs.StepLaws.{padded-taken, length-output_bits, inputs-right, advance-right}
use Rattle.steps.specs.declared.step.Side.{Side}
use Rattle.steps.specs.declared.step.Position.{Position}
use Rattle.steps.specs.declared.step.Stepped.{Stepped}

-- a row's first bits are a side's outputs
shown-taken : (s : List ℕ) (ins : List Place) (side : Side) (claim : List ℕ) (at : ℕ) (rows : Rows) (out : List Bool) (after : Rows) → SizedSide side → places s side.outputs ≡ outputs (decoded s side.netlist)
    → Cycled s ins side claim at rows out after
    → take side.outputs.count out ≡ output_bits (decoded s side.netlist) (node_values (decoded s side.netlist) (row_inputs claim at ins) (take side.netlist.register_count rows.old))
shown-taken s ins side claim at rows out after f e c =
    padded-taken 128 side.outputs.count out _ (c.shown e) (count-places s side.outputs f.formed ∙ ap length e ∙ sym (length-output_bits (decoded s side.netlist) _))

-- the rows of a cycle, where they were alike past the register count, are so after it
cycle-kept : (s : List ℕ) (ins : List Place) (side : Side) (claim : List ℕ) (at : ℕ) (rows : Rows) (out : List Bool) (after : Rows) → Cycled s ins side claim at rows out after → Kept side.netlist.register_count rows after
cycle-kept s ins side claim at rows out after c =
    record { old = λ e. c.kept ∙ e; new = λ e. ap (drop side.netlist.register_count) c.exchanged }

module _ (s t : List ℕ) (count : ℕ) (gold gate : Side) (cycle : ℕ) (claim : List ℕ) (p : Position) (f : SizedSide gold) (g : SizedSide gate) (q : Paired s t count gold gate) where
  -- the parts of a step, put together
  pub advanced : (at place : ℕ) (out out' : List Bool) (left right : Rows) (differ marked : Bool) (r : Stepped) → at ≡ p.cycle * count → place ≡ (cycle + 1) * count
      → Cycled s (inputs (decoded s gold.netlist)) gold claim at p.gold out left → Cycled t (inputs (decoded s gold.netlist)) gate claim at p.gate out' right
      → differ ≡ bits_differ (take gold.outputs.count out) (take gate.outputs.count out')
      → marked ≡ differ_as_marked claim place (take gold.outputs.count out) (take gate.outputs.count out')
      → r ≡ outcome_of p cycle differ marked left right → Advanced s t gold gate cycle claim p r
  unfolding stepped position outcome_of
  advanced at place out out' left right differ marked r ea ep c c' d m e =
      let n = gold.netlist.register_count in
      let k = gate.netlist.register_count in
      let dg = decoded s gold.netlist in
      let dt = decoded t gate.netlist in
      let i : place ≡ suc cycle * input_count dg = ep ∙ ap₂ (λ (x y : ℕ). x * y) (add-one cycle) q.counted in
      record {
        equal =
            ap (stepped n k) e
            ∙ advance-right dg dt cycle claim (position n k p) (row_inputs claim at (inputs dg)) (take gold.outputs.count out) (take gate.outputs.count out') (take n left.old) (take k right.old) differ marked
            (inputs-right dg claim at p.cycle count ea q.counted) (shown-taken s (inputs dg) gold claim at p.gold out left f q.gold_outputs c)
            (shown-taken t (inputs dg) gate claim at p.gate out' right g q.gate_outputs c') d
            (m ∙ ap (λ (j : ℕ). differ_as_marked claim j (take gold.outputs.count out) (take gate.outputs.count out')) i) c.stored c'.stored;
        rows =
            record {
              gold = subst (Kept n p.gold) (ap (λ (x : Stepped). x.position.gold) (sym e)) (cycle-kept s (inputs dg) gold claim at p.gold out left c);
              gate = subst (Kept k p.gate) (ap (λ (x : Stepped). x.position.gate) (sym e)) (cycle-kept t (inputs dg) gate claim at p.gate out' right c');
            };
      }

  -- past the claimed cycle
  pub step_still : cycle < p.cycle → StepTaken s t gold gate cycle claim p (record { position = p; yes = false })
  unfolding stepped position Replay.step step_if
  step_still h = record { equal = rw (lt-ltb cycle p.cycle h); rows = record { gold = record { old = λ e. refl; new = λ e. e }; gate = record { old = λ e. refl; new = λ e. e } } }

  -- up to it
  pub step-taken : (r : Stepped) → p.cycle ≤ cycle → Advanced s t gold gate cycle claim p r → StepTaken s t gold gate cycle claim p r
  unfolding Replay.step step_if position
  step-taken r h a = record { equal = a.equal ∙ rw (le-ltb cycle p.cycle h); rows = a.rows }
