-- What the sides of two accepted designs in the words are. Definitions only.
use Rattle.std.specs.Prelude.{◌≡◌, Bool, List, ℕ, ◌+◌, ◌≤◌, length}
use Rattle.words.specs.Layout.{LENT}
use Rattle.model.specs.Check.{problem_of}
use Rattle.struo_ir.specs.Decoded.{decoded}
use Rattle.struo_ir.specs.declared.design.Design.{Design}
use Rattle.lowering.specs.Firsts.{Below}
use Rattle.transition.specs.Side.{Formed}
use Rattle.queries.specs.Problem.{StandsFor}
use Rattle.queries.specs.declared.problem.Problem.{Problem}

-- Both sides are in the words, and with them the problem by value is that of the two designs begun at the rows u and v of stored bits.
pub record SidesMade (s : List ℕ) (gold : Design) (u : List Bool) (t : List ℕ) (gate : Design) (v : List Bool) (p : Problem) (w : List ℕ) : Type 0 where
  pub long : LENT ≤ length w
  pub gold_inputs : p.gold.input_count ≡ gold.inputs.count
  pub gold_outputs : p.gold.output_count ≡ gold.outputs.count
  pub gold_states : p.gold.state_count ≡ gold.registers.count
  pub gate_inputs : p.gate.input_count ≡ gate.inputs.count
  pub gate_outputs : p.gate.output_count ≡ gate.outputs.count
  pub gate_states : p.gate.state_count ≡ gate.registers.count
  pub gold_formed : Formed p.gold w
  pub gate_formed : Formed p.gate w
  pub gold_matches : Below (p.gate.state_count + 1) p.gold.state_count p.gold_matches
  pub gate_matches : Below (p.gold.state_count + 1) p.gate.state_count p.gate_matches
  pub gold_bits : Below 2 p.gold.state_count p.gold_start
  pub gate_bits_lem : Below 2 p.gate.state_count p.gate_start
  pub stands : StandsFor p w (problem_of (decoded s gold.netlist) (decoded t gate.netlist) u v)
