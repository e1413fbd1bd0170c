-- What a System by value and the words stand for: a transition system of the model. Definitions only.
use Rattle.std.specs.Prelude.{◌≡◌, true, List, ◌++◌, map, ℕ, ◌+◌, ◌*◌, ◌≤◌, ◌<◌, get_or}
use Rattle.words.specs.Layout.{SMALL, MOST-NODES, GOLD-LHS, GATE-LHS}
use Rattle.words.specs.Region.{region}
use Rattle.model.specs.Literal.{node}
use Rattle.model.specs.Lists.{member}
use Rattle.model.specs.Transition.{Port, StateBit, TransitionSystem}
use Rattle.aig.specs.Graph.{graph_at, Ordered}
use Rattle.lowering.specs.Firsts.{firsts, Below}
use Rattle.transition.specs.declared.system.System.{System}

-- The side is in order: its graph, its counts, literals of its own nodes, and every variable an input's or a state's.
pub record Formed (y : System) (w : List ℕ) : Type 0 where
  pub low : GOLD-LHS ≤ y.base
  pub high : y.base ≤ GATE-LHS
  pub some : 0 < y.count
  pub small : y.count ≤ MOST-NODES
  pub ordered : Ordered y.count (region y.base w) (region (y.base + SMALL) w)
  pub input_count_lem : y.input_count ≤ 128
  pub output_count_lem : y.output_count ≤ 128
  pub state_count : y.state_count ≤ 128
  pub outputs : Below (y.count * 2) y.output_count y.outputs
  pub next : Below (y.count * 2) y.state_count y.next
  pub covered : (j : ℕ) → 0 < j → j < y.count → get_or (region (y.base + SMALL) w) j 0 ≡ 0
      → member j (firsts y.input_count y.inputs ++ firsts y.state_count y.variables) ≡ true

-- The side stands for the transition system s; names are left to the matches.
pub record Stands (y : System) (w : List ℕ) (s : TransitionSystem) : Type 0 where
  pub aig : graph_at y.base y.count w ≡ s.aig
  pub inputs : firsts y.input_count y.inputs ≡ map (λ (p : Port). node p.literal) s.inputs
  pub outputs : firsts y.output_count y.outputs ≡ map (λ (p : Port). p.literal) s.outputs
  pub next : firsts y.state_count y.next ≡ map (λ (b : StateBit). b.next) s.states
  pub variables : firsts y.state_count y.variables ≡ map (λ (b : StateBit). b.variable) s.states
