-- What the proof asks holds of an accepted pair. Assumes nothing.
use Rattle.std.specs.Prelude.{ℕ, suc, ◌+◌, ◌*◌, ◌≤◌, ◌≡◌, Bool, List, Float}
use Rattle.std.proofs.Math.Path.{sym}
use Rattle.std.proofs.Common.{◌∙◌, arith}
use Rattle.words.specs.Layout.{MOST-NODES}
use Rattle.model.specs.Netlist.{input_count, output_count, register_count}
use Rattle.model.specs.Options.{Options}
use Rattle.model.specs.Pair.{nodes_per_cycle, proof_nodes, trace_length}
use Rattle.model.specs.Check as Model
use Rattle.model.specs.Check.{problem_of}
use Rattle.laws.specs.Queries.Bound.{states-length}
use Rattle.struo_ir.specs.Decoded.{decoded}
use Rattle.struo_ir.specs.Designs.{Sided}
use Rattle.struo_ir.specs.declared.design.Design.{Design}
use Rattle.pair.specs.CountLaws.{count-inputs, count-outputs}
use Rattle.refusals.specs.RefusalLaws.{Accepted}
use Rattle.unrolling.specs.Cycling.{Paired}
use Rattle.equivalence.specs.Inducing as Inducing
use Rattle.equivalence.specs.Inducing.{cycle_cost}
use Rattle.queries.specs.Problem.{Provable}
use Rattle.queries.specs.declared.problem.Problem.{Problem}
use Rattle.checker.specs.Room.{side-small, cycles_fit}
use Rattle.checker.specs.Sides.{SidesMade}

module _ (s : List ℕ) (x : Design) (g : List Bool) (t : List ℕ) (y : Design) (h : List Bool) (p : Problem) (w : List ℕ) (o : Options) (trace words : List ℕ) (scores : List Float)
    (v : Sided s x) (u : Sided t y) (m : SidesMade s x g t y h p w)
    (k : Accepted (decoded s x.netlist) (decoded t y.netlist) o (Model.lent_of trace words scores)) where
  inputs_are : p.gold.input_count ≡ input_count (decoded s x.netlist)
  inputs_are = m.gold_inputs ∙ count-inputs s x v.ordered

  outputs_are : p.gold.output_count ≡ output_count (decoded s x.netlist)
  outputs_are = m.gold_outputs ∙ count-outputs s x v.ordered

  -- as many states as registers
  gold_states : p.gold.state_count ≡ register_count (decoded s x.netlist)
  unfolding register_count problem_of
  gold_states = sym (Inducing.states-length p.gold w _ m.stands.standing.gold) ∙ states-length (decoded s x.netlist)

  gate_states : p.gate.state_count ≡ register_count (decoded t y.netlist)
  unfolding register_count problem_of
  gate_states = sym (Inducing.states-length p.gate w _ m.stands.standing.gate) ∙ states-length (decoded t y.netlist)

  -- both sides are in order, with as many inputs and outputs
  paired : Paired p.gold p.gate w
  paired =
      record {
        gold = m.gold_formed;
        gate = m.gate_formed;
        inputs = m.gate_inputs ∙ count-inputs t y u.ordered ∙ sym k.inputs_alike ∙ sym inputs_are;
        outputs = m.gate_outputs ∙ count-outputs t y u.ordered ∙ sym k.outputs_alike ∙ sym outputs_are;
      }

  -- a cycle costs at most F
  cost_small : cycle_cost p.gold p.gate w ≤ nodes_per_cycle (decoded s x.netlist) (decoded t y.netlist)
  unfolding nodes_per_cycle problem_of
  cost_small =
      omega (arith, side-small p.gold w (decoded s x.netlist) m.gold_formed m.stands.standing.gold, side-small p.gate w (decoded t y.netlist) m.gate_formed m.stands.standing.gate, inputs_are, outputs_are, gold_states)

  room : 1 + (p.gold.state_count + p.gate.state_count) + suc o.depth * cycle_cost p.gold p.gate w ≤ MOST-NODES
  unfolding proof_nodes
  room = omega (arith, gold_states, gate_states, cycles_fit o.depth (cycle_cost p.gold p.gate w) (nodes_per_cycle (decoded s x.netlist) (decoded t y.netlist)) (register_count (decoded s x.netlist) + register_count (decoded t y.netlist)) cost_small k.fits)

  -- the problem may be proved
  pub provable : Provable p o.limit o.depth w scores trace
  unfolding Model.lent_of trace_length
  provable =
      record {
        long = m.long;
        scores_long = k.scores_long;
        trace_long = rw (inputs_are, outputs_are) k.trace_long;
        limited = k.limit_small;
        some = k.depth_some;
        shallow = k.depth_small;
        paired = paired;
        gold_matches = m.gold_matches;
        gate_matches = m.gate_matches;
        gold_bits = m.gold_bits;
        gate_bits_lem = m.gate_bits_lem;
        room = room;
        problem = problem_of (decoded s x.netlist) (decoded t y.netlist) g h;
        stands = m.stands;
      }
