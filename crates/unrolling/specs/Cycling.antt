-- One cycle of both sides in the proof graph: the inputs, both frames, and the outputs compared. Assumes nothing.
use Rattle.std.specs.Prelude.{◌≡◌, ℕ, ◌+◌, ◌*◌, ◌≤◌, ◌<◌}
use Rattle.std.proofs.Math.Path.{refl, ap, sym}
use Rattle.std.proofs.Common.{◌∙◌, arith}
use mathlib.Core.List.{List, []}
use Rattle.std.proofs.Math.ListN.{length}
use Rattle.std.proofs.lemmas.List.{length-map}
use Rattle.words.specs.Layout.{MOST-NODES}
use Rattle.model.specs.Literal.{node}
use Rattle.model.specs.Aig.{Aig, Built}
use Rattle.model.specs.Transition.{Port}
use Rattle.model.specs.Equivalence.{Problem, LiteralList, proof_inputs, Frame, import_frame, Frames, import_frames, compare_pairs, compare_outputs, cycle_of, compared_cycle}
use Rattle.aig.specs.Graph.{graph_of}
use Rattle.aig.specs.Made.{Ready, Same, Made, same_trans}
use Rattle.import.specs.Importing.{beyond, same-beyond}
use Rattle.lowering.specs.Firsts.{firsts, length-firsts, pairs, pairs-zip, Below, below_le}
use Rattle.unrolling.specs.Variables.{Listed, grown, new-variables}
use Rattle.unrolling.specs.Side.{conjunctions_of, Untouched, untouched_beyond, formed-kept, stands-kept, conjunctions-kept, formed-same, stands_same, conjunctions-same}
use Rattle.transition.specs.Side.{Formed, Stands}
use Rattle.unrolling.specs.Framing.{Framable, Framed}
use Rattle.transition.specs.declared.system.System.{System}

-- Both sides are in order, with as many inputs and outputs.
pub record Paired (x y : System) (w : List ℕ) : Type 0 where
  pub gold : Formed x w
  pub gate : Formed y w
  pub inputs : y.input_count ≡ x.input_count
  pub outputs : y.output_count ≡ x.output_count

pub paired-kept : (x y : System) (w w' : List ℕ) → Paired x y w → Untouched w w' → Paired x y w'
paired-kept x y w w' p s =
    record { gold = formed-kept x w w' p.gold s; gate = formed-kept y w w' p.gate s; inputs = p.inputs; outputs = p.outputs }

pub paired_same : (x y : System) (w w' : List ℕ) → Paired x y w → Same beyond w w' → Paired x y w'
paired_same x y w w' p s = paired-kept x y w w' p (untouched_beyond s)

-- Both sides stand for those of a problem.
pub record Standing (x y : System) (w : List ℕ) (p : Problem) : Type 0 where
  pub gold : Stands x w p.gold
  pub gate : Stands y w p.gate

pub standing-kept : (x y : System) (w w' : List ℕ) (p : Problem) → Paired x y w → Untouched w w' → Standing x y w p → Standing x y w' p
standing-kept x y w w' p q s t = record { gold = stands-kept x w w' q.gold s p.gold t.gold; gate = stands-kept y w w' q.gate s p.gate t.gate }

pub standing-same : (x y : System) (w w' : List ℕ) (p : Problem) → Paired x y w → Same beyond w w' → Standing x y w p → Standing x y w' p
standing-same x y w w' p q s t = standing-kept x y w w' p q (untouched_beyond s) t

-- how many nodes both frames of a cycle make at most
abbrev pub frame_cost : System → System → List ℕ → ℕ
frame_cost x y w = x.input_count + (conjunctions_of x w + conjunctions_of y w)

pub cost_kept : (x y : System) (w w' : List ℕ) → Paired x y w → Untouched w w' → frame_cost x y w' ≡ frame_cost x y w
cost_kept x y w w' p s = rw (conjunctions-kept x w w' p.gold s, conjunctions-kept y w w' p.gate s)

pub cost_same : (x y : System) (w w' : List ℕ) → Paired x y w → Same beyond w w' → frame_cost x y w' ≡ frame_cost x y w
cost_same x y w w' p s = cost_kept x y w w' p (untouched_beyond s)

-- What a cycle asks, with room for r nodes: both sides in order, and their states' literals of the proof graph.
pub record Startable (r : ℕ) (x y : System) (c : ℕ) (w gs ts : List ℕ) : Type 0 where
  pub paired : Paired x y w
  pub ready : Ready c w
  pub room : c + r ≤ MOST-NODES
  pub gold_state_lem : Below (c * 2) x.state_count gs
  pub gate_state_lem : Below (c * 2) y.state_count ts

-- From c nodes in w both frames made c' nodes in w'; the graph between them is `middle`.
pub record FramesMade (x y : System) (c : ℕ) (w gs ts : List ℕ) (c' : ℕ) (w' ins go gn to tn : List ℕ) : Type 0 where
  pub ready : Ready c' w'
  pub same : Same beyond w w'
  pub grows : c ≤ c'
  pub within : c' ≤ c + frame_cost x y w
  pub gold_outputs : Below (c' * 2) x.output_count go
  pub gold_next_lem : Below (c' * 2) x.state_count gn
  pub gate_outputs : Below (c' * 2) y.output_count to
  pub gate_next_lem : Below (c' * 2) y.state_count tn
  pub middle : Aig
  pub is : (p : Problem) → Standing x y w p
      → record {
        inputs = firsts x.input_count ins;
        gold = record { aig = middle; outputs = firsts x.output_count go; next = firsts x.state_count gn };
        gate = record { aig = graph_of c' w'; outputs = firsts y.output_count to; next = firsts y.state_count tn };
      } ≡ import_frames p (graph_of c w) (firsts x.state_count gs) (firsts y.state_count ts)

module _ (r : ℕ) (x y : System) (c : ℕ) (w gs ts : List ℕ) (s : Startable r x y c w gs ts) (enough : frame_cost x y w ≤ r)
    (c₁ : ℕ) (w₁ ins : List ℕ) (l : LiteralList) (v : Listed x.input_count c w c₁ w₁ ins l) where
  -- gold's frame may follow the inputs
  pub framable_gold : Framable x c₁ w₁ ins gs
  framable_gold =
      record {
        formed = formed-same x w w₁ s.paired.gold (same-beyond v.same);
        ready = v.ready;
        room = rw (conjunctions-same x w w₁ s.paired.gold (same-beyond v.same)) (omega (arith, v.within, s.room));
        inputs = v.below;
        states = below_le _ _ _ _ (omega (arith, v.grows)) s.gold_state_lem;
      }

  module _ (c₂ : ℕ) (w₂ go gn : List ℕ) (f : Framed x c₁ w₁ ins gs c₂ w₂ go gn) where
    same-two : Same beyond w w₂
    same-two = same_trans (same-beyond v.same) f.same

    gold_cost : c₂ ≤ c + (x.input_count + conjunctions_of x w)
    gold_cost = omega (arith, v.within, f.within, conjunctions-same x w w₁ s.paired.gold (same-beyond v.same))

    -- gate's frame may follow gold's
    pub framable_gate : Framable y c₂ w₂ ins ts
    framable_gate =
        record {
          formed = formed-same y w w₂ s.paired.gate same-two;
          ready = f.ready;
          room = rw (conjunctions-same y w w₂ s.paired.gate same-two) (omega (arith, gold_cost, s.room));
          inputs = rw s.paired.inputs (below_le _ _ _ _ (omega (arith, f.grows)) v.below);
          states = below_le _ _ _ _ (omega (arith, v.grows, f.grows)) s.gate_state_lem;
        }

    module _ (c₃ : ℕ) (w₃ to tn : List ℕ) (h : Framed y c₂ w₂ ins ts c₃ w₃ to tn)
        (e : l ≡ grown x.input_count (record { aig = graph_of c w; literals = [] })) where
      inputs_are : (p : Problem) → Standing x y w p → record { aig = graph_of c₁ w₁; literals = firsts x.input_count ins } ≡ proof_inputs (graph_of c w) p.gold
      unfolding proof_inputs
      inputs_are p t =
          let n : length p.gold.inputs ≡ x.input_count =
          sym (length-map p.gold.inputs (λ (q : Port). node q.literal)) ∙ ap length (sym t.gold.inputs) ∙ length-firsts x.input_count x.inputs in
          v.is ∙ e ∙ rw (← n) (sym (new-variables (record { aig = graph_of c w; literals = [] }) p.gold.inputs))

      -- both frames from the inputs
      frames_from : Problem → LiteralList → Frames
      frames_from p i =
          let gold = import_frame p.gold i.aig i.literals (firsts x.state_count gs) in
          let gate = import_frame p.gate gold.aig i.literals (firsts y.state_count ts) in
          record { inputs = i.literals; gold = gold; gate = gate }

      from-inputs : (p : Problem) → frames_from p (proof_inputs (graph_of c w) p.gold) ≡ import_frames p (graph_of c w) (firsts x.state_count gs) (firsts y.state_count ts)
      unfolding import_frames frames_from
      from-inputs p = refl

      frames_are : (p : Problem) → Standing x y w p
          → record {
            inputs = firsts x.input_count ins;
            gold = record { aig = graph_of c₂ w₂; outputs = firsts x.output_count go; next = firsts x.state_count gn };
            gate = record { aig = graph_of c₃ w₃; outputs = firsts y.output_count to; next = firsts y.state_count tn };
          } ≡ frames_from p (record { aig = graph_of c₁ w₁; literals = firsts x.input_count ins })
      unfolding frames_from
      frames_are p t =
          let t₁ = stands_same x w w₁ s.paired.gold (same-beyond v.same) p.gold t.gold in
          let t₂ = stands_same y w w₂ s.paired.gate same-two p.gate t.gate in
          let i = firsts x.input_count ins in
          let gate-is : record { aig = graph_of c₃ w₃; outputs = firsts y.output_count to; next = firsts y.state_count tn }
          ≡ import_frame p.gate (graph_of c₂ w₂) i (firsts y.state_count ts) = rw (← s.paired.inputs) (h.is p.gate t₂) in
          ap (λ (g : Frame). record { inputs = i; gold = record { aig = graph_of c₂ w₂; outputs = firsts x.output_count go; next = firsts x.state_count gn }; gate = g }) gate-is
          ∙ ap (λ (g : Frame). record { inputs = i; gold = g; gate = import_frame p.gate g.aig i (firsts y.state_count ts) }) (f.is p.gold t₁)

      -- both frames
      pub frames_made : FramesMade x y c w gs ts c₃ w₃ ins go gn to tn
      frames_made =
          record {
            ready = h.ready;
            same = same_trans same-two h.same;
            grows = omega (arith, v.grows, f.grows, h.grows);
            within = omega (arith, gold_cost, h.within, conjunctions-same y w w₂ s.paired.gate same-two);
            gold_outputs = below_le _ _ _ _ (omega (arith, h.grows)) f.outputs;
            gold_next_lem = below_le _ _ _ _ (omega (arith, h.grows)) f.next;
            gate_outputs = h.outputs;
            gate_next_lem = h.next;
            middle = graph_of c₂ w₂;
            is = λ p t. frames_are p t ∙ ap (λ (i : LiteralList). frames_from p i) (inputs_are p t) ∙ from-inputs p;
          }

-- From c nodes in w a compared cycle made c' nodes in w', the model's.
pub record Compared (x y : System) (c : ℕ) (w gs ts : List ℕ) (c' : ℕ) (w' ins go gn to tn : List ℕ) (m : ℕ) : Type 0 where
  pub ready : Ready c' w'
  pub same : Same beyond w w'
  pub grows : c ≤ c'
  pub within : c' ≤ c + (frame_cost x y w + 4 * x.output_count)
  pub gold_next_lem : Below (c' * 2) x.state_count gn
  pub gate_next_lem : Below (c' * 2) y.state_count tn
  pub mismatch : m < c' * 2
  pub is : (p : Problem) → Standing x y w p
      → record {
        aig = graph_of c' w';
        gold_next = firsts x.state_count gn;
        gate_next = firsts y.state_count tn;
        comparison = record { inputs = firsts x.input_count ins; outputs = pairs x.output_count go to; mismatch = m };
      } ≡ compared_cycle p (graph_of c w) (firsts x.state_count gs) (firsts y.state_count ts)

-- both frames, then the outputs compared
pub compared : (x y : System) (c : ℕ) (w gs ts : List ℕ) (c₃ : ℕ) (w₃ ins go gn to tn : List ℕ) (c' : ℕ) (w' : List ℕ) (m : ℕ) → Paired x y w
    → FramesMade x y c w gs ts c₃ w₃ ins go gn to tn → Made (4 * x.output_count) c₃ w₃ c' w' m (compare_pairs (graph_of c₃ w₃) (pairs x.output_count go to))
    → Compared x y c w gs ts c' w' ins go gn to tn m
unfolding compared_cycle cycle_of compare_outputs
compared x y c w gs ts c₃ w₃ ins go gn to tn c' w' m q f d =
    record {
      ready = d.ready;
      same = same_trans f.same (same-beyond d.same);
      grows = omega (arith, f.grows, d.grows);
      within = omega (arith, f.within, d.within);
      gold_next_lem = below_le _ _ _ _ (omega (arith, d.grows)) f.gold_next_lem;
      gate_next_lem = below_le _ _ _ _ (omega (arith, d.grows)) f.gate_next_lem;
      mismatch = d.below;
      is = λ p t. made p t ∙ ap (λ (g : Frames). cycle_of g (compare_outputs g.gate.aig g.gold.outputs g.gate.outputs)) (f.is p t);
    }
  where
    made : (p : Problem) → Standing x y w p
        → record {
          aig = graph_of c' w';
          gold_next = firsts x.state_count gn;
          gate_next = firsts y.state_count tn;
          comparison = record { inputs = firsts x.input_count ins; outputs = pairs x.output_count go to; mismatch = m };
        } ≡ (let g : Frames = record {
          inputs = firsts x.input_count ins;
          gold = record { aig = f.middle; outputs = firsts x.output_count go; next = firsts x.state_count gn };
          gate = record { aig = graph_of c₃ w₃; outputs = firsts y.output_count to; next = firsts y.state_count tn };
        } in cycle_of g (compare_outputs g.gate.aig g.gold.outputs g.gate.outputs))
    made p t =
        ap (λ (b : Built). record {
          aig = b.aig;
          gold_next = firsts x.state_count gn;
          gate_next = firsts y.state_count tn;
          comparison = record { inputs = firsts x.input_count ins; outputs = pairs x.output_count go to; mismatch = b.literal };
        }) d.built
        ∙ rw (pairs-zip, q.outputs)

-- room for more is room for less
pub startable_le : (j k : ℕ) (x y : System) (c : ℕ) (w gs ts : List ℕ) → j ≤ k → Startable k x y c w gs ts → Startable j x y c w gs ts
startable_le j k x y c w gs ts h s =
    record { paired = s.paired; ready = s.ready; room = omega (arith, s.room); gold_state_lem = s.gold_state_lem; gate_state_lem = s.gate_state_lem }
