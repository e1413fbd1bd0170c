-- Query 2: states named alike compared before each cycle's inputs, cycle after cycle. Assumes nothing.
use Rattle.std.specs.Prelude.{◌≡◌, refl, true, ℕ, suc, ◌+◌, ◌*◌, ◌≤◌, ◌<◌, length}
use Rattle.std.proofs.Math.Path.{ap}
use Rattle.std.proofs.Common.{sym, ◌∙◌, arith, suc-mul}
use mathlib.Core.List.{List, [], ◌∷◌, map}
use Rattle.std.proofs.Math.Numerals.{add-one}
use Rattle.words.specs.Layout.{LENT, MOST-NODES}
use Rattle.model.specs.Literal.{Literal, constant_literal}
use Rattle.model.specs.Aig.{Built, new}
use Rattle.model.specs.Equivalence.{Problem, or_mismatch, compare_pairs, compare_named_state, Frames, Base, named_state_next, named_state_compared, named_state_cycle, named_state_cycles, base_start, base_query, base_preserves_named_state}
use Rattle.aig.specs.Graph.{graph_of}
use Rattle.aig.specs.Made.{Ready, Same, Made, outside, same_refl, same_trans}
use Rattle.import.specs.Importing.{beyond, same-beyond}
use Rattle.lowering.specs.Firsts.{firsts, Below, below_le}
use Rattle.unrolling.specs.Matching.{named-is}
use Rattle.unrolling.specs.Cycling.{Paired, paired_same, Standing, standing-same, frame_cost, cost_same, Startable, startable_le, FramesMade}
use Rattle.equivalence.specs.Inducing.{join_named, Matched, states-length}
use Rattle.transition.specs.declared.system.System.{System}

-- how many nodes a cycle of query 2 makes at most
abbrev pub named_cost : System → System → List ℕ → ℕ
named_cost x y w = frame_cost x y w + (4 * x.state_count + 1)

-- the model's base that arrays and words hold
abbrev pub base_of : System → System → ℕ → List ℕ → List ℕ → List ℕ → ℕ → Base
base_of x y c w gs ts m =
    record { aig = graph_of c w; gold_state = firsts x.state_count gs; gate_state = firsts y.state_count ts; comparisons = []; any_mismatch = m }

-- From a base in w one cycle of query 2 made another in w'.
pub record NamedCycled (x y : System) (ms : List ℕ) (c : ℕ) (w gs ts : List ℕ) (m c' : ℕ) (w' gs' ts' : List ℕ) (m' : ℕ) : Type 0 where
  pub ready : Ready c' w'
  pub same : Same beyond w w'
  pub within : c' ≤ c + named_cost x y w
  pub gold_state_lem : Below (c' * 2) x.state_count gs'
  pub gate_state_lem : Below (c' * 2) y.state_count ts'
  pub mismatch : m' < c' * 2
  pub is : (p : Problem) → Standing x y w p → Matched x y ms p → base_of x y c' w' gs' ts' m' ≡ named_state_cycle p (base_of x y c w gs ts m)

module _ (x y : System) (ms : List ℕ) (c : ℕ) (w gs ts : List ℕ) (m : ℕ) (s : Startable (named_cost x y w) x y c w gs ts)
    (b : Below (y.state_count + 1) x.state_count ms) (c₁ : ℕ) (w₁ : List ℕ) (l : ℕ)
    (d : Made (4 * x.state_count + 1) c w c₁ w₁ l (join_named true x.state_count ms gs ts (record { aig = graph_of c w; literal = m }))) where
  -- the frames may follow the comparison
  pub startable-named : Startable (frame_cost x y w₁) x y c₁ w₁ gs ts
  startable-named =
      record {
        paired = paired_same x y w w₁ s.paired (same-beyond d.same);
        ready = d.ready;
        room = rw (cost_same x y w w₁ s.paired (same-beyond d.same)) (omega (arith, s.room, d.within));
        gold_state_lem = below_le _ _ _ _ (omega (arith, d.grows)) s.gold_state_lem;
        gate_state_lem = below_le _ _ _ _ (omega (arith, d.grows)) s.gate_state_lem;
      }

  module _ (c' : ℕ) (w' ins go gn to tn : List ℕ) (f : FramesMade x y c₁ w₁ gs ts c' w' ins go gn to tn) where
    compared_is : (p : Problem) → Standing x y w p → Matched x y ms p
        → record { aig = graph_of c₁ w₁; literal = l } ≡ or_mismatch m (compare_named_state p (graph_of c w) (firsts x.state_count gs) (firsts y.state_count ts))
    unfolding join_named compare_named_state
    compared_is p t u =
        d.built ∙ ap (λ (ps : List (Literal × Literal)). or_mismatch m (compare_pairs (graph_of c w) ps))
        (sym (named-is x.state_count y.state_count ms gs ts p.gold.states p.gate.states b (states-length y w p.gate t.gate) u.is))

    named-cycle-is : (p : Problem) → Standing x y w p → Matched x y ms p → base_of x y c' w' gn tn l ≡ named_state_cycle p (base_of x y c w gs ts m)
    unfolding named_state_cycle named_state_compared named_state_next
    named-cycle-is p t u =
        ap (λ (g : Frames). record { aig = g.gate.aig; gold_state = g.gold.next; gate_state = g.gate.next; comparisons = []; any_mismatch = l })
        (f.is p (standing-same x y w w₁ p s.paired (same-beyond d.same) t))
        ∙ ap (λ (z : Built). named_state_compared p (base_of x y c w gs ts m) z) (compared_is p t u)

    -- one cycle
    pub named_cycled : NamedCycled x y ms c w gs ts m c' w' gn tn l
    named_cycled =
        record {
          ready = f.ready;
          same = same_trans (same-beyond d.same) f.same;
          within = omega (arith, d.within, f.within, cost_same x y w w₁ s.paired (same-beyond d.same));
          gold_state_lem = f.gold_next_lem;
          gate_state_lem = f.gate_next_lem;
          mismatch = omega (arith, d.below, f.grows);
          is = named-cycle-is;
        }

-- ---- cycle after cycle

-- With k of n cycles left, from c₀ nodes in w₀: room for those, and what is left gives what the whole gives.
pub record NamedLeft (x y : System) (ms : List ℕ) (n c₀ : ℕ) (w₀ gs₀ ts₀ : List ℕ) (m₀ k c : ℕ) (w gs ts : List ℕ) (m : ℕ) : Type 0 where
  pub startable : Startable (k * named_cost x y w) x y c w gs ts
  pub same : Same beyond w₀ w
  pub mismatch : m < c * 2
  pub is : (p : Problem) → Standing x y w₀ p → Matched x y ms p → named_state_cycles p k (base_of x y c w gs ts m) ≡ named_state_cycles p n (base_of x y c₀ w₀ gs₀ ts₀ m₀)

-- no cycle so far
pub named_none : (x y : System) (ms : List ℕ) (n c : ℕ) (w gs ts : List ℕ) (m : ℕ) → Startable (n * named_cost x y w) x y c w gs ts → m < c * 2
    → NamedLeft x y ms n c w gs ts m n c w gs ts m
named_none x y ms n c w gs ts m s b = record { startable = s; same = same_refl beyond w; mismatch = b; is = λ p t u. refl }

-- room for one cycle
pub one-named : (k : ℕ) (x y : System) (c : ℕ) (w gs ts : List ℕ) → Startable (suc k * named_cost x y w) x y c w gs ts → Startable (named_cost x y w) x y c w gs ts
one-named k x y c w gs ts s = startable_le _ _ x y c w gs ts (omega (arith, suc-mul k (named_cost x y w))) s

-- one cycle more
pub named-left-more : (x y : System) (ms : List ℕ) (n c₀ : ℕ) (w₀ gs₀ ts₀ : List ℕ) (m₀ k c : ℕ) (w gs ts : List ℕ) (m c' : ℕ) (w' gs' ts' : List ℕ) (m' : ℕ)
    → Paired x y w₀ → NamedLeft x y ms n c₀ w₀ gs₀ ts₀ m₀ (suc k) c w gs ts m → NamedCycled x y ms c w gs ts m c' w' gs' ts' m'
    → NamedLeft x y ms n c₀ w₀ gs₀ ts₀ m₀ k c' w' gs' ts' m'
unfolding named_state_cycles
named-left-more x y ms n c₀ w₀ gs₀ ts₀ m₀ k c w gs ts m c' w' gs' ts' m' q s t =
    let e : named_cost x y w' ≡ named_cost x y w = rw (cost_same x y w w' s.startable.paired t.same) in
    record {
      startable =
          record {
            paired = paired_same x y w w' s.startable.paired t.same;
            ready = t.ready;
            room = rw e (omega (arith, t.within, s.startable.room, suc-mul k (named_cost x y w)));
            gold_state_lem = t.gold_state_lem;
            gate_state_lem = t.gate_state_lem;
          };
      same = same_trans s.same t.same;
      mismatch = t.mismatch;
      is = λ p u v. ap (λ (z : Base). named_state_cycles p k z) (t.is p (standing-same x y w₀ w p q s.same u) v) ∙ s.is p u v;
    }

-- ---- the whole query

-- What query 2 asks: both sides in order, matches of gold's states, constant start literals, and room for all nodes.
pub record Preservable (x y : System) (ms gs ts : List ℕ) (depth : ℕ) (w : List ℕ) : Type 0 where
  pub long : LENT ≤ length w
  pub paired : Paired x y w
  pub matches : Below (y.state_count + 1) x.state_count ms
  pub gold_start_lem : Below 2 x.state_count gs
  pub gate_start_lem : Below 2 y.state_count ts
  pub depth_small : depth < 128
  pub room : 1 + (depth + 1) * named_cost x y w ≤ MOST-NODES

-- The start literals are those of a problem's start bits.
pub record Started (x y : System) (gs ts : List ℕ) (p : Problem) : Type 0 where
  pub gold : firsts x.state_count gs ≡ map constant_literal p.gold_start
  pub gate : firsts y.state_count ts ≡ map constant_literal p.gate_start

-- The graph and the assumption of query 2 stand in w'.
pub record Preserves (x y : System) (ms gs ts : List ℕ) (depth : ℕ) (w : List ℕ) (c : ℕ) (w' : List ℕ) (m : ℕ) : Type 0 where
  pub ready : Ready c w'
  pub small : c ≤ MOST-NODES
  pub same : Same beyond w w'
  pub mismatch : m < c * 2
  pub is : (p : Problem) → Standing x y w p → Matched x y ms p → Started x y gs ts p
      → record { aig = graph_of c w'; assumptions = m ∷ []; comparisons = [] } ≡ base_preserves_named_state p depth

module _ (x y : System) (ms gs ts : List ℕ) (depth : ℕ) (w w₁ : List ℕ) (a : Preservable x y ms gs ts depth w) (s : Same outside w w₁) (r : Ready 1 w₁) where
  -- the cycles may follow the empty graph
  pub startable-base : Startable ((depth + 1) * named_cost x y w₁) x y 1 w₁ gs ts
  startable-base =
      let e : named_cost x y w₁ ≡ named_cost x y w = rw (cost_same x y w w₁ a.paired (same-beyond s)) in
      record { paired = paired_same x y w w₁ a.paired (same-beyond s); ready = r; room = rw e a.room; gold_state_lem = a.gold_start_lem; gate_state_lem = a.gate_start_lem }

  pub preserves : (c : ℕ) (w' gs' ts' : List ℕ) (m : ℕ) → graph_of 1 w₁ ≡ new → NamedLeft x y ms (depth + 1) 1 w₁ gs ts 0 0 c w' gs' ts' m → Preserves x y ms gs ts depth w c w' m
  unfolding base_preserves_named_state base_query base_start named_state_cycles
  preserves c w' gs' ts' m e k =
      record {
        ready = k.startable.ready;
        small = omega (arith, k.startable.room);
        same = same_trans (same-beyond s) k.same;
        mismatch = k.mismatch;
        is = λ p t u v. ap base_query (rw add-one at (k.is p (standing-same x y w w₁ p a.paired (same-beyond s) t) u) ∙ start p v);
      }
    where
      start : (p : Problem) → Started x y gs ts p → named_state_cycles p (suc depth) (base_of x y 1 w₁ gs ts 0) ≡ named_state_cycles p (suc depth) (base_start p)
      start p v = ap (λ (z : Base). named_state_cycles p (suc depth) z) (rw (e, v.gold, v.gate))
