-- Query 1: the outputs compared in each cycle from the start bits, cycle after cycle. Assumes nothing.
use Rattle.std.specs.Prelude.{◌≡◌, refl, ℕ, suc, ◌+◌, ◌*◌, ◌≤◌, ◌<◌, length}
use Rattle.std.proofs.Math.Path.{ap, ap₂}
use Rattle.std.proofs.Common.{◌∙◌, arith, suc-mul}
use mathlib.Core.List.{List, [], ◌∷◌}
use Rattle.std.proofs.Math.Numerals.{add-one}
use Rattle.words.specs.Layout.{LENT, MOST-NODES, FRAMES}
use Rattle.words.specs.Region.{region}
use Rattle.model.specs.Lists.{snoc}
use Rattle.model.specs.Aig.{Aig, Built, new, or}
use Rattle.model.specs.Equivalence.{Problem, FrameComparison, Cycle, Base, base_start, base_query, counterexample_next, counterexample_compared, counterexample_cycle, counterexample_cycles, base_counterexample}
use Rattle.aig.specs.Graph.{graph_of}
use Rattle.aig.specs.Made.{Ready, Same, Made, outside, same_refl, same_trans}
use Rattle.import.specs.Importing.{beyond, same-beyond}
use Rattle.lowering.specs.Firsts.{firsts, pairs, Below, below_le}
use Rattle.equivalence.specs.Frames.{comparisons_of, beyond_frames}
use Rattle.equivalence.specs.Rows.{off_beyond, beyond_frames_lem, untouched_frames, off_graph, off_ready, KeptComparison, comparisons-more}
use Rattle.unrolling.specs.Cycling.{Paired, paired-kept, paired_same, Standing, standing-kept, standing-same, frame_cost, cost_kept, cost_same, Startable, startable_le, Compared}
use Rattle.equivalence.specs.NamedState.{Started}
use Rattle.transition.specs.declared.system.System.{System}

-- how many nodes a cycle of query 1 makes at most
abbrev pub compared_cost : System → System → List ℕ → ℕ
compared_cost x y w = frame_cost x y w + 4 * x.output_count + 1

-- the model's base that arrays and words hold after n cycles
abbrev pub base_after : System → System → ℕ → ℕ → List ℕ → List ℕ → List ℕ → ℕ → Base
base_after x y n c w gs ts m =
    record {
      aig = graph_of c w;
      gold_state = firsts x.state_count gs;
      gate_state = firsts y.state_count ts;
      comparisons = comparisons_of x.input_count x.output_count n (region FRAMES w);
      any_mismatch = m;
    }

-- From a base after n cycles in w one cycle of query 1 made another in w'.
pub record ComparedNext (x y : System) (n c : ℕ) (w gs ts : List ℕ) (m c' : ℕ) (w' gs' ts' : List ℕ) (m' : ℕ) : Type 0 where
  pub ready : Ready c' w'
  pub same : Same beyond_frames w w'
  pub within : c' ≤ c + compared_cost x y w
  pub gold_state_lem : Below (c' * 2) x.state_count gs'
  pub gate_state_lem : Below (c' * 2) y.state_count ts'
  pub mismatch : m' < c' * 2
  pub is : (p : Problem) → Standing x y w p → base_after x y (n + 1) c' w' gs' ts' m' ≡ counterexample_cycle p (base_after x y n c w gs ts m)

module _ (x y : System) (n c : ℕ) (w gs ts : List ℕ) (m : ℕ) (s : Startable (compared_cost x y w) x y c w gs ts)
    (c₁ : ℕ) (w₁ ins go gn to tn : List ℕ) (d : ℕ) (k : Compared x y c w gs ts c₁ w₁ ins go gn to tn d)
    (c₂ : ℕ) (w₂ : List ℕ) (l : ℕ) (o : Made 1 c₁ w₁ c₂ w₂ l (or (graph_of c₁ w₁) m d))
    (w' : List ℕ) (r : KeptComparison x.input_count x.output_count n ins go to d w₂ w') where
  same-made : Same beyond w w₂
  same-made = same_trans k.same (same-beyond o.same)

  -- the comparison that the cycle made
  abbrev made : FrameComparison
  made = record { inputs = firsts x.input_count ins; outputs = pairs x.output_count go to; mismatch = d }

  comparisons_are : comparisons_of x.input_count x.output_count (n + 1) (region FRAMES w')
      ≡ snoc (comparisons_of x.input_count x.output_count n (region FRAMES w)) made
  comparisons_are =
      rw (← same-made.at FRAMES refl)
      (comparisons-more x.input_count x.output_count n ins go to d w₂ w' s.paired.gold.input_count_lem s.paired.gold.output_count_lem r)

  next-is : (p : Problem) → Standing x y w p → base_after x y (n + 1) c₂ w' gn tn l ≡ counterexample_cycle p (base_after x y n c w gs ts m)
  unfolding counterexample_cycle counterexample_compared counterexample_next
  next-is p t =
      ap₂ (λ (g : Aig) (cs : List FrameComparison). record { aig = g; gold_state = firsts x.state_count gn; gate_state = firsts y.state_count tn; comparisons = cs; any_mismatch = l })
      (off_graph c₂ w₂ w' r.same) comparisons_are
      ∙ ap (λ (b : Built). record {
        aig = b.aig;
        gold_state = firsts x.state_count gn;
        gate_state = firsts y.state_count tn;
        comparisons = snoc (comparisons_of x.input_count x.output_count n (region FRAMES w)) made;
        any_mismatch = b.literal;
      }) o.built
      ∙ ap (λ (z : Cycle). counterexample_compared (base_after x y n c w gs ts m) z) (k.is p t)

  -- one cycle
  pub compared_next : ComparedNext x y n c w gs ts m c₂ w' gn tn l
  compared_next =
      record {
        ready = off_ready c₂ w₂ w' r.long r.same o.ready;
        same = same_trans (beyond_frames_lem same-made) (off_beyond r.same);
        within = omega (arith, k.within, o.within);
        gold_state_lem = below_le _ _ _ _ (omega (arith, o.grows)) k.gold_next_lem;
        gate_state_lem = below_le _ _ _ _ (omega (arith, o.grows)) k.gate_next_lem;
        mismatch = o.below;
        is = next-is;
      }

-- ---- cycle after cycle

-- After i of n cycles, of which k are left, from c₀ nodes in w₀: room for those, and what is left gives what the whole gives.
pub record ComparedLeft (x y : System) (n c₀ : ℕ) (w₀ gs₀ ts₀ : List ℕ) (m₀ i k c : ℕ) (w gs ts : List ℕ) (m : ℕ) : Type 0 where
  pub startable : Startable (k * compared_cost x y w) x y c w gs ts
  pub same : Same beyond_frames w₀ w
  pub mismatch : m < c * 2
  pub is : (p : Problem) → Standing x y w₀ p → counterexample_cycles p k (base_after x y i c w gs ts m) ≡ counterexample_cycles p n (base_after x y 0 c₀ w₀ gs₀ ts₀ m₀)

-- no cycle so far
pub compared_none : (x y : System) (n c : ℕ) (w gs ts : List ℕ) (m : ℕ) → Startable (n * compared_cost x y w) x y c w gs ts → m < c * 2
    → ComparedLeft x y n c w gs ts m 0 n c w gs ts m
compared_none x y n c w gs ts m s b =
    record {
      startable = s;
      same = same_refl beyond_frames w;
      mismatch = b;
      is = λ p t. refl;
    }

-- room for one cycle
pub one_compared : (k : ℕ) (x y : System) (c : ℕ) (w gs ts : List ℕ) → Startable (suc k * compared_cost x y w) x y c w gs ts → Startable (compared_cost x y w) x y c w gs ts
one_compared k x y c w gs ts s = startable_le _ _ x y c w gs ts (omega (arith, suc-mul k (compared_cost x y w))) s

-- one cycle more
pub compared_left-more : (x y : System) (n c₀ : ℕ) (w₀ gs₀ ts₀ : List ℕ) (m₀ i k c : ℕ) (w gs ts : List ℕ) (m c' : ℕ) (w' gs' ts' : List ℕ) (m' : ℕ)
    → Paired x y w₀ → ComparedLeft x y n c₀ w₀ gs₀ ts₀ m₀ i (suc k) c w gs ts m → ComparedNext x y i c w gs ts m c' w' gs' ts' m'
    → ComparedLeft x y n c₀ w₀ gs₀ ts₀ m₀ (i + 1) k c' w' gs' ts' m'
unfolding counterexample_cycles
compared_left-more x y n c₀ w₀ gs₀ ts₀ m₀ i k c w gs ts m c' w' gs' ts' m' q s t =
    let e : compared_cost x y w' ≡ compared_cost x y w = rw (cost_kept x y w w' s.startable.paired (untouched_frames t.same)) in
    record {
      startable =
          record {
            paired = paired-kept x y w w' s.startable.paired (untouched_frames t.same);
            ready = t.ready;
            room = rw e (omega (arith, t.within, s.startable.room, suc-mul k (compared_cost x y w)));
            gold_state_lem = t.gold_state_lem;
            gate_state_lem = t.gate_state_lem;
          };
      same = same_trans s.same t.same;
      mismatch = t.mismatch;
      is = λ p u. ap (λ (z : Base). counterexample_cycles p k z) (t.is p (standing-kept x y w₀ w p q (untouched_frames s.same) u)) ∙ s.is p u;
    }

-- ---- the whole query

-- What query 1 asks: both sides in order, constant start literals, room for all nodes and for a row of each cycle.
pub record Comparable (x y : System) (gs ts : List ℕ) (depth : ℕ) (w : List ℕ) : Type 0 where
  pub long : LENT ≤ length w
  pub paired : Paired x y w
  pub gold_start_lem : Below 2 x.state_count gs
  pub gate_start_lem : Below 2 y.state_count ts
  pub depth_small : depth ≤ 64
  pub room : 1 + suc depth * compared_cost x y w ≤ MOST-NODES

-- The graph, the assumption and the comparisons of query 1 stand in w'.
pub record Compares (x y : System) (gs ts : List ℕ) (depth : ℕ) (w : List ℕ) (c : ℕ) (w' : List ℕ) (m : ℕ) : Type 0 where
  pub ready : Ready c w'
  pub small : c ≤ MOST-NODES
  pub same : Same beyond_frames w w'
  pub mismatch : m < c * 2
  pub is : (p : Problem) → Standing x y w p → Started x y gs ts p
      → record { aig = graph_of c w'; assumptions = m ∷ []; comparisons = comparisons_of x.input_count x.output_count (depth + 1) (region FRAMES w') }
      ≡ base_counterexample p depth

module _ (x y : System) (gs ts : List ℕ) (depth : ℕ) (w w₁ : List ℕ) (a : Comparable x y gs ts depth w) (s : Same outside w w₁) (r : Ready 1 w₁) where
  -- the cycles may follow the empty graph
  pub startable_compared : Startable ((depth + 1) * compared_cost x y w₁) x y 1 w₁ gs ts
  startable_compared =
      let e : compared_cost x y w₁ ≡ compared_cost x y w = rw (cost_same x y w w₁ a.paired (same-beyond s)) in
      record { paired = paired_same x y w w₁ a.paired (same-beyond s); ready = r; room = rw (e, add-one depth) a.room; gold_state_lem = a.gold_start_lem; gate_state_lem = a.gate_start_lem }

  pub compares : (c : ℕ) (w' gs' ts' : List ℕ) (m : ℕ) → graph_of 1 w₁ ≡ new → ComparedLeft x y (depth + 1) 1 w₁ gs ts 0 (depth + 1) 0 c w' gs' ts' m → Compares x y gs ts depth w c w' m
  unfolding base_counterexample base_query base_start counterexample_cycles comparisons_of
  compares c w' gs' ts' m e k =
      record {
        ready = k.startable.ready;
        small = omega (arith, k.startable.room);
        same = same_trans (beyond_frames_lem (same-beyond s)) k.same;
        mismatch = k.mismatch;
        is = λ p t v. ap base_query (k.is p (standing-same x y w w₁ p a.paired (same-beyond s) t) ∙ start p v);
      }
    where
      start : (p : Problem) → Started x y gs ts p → counterexample_cycles p (depth + 1) (base_after x y 0 1 w₁ gs ts 0) ≡ counterexample_cycles p (suc depth) (base_start p)
      start p v = rw add-one (ap (λ (z : Base). counterexample_cycles p (suc depth) z) (rw (e, v.gold, v.gate)))
