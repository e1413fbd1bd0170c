-- Query 3 and 4: a cycle's mismatch assumed, cycle after cycle. Assumes nothing.
use Rattle.std.specs.Prelude.{◌≡◌, Bool, ℕ, suc, ◌+◌, ◌*◌, ◌≤◌, ◌<◌, length, set}
use Rattle.std.proofs.Math.Path.{refl, ap}
use Rattle.std.proofs.Common.{sym, ◌∙◌, arith, suc-mul}
use Rattle.std.proofs.Math.Bool.{true, false}
use mathlib.Core.List.{List, []}
use Rattle.std.proofs.lemmas.List.{length-map}
use Rattle.words.specs.Layout.{MOST-NODES}
use Rattle.model.specs.Literal.{Literal}
use Rattle.model.specs.Lists.{snoc}
use Rattle.model.specs.Aig.{Built, or}
use Rattle.model.specs.Transition.{StateBit, TransitionSystem}
use Rattle.model.specs.Equivalence.{Problem, or_mismatch, compare_pairs, compare_named_state, Cycle, compared_cycle, Induction, cycle_mismatch, assumed, induction_next, induction_compared, induction_cycle, induction_cycles, induction_query}
use Rattle.aig.specs.Graph.{graph_of}
use Rattle.aig.specs.Made.{Ready, Same, Made, made_none, same_refl, same_trans}
use Rattle.aig.specs.Shortcut.{negate-below}
use Rattle.import.specs.Importing.{beyond, same-beyond}
use Rattle.lowering.specs.Firsts.{firsts, firsts_more, length-firsts, pairs, Below, below_le, below_more}
use Rattle.unrolling.specs.Comparing.{made_then}
use Rattle.unrolling.specs.Matching.{named_by, named-is}
use Rattle.transition.specs.Namesakes.{namesakes}
use Rattle.transition.specs.Side.{Stands}
use Rattle.unrolling.specs.Cycling.{Paired, paired_same, Standing, standing-same, frame_cost, cost_same, Startable, startable_le, Compared}
use Rattle.transition.specs.declared.system.System.{System}

-- a mismatch joined to that of the named states where these are included
unfoldable pub join_named : Bool → ℕ → List ℕ → List ℕ → List ℕ → Built → Built
join_named true n ms gs ts b = or_mismatch b.literal (compare_pairs b.aig (named_by n ms gs ts))
join_named false n ms gs ts b = b

pub joined : (n : ℕ) (ms gs ts : List ℕ) (c₀ : ℕ) (w₀ : List ℕ) (m c : ℕ) (w : List ℕ) (d c' : ℕ) (w' : List ℕ) (l : ℕ)
    → Made (4 * n) c₀ w₀ c w d (compare_pairs (graph_of c₀ w₀) (named_by n ms gs ts)) → Made 1 c w c' w' l (or (graph_of c w) m d)
    → Made (4 * n + 1) c₀ w₀ c' w' l (join_named true n ms gs ts (record { aig = graph_of c₀ w₀; literal = m }))
unfolding join_named or_mismatch
joined n ms gs ts c₀ w₀ m c w d c' w' l s t =
    made_then (4 * n) 1 (4 * n + 1) c₀ w₀ c w d _ c' w' l (λ (b : Built). or b.aig m b.literal) (omega arith) s t

pub not_joined : (n : ℕ) (ms gs ts : List ℕ) (c : ℕ) (w : List ℕ) (m : ℕ) (include : Bool) → include ≡ false → Ready c w → m < c * 2
    → Made (4 * n + 1) c w c w m (join_named include n ms gs ts (record { aig = graph_of c w; literal = m }))
unfolding join_named
not_joined n ms gs ts c w m include e r b = rw e (made_none (4 * n + 1) c w m _ r b refl)

-- The matches of gold's states are those of a problem.
pub record Matched (x y : System) (ms : List ℕ) (p : Problem) : Type 0 where
  pub is : firsts x.state_count ms ≡ namesakes p.gold.states p.gate.states

pub states-length : (y : System) (w : List ℕ) (s : TransitionSystem) → Stands y w s → length s.states ≡ y.state_count
states-length y w s t =
    sym (length-map s.states (λ (b : StateBit). b.next)) ∙ ap length (sym t.next) ∙ length-firsts y.state_count y.next

-- how many nodes a cycle of query 3 or 4 makes at most
abbrev pub cycle_cost : System → System → List ℕ → ℕ
cycle_cost x y w = frame_cost x y w + 4 * x.output_count + (4 * x.state_count + 1)

-- the model's induction that arrays and words hold
abbrev pub induction_of : System → System → ℕ → ℕ → List ℕ → List ℕ → List ℕ → List ℕ → Induction
induction_of x y n c w gs ts hs =
    record { aig = graph_of c w; gold_state = firsts x.state_count gs; gate_state = firsts y.state_count ts; assumptions = firsts n hs }

-- From an induction with n assumptions in w one cycle made another in w'.
pub record Cycled (x y : System) (ms : List ℕ) (include last : Bool) (n c : ℕ) (w gs ts hs : List ℕ) (c' : ℕ) (w' gs' ts' hs' : List ℕ) : Type 0 where
  pub ready : Ready c' w'
  pub same : Same beyond w w'
  pub grows : c ≤ c'
  pub within : c' ≤ c + cycle_cost x y w
  pub gold_state_lem : Below (c' * 2) x.state_count gs'
  pub gate_state_lem : Below (c' * 2) y.state_count ts'
  pub assumptions : Below (c * 2) n hs → Below (c' * 2) (n + 1) hs'
  pub is : (p : Problem) → Standing x y w p → Matched x y ms p
      → induction_of x y (n + 1) c' w' gs' ts' hs' ≡ induction_cycle p include last (induction_of x y n c w gs ts hs)

module _ (x y : System) (ms : List ℕ) (include last : Bool) (n c : ℕ) (w gs ts hs : List ℕ) (c₁ : ℕ) (w₁ ins go gn to tn : List ℕ) (m : ℕ)
    (q : Paired x y w) (b : Below (y.state_count + 1) x.state_count ms) (k : Compared x y c w gs ts c₁ w₁ ins go gn to tn m)
    (c' : ℕ) (w' : List ℕ) (l : ℕ) (d : Made (4 * x.state_count + 1) c₁ w₁ c' w' l (join_named include x.state_count ms gs ts (record { aig = graph_of c₁ w₁; literal = m })))
    (h : ℕ) (e : h ≡ assumed last l) (long : n < length hs) where
  -- the model's mismatch of the cycle
  mismatch_is : (p : Problem) → Standing x y w p → Matched x y ms p
      → record { aig = graph_of c' w'; literal = l } ≡ cycle_mismatch p include (induction_of x y n c w gs ts hs) (compared_cycle p (graph_of c w) (firsts x.state_count gs) (firsts y.state_count ts))
  unfolding cycle_mismatch join_named compare_named_state
  mismatch_is p t u =
      d.built ∙ go' include ∙ ap (λ (z : Cycle). cycle_mismatch p include (induction_of x y n c w gs ts hs) z) (k.is p t)
    where
      go' : (i : Bool) → join_named i x.state_count ms gs ts (record { aig = graph_of c₁ w₁; literal = m })
          ≡ cycle_mismatch p i (induction_of x y n c w gs ts hs) (record {
            aig = graph_of c₁ w₁;
            gold_next = firsts x.state_count gn;
            gate_next = firsts y.state_count tn;
            comparison = record { inputs = firsts x.input_count ins; outputs = pairs x.output_count go to; mismatch = m };
          })
      go' false = refl
      go' true =
          ap (λ (ps : List (Literal × Literal)). or_mismatch m (compare_pairs (graph_of c₁ w₁) ps))
          (sym (named-is x.state_count y.state_count ms gs ts p.gold.states p.gate.states b (states-length y w p.gate t.gate) u.is))

  assumed-below : h < c' * 2
  unfolding assumed
  assumed-below = rw e (go' last)
    where
      go' : (z : Bool) → assumed z l < c' * 2
      go' true = d.below
      go' false = negate-below l c' d.below

  cycle-is : (p : Problem) → Standing x y w p → Matched x y ms p
      → induction_of x y (n + 1) c' w' gn tn (set hs n h) ≡ induction_cycle p include last (induction_of x y n c w gs ts hs)
  unfolding induction_cycle induction_compared induction_next
  cycle-is p t u =
      ap (λ (as' : List ℕ). record { aig = graph_of c' w'; gold_state = firsts x.state_count gn; gate_state = firsts y.state_count tn; assumptions = as' })
      (firsts_more n hs h long ∙ ap (λ (z : ℕ). snoc (firsts n hs) z) e)
      ∙ ap (λ (z : Built). record { aig = z.aig; gold_state = firsts x.state_count gn; gate_state = firsts y.state_count tn; assumptions = snoc (firsts n hs) (assumed last z.literal) }) (mismatch_is p t u)
      ∙ ap (λ (z : Cycle). record {
        aig = (cycle_mismatch p include (induction_of x y n c w gs ts hs) (compared_cycle p (graph_of c w) (firsts x.state_count gs) (firsts y.state_count ts))).aig;
        gold_state = z.gold_next;
        gate_state = z.gate_next;
        assumptions = snoc (firsts n hs) (assumed last (cycle_mismatch p include (induction_of x y n c w gs ts hs) (compared_cycle p (graph_of c w) (firsts x.state_count gs) (firsts y.state_count ts))).literal);
      }) (k.is p t)

  -- one cycle
  pub cycled : Cycled x y ms include last n c w gs ts hs c' w' gn tn (set hs n h)
  cycled =
      record {
        ready = d.ready;
        same = same_trans k.same (same-beyond d.same);
        grows = omega (arith, k.grows, d.grows);
        within = omega (arith, k.within, d.within);
        gold_state_lem = below_le _ _ _ _ (omega (arith, d.grows)) k.gold_next_lem;
        gate_state_lem = below_le _ _ _ _ (omega (arith, d.grows)) k.gate_next_lem;
        assumptions = λ a. below_more (c * 2) (c' * 2) n hs h (omega (arith, k.grows, d.grows)) long assumed-below a;
        is = cycle-is;
      }

-- ---- cycle after cycle

-- After i of `depth` cycles, of which k are left, from c₀ nodes in w₀: room for those and the last one, and what is left gives what the whole gives.
pub record Induced (x y : System) (ms : List ℕ) (include : Bool) (depth c₀ : ℕ) (w₀ gs₀ ts₀ hs₀ : List ℕ) (i k c : ℕ) (w gs ts hs : List ℕ) : Type 0 where
  pub startable : Startable (suc k * cycle_cost x y w) x y c w gs ts
  pub same : Same beyond w₀ w
  pub assumptions : Below (c * 2) i hs
  pub is : (p : Problem) → Standing x y w₀ p → Matched x y ms p
      → induction_cycles p include k (induction_of x y i c w gs ts hs) ≡ induction_cycles p include depth (induction_of x y 0 c₀ w₀ gs₀ ts₀ hs₀)

-- no cycle so far
pub induced_none : (x y : System) (ms : List ℕ) (include : Bool) (depth c : ℕ) (w gs ts hs : List ℕ) → Startable (suc depth * cycle_cost x y w) x y c w gs ts
    → Induced x y ms include depth c w gs ts hs 0 depth c w gs ts hs
induced_none x y ms include depth c w gs ts hs s =
    record { startable = s; same = same_refl beyond w; assumptions = record { at = λ i h. absurd (omega arith) }; is = λ p t u. refl }

pub cycle_cost_same : (x y : System) (w w' : List ℕ) → Paired x y w → Same beyond w w' → cycle_cost x y w' ≡ cycle_cost x y w
cycle_cost_same x y w w' p s = rw (cost_same x y w w' p s)

-- room for one cycle
pub one-cycle : (k : ℕ) (x y : System) (c : ℕ) (w gs ts : List ℕ) → Startable (suc k * cycle_cost x y w) x y c w gs ts → Startable (cycle_cost x y w) x y c w gs ts
one-cycle k x y c w gs ts s = startable_le _ _ x y c w gs ts (omega (arith, suc-mul k (cycle_cost x y w))) s

-- one cycle more
pub induced_more : (x y : System) (ms : List ℕ) (include : Bool) (depth c₀ : ℕ) (w₀ gs₀ ts₀ hs₀ : List ℕ) (i k c : ℕ) (w gs ts hs : List ℕ) (c' : ℕ) (w' gs' ts' hs' : List ℕ)
    → Paired x y w₀ → Induced x y ms include depth c₀ w₀ gs₀ ts₀ hs₀ i (suc k) c w gs ts hs → Cycled x y ms include false i c w gs ts hs c' w' gs' ts' hs'
    → Induced x y ms include depth c₀ w₀ gs₀ ts₀ hs₀ (i + 1) k c' w' gs' ts' hs'
unfolding induction_cycles
induced_more x y ms include depth c₀ w₀ gs₀ ts₀ hs₀ i k c w gs ts hs c' w' gs' ts' hs' q s t =
    let cost = cycle_cost x y w in
    record {
      startable =
          record {
            paired = paired_same x y w w' s.startable.paired t.same;
            ready = t.ready;
            room = rw (cycle_cost_same x y w w' s.startable.paired t.same) (omega (arith, t.within, s.startable.room, suc-mul (suc k) cost));
            gold_state_lem = t.gold_state_lem;
            gate_state_lem = t.gate_state_lem;
          };
      same = same_trans s.same t.same;
      assumptions = t.assumptions s.assumptions;
      is = λ p u v. ap (λ (b : Induction). induction_cycles p include k b) (t.is p (standing-same x y w₀ w p q s.same u) v) ∙ s.is p u v;
    }

-- The query of an induction from c₀ nodes in w₀ stands in w: the model's graph and assumptions.
pub record Closed (x y : System) (ms : List ℕ) (include : Bool) (depth c₀ : ℕ) (w₀ gs₀ ts₀ hs₀ : List ℕ) (c : ℕ) (w hs : List ℕ) : Type 0 where
  pub ready : Ready c w
  pub small : c ≤ MOST-NODES
  pub same : Same beyond w₀ w
  pub assumptions : Below (c * 2) (depth + 1) hs
  pub is : (p : Problem) → Standing x y w₀ p → Matched x y ms p
      → record { aig = graph_of c w; assumptions = firsts (depth + 1) hs; comparisons = [] } ≡ induction_query (induction_cycles p include depth (induction_of x y 0 c₀ w₀ gs₀ ts₀ hs₀))

-- the last cycle
pub closed : (x y : System) (ms : List ℕ) (include : Bool) (depth c₀ : ℕ) (w₀ gs₀ ts₀ hs₀ : List ℕ) (c : ℕ) (w gs ts hs : List ℕ) (c' : ℕ) (w' gs' ts' hs' : List ℕ)
    → Paired x y w₀ → Induced x y ms include depth c₀ w₀ gs₀ ts₀ hs₀ depth 0 c w gs ts hs → Cycled x y ms include true depth c w gs ts hs c' w' gs' ts' hs'
    → Closed x y ms include depth c₀ w₀ gs₀ ts₀ hs₀ c' w' hs'
unfolding induction_cycles induction_query
closed x y ms include depth c₀ w₀ gs₀ ts₀ hs₀ c w gs ts hs c' w' gs' ts' hs' q s t =
    record {
      ready = t.ready;
      small = omega (arith, t.within, (one-cycle 0 x y c w gs ts s.startable).room);
      same = same_trans s.same t.same;
      assumptions = t.assumptions s.assumptions;
      is = λ p u v. ap (λ (b : Induction). record { aig = b.aig; assumptions = b.assumptions; comparisons = [] }) (t.is p (standing-same x y w₀ w p q s.same u) v ∙ s.is p u v);
    }
