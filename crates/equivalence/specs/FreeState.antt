-- The free states of both sides, and query 3 and 4 from them. Assumes nothing.
use Rattle.std.specs.Prelude.{◌≡◌, Bool, ℕ, suc, ◌+◌, ◌*◌, ◌≤◌, ◌<◌, length}
use Rattle.std.proofs.Math.Path.{ap}
use Rattle.std.proofs.Common.{sym, ◌∙◌, arith}
use mathlib.Core.List.{List, []}
use Rattle.words.specs.Layout.{LENT, MOST-NODES}
use Rattle.model.specs.Aig.{Aig, new}
use Rattle.model.specs.Equivalence.{Problem, LiteralList, new_variables, gate_variables, Induction, free_product_state, induction_query, induction_cycles, induction_closes}
use Rattle.aig.specs.Graph.{graph_of}
use Rattle.aig.specs.Made.{Ready, Same, outside, same_trans}
use Rattle.import.specs.Importing.{beyond, same-beyond}
use Rattle.lowering.specs.Firsts.{firsts, Below, below_le}
use Rattle.unrolling.specs.Variables.{Listed, grown, new-variables}
use Rattle.unrolling.specs.Matching.{gate_by, gates_are}
use Rattle.transition.specs.Namesakes.{namesakes}
use Rattle.unrolling.specs.Cycling.{Paired, paired_same, Standing, standing-same, Startable}
use Rattle.equivalence.specs.Inducing.{states-length, Matched, cycle_cost, cycle_cost_same, Closed}
use Rattle.transition.specs.declared.system.System.{System}

-- The matches of gate's states are those of a problem.
pub record Returned (x y : System) (ms : List ℕ) (p : Problem) : Type 0 where
  pub is : firsts y.state_count ms ≡ namesakes p.gate.states p.gold.states

-- From c nodes in w free states of both sides were made, with c' nodes in w'.
pub record Freed (x y : System) (share : Bool) (ms : List ℕ) (c : ℕ) (w : List ℕ) (c' : ℕ) (w' gs ts : List ℕ) : Type 0 where
  pub ready : Ready c' w'
  pub same : Same outside w w'
  pub within : c' ≤ c + (x.state_count + y.state_count)
  pub gold_state_lem : Below (c' * 2) x.state_count gs
  pub gate_state_lem : Below (c' * 2) y.state_count ts
  pub is : graph_of c w ≡ new → (p : Problem) → Standing x y w p → Returned x y ms p
      → record { aig = graph_of c' w'; gold_state = firsts x.state_count gs; gate_state = firsts y.state_count ts; assumptions = [] } ≡ free_product_state p share

module _ (x y : System) (share : Bool) (ms : List ℕ) (c : ℕ) (w : List ℕ) (c₁ : ℕ) (w₁ gs : List ℕ) (c₂ : ℕ) (w₂ ts : List ℕ)
    (b : Below (x.state_count + 1) y.state_count ms)
    (v : Listed x.state_count c w c₁ w₁ gs (grown x.state_count (record { aig = graph_of c w; literals = [] })))
    (u : Listed y.state_count c₁ w₁ c₂ w₂ ts (gate_by y.state_count share ms gs (record { aig = graph_of c₁ w₁; literals = [] }))) where
  gold-is : graph_of c w ≡ new → (p : Problem) → Standing x y w p → record { aig = graph_of c₁ w₁; literals = firsts x.state_count gs } ≡ new_variables (record { aig = new; literals = [] }) p.gold.states
  gold-is e p t =
      v.is ∙ ap (λ (g : Aig). grown x.state_count (record { aig = g; literals = [] })) e
      ∙ rw (← states-length x w p.gold t.gold) (sym (new-variables (record { aig = new; literals = [] }) p.gold.states))

  gate-is : (p : Problem) → Standing x y w p → Returned x y ms p
      → record { aig = graph_of c₂ w₂; literals = firsts y.state_count ts }
      ≡ gate_variables share p.gold.states (firsts x.state_count gs) (record { aig = graph_of c₁ w₁; literals = [] }) p.gate.states
  gate-is p t r =
      u.is ∙ sym (gates_are y.state_count x.state_count share ms gs _ p.gold.states p.gate.states b (states-length x w p.gold t.gold) r.is)

  free-is : graph_of c w ≡ new → (p : Problem) → Standing x y w p → Returned x y ms p
      → record { aig = graph_of c₂ w₂; gold_state = firsts x.state_count gs; gate_state = firsts y.state_count ts; assumptions = [] } ≡ free_product_state p share
  unfolding free_product_state
  free-is e p t r =
      ap (λ (g : LiteralList). record { aig = g.aig; gold_state = firsts x.state_count gs; gate_state = g.literals; assumptions = [] }) (gate-is p t r)
      ∙ ap (λ (l : LiteralList). let g = gate_variables share p.gold.states l.literals (record { aig = l.aig; literals = [] }) p.gate.states in
      record { aig = g.aig; gold_state = l.literals; gate_state = g.literals; assumptions = [] }) (gold-is e p t)

  -- both sides' free states
  pub freed : Freed x y share ms c w c₂ w₂ gs ts
  freed =
      record {
        ready = u.ready;
        same = same_trans v.same u.same;
        within = omega (arith, v.within, u.within);
        gold_state_lem = below_le _ _ _ _ (omega (arith, u.grows)) v.below;
        gate_state_lem = u.below;
        is = free-is;
      }

-- The graph and assumptions of query 3 or 4 stand in w'.
pub record Induces (x y : System) (ms rs : List ℕ) (include : Bool) (depth : ℕ) (w : List ℕ) (c : ℕ) (w' hs : List ℕ) : Type 0 where
  pub ready : Ready c w'
  pub small : c ≤ MOST-NODES
  pub same : Same beyond w w'
  pub assumptions : Below (c * 2) (depth + 1) hs
  pub is : (p : Problem) → Standing x y w p → Matched x y ms p → Returned x y rs p
      → record { aig = graph_of c w'; assumptions = firsts (depth + 1) hs; comparisons = [] } ≡ induction_closes p include depth

module _ (x y : System) (rs : List ℕ) (include : Bool) (depth : ℕ) (w w₁ : List ℕ) (c₂ : ℕ) (w₂ gs ts : List ℕ) (q : Paired x y w) (s : Same outside w w₁)
    (room : 1 + (x.state_count + y.state_count) + suc depth * cycle_cost x y w ≤ MOST-NODES) (f : Freed x y include rs 1 w₁ c₂ w₂ gs ts) where
  same-free : Same beyond w w₂
  same-free = same_trans (same-beyond s) (same-beyond f.same)

  -- the cycles may follow the free states
  pub startable-free : Startable (suc depth * cycle_cost x y w₂) x y c₂ w₂ gs ts
  startable-free =
      record {
        paired = paired_same x y w w₂ q same-free;
        ready = f.ready;
        room = rw (cycle_cost_same x y w w₂ q same-free) (omega (arith, f.within));
        gold_state_lem = f.gold_state_lem;
        gate_state_lem = f.gate_state_lem;
      }

  -- the whole query
  pub induces : (ms hs₀ : List ℕ) (c : ℕ) (w' hs : List ℕ) → graph_of 1 w₁ ≡ new → Closed x y ms include depth c₂ w₂ gs ts hs₀ c w' hs → Induces x y ms rs include depth w c w' hs
  unfolding induction_closes firsts
  induces ms hs₀ c w' hs e k =
      record {
        ready = k.ready;
        small = k.small;
        same = same_trans same-free k.same;
        assumptions = k.assumptions;
        is = λ p t m r. k.is p (standing-same x y w w₂ p q same-free t) m
            ∙ ap (λ (b : Induction). induction_query (induction_cycles p include depth b)) (f.is e p (standing-same x y w w₁ p q (same-beyond s) t) r);
      }

-- What query 3 and 4 ask: both sides in order, matches of their states, and room for all nodes.
pub record Inducible (x y : System) (ms rs : List ℕ) (depth : ℕ) (w : List ℕ) : Type 0 where
  pub long : LENT ≤ length w
  pub paired : Paired x y w
  pub gold_matches : Below (y.state_count + 1) x.state_count ms
  pub gate_matches : Below (x.state_count + 1) y.state_count rs
  pub depth_small : depth < 128
  pub room : 1 + (x.state_count + y.state_count) + suc depth * cycle_cost x y w ≤ MOST-NODES
