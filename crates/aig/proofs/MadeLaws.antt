-- A new variable, a new conjunction and the empty graph are made as `Made` says. Assumes nothing.
use Rattle.std.specs.Prelude.{◌≡◌, List, ℕ, zero, suc, ◌+◌, ◌*◌, ◌≤◌, ◌<◌, length}
use Rattle.std.proofs.Math.Path.{refl, ap}
use Rattle.std.proofs.Common.{◌∙◌, arith}
use Rattle.std.proofs.Math.Option.{none}
use Rattle.words.specs.Layout.{LENT, SMALL, DOUBLE, MOST-NODES, GRAPH-LHS, GRAPH-RHS, AND-NEXT, AND-HEADS}
use Rattle.words.specs.Region.{region, stores, length-region, length-stored}
use Rattle.model.specs.Lists.{snoc}
use Rattle.model.specs.Aig.{Node, Variable, And, new, variable, and_found}
use Rattle.aig.specs.Graph.{node_of, nodes_of, graph_at, graph_of, nodes-more, length-graph, Ascending}
use Rattle.aig.specs.Index.{Indexed, last_and, indexed_leaf, indexed-and}
use Rattle.aig.specs.Made.{outside, outside_parts, Same, Ready, Made, pushed_leaf, pushed_and}

-- the four lengths that a store needs
long-graph : (w : List ℕ) → LENT ≤ length w → (length (region GRAPH-LHS w) ≡ SMALL) × (length (region GRAPH-RHS w) ≡ SMALL) × (length (region AND-NEXT w) ≡ SMALL) × (length (region AND-HEADS w) ≡ DOUBLE)
long-graph w h = (length-region GRAPH-LHS w (omega arith), length-region GRAPH-RHS w (omega arith), length-region AND-NEXT w (omega arith), length-region AND-HEADS w (omega arith))

variable_of : (i : ℕ) → 0 < i → node_of i 0 0 ≡ Variable i
unfolding node_of
variable_of zero h = absurd (omega arith)
variable_of (suc i) h = refl

and_of : (i l r : ℕ) → 0 < i → 0 < r → node_of i l r ≡ And l r
unfolding node_of
and_of zero l r h k = absurd (omega arith)
and_of (suc i) l zero h k = absurd (omega arith)
and_of (suc i) l (suc r) h k = refl

module _ (n : ℕ) (w : List ℕ) (ready : Ready n w) (room : n < MOST-NODES) where
  graph-variable : graph_of (n + 1) (pushed_leaf w n) ≡ snoc (graph_of n w) (Variable n)
  unfolding graph_at
  graph-variable =
      let s = long-graph w ready.long in
      simp stores (nodes-more n (region GRAPH-LHS w) (region GRAPH-RHS w) 0 0 (omega arith) (omega arith)
      ∙ ap (λ (x : Node). snoc (nodes_of n (region GRAPH-LHS w) (region GRAPH-RHS w)) x) (variable_of n ready.positive))

  ready-variable : Ready (n + 1) (pushed_leaf w n)
  ready-variable =
      let s = long-graph w ready.long in
      record {
        positive = omega arith;
        long = simp length-stored ready.long;
        indexed = simp stores (indexed_leaf n _ _ _ _ ready.indexed (omega arith) (omega arith) (omega arith));
      }

  -- a new variable
  pub made-variable : Made 1 n w (n + 1) (pushed_leaf w n) (n * 2) (variable (graph_of n w))
  unfolding variable
  made-variable =
      record {
        built = rw (graph-variable, length-graph);
        ready = ready-variable;
        same = record { at = λ b e. let q = outside_parts b e in simp (stores, q.0, q.1, q.3) };
        grows = omega arith;
        within = omega arith;
        below = omega arith;
      }

  module _ (l r : ℕ) (up : Ascending l r) (hl : l < n * 2) (hr : r < n * 2) where
    h0 : 0 < r
    h0 = omega (arith, up.1)

    graph-and : graph_of (n + 1) (pushed_and w n l r) ≡ snoc (graph_of n w) (And l r)
    unfolding graph_at
    graph-and =
        let s = long-graph w ready.long in
        simp stores (nodes-more n (region GRAPH-LHS w) (region GRAPH-RHS w) l r (omega arith) (omega arith)
        ∙ ap (λ (x : Node). snoc (nodes_of n (region GRAPH-LHS w) (region GRAPH-RHS w)) x) (and_of n l r ready.positive h0))

    ready-and : last_and (region GRAPH-LHS w) (region GRAPH-RHS w) l r n ≡ 0 → Ready (n + 1) (pushed_and w n l r)
    ready-and fresh =
        let s = long-graph w ready.long in
        record {
          positive = omega arith;
          long = simp length-stored ready.long;
          indexed = simp stores (indexed-and n _ _ _ _ ready.indexed (omega arith) (omega arith) (omega arith) l r (omega arith) up hl hr fresh);
        }

    -- a new conjunction
    pub made-and : last_and (region GRAPH-LHS w) (region GRAPH-RHS w) l r n ≡ 0 → Made 1 n w (n + 1) (pushed_and w n l r) (n * 2) (and_found (graph_of n w) l r none)
    unfolding and_found
    made-and fresh =
        record {
          built = rw (graph-and, length-graph);
          ready = ready-and fresh;
          same = record { at = λ b e. let q = outside_parts b e in simp (stores, q.0, q.1, q.2, q.3) };
          grows = omega arith;
          within = omega arith;
          below = omega arith;
        }

-- ---- the empty graph

-- no node, no chain
none-indexed : (ls rs ns hs : List ℕ) → Indexed 0 ls rs ns hs
none-indexed ls rs ns hs =
    record {
      heads = λ r h k. absurd (omega arith);
      nexts = λ i h k. absurd (omega arith);
      once = λ i h k. absurd (omega arith);
      ordered = record { at = λ i h k. absurd (omega arith) };
      gates = λ i h k. absurd (omega arith);
    }

module _ (w : List ℕ) (long : LENT ≤ length w) where
  -- the graph is node 0 alone
  pub graph-new : graph_of 1 (pushed_leaf w 0) ≡ new
  unfolding graph_at nodes_of node_of new snoc
  graph-new = refl

  -- and the words are ready for it
  pub ready-new : Ready 1 (pushed_leaf w 0)
  ready-new =
      let s = long-graph w long in
      record {
        positive = omega arith;
        long = simp length-stored long;
        indexed = simp stores (indexed_leaf 0 (region GRAPH-LHS w) (region GRAPH-RHS w) (region AND-NEXT w) (region AND-HEADS w) (none-indexed _ _ _ _) (omega arith) (omega arith) (omega arith));
      }

  pub same_new : Same outside w (pushed_leaf w 0)
  same_new = record { at = λ b e. let q = outside_parts b e in simp (stores, q.0, q.1, q.3) }
