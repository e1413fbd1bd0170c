-- The graph that the operations of aig leave in lent words is one that a search may be asked. Assumes nothing.
use Rattle.std.specs.Prelude.{◌≡◌, refl, List, ℕ, zero, suc, ◌<◌, eqb, Bool, true, false, get_or}
use Rattle.std.proofs.Common.{arith, eqb-true}
use Rattle.std.proofs.lemmas.Bool.{eqb-false}
use Rattle.std.proofs.Math.ListN.{get_or-append}
use Rattle.std.proofs.lemmas.List.{get_or_at}
use Rattle.words.specs.Layout.{GRAPH-LHS, GRAPH-RHS}
use Rattle.words.specs.Region.{region}
use Rattle.model.specs.Lists.{snoc}
use Rattle.model.specs.Aig.{Constant}
use Rattle.aig.specs.Graph.{node_of, nodes_of, graph_at, graph_of, length-nodes, length-graph}
use Rattle.aig.specs.Made.{Ready}
use Rattle.clauses.specs.State.{Gates, Holds}
use Rattle.clauses.specs.State as Watches

-- a node past the first is the same in both readings of its two words
node-same : (i l r : ℕ) → 0 < i → node_of i l r ≡ Watches.node_of i l r
unfolding node_of Watches.node_of
node-same zero l r h = absurd (omega arith)
node-same (suc i) l zero h = refl
node-same (suc i) l (suc r) h = refl

node_at : (n : ℕ) (ls rs : List ℕ) (i : ℕ) → i < n → get_or (nodes_of n ls rs) i Constant ≡ node_of i (get_or ls i 0) (get_or rs i 0)
unfolding nodes_of snoc
node_at zero ls rs i h = absurd (omega arith)
node_at (suc n) ls rs i h = go (λ k. node_at n ls rs i k) (eqb i n) refl
  where
    go : (i < n → get_or (nodes_of n ls rs) i Constant ≡ node_of i (get_or ls i 0) (get_or rs i 0)) → (t : Bool) → eqb i n ≡ t
        → get_or (snoc (nodes_of n ls rs) (node_of n (get_or ls n 0) (get_or rs n 0))) i Constant ≡ node_of i (get_or ls i 0) (get_or rs i 0)
    go f true e = rw (eqb-true i n e) (get_or_at (nodes_of n ls rs) (node_of n (get_or ls n 0) (get_or rs n 0)) _ Constant n (length-nodes n ls rs))
    go f false e =
        let k : i < n = omega (arith, eqb-false i n e) in
        rw (get_or-append (nodes_of n ls rs) _ Constant i (omega (arith, length-nodes n ls rs))) (f k)

-- the words hold their graph
pub holds-ready : (n : ℕ) (w : List ℕ) → Holds n w (graph_of n w)
unfolding graph_at
holds-ready n w =
    record {
      size = length-graph n w;
      at = λ i h k. rw (node_at n (region GRAPH-LHS w) (region GRAPH-RHS w) i k) (node-same i (get_or (region GRAPH-LHS w) i 0) (get_or (region GRAPH-RHS w) i 0) h);
    }

-- and its conjunctions are gates whose operands ascend
pub gates-ready : (n : ℕ) (w : List ℕ) → Ready n w → Gates n w
gates-ready n w r =
    record {
      at = λ i h k e.
          let g = r.indexed.gates i k e in
          let o = r.indexed.ordered.at i k e in
          (g.0, g.1, omega (arith, o.1));
    }
