-- The clauses of a conjunction added one after another. Assumes nothing.
use Rattle.std.specs.Prelude.{◌≡◌, List, [], ◌∷◌, Float, length, get_or, drop}
use Rattle.std.proofs.Math.Path.{refl}
use Rattle.std.proofs.Common.{ap, sym, ◌∙◌, arith, add-one, drop_of_length-le, drop-cons}
use Prim.Native.Nat.{ℕ, zero, suc, ◌+◌, ◌-◌, ◌*◌, ◌/◌, ◌<◌, ◌≤◌}
use Rattle.words.specs.Layout.{GRAPH-LHS, GRAPH-RHS}
use Rattle.words.specs.Region.{region}
use Rattle.laws.specs.Graph.Values.{node-negate}
use Rattle.literals.specs.LiteralLaws.{negate-even}
use Rattle.model.specs.Literal as Literals
use Rattle.model.specs.Literal.{negate}
use Rattle.model.specs.Sat as Sat
use Rattle.model.specs.Sat.{Solver}
use Rattle.model.specs.Aig.{Node, Constant, And}
use Rattle.assignment.specs.ScoreLaws.{others-both}
use Rattle.assignment.specs.StateLaws.{unchanged_none, unchanged_both}
use Rattle.assignment.specs.declared.state.Trail.{Trail}
use Rattle.clauses.specs.declared.state.Store.{Store}
use Rattle.clauses.specs.State.{solver_of, scored, AddedList, Room, Roomy, Sorted, Grows, GateOf, Holds, node_of, node_in, add_regions}
use Rattle.clauses.specs.EncodeLaws.{two-clause, three-clause}
use Rattle.clauses.specs.PoolLaws.{sorted-two, sorted-three}

-- the negation of a literal has the same variable
negate-half : (l : ℕ) → negate l / 2 ≡ l / 2
unfolding Literals.node
negate-half l = node-negate l

module _ (m : Store) (t : Trail) (w : List ℕ) (x : List Float) (out lhs rhs : ℕ) (r : Roomy m t w x 3 7) (g : GateOf t out lhs rhs) (n : ℕ) (d : n ≡ negate out) where
  one_more : n ≡ out + 1
  one_more = d ∙ negate-even out g.even

  pub first-asked : Room m t w x 2 × Sorted (t.variables * 2) (lhs ∷ n ∷ [])
  unfolding Literals.node
  first-asked = (
    record { sound = r.sound; clauses = omega (arith, r.clauses); literals = omega (arith, r.literals); scores = r.scores },
    sorted-two (t.variables * 2) lhs n (omega (arith, g.ascending, g.before, one_more)) (omega (arith, g.even, g.within, one_more)),
  )

  module _ (m1 : Store) (w1 : List ℕ) (x1 : List Float) (a : AddedList m t w x (lhs ∷ n ∷ []) m1 w1 x1) where
    pub second-asked : Room m1 t w1 x1 2 × Sorted (t.variables * 2) (rhs ∷ n ∷ [])
    unfolding Literals.node
    second-asked = (
      record { sound = a.sound; clauses = omega (arith, r.clauses, a.clauses); literals = omega (arith, r.literals, a.literals); scores = omega (arith, r.scores, a.others.long) },
      sorted-two (t.variables * 2) rhs n (omega (arith, g.before, one_more)) (omega (arith, g.even, g.within, one_more)),
    )

    module _ (m2 : Store) (w2 : List ℕ) (x2 : List Float) (b : AddedList m1 t w1 x1 (rhs ∷ n ∷ []) m2 w2 x2) where
      pub third-asked : (p q : ℕ) → p ≡ negate lhs → q ≡ negate rhs
          → Room m2 t w2 x2 3 × Sorted (t.variables * 2) (p ∷ q ∷ out ∷ [])
      unfolding Literals.node
      third-asked p q e f = (
        record { sound = b.sound; clauses = omega (arith, r.clauses, a.clauses, b.clauses); literals = omega (arith, r.literals, a.literals, b.literals); scores = omega (arith, r.scores, a.others.long, b.others.long) },
        sorted-three (t.variables * 2) p q out (rw (e, f) (omega (arith, g.ascending, negate-half lhs, negate-half rhs))) (rw f (omega (arith, g.before, negate-half rhs))) g.within,
      )

      module _ (p q : ℕ) (e : p ≡ negate lhs) (f : q ≡ negate rhs) (m3 : Store) (w3 : List ℕ) (x3 : List Float) (c : AddedList m2 t w2 x2 (p ∷ q ∷ out ∷ []) m3 w3 x3) where
        pub gate_added : Grows m t w x 3 7 m3 w3 x3
            × ((s : Solver) → solver_of (scored s t.variables x3) m3 t w3 ≡ Sat.add_node (solver_of (scored s t.variables x) m t w) out (And lhs rhs))
        unfolding Sat.add_node
        gate_added = (
          record {
            frame = unchanged_both add_regions (unchanged_both add_regions a.frame b.frame) c.frame;
            sound = c.sound;
            clauses = omega (arith, a.clauses, b.clauses, c.clauses);
            literals = omega (arith, a.literals, b.literals, c.literals);
            others = others-both _ (others-both _ a.others b.others) c.others;
            cached = λ y k. c.cached y (b.cached y (a.cached y k));
          },
          λ s. rw (
            ← d,
            two-clause (solver_of (scored s t.variables x) m t w) lhs n g.variable (omega (arith, g.ascending, g.before, one_more)),
            ← a.is s,
            two-clause (solver_of (scored s t.variables x1) m1 t w1) rhs n (omega (arith, g.variable, g.ascending)) (omega (arith, g.before, one_more)),
            ← b.is s,
            three-clause (solver_of (scored s t.variables x2) m2 t w2) (negate lhs) (negate rhs) out (omega (arith, g.variable, negate-half lhs)) (omega (arith, g.ascending, negate-half lhs, negate-half rhs)) (omega (arith, g.before, negate-half rhs)),
            ← e,
            ← f,
          )
              (c.is s),
        )

-- ---- a node

module _ (m : Store) (t : Trail) (w : List ℕ) (x : List Float) (i rhs : ℕ) (e : rhs ≡ get_or (region GRAPH-RHS w) i 0) where
  -- a variable has no clause
  pub node-none : Roomy m t w x 3 7 → rhs ≡ 0 → Grows m t w x 3 7 m w x × ((s : Solver) → solver_of (scored s t.variables x) m t w ≡ Sat.add_node (solver_of (scored s t.variables x) m t w) (i * 2) (node_in w i))
  unfolding node_of Sat.add_node
  node-none r z = (
    record { frame = unchanged_none add_regions w; sound = r.sound; clauses = omega arith; literals = omega arith; others = record { long = refl; same = refl }; cached = λ a c. c },
    λ s. rw (← e, z),
  )

  module _ (lhs : ℕ) (f : lhs ≡ get_or (region GRAPH-LHS w) i 0) (z : rhs ≡ 0 → ⊥) where
    pub node-is : node_in w i ≡ And lhs rhs
    unfolding node_of
    node-is = rw (← e, ← f) (go rhs z)
      where
        go : (r : ℕ) → (r ≡ 0 → ⊥) → node_of i lhs r ≡ And lhs r
        go zero n = absurd (n refl)
        go (suc r) n = refl

-- ---- all nodes

nodes-end : (s : Solver) (i : ℕ) (g : List Node) → length g ≤ i → Sat.add_nodes s i (drop i g) ≡ s
unfolding Sat.add_nodes
nodes-end s i g h = rw (drop_of_length-le g h)

nodes-more : (s : Solver) (i : ℕ) (g : List Node) → i < length g → Sat.add_nodes s i (drop i g) ≡ Sat.add_nodes (Sat.add_node s (i * 2) (get_or g i Constant)) (i + 1) (drop (i + 1) g)
unfolding Sat.add_nodes
nodes-more s i g h = rw (drop-cons g i Constant h, add-one)

-- while nodes are added: those left are to be added
pub record Nodes (t : Trail) (m₀ : Store) (w₀ : List ℕ) (x₀ : List Float) (m : Store) (w : List ℕ) (x : List Float) (i : ℕ) : Type 0 where
  pub one : 0 < i
  pub most : i ≤ t.variables
  pub grown : Grows m₀ t w₀ x₀ (3 * (i - 1)) (7 * (i - 1)) m w x
  pub left : (s : Solver) (g : List Node) → Holds t.variables w₀ g
      → Sat.add_nodes (solver_of (scored s t.variables x) m t w) i (drop i g) ≡ Sat.add_nodes (solver_of (scored s t.variables x₀) m₀ t w₀) 1 (drop 1 g)

module _ (t : Trail) (m₀ : Store) (w₀ : List ℕ) (x₀ : List Float) (r : Roomy m₀ t w₀ x₀ (3 * t.variables) (7 * t.variables)) where
  module _ (m : Store) (w : List ℕ) (x : List Float) (i : ℕ) (n : Nodes t m₀ w₀ x₀ m w x i) where
    same-lhs : region GRAPH-LHS w ≡ region GRAPH-LHS w₀
    same-lhs = n.grown.frame.same GRAPH-LHS refl

    same_rhs : region GRAPH-RHS w ≡ region GRAPH-RHS w₀
    same_rhs = n.grown.frame.same GRAPH-RHS refl

    pub node-step : i < t.variables → (m' : Store) (w' : List ℕ) (x' : List Float) → Grows m t w x 3 7 m' w' x'
        → ((s : Solver) → solver_of (scored s t.variables x') m' t w' ≡ Sat.add_node (solver_of (scored s t.variables x) m t w) (i * 2) (node_in w i)) → Nodes t m₀ w₀ x₀ m' w' x' (i + 1)
    node-step h m' w' x' a k = record {
      one = omega arith;
      most = omega arith;
      grown = record {
        frame = unchanged_both add_regions n.grown.frame a.frame;
        sound = a.sound;
        clauses = omega (arith, n.grown.clauses, a.clauses, n.one);
        literals = omega (arith, n.grown.literals, a.literals, n.one);
        others = others-both _ n.grown.others a.others;
        cached = λ y c. a.cached y (n.grown.cached y c);
      };
      left = λ s g o. ap (λ (q : Solver). Sat.add_nodes q (i + 1) (drop (i + 1) g)) (k s ∙ ap (λ (y : Node). Sat.add_node (solver_of (scored s t.variables x) m t w) (i * 2) y) (node-same g o))
          ∙ sym (nodes-more (solver_of (scored s t.variables x) m t w) i g (omega (arith, o.size))) ∙ n.left s g o;
    }
      where
        node-same : (g : List Node) → Holds t.variables w₀ g → node_in w i ≡ get_or g i Constant
        node-same g o = rw (same-lhs, same_rhs) (sym (o.at i n.one h))

    pub nodes-done : t.variables ≤ i → Grows m₀ t w₀ x₀ (3 * t.variables) (7 * t.variables) m w x
        × ((s : Solver) (g : List Node) → Holds t.variables w₀ g → solver_of (scored s t.variables x) m t w ≡ Sat.add_nodes (solver_of (scored s t.variables x₀) m₀ t w₀) 1 (drop 1 g))
    nodes-done h = (
      record { frame = n.grown.frame; sound = n.grown.sound; clauses = omega (arith, n.grown.clauses, n.most); literals = omega (arith, n.grown.literals, n.most); others = n.grown.others; cached = n.grown.cached },
      λ s g o. sym (nodes-end (solver_of (scored s t.variables x) m t w) i g (omega (arith, o.size))) ∙ n.left s g o,
    )
