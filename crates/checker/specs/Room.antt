-- Refusal 23 leaves room for every graph: the conjunctions of the sides are those of the model's graphs. Assumes nothing.
use Rattle.std.specs.Prelude.{ℕ, zero, suc, ◌+◌, ◌*◌, ◌≤◌, ◌<◌, ◌≡◌, refl, cond, List, [], ◌∷◌, eqb, get_or}
use Rattle.std.proofs.Common.{sym, ap, ◌∙◌, arith, zero-add, mul-le-mul_left, ne_eqb}
use Rattle.words.specs.Layout.{SMALL, MOST-NODES}
use Rattle.words.specs.Region.{region}
use Rattle.model.specs.Lists.{snoc}
use Rattle.model.specs.Aig.{Node, Constant, Variable, And, Aig}
use Rattle.model.specs.Netlist.{Design, node_count, register_count}
use Rattle.model.specs.Transition.{TransitionSystem, from_netlist}
use Rattle.laws.specs.Graph.Size.{ands}
use Rattle.laws.specs.Queries.Bound.{system-ands}
use Rattle.aig.specs.Graph.{node_of, node_at, nodes_of, graph_at, Ordered}
use Rattle.import.specs.Importing.{conjunctions}
use Rattle.transition.specs.Side.{Formed, Stands}
use Rattle.transition.specs.declared.system.System.{System}
use Rattle.unrolling.specs.Side.{conjunctions_of}

-- ---- conjunctions

ands-snoc : (g : Aig) (n : Node) → ands (snoc g n) ≡ ands (n ∷ []) + ands g
unfolding ands snoc
ands-snoc [] n = omega arith
ands-snoc (Constant ∷ g) n = ands-snoc g n
ands-snoc (Variable v ∷ g) n = ands-snoc g n
ands-snoc (And a b ∷ g) n = omega (arith, ands-snoc g n)

-- node i is a conjunction where its larger literal is not 0
ands-node : (i lhs rhs k : ℕ) → (i ≡ 0 → rhs ≡ 0) → cond (eqb rhs 0) k (suc k) ≡ ands (node_of i lhs rhs ∷ []) + k
unfolding node_of ands
ands-node zero lhs zero k z = sym (zero-add k)
ands-node zero lhs (suc rhs) k z = absurd (omega (arith, z refl))
ands-node (suc i) lhs zero k z = sym (zero-add k)
ands-node (suc i) lhs (suc rhs) k z = rw (ne_eqb (suc rhs) 0 (λ e. omega arith)) (omega arith)

-- the conjunctions counted in the words are those of the graph
pub conjunctions-ands : (n : ℕ) (ls rs : List ℕ) → (0 < n → get_or rs 0 0 ≡ 0) → conjunctions n rs ≡ ands (nodes_of n ls rs)
unfolding conjunctions nodes_of ands
conjunctions-ands zero ls rs z = refl
conjunctions-ands (suc n) ls rs z =
    ands-node n (get_or ls n 0) (get_or rs n 0) (conjunctions n rs) (λ e. rw e (z (omega arith)))
    ∙ ap (λ (k : ℕ). ands (node_at ls rs n ∷ []) + k) (conjunctions-ands n ls rs (λ h. z (omega arith)))
    ∙ sym (ands-snoc (nodes_of n ls rs) (node_at ls rs n))

-- a graph's node 0 has no larger literal
no-first : (n : ℕ) (ls rs : List ℕ) → Ordered n ls rs → 0 < n → get_or rs 0 0 ≡ 0
no-first n ls rs o h = go (get_or rs 0 0) refl
  where
    go : (x : ℕ) → get_or rs 0 0 ≡ x → x ≡ 0
    go zero e = refl
    go (suc x) e = absurd (omega (arith, (o.at 0 h (rw e (omega arith))).1))

-- the conjunctions of a side are those of what it stands for
pub side-ands : (y : System) (w : List ℕ) (s : TransitionSystem) → Formed y w → Stands y w s → conjunctions_of y w ≡ ands s.aig
unfolding graph_at
side-ands y w s f t =
    conjunctions-ands y.count (region y.base w) (region (y.base + SMALL) w) (no-first y.count _ _ f.ordered)
    ∙ ap ands t.aig

-- the side of a design: at most three for a node and six for a register
pub side-small : (y : System) (w : List ℕ) (d : Design) → Formed y w → Stands y w (from_netlist d) → conjunctions_of y w ≤ 3 * node_count d + 6 * register_count d
unfolding node_count register_count
side-small y w d f t = omega (arith, side-ands y w (from_netlist d) f t, system-ands d)

-- ---- the bound

-- (D + 1) × F + R is enough for (D + 1) cycles of a cost within F, after the states' variables and node 0
pub cycles_fit : (depth cost frame registers : ℕ) → cost ≤ frame → suc depth * frame + registers ≤ 65535 → 1 + registers + suc depth * cost ≤ MOST-NODES
cycles_fit depth cost frame registers h k = omega (arith, mul-le-mul_left {m = cost} {n = frame} (suc depth) h)
