-- The graph that two regions of lent words stand for. Definitions, with the laws of one node more. Assumes nothing.
use Rattle.std.specs.Prelude.{◌≡◌, refl, List, [], ℕ, zero, suc, ◌+◌, ◌*◌, ◌/◌, ◌≤◌, ◌<◌, length, get_or, set}
use Rattle.std.proofs.Common.{arith, add-one, length-append, get_or-set_other, get_or-set_same}
use Rattle.words.specs.Layout.{SMALL, GRAPH-LHS, GRAPH-RHS}
use Rattle.words.specs.Region.{region}
use Rattle.model.specs.Lists.{snoc}
use Rattle.model.specs.Aig.{Node, Constant, Variable, And, Aig}

-- the node at a place, by its two words: node 0 is the constant; a node whose larger literal is 0 is a variable, named by its place
unfoldable pub node_of : ℕ → ℕ → ℕ → Node
node_of zero lhs rhs = Constant
node_of (suc i) lhs zero = Variable (suc i)
node_of (suc i) lhs (suc rhs) = And lhs (suc rhs)

-- the node at a place of two lists
abbrev pub node_at : List ℕ → List ℕ → ℕ → Node
node_at ls rs i = node_of i (get_or ls i 0) (get_or rs i 0)

-- the first n nodes
unfoldable pub nodes_of : ℕ → List ℕ → List ℕ → Aig
nodes_of zero ls rs = []
nodes_of (suc n) ls rs = snoc (nodes_of n ls rs) (node_at ls rs n)

-- the graph of n nodes whose smaller literals lie at `base` and whose larger literals lie in the region after it
unfoldable pub graph_at : ℕ → ℕ → List ℕ → Aig
graph_at base n words = nodes_of n (region base words) (region (base + SMALL) words)

-- the proof graph
abbrev pub graph_of : ℕ → List ℕ → Aig
graph_of n words = graph_at 0 n words

pub length-nodes : (n : ℕ) (ls rs : List ℕ) → length (nodes_of n ls rs) ≡ n
unfolding nodes_of snoc
length-nodes zero ls rs = refl
length-nodes (suc n) ls rs = simp length-append (omega (arith, length-nodes n ls rs))

pub length-graph : (n : ℕ) (w : List ℕ) → length (graph_of n w) ≡ n
unfolding graph_at
length-graph n w = length-nodes n (region GRAPH-LHS w) (region GRAPH-RHS w)

-- a store past the first n nodes
pub nodes-set : (n : ℕ) (ls rs : List ℕ) (i a b : ℕ) → n ≤ i → nodes_of n (set ls i a) (set rs i b) ≡ nodes_of n ls rs
unfolding nodes_of
nodes-set zero ls rs i a b h = refl
nodes-set (suc n) ls rs i a b h =
    let p : get_or (set ls i a) n 0 ≡ get_or ls n 0 = get_or-set_other ls i n a 0 (λ e. omega arith) in
    let q : get_or (set rs i b) n 0 ≡ get_or rs n 0 = get_or-set_other rs i n b 0 (λ e. omega arith) in
    rw (p, q, nodes-set n ls rs i a b (omega arith))

-- one node more
pub nodes-more : (n : ℕ) (ls rs : List ℕ) (a b : ℕ) → n < length ls → n < length rs
    → nodes_of (n + 1) (set ls n a) (set rs n b) ≡ snoc (nodes_of n ls rs) (node_of n a b)
unfolding nodes_of
nodes-more n ls rs a b h k = rw (add-one, nodes-set n ls rs n a b (omega arith), get_or-set_same ls n a 0, get_or-set_same rs n b 0)

-- ---- operands stand before their nodes

-- the literals of each conjunction among the first n nodes are of earlier nodes
pub record Ordered (n : ℕ) (ls rs : List ℕ) : Type 0 where
  pub at : (i : ℕ) → i < n → 0 < get_or rs i 0 → (get_or ls i 0 < i * 2) × (get_or rs i 0 < i * 2)

-- in particular the larger one, and node 0 has none
pub ordered_le : (n : ℕ) (ls rs : List ℕ) → Ordered n ls rs → (i : ℕ) → i < n → get_or rs i 0 ≤ 2 * i
ordered_le n ls rs o i h = go (get_or rs i 0) refl
  where
    go : (x : ℕ) → get_or rs i 0 ≡ x → x ≤ 2 * i
    go zero e = omega arith
    go (suc x) e = omega (arith, (o.at i h (rw e (omega arith))).1)

-- a store past the first n nodes
pub ordered-set : (n : ℕ) (ls rs : List ℕ) → Ordered n ls rs → (a b i : ℕ) → i < n → 0 < get_or (set rs n b) i 0 → (get_or (set ls n a) i 0 < i * 2) × (get_or (set rs n b) i 0 < i * 2)
ordered-set n ls rs o a b i h k =
    let p : get_or (set ls n a) i 0 ≡ get_or ls i 0 = get_or-set_other ls n i a 0 (λ e. omega arith) in
    let q : get_or (set rs n b) i 0 ≡ get_or rs i 0 = get_or-set_other rs n i b 0 (λ e. omega arith) in
    rw (p, q) (o.at i h (omega arith))

-- the operands of a conjunction: no constant, and the smaller node first
abbrev pub Ascending : ℕ → ℕ → Type 0
Ascending l r = (2 ≤ l) × (l / 2 < r / 2)

-- ---- lists that read alike

-- the same nodes
pub nodes-agree : (n : ℕ) (ls rs ls' rs' : List ℕ) → ((j : ℕ) → j < n → get_or ls j 0 ≡ get_or ls' j 0) → ((j : ℕ) → j < n → get_or rs j 0 ≡ get_or rs' j 0)
    → nodes_of n ls rs ≡ nodes_of n ls' rs'
unfolding nodes_of
nodes-agree zero ls rs ls' rs' p q = refl
nodes-agree (suc n) ls rs ls' rs' p q =
    rw (p n (omega arith), q n (omega arith), nodes-agree n ls rs ls' rs' (λ j h. p j (omega arith)) (λ j h. q j (omega arith)))

-- in the same order
pub ordered-agree : (n : ℕ) (ls rs ls' rs' : List ℕ) → ((j : ℕ) → j < n → get_or ls j 0 ≡ get_or ls' j 0) → ((j : ℕ) → j < n → get_or rs j 0 ≡ get_or rs' j 0)
    → Ordered n ls' rs' → Ordered n ls rs
ordered-agree n ls rs ls' rs' p q o = record { at = λ i h. rw (p i h, q i h) (o.at i h) }
