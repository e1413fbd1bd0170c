-- What an operation on the proof graph in lent words leaves: the model's graph and literal, the chains, and every other region as it was. Assumes nothing.
use Rattle.std.specs.Prelude.{◌≡◌, Bool, true, ◌&&◌, List, ℕ, ◌+◌, ◌*◌, ◌≤◌, ◌<◌, length, get_or, leb}
use Rattle.std.proofs.Math.Path.{refl}
use Rattle.std.proofs.Common.{◌∙◌, arith}
use Rattle.std.proofs.Math.Bool.{or_comm}
use Rattle.facts.specs.Bools.{and_both}
use Rattle.words.specs.Layout.{LENT, GRAPH-LHS, GRAPH-RHS, AND-NEXT, AND-HEADS}
use Rattle.words.specs.Region.{region, apart, stored, length-stored, size_of, stored_out}
use Rattle.model.specs.Aig.{Built}
use Rattle.aig.specs.Graph.{graph_at, graph_of}
use Rattle.aig.specs.Index.{Indexed}

-- ---- the frame

-- the region at b is none of the proof graph's four
abbrev pub outside : ℕ → Bool
outside b = apart b GRAPH-LHS && (apart b GRAPH-RHS && (apart b AND-NEXT && apart b AND-HEADS))

-- the regions that pass the test are as they were
pub record Same (p : ℕ → Bool) (w w' : List ℕ) : Type 0 where
  pub at : (b : ℕ) → p b ≡ true → region b w' ≡ region b w

pub same_refl : (p : ℕ → Bool) (w : List ℕ) → Same p w w
same_refl p w = record { at = λ b _. refl }

pub same_trans : {p : ℕ → Bool} {w w' w'' : List ℕ} → Same p w w' → Same p w' w'' → Same p w w''
same_trans f g = record { at = λ b e. g.at b e ∙ f.at b e }

-- the four tests of `outside`
pub outside_parts : (b : ℕ) → outside b ≡ true → (apart b GRAPH-LHS ≡ true) × (apart b GRAPH-RHS ≡ true) × (apart b AND-NEXT ≡ true) × (apart b AND-HEADS ≡ true)
outside_parts b e =
    let p : (apart b GRAPH-LHS ≡ true) × ((apart b GRAPH-RHS && (apart b AND-NEXT && apart b AND-HEADS)) ≡ true) = and_both _ _ e in
    let q : (apart b GRAPH-RHS ≡ true) × ((apart b AND-NEXT && apart b AND-HEADS) ≡ true) = and_both _ _ p.1 in
    let r : (apart b AND-NEXT ≡ true) × (apart b AND-HEADS ≡ true) = and_both _ _ q.1 in
    (p.0, q.0, r.0, r.1)

-- ---- the graph in the words

-- the words are long enough, and hold n nodes, node 0 among them, with their chains
pub record Ready (n : ℕ) (w : List ℕ) : Type 0 where
  pub positive : 0 < n
  pub long : LENT ≤ length w
  pub indexed : Indexed n (region GRAPH-LHS w) (region GRAPH-RHS w) (region AND-NEXT w) (region AND-HEADS w)

-- a store outside the graph leaves it
module _ (b c : ℕ) (w : List ℕ) (i v : ℕ) (out : outside b ≡ true) where
  graph-words : (x : ℕ) → apart b x ≡ true → region x (stored b w i v) ≡ region x w
  graph-words x e = stored_out x w b i v (or_comm (leb (x + size_of x) b) (leb (b + size_of b) x) ∙ e)

  pub ready-stored : Ready c w → Ready c (stored b w i v)
  ready-stored r =
      let p = outside_parts b out in
      record {
        positive = r.positive;
        long = simp length-stored r.long;
        indexed = rw (graph-words GRAPH-LHS p.0, graph-words GRAPH-RHS p.1, graph-words AND-NEXT p.2, graph-words AND-HEADS p.3) r.indexed;
      }

  pub graph-stored : graph_of c (stored b w i v) ≡ graph_of c w
  unfolding graph_at
  graph-stored = let p = outside_parts b out in rw (graph-words GRAPH-LHS p.0, graph-words GRAPH-RHS p.1)

-- From n nodes in w an operation made m, in w' with n' nodes: at most k more.
pub record Made (k n : ℕ) (w : List ℕ) (n' : ℕ) (w' : List ℕ) (literal : ℕ) (m : Built) : Type 0 where
  pub built : record { aig = graph_of n' w'; literal = literal } ≡ m
  pub ready : Ready n' w'
  pub same : Same outside w w'
  pub grows : n ≤ n'
  pub within : n' ≤ n + k
  pub below : literal < n' * 2

-- no node more
pub made_none : (k n : ℕ) (w : List ℕ) (literal : ℕ) (m : Built) → Ready n w → literal < n * 2 → record { aig = graph_of n w; literal = literal } ≡ m → Made k n w n w literal m
made_none k n w literal m ready below e =
    record { built = e; ready = ready; same = same_refl outside w; grows = omega arith; within = omega arith; below = below }

-- the words with the chains of node n's two literals empty
abbrev pub opened : List ℕ → ℕ → List ℕ
opened w n = stored AND-HEADS (stored AND-HEADS w (n * 2) 0) (n * 2 + 1) 0

-- the words after a new node without operands
abbrev pub pushed_leaf : List ℕ → ℕ → List ℕ
pushed_leaf w n = stored GRAPH-RHS (stored GRAPH-LHS (opened w n) n 0) n 0

-- the words after a new conjunction: the head of its chain becomes its next
abbrev pub pushed_and : List ℕ → ℕ → ℕ → ℕ → List ℕ
pushed_and w n l r =
    let x = stored GRAPH-RHS (stored GRAPH-LHS (opened w n) n l) n r in stored AND-HEADS (stored AND-NEXT x n (get_or (region AND-HEADS x) r 0)) r n

-- the stores of a new conjunction, one after another
pub pushed-is : (w w₀ w₁ w₂ w₃ w₄ : List ℕ) (n at chain head l r : ℕ) → w₀ ≡ opened w n → at ≡ n → w₁ ≡ stored GRAPH-LHS w₀ at l → w₂ ≡ stored GRAPH-RHS w₁ at r
    → chain ≡ r → head ≡ get_or (region AND-HEADS w₂) chain 0 → w₃ ≡ stored AND-NEXT w₂ at head → w₄ ≡ stored AND-HEADS w₃ chain n → w₄ ≡ pushed_and w n l r
pushed-is w w₀ w₁ w₂ w₃ w₄ n at chain head l r o p a b q h c d = cc
