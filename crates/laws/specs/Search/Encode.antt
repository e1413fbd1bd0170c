-- The encoding of a graph: each clause is as `add_clause` leaves it, and nothing is assigned. Assumes nothing.
use Prim.Native.Nat.{ℕ, zero, suc, ◌+◌, ◌*◌, ◌≤◌, ◌<◌}
use native.Mathlib.Omega.{arith}
use Rattle.std.specs.Prelude.{◌≡◌, Bool, length, drop}
use Rattle.std.proofs.Math.Path.{refl}
use Rattle.std.proofs.Common.{subst, ◌∙◌}
use Rattle.std.proofs.Math.Bool.{true, false}
use mathlib.Core.List.{List, [], ◌∷◌}
use Rattle.std.proofs.Math.Option.{Option, none, some}
use Rattle.std.proofs.Math.ListN.{length-replicate}
use Rattle.model.specs.Literal.{Literal, node, negate}
use Rattle.model.specs.Aig.{Node, Constant, Variable, And, Aig}
use Rattle.model.specs.Sat.{Clause, Solver, empty_clause, sort_literals, tautological, second_place, add_unless, add_sorted, add_clause, score_zero, new, clause_literals, add_some, add_aig_clause, add_node, add_nodes, add_assumptions, encode}
use Rattle.laws.specs.Graph.Values.{node-negate, Below, InOrder, node-even}
use Rattle.facts.specs.Lists.{All, get_or-replicate, In}
use Rattle.laws.specs.Lists.{snoc-all, length-snoc}
use Rattle.laws.specs.Search.Trail.{Range}
use Rattle.laws.specs.Search.Watches.{ListedIn}
use Rattle.laws.specs.Search.State.{clause_at, WellWatched, Exact}
use Rattle.laws.specs.Search.Sorting.{sort-all, Ascending, sort-ascending, ascending-apart}
use Rattle.laws.specs.Search.Scores.{ones_size}
use Rattle.laws.specs.Search.Learning.{new-well, watch_clause-size, watch_clause_in, new-exact}

-- ---- what adding a clause keeps, the encoding keeps

module _ (P : Solver → Type 0) (Good : List Literal → Type 0) (add : (s : Solver) (ls : List Literal) → Good ls → P s → P (add_aig_clause s ls)) where
  -- the clauses of a node are good
  abbrev pub NodeGood : Literal → Node → Type 0
  NodeGood o Constant = Unit {0}
  NodeGood o (Variable v) = Unit {0}
  NodeGood o (And a b) = Good (negate o ∷ a ∷ []) × Good (negate o ∷ b ∷ []) × Good (o ∷ negate a ∷ negate b ∷ [])

  -- the clauses of all nodes are good
  abbrev pub NodesGood : ℕ → List Node → Type 0
  NodesGood i [] = Unit {0}
  NodesGood i (m ∷ ns) = NodeGood (i * 2) m × NodesGood (suc i) ns

  node_kept : (s : Solver) (o : Literal) (m : Node) → NodeGood o m → P s → P (add_node s o m)
  unfolding add_node
  node_kept s o Constant h p = p
  node_kept s o (Variable v) h p = p
  node_kept s o (And a b) h p = add _ (o ∷ negate a ∷ negate b ∷ []) h.2 (add _ (negate o ∷ b ∷ []) h.1 (add s (negate o ∷ a ∷ []) h.0 p))

  nodes-kept : (s : Solver) (i : ℕ) (ns : List Node) → NodesGood i ns → P s → P (add_nodes s i ns)
  unfolding add_nodes
  nodes-kept s i [] h p = p
  nodes-kept s i (m ∷ ns) h p = nodes-kept (add_node s (i * 2) m) (suc i) ns h.1 (node_kept s (i * 2) m h.0 p)

  assumptions-kept : (s : Solver) (ls : List Literal) → All (λ l. Good (l ∷ [])) ls → P s → P (add_assumptions s ls)
  unfolding add_assumptions
  assumptions-kept s [] h p = p
  assumptions-kept s (l ∷ ls) h p = assumptions-kept (add_aig_clause s (l ∷ [])) ls h.1 (add s (l ∷ []) h.0 p)

  -- the whole encoding keeps it
  pub encode-kept : (g : Aig) (ls : List Literal) → NodesGood 1 (drop 1 g) → All (λ l. Good (l ∷ [])) ls → P (new (length g)) → P (encode g ls)
  unfolding encode
  encode-kept g ls h k p = assumptions-kept _ ls k (nodes-kept (new (length g)) 1 (drop 1 g) h p)

-- ---- what it leaves

-- a clause as `add_clause` leaves it
pub record Fresh (n : ℕ) (c : Clause) : Type 0 where
  pub range : All (Range n) c.literals
  pub well : WellWatched c

-- the solver while clauses are added
pub record Encoded (n : ℕ) (s : Solver) : Type 0 where
  pub empty : s.assignment ≡ (new n).assignment
  pub watch_size : length s.watches ≡ n * 2
  pub listed_in : ListedIn s.watches (length s.clauses)
  pub exact : Exact s
  pub activity_size : length s.scores.activity ≡ n
  pub none_learned : s.learned ≡ 0
  pub fresh : (id : ℕ) → id < length s.clauses → Fresh n (clause_at s id)

module _ (n : ℕ) where
  unless_encoded : (s : Solver) (x : Literal) (xs : List Literal) (b : Bool) → All (Range n) (x ∷ xs) → Ascending (x ∷ xs) → Encoded n s → Encoded n (add_unless s x xs b)
  unfolding add_unless
  unless_encoded s x xs true h a w = w
  unless_encoded s x xs false h a w =
      record {
        empty = w.empty;
        watch_size = watch_clause-size s.watches (length s.clauses) x xs ∙ w.watch_size;
        listed_in =
            watch_clause_in s.watches (length s.clauses) x xs _ (omega (arith, length-snoc s.clauses (record { literals = x ∷ xs; watched = (0, second_place xs) })))
            (λ l id q. omega (arith, length-snoc s.clauses (record { literals = x ∷ xs; watched = (0, second_place xs) }), w.listed_in l id q));
        none_learned = w.none_learned;
        exact = new-exact n s x xs h w.watch_size w.listed_in w.exact;
        activity_size = ones_size (x ∷ xs) s.scores.activity ∙ w.activity_size;
        fresh =
            snoc-all empty_clause (λ id c. Fresh n c) s.clauses _ w.fresh (record { range = h; well = new-well x xs (ascending-apart (x ∷ xs) a) });
      }

  sorted_encoded : (s : Solver) (ls : List Literal) → All (Range n) ls → Ascending ls → Encoded n s → Encoded n (add_sorted s ls)
  unfolding add_sorted
  sorted_encoded s [] h a w =
      record { empty = w.empty; watch_size = w.watch_size; listed_in = w.listed_in; exact = w.exact; activity_size = w.activity_size; none_learned = w.none_learned; fresh = w.fresh }
  sorted_encoded s (x ∷ xs) h a w = unless_encoded s x xs (tautological x xs) h a w

  -- the literals that stay are in range
  abbrev SomeRange : Option (List Literal) → Type 0
  SomeRange none = Unit {0}
  SomeRange (some ls) = All (Range n) ls

  literals-range : (ls : List Literal) → All (λ l. node l < n) ls → SomeRange (clause_literals ls)
  unfolding clause_literals node
  literals-range [] h = tt
  literals-range (zero ∷ ls) h = literals-range ls h.1
  literals-range (suc zero ∷ ls) h = tt
  literals-range (suc (suc l) ∷ ls) h = go (clause_literals ls) refl (literals-range ls h.1)
    where
      go : (o : Option (List Literal)) → clause_literals ls ≡ o → SomeRange o → SomeRange (clause_literals (suc (suc l) ∷ ls))
      go none e q = rw e tt
      go (some ks) e q = rw e ((omega arith, h.0), q)

  some-encoded : (s : Solver) (o : Option (List Literal)) → SomeRange o → Encoded n s → Encoded n (add_some s o)
  unfolding add_some add_clause
  some-encoded s none h w = w
  some-encoded s (some ls) h w = sorted_encoded s (sort_literals ls) (sort-all (Range n) ls h) (sort-ascending ls) w

  clause-encoded : (s : Solver) (ls : List Literal) → All (λ l. node l < n) ls → Encoded n s → Encoded n (add_aig_clause s ls)
  unfolding add_aig_clause
  clause-encoded s ls h w = some-encoded s (clause_literals ls) (literals-range ls h) w

  -- the literals are of the graph's nodes
  abbrev Within : List Literal → Type 0
  Within ls = All (λ l. node l < n) ls

  node-within : (i : ℕ) (m : Node) → i < n → Below i m → NodeGood (Encoded n) Within clause-encoded (i * 2) m
  node-within i Constant h b = tt
  node-within i (Variable v) h b = tt
  node-within i (And x y) h b =
      let o : node (negate (i * 2)) < n = rw (node-negate, node-even i) h in
      let p : node x < n = omega (arith, b.0) in
      let q : node y < n = omega (arith, b.1) in
      ((o, (p, tt)), (o, (q, tt)), (rw (node-even i) h, (rw node-negate p, (rw node-negate q, tt))))

  nodes-within : (i : ℕ) (ns : List Node) → i + length ns ≤ n → InOrder i ns → NodesGood (Encoded n) Within clause-encoded i ns
  nodes-within i [] h w = tt
  nodes-within i (m ∷ ns) h w = (node-within i m (omega arith) w.0, nodes-within (suc i) ns (omega arith) w.1)

  new-encoded : Encoded n (new n)
  unfolding new
  new-encoded =
      record {
        empty = refl;
        watch_size = length-replicate (n * 2) [];
        listed_in = λ l id q. absurd (subst (λ xs. In id xs) (get_or-replicate (n * 2) l []) q);
        none_learned = refl;
        exact = λ l id h. absurd (omega arith);
        activity_size = length-replicate n score_zero;
        fresh = λ id h. absurd (omega arith);
      }

-- the encoding of a graph whose operands stand before their nodes, and of literals of it
pub encode-encoded : (g : Aig) → InOrder 0 g → (ls : List Literal) → All (λ l. node l < length g) ls → Encoded (length g) (encode g ls)
encode-encoded g w ls h =
    encode-kept (Encoded (length g)) (Within (length g)) (clause-encoded (length g)) g ls (rest g w) (single ls h) (new-encoded (length g))
  where
    rest : (g : Aig) → InOrder 0 g → NodesGood (Encoded (length g)) (Within (length g)) (clause-encoded (length g)) 1 (drop 1 g)
    rest [] w = tt
    rest (m ∷ ns) w = nodes-within (suc (length ns)) 1 ns (omega arith) w.1

    single : (ls : List Literal) → All (λ l. node l < length g) ls → All (λ l. Within (length g) (l ∷ [])) ls
    single [] h = tt
    single (l ∷ ls) h = ((h.0, tt), single ls h.1)
