-- The encoding says what the graph does: values that make its clauses true are the graph's and make each assumption true, and the other way round. Assumes nothing.
use Prim.Native.Nat.{ℕ, zero, suc, ◌+◌, ◌-◌, ◌*◌, ◌%◌, ◌≤◌, ◌<◌}
use native.Mathlib.Omega.{arith}
use Rattle.std.proofs.Math.Nat.{add-zero}
use Rattle.std.proofs.Math.Path.{◌≡◌, refl, sym, ap}
use Rattle.std.proofs.Common.{◌∙◌, take-suc, get_or-take, eqb-true}
use Rattle.std.specs.Prelude.{Bool, ◌&&◌, ◌||◌, cond, get_or, drop}
use Rattle.std.proofs.Math.Bool.{true, false, not}
use Rattle.std.proofs.lemmas.Bool.{false≢true, eqb-false}
use mathlib.Core.List.{List, [], ◌∷◌, ◌++◌}
use Rattle.std.proofs.Math.Option.{Option, none, some}
use Rattle.std.proofs.Math.ListN.{length, get_elem?, take}
use Rattle.std.proofs.Math.Seq.{take_all}
use Rattle.std.proofs.Math.Dec.{eqb}
use Rattle.model.specs.Literal.{Literal, node, inverted, negate}
use Rattle.model.specs.Lists.{snoc}
use Rattle.model.specs.Aig.{Node, Constant, Variable, And, Aig, evaluate, aig_node_value, aig_values_from, aig_node_values}
use Rattle.laws.specs.Graph.Values.{Below, InOrder, Grounded, at-node, lit_neg, lit_0, lit_1, lit_even}
use Rattle.facts.specs.Bools.{or-true, or-not}
use Rattle.facts.specs.Lists.{All}
use Rattle.laws.specs.Lists.{get_or-snoc-old, get_or-snoc-new, snoc-all, length-snoc}
use Rattle.laws.specs.Graph.Operations.{Formed, grounded}
use Rattle.laws.specs.Search.Clauses.{clause_value, Satisfied, sort-value}
use Rattle.laws.specs.Search.Sorting.{Ascending, sort-ascending}
use Rattle.laws.specs.Search.Encode.{NodeGood, NodesGood, encode-kept}
use Rattle.model.specs.Sat.{Clause, Solver, empty_clause, sort_literals, tautological, add_unless, add_sorted, add_clause, clause_literals, add_some, add_aig_clause, add_node, add_nodes, add_assumptions, new, encode}

-- env gives the variables from place i on their values, and the constants there are false
abbrev pub Fits : (ℕ → Bool) → List Bool → ℕ → List Node → Type 0
Fits env vs i [] = Unit {0}
Fits env vs i (Constant ∷ ns) = (get_or vs i false ≡ false) × Fits env vs (suc i) ns
Fits env vs i (Variable v ∷ ns) = (get_or vs i false ≡ env v) × Fits env vs (suc i) ns
Fits env vs i (And a b ∷ ns) = Fits env vs (suc i) ns

-- the three clauses of a conjunction say its value
conjunction : (o a b : Bool) → not o || (a || false) ≡ true → not o || (b || false) ≡ true → o || (not a || (not b || false)) ≡ true → o ≡ a && b
conjunction true true true p q r = refl
conjunction true true false p q r = absurd (false≢true q)
conjunction true false b p q r = absurd (false≢true p)
conjunction false true true p q r = absurd (false≢true r)
conjunction false true false p q r = refl
conjunction false false b p q r = refl

-- two literals of one variable in order are negations
next-negate : (x y : ℕ) → x < y → node x ≡ node y → y ≡ negate x
unfolding node negate inverted
next-negate x y h e = go (eqb (x % 2) 1) refl
  where
    go : (b : Bool) → eqb (x % 2) 1 ≡ b → y ≡ cond (eqb (x % 2) 1) (x - 1) (x + 1)
    go true q = absurd (omega (arith, eqb-true (x % 2) 1 q))
    go false q = rw q (omega (arith, eqb-false (x % 2) 1 q))

module _ (vs : List Bool) where
  tautology_true : (x : ℕ) (xs : List ℕ) → Ascending (x ∷ xs) → tautological x xs ≡ true → clause_value vs (x ∷ xs) ≡ true
  unfolding clause_value tautological
  tautology_true x [] a e = absurd (false≢true e)
  tautology_true x (y ∷ ys) a e = go (eqb (node x) (node y)) refl (tautology_true y ys a.1)
    where
      go : (b : Bool) → eqb (node x) (node y) ≡ b → (tautological y ys ≡ true → clause_value vs (y ∷ ys) ≡ true) → clause_value vs (x ∷ y ∷ ys) ≡ true
      go true q ih =
          let z : y ≡ negate x = next-negate x y a.0.0 (eqb-true (node x) (node y) q) in
          let v : evaluate vs y ≡ not (evaluate vs x) = ap (evaluate vs) z ∙ lit_neg vs x in
          rw v (or-not (evaluate vs x) (clause_value vs ys))
      go false q ih = or-true (evaluate vs x) (clause_value vs (y ∷ ys)) (ih (rw q at e))

  -- the solver is consistent and its clauses are true
  pub record Holds (s : Solver) : Type 0 where
    pub consistent : s.inconsistent ≡ false
    pub all_true : Satisfied vs s.clauses

  snoc-holds : (cs : List Clause) (c : Clause) → Satisfied vs (snoc cs c) → Satisfied vs cs × (clause_value vs c.literals ≡ true)
  snoc-holds cs c h = (
    λ id q. ap (λ d. clause_value vs d.literals) (sym (get_or-snoc-old cs c empty_clause id q)) ∙ h id (omega (arith, length-snoc cs c)),
    ap (λ d. clause_value vs d.literals) (sym (get_or-snoc-new cs c empty_clause)) ∙ h (length cs) (omega (arith, length-snoc cs c)),
  )

  unless_holds : (s : Solver) (x : Literal) (xs : List Literal) (b : Bool) → tautological x xs ≡ b → Ascending (x ∷ xs) → Holds (add_unless s x xs b)
      → Holds s × (clause_value vs (x ∷ xs) ≡ true)
  unfolding add_unless
  unless_holds s x xs true e a h = (h, tautology_true x xs a e)
  unless_holds s x xs false e a h = let r = snoc-holds s.clauses _ h.all_true in (record { consistent = h.consistent; all_true = r.0 }, r.1)

  sorted_holds : (s : Solver) (ls : List Literal) → Ascending ls → Holds (add_sorted s ls) → Holds s × (clause_value vs ls ≡ true)
  unfolding add_sorted
  sorted_holds s [] a h = absurd (false≢true (sym h.consistent))
  sorted_holds s (x ∷ xs) a h = unless_holds s x xs (tautological x xs) refl a h

  clause-holds : (s : Solver) (ls : List Literal) → Holds (add_clause s ls) → Holds s × (clause_value vs ls ≡ true)
  unfolding add_clause
  clause-holds s ls h = let r = sorted_holds s (sort_literals ls) (sort-ascending ls) h in (r.0, sym (sort-value vs ls) ∙ r.1)

  module _ (g : Grounded vs) where
    -- what is left of a clause of the graph's literals has its value
    abbrev Left : Bool → Option (List ℕ) → Type 0
    Left b none = b ≡ true
    Left b (some ks) = clause_value vs ks ≡ b

    left-value : (ls : List ℕ) → Left (clause_value vs ls) (clause_literals ls)
    unfolding clause_value clause_literals
    left-value [] = refl
    left-value (zero ∷ ls) = rw (lit_0 vs g) (left-value ls)
    left-value (suc zero ∷ ls) = rw (lit_1 vs g)
    left-value (suc (suc l) ∷ ls) = go (clause_literals ls) refl (left-value ls)
      where
        go : (o : Option (List ℕ)) → clause_literals ls ≡ o → Left (clause_value vs ls) o → Left (evaluate vs (suc (suc l)) || clause_value vs ls) (clause_literals (suc (suc l) ∷ ls))
        go none e h = rw e (or-true (evaluate vs (suc (suc l))) (clause_value vs ls) h)
        go (some ks) e h = rw (e, h)

    some_holds : (s : Solver) (b : Bool) (o : Option (List Literal)) → Left b o → Holds (add_some s o) → Holds s × (b ≡ true)
    unfolding add_some
    some_holds s b none l h = (h, l)
    some_holds s b (some ls) l h = let r = clause-holds s ls h in (r.0, sym l ∙ r.1)

    aig-holds : (s : Solver) (ls : List Literal) → Holds (add_aig_clause s ls) → Holds s × (clause_value vs ls ≡ true)
    unfolding add_aig_clause
    aig-holds s ls h = some_holds s (clause_value vs ls) (clause_literals ls) (left-value ls) h

    module _ (env : ℕ → Bool) where
      -- from place i on, each node has the value that its operands give it
      abbrev pub Agrees : ℕ → List Node → Type 0
      Agrees i [] = Unit {0}
      Agrees i (n ∷ ns) = (get_or vs i false ≡ aig_node_value env vs n) × Agrees (suc i) ns

      and-holds : (s : Solver) (i : ℕ) (a b : Literal) → Holds (add_node s (i * 2) (And a b)) → Holds s × (get_or vs i false ≡ evaluate vs a && evaluate vs b)
      unfolding add_node clause_value
      and-holds s i a b h =
          let r3 = aig-holds _ (i * 2 ∷ negate a ∷ negate b ∷ []) h in
          let r2 = aig-holds _ (negate (i * 2) ∷ b ∷ []) r3.0 in
          let r1 = aig-holds s (negate (i * 2) ∷ a ∷ []) r2.0 in (
            r1.0,
            sym (lit_even vs i)
                ∙ conjunction (evaluate vs (i * 2)) (evaluate vs a) (evaluate vs b) (rw (lit_neg vs (i * 2)) at r1.1) (rw (lit_neg vs (i * 2)) at r2.1)
                (rw (lit_neg vs a, lit_neg vs b) at r3.1),
          )

      nodes_hold : (s : Solver) (i : ℕ) (ns : List Node) → Fits env vs i ns → Holds (add_nodes s i ns) → Holds s × Agrees i ns
      unfolding add_nodes aig_node_value add_node
      nodes_hold s i [] f h = (h, tt)
      nodes_hold s i (Constant ∷ ns) f h = let r = nodes_hold (add_node s (i * 2) Constant) (suc i) ns f.1 h in (r.0, (f.0, r.1))
      nodes_hold s i (Variable v ∷ ns) f h = let r = nodes_hold (add_node s (i * 2) (Variable v)) (suc i) ns f.1 h in (r.0, (f.0, r.1))
      nodes_hold s i (And a b ∷ ns) f h =
          let r = nodes_hold (add_node s (i * 2) (And a b)) (suc i) ns f h in
          let q = and-holds s i a b r.0 in
          (q.0, (q.1, r.1))

    assumptions_hold : (s : Solver) (ls : List Literal) → Holds (add_assumptions s ls) → Holds s × All (λ l. evaluate vs l ≡ true) ls
    unfolding add_assumptions clause_value
    assumptions_hold s [] h = (h, tt)
    assumptions_hold s (l ∷ ls) h =
        let r = assumptions_hold (add_aig_clause s (l ∷ [])) ls h in
        let q = aig-holds s (l ∷ []) r.0 in
        (q.0, (one (evaluate vs l) q.1, r.1))
      where
        one : (b : Bool) → b || false ≡ true → b ≡ true
        one true e = refl
        one false e = e

  -- ---- values that agree at every node are the graph's

  prefix_literal : (i : ℕ) (l : Literal) → node l < i → evaluate (take i vs) l ≡ evaluate vs l
  unfolding evaluate
  prefix_literal i l h = rw (get_or-take i vs (node l) false h)

  prefix_node : (env : ℕ → Bool) (i : ℕ) (n : Node) → Below i n → aig_node_value env (take i vs) n ≡ aig_node_value env vs n
  unfolding aig_node_value
  prefix_node env i Constant h = refl
  prefix_node env i (Variable v) h = refl
  prefix_node env i (And a b) h = rw (prefix_literal i a h.0, prefix_literal i b h.1)

  prefix_values : (env : ℕ → Bool) (g : Grounded vs) (ns : List Node) (i : ℕ) → i + length ns ≤ length vs → InOrder i ns → Agrees g env i ns
      → aig_values_from env ns (take i vs) ≡ take (i + length ns) vs
  unfolding aig_values_from snoc
  prefix_values env g [] i h w a = rw add-zero
  prefix_values env g (n ∷ ns) i h w a =
      let e : take i vs ++ (aig_node_value env (take i vs) n ∷ []) ≡ take (suc i) vs
      = ap (λ b. take i vs ++ (b ∷ [])) (prefix_node env i n w.0 ∙ sym a.0) ∙ sym (take-suc vs i false (omega arith)) in
      let q : suc i + length ns ≡ i + suc (length ns) = omega arith in
      ap (aig_values_from env ns) e ∙ prefix_values env g ns (suc i) (omega arith) w.1 a.1 ∙ ap (λ k. take k vs) q

  -- the values are the graph's, and the assumptions are true
  pub decode : (env : ℕ → Bool) → Grounded vs → (g : Aig) → Formed g → length vs ≡ length g → Fits env vs 0 g → (ls : List Literal) → Holds (encode g ls)
      → (aig_node_values env g ≡ vs) × All (λ l. evaluate vs l ≡ true) ls
  unfolding encode aig_node_values aig_node_value
  decode env gr [] w size f ls h = absurd (let q = w.grounding in let z : ◌≡◌ {A = ℕ} 0 1 = cc in omega arith)
  decode env gr (Variable v ∷ ns) w size f ls h = absurd (let q = w.grounding in let z : ◌≡◌ {A = ℕ} 0 1 = cc in omega arith)
  decode env gr (And a b ∷ ns) w size f ls h = absurd (let q = w.grounding in let z : ◌≡◌ {A = ℕ} 0 1 = cc in omega arith)
  decode env gr (Constant ∷ ns) w size f ls h =
      let a = assumptions_hold gr _ ls h in
      let r = nodes_hold gr env (new (length (Constant ∷ ns))) 1 ns f.1 a.0 in
      let e : 0 + length (Constant ∷ ns) ≡ length (Constant ∷ ns) = omega arith in
      (prefix_values env gr (Constant ∷ ns) 0 (omega arith) w.order (gr, r.1) ∙ ap (λ k. take k vs) e ∙ take_all (length (Constant ∷ ns)) vs (omega arith), a.1)

-- ---- the graph's values make the clauses true

module _ (vs : List Bool) where
  unless_true : (s : Solver) (x : Literal) (xs : List Literal) (b : Bool) → clause_value vs (x ∷ xs) ≡ true → Holds vs s → Holds vs (add_unless s x xs b)
  unfolding add_unless
  unless_true s x xs true e f = f
  unless_true s x xs false e f =
      record { consistent = f.consistent; all_true = snoc-all empty_clause (λ id c. clause_value vs c.literals ≡ true) s.clauses _ f.all_true e }

  sorted_true : (s : Solver) (ls : List Literal) → clause_value vs ls ≡ true → Holds vs s → Holds vs (add_sorted s ls)
  unfolding add_sorted clause_value
  sorted_true s [] e f = absurd (false≢true e)
  sorted_true s (x ∷ xs) e f = unless_true s x xs (tautological x xs) e f

  module _ (g : Grounded vs) where
    -- the clause is true
    abbrev IsTrue : List Literal → Type 0
    IsTrue ls = clause_value vs ls ≡ true

    some-true : (s : Solver) (b : Bool) (o : Option (List Literal)) → Left vs g b o → b ≡ true → Holds vs s → Holds vs (add_some s o)
    unfolding add_some add_clause
    some-true s b none l h f = f
    some-true s b (some ls) l h f = sorted_true s (sort_literals ls) (sort-value vs ls ∙ l ∙ h) f

    clause-true : (s : Solver) (ls : List Literal) → IsTrue ls → Holds vs s → Holds vs (add_aig_clause s ls)
    unfolding add_aig_clause
    clause-true s ls h f = some-true s (clause_value vs ls) (clause_literals ls) (left-value vs g ls) h f

    table : (x y : Bool)
        → (not (x && y) || (x || false) ≡ true) × (not (x && y) || (y || false) ≡ true) × ((x && y) || (not x || (not y || false)) ≡ true)
    table true true = (refl, refl, refl)
    table true false = (refl, refl, refl)
    table false true = (refl, refl, refl)
    table false false = (refl, refl, refl)

    module _ (environment : ℕ → Bool) where
      node-true : (i : ℕ) (m : Node) → get_or vs i false ≡ aig_node_value environment vs m → NodeGood (Holds vs) IsTrue clause-true (i * 2) m
      unfolding clause_value aig_node_value
      node-true i Constant e = tt
      node-true i (Variable v) e = tt
      node-true i (And a b) e =
          let q : evaluate vs (i * 2) ≡ evaluate vs a && evaluate vs b = lit_even vs i ∙ e in (
            rw (lit_neg vs (i * 2), q) (table (evaluate vs a) (evaluate vs b)).0,
            rw (lit_neg vs (i * 2), q) (table (evaluate vs a) (evaluate vs b)).1,
            rw (lit_neg vs a, lit_neg vs b, q) (table (evaluate vs a) (evaluate vs b)).2,
          )

      nodes-true : (i : ℕ) (ns : List Node) → ((j : ℕ) (m : Node) → get_elem? ns j ≡ some m → get_or vs (i + j) false ≡ aig_node_value environment vs m)
          → NodesGood (Holds vs) IsTrue clause-true i ns
      nodes-true i [] f = tt
      nodes-true i (m ∷ ns) f =
          let z : i + 0 ≡ i = omega arith in (
            node-true i m (rw z at (f 0 m refl)),
            nodes-true (suc i) ns (λ j n e. let x : suc i + j ≡ i + suc j = omega arith in rw x (f (suc j) n e)),
          )

      single_true : (ls : List Literal) → All (λ l. evaluate vs l ≡ true) ls → All (λ l. IsTrue (l ∷ [])) ls
      unfolding clause_value
      single_true [] h = tt
      single_true (l ∷ ls) h = (rw h.0, single_true ls h.1)

new-holds : (vs : List Bool) (n : ℕ) → Holds vs (new n)
unfolding new
new-holds vs n = record { consistent = refl; all_true = λ id h. absurd (omega arith) }

-- the graph's values make the encoding true where all assumptions are
pub encode-holds : (environment : ℕ → Bool) (g : Aig) (assumptions : List Literal) → Formed g
    → All (λ l. evaluate (aig_node_values environment g) l ≡ true) assumptions → Holds (aig_node_values environment g) (encode g assumptions)
unfolding aig_node_values
encode-holds environment g assumptions w h =
    let vs = aig_values_from environment g [] in
    let gr = grounded environment g w in
    encode-kept (Holds vs) (IsTrue vs gr) (clause-true vs gr) g assumptions
    (tail g w.order gr)
    (single_true vs gr environment assumptions h)
    (new-holds vs (length g))
  where
    tail : (g : Aig) → InOrder 0 g → (gr : Grounded (aig_values_from environment g [])) → NodesGood (Holds (aig_values_from environment g [])) (IsTrue (aig_values_from environment g []) gr) (clause-true (aig_values_from environment g []) gr) 1 (drop 1 g)
    tail [] o gr = tt
    tail (m ∷ ns) o gr =
        nodes-true (aig_values_from environment (m ∷ ns) []) gr environment 1 ns
        (λ j n e. let x : 1 + j ≡ 0 + suc j = omega arith in rw x (at-node environment (m ∷ ns) [] (suc j) n o e))
