-- The queries of a check, each with its answer: it ends, no model is a no and a model a yes of Induction's question, and it gives up exactly at an overflow. Assumes nothing.
use Prim.Native.Nat.{ℕ, suc, ◌+◌, ◌*◌, ◌≤◌, ◌<◌}
use Rattle.std.proofs.Common.{mul-le-mul_right, arith, sym, subst, ◌∙◌, ltb-false}
use Rattle.std.specs.Prelude.{◌≡◌, ◌≢◌, ◌↔◌, Bool, true, false, List, drop, get_or}
use Rattle.std.proofs.Math.Path.{ap}
use Rattle.std.proofs.Math.Option.{none}
use Rattle.std.proofs.Math.ListN.{length}
use Rattle.model.specs.Options.{Options}
use Rattle.model.specs.Netlist.{Design, inputs, outputs, input_count, output_count, node_count, register_count}
use Rattle.model.specs.Validate.{validate}
use Rattle.model.specs.Run.{StoredBits}
use Rattle.model.specs.Pair.{Lent, nodes_per_cycle, proof_nodes, both, read_pair, check_refusal}
use Rattle.model.specs.Transition.{from_netlist}
use Rattle.model.specs.Literal.{Literal}
use Rattle.model.specs.Aig.{evaluate, aig_node_values}
use Rattle.model.specs.Sat.{Solver, model, no_model, gave_up, out_of_fuel, encode}
use Rattle.model.specs.Equivalence.{Problem, Query, ask}
use Rattle.model.specs.Check.{problem_of}
use Rattle.facts.specs.Lists.{All, all_from, all-at}
use Rattle.laws.specs.Terms.{Comparable, QueryOf, query_0, query_1, query_2, query_3, query_4, Asks, literal_count, Reached, GivesUp}
use Rattle.laws.specs.Queries.Formed.{Askable, query_1_askable, query_2_askable, query_3_4_askable}
use Rattle.laws.specs.Pairwise.{pairs-length}
use Rattle.laws.specs.Induction.Pairs.{free_of, Facts, facts_of, comparable}
use Rattle.laws.specs.Lowering.Run.{outputs-at}
use Rattle.laws.specs.Queries.Bound.{frame_bound, node_bound, query_1_bound, query_2_bound, query_3_4_bound}
use Rattle.laws.specs.Queries.Base.{inputs-count}
use Rattle.laws.specs.Search.Ending.{solve-not_out}
use Rattle.laws.proofs.Search.Reached.{solve_gives_up}
use Rattle.laws.specs.Search.Reachable.{Reachable}
use Rattle.laws.proofs.Search.Reachable.{reached-total, reached_reachable}
use Rattle.laws.proofs.Check.Meaning.{found, refuted, no_1, no_2, no_3, no_4, yes_1, yes_2, yes_3, yes_4}

-- each is a query that a solver may be asked
pub askable : (p : Problem) (d k : ℕ) (q : Query) → QueryOf p d k q → Askable q
askable p d k q query_0 = query_1_askable p 0
askable p d k q query_1 = query_1_askable p d
askable p d k q query_2 = query_2_askable p d
askable p d k q query_3 = query_3_4_askable p true d
askable p d k q query_4 = query_3_4_askable p false d

module _ (limit : ℕ) (p : Problem) (d k : ℕ) (q : Query) (w : QueryOf p d k q) where
  -- the search ends
  pub query-ends : (n : ℕ) → ask limit q ≢ out_of_fuel n
  unfolding ask
  query-ends n e = let a = askable p d k q w in solve-not_out limit q.aig a.formed q.assumptions a.inside n e

  -- no model: no environment makes every assumption true
  pub query_refutes : (n : ℕ) → ask limit q ≡ no_model n → (environment : ℕ → Bool)
      → ((i : ℕ) → i < length q.assumptions → evaluate (aig_node_values environment q.aig) (get_or q.assumptions i 0) ≡ true) → ⊥
  query_refutes n e environment f = refuted limit q n (askable p d k q w) e environment (all_from (λ l. evaluate (aig_node_values environment q.aig) l ≡ true) q.assumptions f)

  -- a model: the graph's values under an environment, which make every assumption true
  pub query_evaluates : (values : List Bool) (n : ℕ) → ask limit q ≡ model values n
      → (environment : ℕ → Bool) × (values ≡ aig_node_values environment q.aig) × ((i : ℕ) → i < length q.assumptions → evaluate values (get_or q.assumptions i 0) ≡ true)
  query_evaluates values n e =
      let x = found limit q values n (askable p d k q w) e in
      let P : Literal → Type 0 = λ l. evaluate values l ≡ true in
      (x.environment, x.values_are, all-at P q.assumptions (subst (λ v. All (λ l. evaluate v l ≡ true) q.assumptions) (sym x.values_are) x.satisfies))

  -- it gives up exactly at an overflow of a state that it reaches
  pub query_gives_up : (n : ℕ) → (ask limit q ≡ gave_up n) ↔ GivesUp limit q.aig q.assumptions n
  unfolding ask
  query_gives_up n = let a = askable p d k q w in solve_gives_up limit q.aig q.assumptions a.formed a.inside n

  -- the total of a state is the sum of the lengths of the clauses learned so far
  pub query-total : (s : Solver) → Reached limit q.aig q.assumptions s → s.learned ≡ literal_count (drop (length (encode q.aig q.assumptions).clauses) s.clauses)
  query-total s r = let a = askable p d k q w in reached-total limit q.aig a.formed q.assumptions a.inside s r

  -- and every state has the facts of Reachable
  pub query_reachable : (s : Solver) → Reached limit q.aig q.assumptions s → Reachable limit q.aig q.assumptions s
  query_reachable s r = let a = askable p d k q w in reached_reachable limit q.aig a.formed q.assumptions a.inside s r

-- ---- the answers of a check of comparable designs, from any start bits

module _ (limit : ℕ) (gold gate : Design) (c : Comparable gold gate) (s t : StoredBits) where
  -- no model: the question's answer is no
  pub no-model-no : (d k : ℕ) (q : Query) (w : QueryOf (problem_of gold gate s t) d k q) (n : ℕ) → ask limit q ≡ no_model n → Asks gold gate s t d k q w → ⊥
  no-model-no d k q query_0 n e x = no_1 limit gold gate c s t 0 (n, e) x
  no-model-no d k q query_1 n e x = no_1 limit gold gate c s t d (n, e) x
  no-model-no d k q query_2 n e x = no_2 limit gold gate c s t d (n, e) x
  no-model-no d k q query_3 n e x = no_3 limit gold gate c s t d (n, e) x
  no-model-no d k q query_4 n e x = no_4 limit gold gate c s t d (n, e) x

  -- a model: it is yes
  pub model-yes : (d k : ℕ) (q : Query) (w : QueryOf (problem_of gold gate s t) d k q) (values : List Bool) (n : ℕ) → ask limit q ≡ model values n → Asks gold gate s t d k q w
  model-yes d k q query_0 values n e = yes_1 limit gold gate c s t 0 (values, n, e)
  model-yes d k q query_1 values n e = yes_1 limit gold gate c s t d (values, n, e)
  model-yes d k q query_2 values n e = yes_2 limit gold gate c s t d (values, n, e)
  model-yes d k q query_3 values n e = yes_3 limit gold gate c s t d (values, n, e)
  model-yes d k q query_4 values n e = yes_4 limit gold gate c s t d (values, n, e)

-- ---- 23: how large its graph is

module _ (gold gate : Design) (valid : validate gold ≡ none) where
  outputs_many : length (from_netlist gold).outputs ≡ length (outputs gold)
  outputs_many = pairs-length _ (from_netlist gold).outputs (outputs gold) (outputs-at gold valid)

  bound-is : (d : ℕ) → node_bound gold gate d ≡ proof_nodes gold gate d
  unfolding proof_nodes nodes_per_cycle input_count output_count node_count register_count
  bound-is d =
      ap (λ i. suc d * (i + 3 * (length gold.nodes + length gate.nodes) + 10 * (length gold.registers + length gate.registers) + 4 * length (from_netlist gold).outputs + 1)
      + (length gold.registers + length gate.registers)) (inputs-count gold valid)
      ∙ ap (λ o. suc d * (length (inputs gold) + 3 * (length gold.nodes + length gate.nodes) + 10 * (length gold.registers + length gate.registers) + 4 * o + 1)
      + (length gold.registers + length gate.registers)) outputs_many

query-bound : (gold gate : Design) (s t : StoredBits) (d k : ℕ) (q : Query) → QueryOf (problem_of gold gate s t) d k q → length q.aig ≤ node_bound gold gate d
query-bound gold gate s t d k q query_0 =
    let more = mul-le-mul_right {m = 1} {n = 2} (frame_bound gold gate) (omega arith) in
    omega (arith, query_1_bound gold gate s t 0, more)
query-bound gold gate s t d k q query_1 = query_1_bound gold gate s t d
query-bound gold gate s t d k q query_2 = query_2_bound gold gate s t d
query-bound gold gate s t d k q query_3 = query_3_4_bound gold gate s t true d
query-bound gold gate s t d k q query_4 = query_3_4_bound gold gate s t false d

-- the graph of a query of depth d, from any start bits, has at most (d + 1) × F + R nodes
pub query-size : (gold gate : Design) → Comparable gold gate → (s t : StoredBits) (d k : ℕ) (q : Query) → QueryOf (problem_of gold gate s t) d k q → length q.aig ≤ proof_nodes gold gate d
query-size gold gate c s t d k q w = subst (λ (n : ℕ). length q.aig ≤ n) (bound-is gold gate c.gold_valid d) (query-bound gold gate s t d k q w)

-- so where no refusal applies, those up to the maximum depth have at most 65,535
pub query-fits : (a b : List ℕ) (o : Options) (lent : Lent) (gold gate : Design) → check_refusal a b o lent ≡ none → read_pair a b ≡ both gold gate
    → (s t : StoredBits) (d k : ℕ) (q : Query) → QueryOf (problem_of gold gate s t) d k q → d ≤ o.depth → length q.aig ≤ 65535
unfolding proof_nodes
query-fits a b o lent gold gate free r s t d k q w h =
    let f : Facts gold gate o lent = facts_of gold gate o lent (free_of a b o lent gold gate free r) in
    let small = ltb-false 65535 (proof_nodes gold gate o.depth) f.small in
    let more = mul-le-mul_right {m = suc d} {n = suc o.depth} (nodes_per_cycle gold gate) (omega arith) in
    omega (arith, query-size gold gate (comparable a b o lent gold gate free r) s t d k q w, small, more)
