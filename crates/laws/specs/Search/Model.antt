-- The answers of `solve` are right: a model is the graph's evaluation with every assumption true, and where there is none some assumption is false under every environment. Assumes nothing.
use Rattle.std.specs.Prelude.{ℕ, suc, ◌<◌, ◌≡◌, refl, Bool, true, false, List, [], ◌∷◌, length, get_or}
use Rattle.std.proofs.Common.{arith, sym, ap, ◌∙◌}
use Rattle.std.proofs.Math.Path.{subst}
use Rattle.model.specs.Literal.{Literal, node}
use Rattle.model.specs.Aig.{Node, Constant, Variable, And, Aig, evaluate, aig_node_values}
use Rattle.laws.specs.Graph.Values.{Grounded}
use Rattle.laws.specs.Queries.Variables.{OwnNames}
use Rattle.laws.specs.Graph.Operations.{Formed}
use Rattle.laws.specs.Search.Clauses.{Satisfied}
use Rattle.facts.specs.Lists.{All}
use Rattle.laws.specs.Search.Adding.{search_answered}
use Rattle.laws.specs.Search.Step.{ModelOk, AnswerOk}
use Rattle.laws.specs.Search.Encode.{Encoded, encode-encoded}
use Rattle.laws.specs.Search.Start.{search_answers}
use Rattle.laws.specs.Search.Encoding.{Fits, Holds, decode, encode-holds}
use Rattle.model.specs.Sat.{Solver, model, no_model, search_rounds, start_unless, start, encode, rounds, solve}

-- an inconsistent solver answers no model
consistent : (s : Solver) (limit k : ℕ) (values : List Bool) (total : ℕ) → search_rounds limit k (start s) ≡ model values total → s.inconsistent ≡ false
unfolding start start_unless
consistent s limit k values total e = go s.inconsistent refl
  where
    go : (b : Bool) → s.inconsistent ≡ b → s.inconsistent ≡ false
    go true q =
        absurd
        (let n : no_model s.learned ≡ model values total
        = sym (search_answered limit k (no_model s.learned)) ∙ subst (λ b. search_rounds limit k (start_unless s b) ≡ model values total) q e in
        let z : ◌≡◌ {A = ℕ} 0 1 = cc in
        omega arith)
    go false q = q

-- what the values of a model are, over the encoding
pub record EncodingTrue (g : Aig) (assumptions : List Literal) (values : List Bool) : Type 0 where
  pub size : length values ≡ length g
  pub grounding : Grounded values
  pub clauses_true : Satisfied values (encode g assumptions).clauses

-- what the values of a model are, over the graph: its evaluation under each environment that gives the variables these values
pub record GraphTrue (g : Aig) (assumptions : List Literal) (values : List Bool) : Type 0 where
  pub evaluation : (environment : ℕ → Bool) → Fits environment values 0 g → aig_node_values environment g ≡ values
  pub assumed : (environment : ℕ → Bool) → Fits environment values 0 g → All (λ l. evaluate (aig_node_values environment g) l ≡ true) assumptions

-- a formed graph has a node
pub formed-pos : (g : Aig) → Formed g → 0 < length g
formed-pos [] w = absurd (let q = w.grounding in let z : ◌≡◌ {A = ℕ} 0 1 = cc in omega arith)
formed-pos (n ∷ g) w = omega arith

module _ (limit : ℕ) (g : Aig) (formed : Formed g) (assumptions : List Literal) (inside : All (λ l. node l < length g) assumptions)
    (values : List Bool) (total : ℕ) (answer : solve limit g assumptions ≡ model values total) where
  encoded : Encoded (length g) (encode g assumptions)
  encoded = encode-encoded g formed.order assumptions inside

  -- every clause of the encoding is true
  solve-clauses : EncodingTrue g assumptions values
  unfolding solve
  solve-clauses =
      let s = encode g assumptions in
      let m : ModelOk (length g) s.clauses values
      = subst (AnswerOk (length g) s.clauses) answer (search_answers (length g) s encoded limit (rounds limit g) (consistent s limit (rounds limit g) values total answer)) in
      record { size = m.size; grounding = m.grounding; clauses_true = m.clauses_true }

  holds : Holds values (encode g assumptions)
  unfolding solve
  holds = record { consistent = consistent (encode g assumptions) limit (rounds limit g) values total answer; all_true = solve-clauses.clauses_true }

  -- the values are the graph's evaluation, and every assumption is true
  solve-model : GraphTrue g assumptions values
  solve-model =
      record {
        evaluation = λ env f. (decode values env solve-clauses.grounding g formed solve-clauses.size f assumptions holds).0;
        assumed =
            λ env f.
            let r = decode values env solve-clauses.grounding g formed solve-clauses.size f assumptions holds in
            subst (λ vs. All (λ l. evaluate vs l ≡ true) assumptions) (sym r.0) r.1;
      }

-- ---- graphs whose variables are named by their places, as `variable` makes them, with no constant but node 0

-- the environment that values give to the variables
abbrev environment_of : List Bool → ℕ → Bool
environment_of values v = get_or values v false

-- ---- no model

-- where the answer is no model, no values make the encoding true
no-model_refutes : (limit : ℕ) (g : Aig) (assumptions : List Literal) (k : ℕ) → Formed g → All (λ l. node l < length g) assumptions → solve limit g assumptions ≡ no_model k
    → (vs : List Bool) → Holds vs (encode g assumptions) → ⊥
unfolding solve
no-model_refutes limit g assumptions k w inside e vs h =
    let s = encode g assumptions in
    let encoded = encode-encoded g w.order assumptions inside in
    subst (AnswerOk (length g) s.clauses) e (search_answers (length g) s encoded limit (rounds limit g) h.consistent) vs h.all_true

-- so no environment makes every assumption true
pub refutes : (limit : ℕ) (g : Aig) (assumptions : List Literal) (k : ℕ) → Formed g → All (λ (l : Literal). node l < length g) assumptions → solve limit g assumptions ≡ no_model k
    → (environment : ℕ → Bool) → All (λ (l : Literal). evaluate (aig_node_values environment g) l ≡ true) assumptions → ⊥
refutes limit g assumptions k w inside e environment a =
    no-model_refutes limit g assumptions k w inside e (aig_node_values environment g) (encode-holds environment g assumptions w a)

-- ---- a model

-- the values of a model fit a graph whose variables have their places for names

fits : (values : List Bool) → Grounded values → (k : ℕ) (ns : List Node) → OwnNames k ns → Fits (environment_of values) values k ns
fits values g k [] o = tt
fits values g k (Constant ∷ ns) o = (ap (λ (i : ℕ). get_or values i false) o.0 ∙ g, fits values g (suc k) ns o.1)
fits values g k (Variable v ∷ ns) o = (ap (environment_of values) (sym o.0), fits values g (suc k) ns o.1)
fits values g k (And a b ∷ ns) o = fits values g (suc k) ns o.1

-- a model is an environment's values, and makes every assumption true
pub finds : (limit : ℕ) (g : Aig) (assumptions : List Literal) (values : List Bool) (n : ℕ) → Formed g → OwnNames 0 g → All (λ (l : Literal). node l < length g) assumptions
    → solve limit g assumptions ≡ model values n
    → (environment : ℕ → Bool) × (values ≡ aig_node_values environment g) × All (λ (l : Literal). evaluate values l ≡ true) assumptions
finds limit g ls values n w o inside e =
    let c = solve-clauses limit g w ls inside values n e in
    let m = solve-model limit g w ls inside values n e in
    let f = fits values c.grounding 0 g o in
    let q : aig_node_values (environment_of values) g ≡ values = m.evaluation (environment_of values) f in
    (environment_of values, sym q, subst (λ (v : List Bool). All (λ (l : Literal). evaluate v l ≡ true) ls) q (m.assumed (environment_of values) f))
