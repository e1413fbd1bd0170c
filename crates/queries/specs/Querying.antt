-- A query of a depth: what it asks, how it stands in the words, and what is left when it is answered. Assumes nothing.
use Rattle.std.specs.Prelude.{◌≡◌, refl, Bool, List, [], ◌∷◌, ℕ, zero, suc, ◌+◌, ◌*◌, ◌≤◌, ◌<◌, length, get_or, replicate, Float}
use Rattle.std.proofs.Common.{ap, sym, subst, ◌∙◌, arith, mul-le-mul}
use Rattle.words.specs.Layout.{LENT, MOST-NODES, MOST-LEARNED}
use Rattle.model.specs.Lists.{snoc}
use Rattle.model.specs.Equivalence as Model
use Rattle.model.specs.Equivalence.{base_counterexample, base_preserves_named_state, induction_closes}
use Rattle.laws.specs.Graph.Operations.{Formed}
use Rattle.laws.specs.Queries.Formed as Laws
use Rattle.aig.specs.Graph.{graph_of}
use Rattle.aig.specs.Made.{Ready}
use Rattle.lowering.specs.Firsts.{firsts, Below}
use Rattle.unrolling.specs.Side.{Untouched, untouched_beyond}
use Rattle.equivalence.specs.Rows.{untouched_frames}
use Rattle.unrolling.specs.Cycling.{Paired, paired-kept, standing-kept}
use Rattle.equivalence.specs.Inducing.{cycle_cost}
use Rattle.equivalence.specs.FreeState.{Inducible, Induces}
use Rattle.equivalence.specs.NamedState.{Preservable, Started, Preserves, named_cost}
use Rattle.equivalence.specs.Counterexample.{Comparable, Compares, compared_cost}
use Rattle.sat.specs.SolveLaws.{search_answer}
use Rattle.sat.specs.declared.state.Answer.{Answer}
use Rattle.queries.specs.Problem.{StandsFor, Provable}
use Rattle.queries.specs.Untouched.{untouched_both, untouched_solve, cycle_cost_kept}
use Rattle.queries.specs.Asking.{Askable, Asked}
use Rattle.queries.specs.declared.problem.Problem.{Problem}

-- What each query of depth d asks: as `Provable`, with room for its own graph alone.
pub record Queryable (x : Problem) (limit d : ℕ) (w : List ℕ) (scores : List Float) : Type 0 where
  pub long : LENT ≤ length w
  pub scores_long : MOST-NODES ≤ length scores
  pub limited : limit ≤ MOST-LEARNED
  pub shallow : d ≤ 64
  pub paired : Paired x.gold x.gate w
  pub gold_matches : Below (x.gate.state_count + 1) x.gold.state_count x.gold_matches
  pub gate_matches : Below (x.gold.state_count + 1) x.gate.state_count x.gate_matches
  pub gold_bits : Below 2 x.gold.state_count x.gold_start
  pub gate_bits_lem : Below 2 x.gate.state_count x.gate_start
  pub room : 1 + (x.gold.state_count + x.gate.state_count) + suc d * cycle_cost x.gold x.gate w ≤ MOST-NODES
  pub problem : Model.Problem
  pub stands : StandsFor x w problem

-- the problem that the words stand for stays
pub stands_for_kept : (x : Problem) (w w' : List ℕ) → Paired x.gold x.gate w → Untouched w w' → (p : Model.Problem) → StandsFor x w p → StandsFor x w' p
stands_for_kept x w w' q k p s =
    record {
      standing = standing-kept x.gold x.gate w w' p q k s.standing;
      matched = s.matched;
      returned = s.returned;
      gold_start_lem = s.gold_start_lem;
      gate_start_lem = s.gate_start_lem;
    }

-- each depth up to the maximum may be asked
pub queryable_at : (x : Problem) (limit D d : ℕ) (w : List ℕ) (s : List Float) (t : List ℕ) → Provable x limit D w s t → d ≤ D → Queryable x limit d w s
queryable_at x limit D d w s t a h =
    let cost = cycle_cost x.gold x.gate w in
    let less : suc d * cost ≤ suc D * cost = mul-le-mul {n₁ = suc d} {m₁ = cost} {n₂ = suc D} {m₂ = cost} (omega arith) (omega arith) in
    record {
      long = a.long;
      scores_long = a.scores_long;
      limited = a.limited;
      shallow = omega (arith, a.shallow);
      paired = a.paired;
      gold_matches = a.gold_matches;
      gate_matches = a.gate_matches;
      gold_bits = a.gold_bits;
      gate_bits_lem = a.gate_bits_lem;
      room = omega (arith, a.room);
      problem = a.problem;
      stands = a.stands;
    }

-- and again after what left both sides
pub queryable_kept : (x : Problem) (limit d : ℕ) (w : List ℕ) (s : List Float) (w' : List ℕ) (s' : List Float)
    → Queryable x limit d w s → Untouched w w' → LENT ≤ length w' → MOST-NODES ≤ length s' → Queryable x limit d w' s'
queryable_kept x limit d w s w' s' a k e f =
    record {
      long = e;
      scores_long = f;
      limited = a.limited;
      shallow = a.shallow;
      paired = paired-kept x.gold x.gate w w' a.paired k;
      gold_matches = a.gold_matches;
      gate_matches = a.gate_matches;
      gold_bits = a.gold_bits;
      gate_bits_lem = a.gate_bits_lem;
      room = rw (cycle_cost_kept x.gold x.gate w w' a.paired k) a.room;
      problem = a.problem;
      stands = stands_for_kept x w w' a.paired k a.problem a.stands;
    }

-- ---- a query in the words

-- The query of each problem that w stands for is in w₁: c nodes, and the first `count` assumptions of ls.
pub record Stated (x : Problem) (query : Model.Problem → Model.Query) (w : List ℕ) (c : ℕ) (w₁ ls : List ℕ) (count : ℕ) : Type 0 where
  pub ready : Ready c w₁
  pub small : c ≤ MOST-NODES
  pub kept : Untouched w w₁
  pub below : Below (c * 2) count ls
  pub few : count ≤ 128
  pub graph : (p : Model.Problem) → StandsFor x w p → graph_of c w₁ ≡ (query p).aig
  pub assumptions : (p : Model.Problem) → StandsFor x w p → firsts count ls ≡ (query p).assumptions

-- The query is answered: the answer is the model's, and the next query may be asked.
pub record Queried (x : Problem) (limit d : ℕ) (query : Model.Problem → Model.Query) (w : List ℕ) (r : Answer) (w' : List ℕ) (scores' : List Float) : Type 0 where
  pub nodes : ℕ
  pub is : (p : Model.Problem) → StandsFor x w p → search_answer nodes r w' ≡ Model.ask limit (query p)
  pub kept : Untouched w w'
  pub next : Queryable x limit d w' scores'

module _ (x : Problem) (limit d : ℕ) (query : Model.Problem → Model.Query) (w : List ℕ) (s : List Float) (c : ℕ) (w₁ ls : List ℕ) (count : ℕ)
    (a : Queryable x limit d w s) (b : Stated x query w c w₁ ls count) where
  -- it may be asked
  pub askable : ((p : Model.Problem) → Laws.Askable (query p)) → Askable limit c w₁ s ls count
  askable formed =
      record {
        ready = b.ready;
        small = b.small;
        scores = a.scores_long;
        limited = a.limited;
        few = b.few;
        below = b.below;
        formed = subst Formed (sym (b.graph a.problem a.stands)) (formed a.problem).formed;
      }

  -- it is answered
  pub queried : (r : Answer) (w' : List ℕ) (s' : List Float) → Asked limit c w₁ ls count r w' s' → Queried x limit d query w r w' s'
  queried r w' s' q =
      let k : Untouched w w' = untouched_both b.kept (untouched_solve q.frame) in
      record {
        nodes = c;
        is = λ p t. q.is (query p) (b.graph p t) (b.assumptions p t);
        kept = k;
        next = queryable_kept x limit d w s w' s' a k q.long q.scores;
      }

-- ---- the graphs of the queries

-- the first of an array of one literal
one_below : (k m : ℕ) → m < k → Below k 1 (replicate 128 m)
one_below k m h = record { at = go }
  where
    go : (i : ℕ) → i < 1 → get_or (replicate 128 m) i 0 < k
    go zero l = h
    go (suc i) l = absurd (omega arith)

one-first : (m : ℕ) → firsts 1 (replicate 128 m) ≡ m ∷ []
unfolding firsts snoc
one-first m = refl

-- the start literals are those of the problem that the words stand for
pub started : (x : Problem) (w : List ℕ) (p : Model.Problem) → StandsFor x w p → Started x.gold x.gate x.gold_start x.gate_start p
started x w p s = record { gold = s.gold_start_lem; gate = s.gate_start_lem }

module _ (x : Problem) (limit d : ℕ) (w : List ℕ) (s : List Float) (a : Queryable x limit d w s) where
  -- query 2 may be built
  pub preservable : Preservable x.gold x.gate x.gold_matches x.gold_start x.gate_start d w
  preservable =
      let n = named_cost x.gold x.gate w in
      let cost = cycle_cost x.gold x.gate w in
      let less : (d + 1) * n ≤ suc d * cost = mul-le-mul {n₁ = d + 1} {m₁ = n} {n₂ = suc d} {m₂ = cost} (omega arith) (omega arith) in
      record {
        long = a.long;
        paired = a.paired;
        matches = a.gold_matches;
        gold_start_lem = a.gold_bits;
        gate_start_lem = a.gate_bits_lem;
        depth_small = omega (arith, a.shallow);
        room = omega (arith, a.room);
      }

  -- and stands in the words
  pub stated_preserves : (c : ℕ) (w₁ : List ℕ) (m : ℕ) → Preserves x.gold x.gate x.gold_matches x.gold_start x.gate_start d w c w₁ m
      → Stated x (λ p. base_preserves_named_state p d) w c w₁ (replicate 128 m) 1
  stated_preserves c w₁ m b =
      record {
        ready = b.ready;
        small = b.small;
        kept = untouched_beyond b.same;
        below = one_below (c * 2) m b.mismatch;
        few = omega arith;
        graph = λ p t. ap (λ (q : Model.Query). q.aig) (b.is p t.standing t.matched (started x w p t));
        assumptions = λ p t. one-first m ∙ ap (λ (q : Model.Query). q.assumptions) (b.is p t.standing t.matched (started x w p t));
      }

  -- query 1 may be built
  pub comparable : Comparable x.gold x.gate x.gold_start x.gate_start d w
  comparable =
      let n = compared_cost x.gold x.gate w in
      let cost = cycle_cost x.gold x.gate w in
      let less : suc d * n ≤ suc d * cost = mul-le-mul {n₁ = suc d} {m₁ = n} {n₂ = suc d} {m₂ = cost} (omega arith) (omega arith) in
      record {
        long = a.long;
        paired = a.paired;
        gold_start_lem = a.gold_bits;
        gate_start_lem = a.gate_bits_lem;
        depth_small = a.shallow;
        room = omega (arith, a.room);
      }

  -- and stands in the words
  pub stated_compares : (c : ℕ) (w₁ : List ℕ) (m : ℕ) → Compares x.gold x.gate x.gold_start x.gate_start d w c w₁ m
      → Stated x (λ p. base_counterexample p d) w c w₁ (replicate 128 m) 1
  stated_compares c w₁ m b =
      record {
        ready = b.ready;
        small = b.small;
        kept = untouched_frames b.same;
        below = one_below (c * 2) m b.mismatch;
        few = omega arith;
        graph = λ p t. ap (λ (q : Model.Query). q.aig) (b.is p t.standing (started x w p t));
        assumptions = λ p t. one-first m ∙ ap (λ (q : Model.Query). q.assumptions) (b.is p t.standing (started x w p t));
      }

  -- query 3 and 4 may be built
  pub inducible : Inducible x.gold x.gate x.gold_matches x.gate_matches d w
  inducible =
      record {
        long = a.long;
        paired = a.paired;
        gold_matches = a.gold_matches;
        gate_matches = a.gate_matches;
        depth_small = omega (arith, a.shallow);
        room = a.room;
      }

  -- and stand in the words
  pub stated_induces : (include : Bool) (c : ℕ) (w₁ hs : List ℕ) → Induces x.gold x.gate x.gold_matches x.gate_matches include d w c w₁ hs
      → Stated x (λ p. induction_closes p include d) w c w₁ hs (d + 1)
  stated_induces include c w₁ hs b =
      record {
        ready = b.ready;
        small = b.small;
        kept = untouched_beyond b.same;
        below = b.assumptions;
        few = omega (arith, a.shallow);
        graph = λ p t. ap (λ (q : Model.Query). q.aig) (b.is p t.standing t.matched t.returned);
        assumptions = λ p t. ap (λ (q : Model.Query). q.assumptions) (b.is p t.standing t.matched t.returned);
      }
