-- A query asked: the graph and assumptions that stand in the words, and the model's answer. Assumes nothing.
use Rattle.std.specs.Prelude.{◌≡◌, List, ℕ, ◌*◌, ◌≤◌, length, Float}
use Rattle.std.proofs.Common.{◌∙◌, arith}
use Rattle.words.specs.Layout.{LENT, MOST-NODES, MOST-LEARNED}
use Rattle.model.specs.Equivalence as Model
use Rattle.laws.specs.Graph.Operations.{Formed}
use Rattle.aig.specs.Graph.{graph_of}
use Rattle.aig.specs.Made.{Ready}
use Rattle.assignment.specs.State.{Unchanged}
use Rattle.lowering.specs.Firsts.{firsts, take-firsts, Below}
use Rattle.sat.specs.State.{solve_regions}
use Rattle.sat.specs.SolveLaws.{search_answer}
use Rattle.sat.specs.StartLaws.{Solvable, Solves}
use Rattle.sat.specs.declared.state.Answer.{Answer}
use Rattle.sat.specs.GraphLaws.{gates-ready, holds-ready}

-- What a query asks of the n nodes in the words and its assumptions: a graph of the model, whose literals they are.
pub record Askable (limit n : ℕ) (w : List ℕ) (x : List Float) (ls : List ℕ) (count : ℕ) : Type 0 where
  pub ready : Ready n w
  pub small : n ≤ MOST-NODES
  pub scores : MOST-NODES ≤ length x
  pub limited : limit ≤ MOST-LEARNED
  pub few : count ≤ 128
  pub below : Below (n * 2) count ls
  pub formed : Formed (graph_of n w)

-- The answer is the model's, and only the search's words are changed.
pub record Asked (limit n : ℕ) (w ls : List ℕ) (count : ℕ) (r : Answer) (w' : List ℕ) (x' : List Float) : Type 0 where
  pub is : (q : Model.Query) → graph_of n w ≡ q.aig → firsts count ls ≡ q.assumptions → search_answer n r w' ≡ Model.ask limit q
  pub frame : Unchanged solve_regions w w'
  pub long : LENT ≤ length w'
  pub scores : MOST-NODES ≤ length x'

module _ (limit n : ℕ) (w : List ℕ) (x : List Float) (ls : List ℕ) (count : ℕ) (a : Askable limit n w x ls count) (array : length ls ≡ 128) where
  -- what the search asks
  pub solvable : Solvable limit n w x ls count
  solvable =
      record {
        encodable =
            record {
              words = a.ready.long;
              some = a.ready.positive;
              variables = a.small;
              scores = omega (arith, a.small, a.scores);
              gates = gates-ready n w a.ready;
              listed = omega (arith, a.few);
              few = omega (arith, a.few);
              range = a.below.at;
            };
        few = omega (arith, a.few);
        limited = a.limited;
        graph = graph_of n w;
        holds = holds-ready n w;
        formed = a.formed;
      }

  -- what it answers
  pub asked : (r : Answer) (w' : List ℕ) (x' : List Float) → length w' ≡ length w → Solves limit n w x ls count r w' x' → Asked limit n w ls count r w' x'
  unfolding Model.ask
  asked r w' x' e s =
      record {
        is = λ q g h. s.is (graph_of n w) (holds-ready n w) ∙ rw (take-firsts count ls (omega (arith, a.few)), g, h);
        frame = s.frame;
        long = omega (arith, a.ready.long);
        scores = omega (arith, a.scores, s.others.long);
      }
