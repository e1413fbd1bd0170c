-- What a problem by value and the words stand for, and what is asked and promised of its proof. Definitions only.
use Rattle.std.specs.Prelude.{◌≡◌, Bool, List, map, ℕ, suc, ◌+◌, ◌*◌, ◌≤◌, length, Float}
use Rattle.std.proofs.Math.Option.{Option}
use Rattle.words.specs.Layout.{LENT, MOST-NODES, MOST-LEARNED}
use Rattle.model.specs.Answers as Answers
use Rattle.model.specs.Answers.{Asked, CheckAnswer, accepted_answer, status_number}
use Rattle.model.specs.Literal.{constant_literal}
use Rattle.model.specs.Equivalence as Model
use Rattle.model.specs.Equivalence.{prove_sequential_equivalence, largest_learned}
use Rattle.model.specs.Check.{verdict_answer, verdict_trace}
use Rattle.calls.specs.Answers.{asked_of}
use Rattle.lowering.specs.Firsts.{firsts, Below}
use Rattle.unrolling.specs.Cycling.{Paired, Standing}
use Rattle.equivalence.specs.Inducing.{Matched, cycle_cost}
use Rattle.equivalence.specs.FreeState.{Returned}
use Rattle.queries.specs.declared.problem.Problem.{Problem}
use Rattle.queries.specs.declared.problem.Outcome.{Outcome}
use Rattle.queries.specs.declared.problem.Verdict.{Verdict}
use Rattle.queries.specs.declared.problem.Verdict.TheVariants.{Equivalent, NotEquivalent, Inconclusive, GaveUp}

-- The problem by value, with the words, stands for p.
pub record StandsFor (x : Problem) (w : List ℕ) (p : Model.Problem) : Type 0 where
  pub standing : Standing x.gold x.gate w p
  pub matched : Matched x.gold x.gate x.gold_matches p
  pub returned : Returned x.gold x.gate x.gate_matches p
  pub gold_start_lem : firsts x.gold.state_count x.gold_start ≡ map constant_literal p.gold_start
  pub gate_start_lem : firsts x.gate.state_count x.gate_start ≡ map constant_literal p.gate_start

-- What the proof asks: both sides in order, matches and start literals in range, room for every graph, buffers long enough, and a problem that is stood for.
pub record Provable (x : Problem) (limit D : ℕ) (w : List ℕ) (scores : List Float) (trace : List ℕ) : Type 0 where
  pub long : LENT ≤ length w
  pub scores_long : MOST-NODES ≤ length scores
  pub trace_long : suc D * x.gold.input_count + x.gold.output_count ≤ length trace
  pub limited : limit ≤ MOST-LEARNED
  pub some : 1 ≤ D
  pub shallow : D ≤ 64
  pub paired : Paired x.gold x.gate w
  pub gold_matches : Below (x.gate.state_count + 1) x.gold.state_count x.gold_matches
  pub gate_matches : Below (x.gold.state_count + 1) x.gate.state_count x.gate_matches
  pub gold_bits : Below 2 x.gold.state_count x.gold_start
  pub gate_bits_lem : Below 2 x.gate.state_count x.gate_start
  pub room : 1 + (x.gold.state_count + x.gate.state_count) + suc D * cycle_cost x.gold x.gate w ≤ MOST-NODES
  pub problem : Model.Problem
  pub stands : StandsFor x w problem

-- a verdict as the specification answers it, with the query that learned most and what is proved
unfoldable pub answer_of_verdict : Verdict → Asked → Option ℕ → CheckAnswer
answer_of_verdict (Equivalent d) = accepted_answer (status_number Answers.Equivalent) d 0 0
answer_of_verdict (NotEquivalent d m) = accepted_answer (status_number Answers.NotEquivalent) d m 0
answer_of_verdict (Inconclusive d) = accepted_answer (status_number Answers.Inconclusive) d 0 0
answer_of_verdict (GaveUp d q) = accepted_answer (status_number Answers.GaveUp) d 0 q

-- The verdict, the trace after it and the query that learned most are the model's, in the mode of the earliest cycle or without it.
pub record Proves (x : Problem) (earliest : Bool) (limit D : ℕ) (w trace : List ℕ) (r : Outcome) (trace' : List ℕ) : Type 0 where
  pub answer : (p : Model.Problem) → StandsFor x w p → (a : Asked) → answer_of_verdict r.verdict a ≡ verdict_answer (prove_sequential_equivalence earliest limit p D).verdict a
  pub traced : (p : Model.Problem) → StandsFor x w p → trace' ≡ verdict_trace (prove_sequential_equivalence earliest limit p D).verdict trace
  pub most : (p : Model.Problem) → StandsFor x w p → asked_of r.most ≡ largest_learned (prove_sequential_equivalence earliest limit p D).asked
