-- The call check: what it answers, and what the lent memory holds after it. Definitions only.
use Rattle.std.specs.Prelude.{ℕ, List, ◌++◌, length, drop, replicate, Float}
use Rattle.std.proofs.Math.Option.{Option, none, some}
use Rattle.model.specs.Answers.{Refusal, Asked, CheckAnswer, refused_answer, accepted_answer, status_number}
use Rattle.model.specs.Answers as Answers
use Rattle.model.specs.Options.{Options}
use Rattle.model.specs.Options as Options
use Rattle.model.specs.Netlist.{Design}
use Rattle.model.specs.Run.{StoredBits, initial_bits, by_name}
use Rattle.model.specs.Pair.{Lent, ReadPair, both, refused_pair, read_pair, check_fault}
use Rattle.model.specs.Pair as Pair
use Rattle.model.specs.Induction as Induction
use Rattle.model.specs.Sat.{score_zero}
use Rattle.model.specs.Transition.{from_netlist}
use Rattle.model.specs.Transition as Transition
use Rattle.model.specs.Equivalence.{Problem, Verdict, Equivalent, NotEquivalent, Inconclusive, GaveUp, OutOfFuel, Outcome, prove_sequential_equivalence, largest_learned, proved_through}
use Rattle.model.specs.Equivalence as Equivalence

-- ---- two designs that passed validation

-- two designs begun at stored bits
unfoldable pub problem_of : Design → Design → StoredBits → StoredBits → Problem
problem_of gold gate s t = record { gold = from_netlist gold; gate = from_netlist gate; gold_start = by_name gold s; gate_start = by_name gate t }

-- two designs checked from stored bits on, under a caller's options
unfoldable pub check_designs : Options → Design → Design → StoredBits → StoredBits → Outcome
check_designs options gold gate s t = prove_sequential_equivalence options.earliest options.limit (problem_of gold gate s t) options.depth

-- ---- from the bytes of both records and the lengths of the lent buffers

-- a check refused, or accepted with its outcome
pub data CheckOutcome : Type 0 where
  refused_check : Refusal → CheckOutcome
  accepted_check : Outcome → CheckOutcome

-- the outcome for two designs from their initial states, given the first refusal of the pair
unfoldable pub check_pair : Options → Design → Design → Option Refusal → CheckOutcome
check_pair options gold gate (some r) = refused_check r
check_pair options gold gate none = accepted_check (check_designs options gold gate (initial_bits gold) (initial_bits gate))

-- the outcome for two records read
unfoldable pub check_read : Options → ReadPair → Lent → CheckOutcome
check_read options (refused_pair r) lent = refused_check r
check_read options (both gold gate) lent = check_pair options gold gate (check_fault gold gate options lent)

-- the outcome of a check: refused exactly where Pair's check_refusal is some refusal
unfoldable pub check_outcome : List ℕ → List ℕ → Options → Lent → CheckOutcome
check_outcome gold gate options lent = check_read options (read_pair gold gate) lent

-- ---- what is answered

-- the answer of a verdict, of the query that learned most and of what is proved; OutOfFuel has a status of its own, which no check answers
unfoldable pub verdict_answer : Verdict → Asked → Option ℕ → CheckAnswer
verdict_answer (Equivalent d) = accepted_answer (status_number Answers.Equivalent) d 0 0
verdict_answer (NotEquivalent d m bytes) = accepted_answer (status_number Answers.NotEquivalent) d m 0
verdict_answer (Inconclusive d) = accepted_answer (status_number Answers.Inconclusive) d 0 0
verdict_answer (GaveUp d q) = accepted_answer (status_number Answers.GaveUp) d 0 q
verdict_answer OutOfFuel = accepted_answer 4 0 0 0

-- the answer of an outcome
unfoldable pub check_answer : CheckOutcome → CheckAnswer
check_answer (refused_check r) = refused_answer r
check_answer (accepted_check o) = verdict_answer o.verdict (largest_learned o.asked) (proved_through o.verdict o.asked)

-- ---- the lent memory after the call

-- bytes written over the first ones of a lent list
unfoldable pub overwrite : List ℕ → List ℕ → List ℕ
overwrite bytes lent = bytes ++ drop (length bytes) lent

-- the lent trace after a verdict: it changes for NotEquivalent only
unfoldable pub verdict_trace : Verdict → List ℕ → List ℕ
verdict_trace (Equivalent d) lent = lent
verdict_trace (NotEquivalent d m bytes) lent = overwrite bytes lent
verdict_trace (Inconclusive d) lent = lent
verdict_trace (GaveUp d q) lent = lent
verdict_trace OutOfFuel lent = lent

-- the lent trace after a check
unfoldable pub trace_after : CheckOutcome → List ℕ → List ℕ
trace_after (refused_check r) lent = lent
trace_after (accepted_check o) lent = verdict_trace o.verdict lent

-- lent work memory after a check: all zero where it is accepted
unfoldable pub cleared_after : {A : Type 0} → A → CheckOutcome → List A → List A
cleared_after z (refused_check r) lent = lent
cleared_after z (accepted_check o) lent = replicate (length lent) z

-- ---- the call

-- a check's answer, and the trace, words and scores after the call
pub record CheckResult : Type 0 where
  pub answer : CheckAnswer
  pub trace : List ℕ
  pub words : List ℕ
  pub scores : List Float

-- the result of an outcome on the buffers lent
unfoldable pub check_result : CheckOutcome → List ℕ → List ℕ → List Float → CheckResult
check_result outcome trace words scores =
    record {
      answer = check_answer outcome;
      trace = trace_after outcome trace;
      words = cleared_after 0 outcome words;
      scores = cleared_after score_zero outcome scores;
    }

-- the lengths of the buffers lent
unfoldable pub lent_of : List ℕ → List ℕ → List Float → Lent
lent_of trace words scores = record { trace = length trace; words = length words; scores = length scores }

-- check: gold's record, gate's record, the options asked, and the buffers lent
unfoldable pub check : (gold gate : List ℕ) (options : Options) (trace : List ℕ) (words : List ℕ) (scores : List Float) → CheckResult
check gold gate options trace words scores = check_result (check_outcome gold gate options (lent_of trace words scores)) trace words scores

-- ---- as Induction's laws see it

-- the status and depth of a verdict
unfoldable pub verdict_says : Verdict → Induction.Verdict
verdict_says (Equivalent d) = Induction.answered Answers.Equivalent d
verdict_says (NotEquivalent d m bytes) = Induction.answered Answers.NotEquivalent d
verdict_says (Inconclusive d) = Induction.answered Answers.Inconclusive d
verdict_says (GaveUp d q) = Induction.answered Answers.GaveUp d
verdict_says OutOfFuel = Induction.unfinished

-- a refusal, or status and depth
unfoldable pub outcome_says : CheckOutcome → Induction.Verdict
outcome_says (refused_check r) = Induction.refused r
outcome_says (accepted_check o) = verdict_says o.verdict

-- the check of two records, for Induction's laws
unfoldable pub checked : Induction.Check
checked gold gate options lent = outcome_says (check_outcome gold gate options lent)

-- naming this in an `unfolding` line opens the definitions of this file and those it uses
unfoldable pub all : Unit {0}
unfolding problem_of check_designs check_pair check_read check_outcome verdict_answer check_answer overwrite verdict_trace trace_after cleared_after check_result lent_of check verdict_says outcome_says checked Options.all Pair.all Transition.all Equivalence.all
all = tt
