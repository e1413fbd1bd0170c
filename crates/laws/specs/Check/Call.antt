-- The check of two records and the call: refused exactly by Pair's refusals, else the outcome of the two designs; the call's numbers are status and depth. Assumes nothing.
use Rattle.std.specs.Prelude.{ℕ, ◌≡◌, refl, List, length, replicate, Float}
use Rattle.std.proofs.Common.{arith}
use Rattle.std.proofs.Math.Path.{ap}
use Rattle.std.proofs.Math.Option.{Option, none, some}
use Rattle.model.specs.Answers.{Refusal, Status, status_number, Asked, refused_answer, accepted_answer}
use Rattle.model.specs.Answers as Answers
use Rattle.model.specs.Options.{Options}
use Rattle.model.specs.Netlist.{Design}
use Rattle.model.specs.Run.{initial_bits}
use Rattle.model.specs.Pair.{Lent, ReadPair, both, refused_pair, read_pair, check_fault, check_refusal_of, check_refusal}
use Rattle.model.specs.Induction.{refused, answered, unfinished, Accepts, Refuses}
use Rattle.model.specs.Induction as Induction
use Rattle.model.specs.Sat.{score_zero}
use Rattle.model.specs.Equivalence.{Verdict, Equivalent, NotEquivalent, Inconclusive, GaveUp, OutOfFuel, largest_learned, proved_through}
use Rattle.model.specs.Check.{check_designs, CheckOutcome, refused_check, accepted_check, check_pair, check_read, check_outcome, verdict_answer, check_answer, trace_after, cleared_after, CheckResult, check_result, lent_of, check, verdict_says, outcome_says, checked}
use Rattle.laws.specs.Terms.{Numbered, checked_designs}
use Rattle.laws.specs.Induction.Pairs.{Accepted, accepted-pair, free_of}

-- ---- refusals

-- a refusal of the outcome is that of the option, and none is answered
record Alike (o : Option Refusal) (v : Induction.Verdict) : Type 0 where
  pub refused_some : (r : Refusal) → v ≡ refused r → o ≡ some r
  pub some_refused : (r : Refusal) → o ≡ some r → v ≡ refused r
  pub answered_none : (status : Status) (d : ℕ) → v ≡ answered status d → o ≡ none

some_alike : (r : Refusal) → Alike (some r) (refused r)
some_alike r =
    record {
      refused_some = λ q e. let f : r ≡ q = cc in ap some f;
      some_refused = λ q e. let f : r ≡ q = cc in ap refused f;
      answered_none = λ s d e. absurd (let z : ◌≡◌ {A = ℕ} 0 1 = cc in omega arith);
    }

none-answered : (status : Status) (d : ℕ) → Alike none (answered status d)
none-answered status d =
    record {
      refused_some = λ q e. absurd (let z : ◌≡◌ {A = ℕ} 0 1 = cc in omega arith);
      some_refused = λ q e. absurd (let z : ◌≡◌ {A = ℕ} 0 1 = cc in omega arith);
      answered_none = λ s d e. refl;
    }

none-unfinished : Alike none unfinished
none-unfinished =
    record {
      refused_some = λ q e. absurd (let z : ◌≡◌ {A = ℕ} 0 1 = cc in omega arith);
      some_refused = λ q e. absurd (let z : ◌≡◌ {A = ℕ} 0 1 = cc in omega arith);
      answered_none = λ s d e. refl;
    }

none_alike : (v : Verdict) → Alike none (verdict_says v)
unfolding verdict_says
none_alike (Equivalent d) = none-answered Answers.Equivalent d
none_alike (NotEquivalent d m bytes) = none-answered Answers.NotEquivalent d
none_alike (Inconclusive d) = none-answered Answers.Inconclusive d
none_alike (GaveUp d q) = none-answered Answers.GaveUp d
none_alike OutOfFuel = none-unfinished

pair-alike : (o : Options) (gold gate : Design) (r : Option Refusal) → Alike r (outcome_says (check_pair o gold gate r))
unfolding outcome_says check_pair
pair-alike o gold gate (some r) = some_alike r
pair-alike o gold gate none = none_alike _

read_alike : (o : Options) (p : ReadPair) (lent : Lent) → Alike (check_refusal_of p o lent) (outcome_says (check_read o p lent))
unfolding outcome_says check_read check_refusal_of
read_alike o (refused_pair r) lent = some_alike r
read_alike o (both gold gate) lent = pair-alike o gold gate (check_fault gold gate o lent)

check-alike : (a b : List ℕ) (o : Options) (lent : Lent) → Alike (check_refusal a b o lent) (checked a b o lent)
unfolding checked check_outcome check_refusal
check-alike a b o lent = read_alike o (read_pair a b) lent

-- the check is answered only where no refusal applies
pub check_accepts : Accepts checked
check_accepts a b o lent status d e = (check-alike a b o lent).answered_none status d e

-- the check is refused exactly where a refusal applies, with the first that does
pub check-refuses : Refuses checked
check-refuses a b o lent r = ((check-alike a b o lent).refused_some r, (check-alike a b o lent).some_refused r)

-- ---- the outcome

read-outcome : (o : Options) (p : ReadPair) (lent : Lent) (r : Refusal) → check_refusal_of p o lent ≡ some r → check_read o p lent ≡ refused_check r
unfolding check_read check_refusal_of check_pair
read-outcome o (refused_pair q) lent r e = let f : q ≡ r = cc in ap refused_check f
read-outcome o (both gold gate) lent r e = rw e

module _ (a b : List ℕ) (o : Options) (lent : Lent) (gold gate : Design) (free : check_refusal a b o lent ≡ none) (pair : read_pair a b ≡ both gold gate) where
  -- where no refusal applies, the outcome is that of the two designs from their initial bits
  pub outcome-is : check_outcome a b o lent ≡ accepted_check (check_designs o gold gate (initial_bits gold) (initial_bits gate))
  unfolding check_outcome check_read check_pair
  outcome-is = rw (pair, free_of a b o lent gold gate free pair)

  -- so it says what they say
  pub checked-is : checked a b o lent ≡ checked_designs o gold gate (initial_bits gold) (initial_bits gate)
  unfolding checked outcome_says
  checked-is = ap outcome_says outcome-is

-- ---- the call

-- a refused check: the refusal, unused numbers 0, and every buffer as it was lent
pub check-refused : (gold gate : List ℕ) (o : Options) (trace words : List ℕ) (scores : List Float) (r : Refusal)
    → check_refusal gold gate o (lent_of trace words scores) ≡ some r
    → check gold gate o trace words scores
    ≡ record { answer = refused_answer r; trace = trace; words = words; scores = scores }
unfolding check check_result check_outcome check_refusal check_answer trace_after cleared_after
check-refused gold gate o trace words scores r e =
    ap (λ (x : CheckOutcome). check_result x trace words scores) (read-outcome o (read_pair gold gate) (lent_of trace words scores) r e)

-- an accepted call's result is that of the two designs' outcome
pub call-is : (a b : List ℕ) (o : Options) (trace words : List ℕ) (scores : List Float) (gold gate : Design)
    → check_refusal a b o (lent_of trace words scores) ≡ none → read_pair a b ≡ both gold gate
    → check a b o trace words scores ≡ check_result (accepted_check (check_designs o gold gate (initial_bits gold) (initial_bits gate))) trace words scores
unfolding check
call-is a b o trace words scores gold gate free pair =
    ap (λ (x : CheckOutcome). check_result x trace words scores) (outcome-is a b o (lent_of trace words scores) gold gate free pair)

-- after an accepted check words and scores are zero over their whole length
pub check-cleared : (gold gate : List ℕ) (o : Options) (trace words : List ℕ) (scores : List Float)
    → check_refusal gold gate o (lent_of trace words scores) ≡ none
    → ((check gold gate o trace words scores).words ≡ replicate (length words) 0)
    × ((check gold gate o trace words scores).scores ≡ replicate (length scores) score_zero)
unfolding check_result cleared_after
check-cleared a b o trace words scores e =
    let k : Accepted a b o (lent_of trace words scores) = accepted-pair a b o (lent_of trace words scores) e in
    let c = call-is a b o trace words scores k.gold k.gate e k.pair in
    (ap (λ (r : CheckResult). r.words) c, ap (λ (r : CheckResult). r.scores) c)

-- ---- the numbers of the answer

verdict-numbered : (v : Verdict) (most : Asked) (proved : Option ℕ) (status : Status) (d : ℕ) → verdict_says v ≡ answered status d → Numbered (verdict_answer v most proved) status d
unfolding verdict_says verdict_answer accepted_answer
verdict-numbered (Equivalent k) most proved status d e = let f : Answers.Equivalent ≡ status = cc in let g : k ≡ d = cc in record { number = refl; status_number_lem = ap status_number f; depth = g }
verdict-numbered (NotEquivalent k m bytes) most proved status d e = let f : Answers.NotEquivalent ≡ status = cc in let g : k ≡ d = cc in record { number = refl; status_number_lem = ap status_number f; depth = g }
verdict-numbered (Inconclusive k) most proved status d e = let f : Answers.Inconclusive ≡ status = cc in let g : k ≡ d = cc in record { number = refl; status_number_lem = ap status_number f; depth = g }
verdict-numbered (GaveUp k q) most proved status d e = let f : Answers.GaveUp ≡ status = cc in let g : k ≡ d = cc in record { number = refl; status_number_lem = ap status_number f; depth = g }
verdict-numbered OutOfFuel most proved status d e = absurd (let z : ◌≡◌ {A = ℕ} 0 1 = cc in omega arith)

outcome-numbered : (o : CheckOutcome) (status : Status) (d : ℕ) → outcome_says o ≡ answered status d → Numbered (check_answer o) status d
unfolding outcome_says check_answer
outcome-numbered (refused_check r) status d e = absurd (let z : ◌≡◌ {A = ℕ} 0 1 = cc in omega arith)
outcome-numbered (accepted_check o) status d e = verdict-numbered o.verdict (largest_learned o.asked) (proved_through o.verdict o.asked) status d e

-- what the abstract check answers is what the call answers
pub check-numbered : (gold gate : List ℕ) (o : Options) (trace words : List ℕ) (scores : List Float) (status : Status) (d : ℕ)
    → checked gold gate o (lent_of trace words scores) ≡ answered status d → Numbered (check gold gate o trace words scores).answer status d
unfolding check check_result checked
check-numbered gold gate o trace words scores status d e = outcome-numbered (check_outcome gold gate o (lent_of trace words scores)) status d e
