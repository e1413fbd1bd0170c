-- The result of a check from its parts: the pair read, the first refusal, the verdict and the cleared memory. Assumes nothing.
use Rattle.std.specs.Prelude.{ℕ, ◌-◌, ◌≤◌, ◌≡◌, refl, Bool, cond, List, [], ◌∷◌, map, eqb, Float, length}
use Rattle.std.proofs.Common.{sym, ap, ap₂, ◌∙◌, arith}
use Rattle.std.proofs.Math.Option.{Option, none, some}
use Rattle.words.specs.Layout.{LENT, MOST-LEARNED}
use Rattle.model.specs.Answers.{Refusal, status_number, accepted_answer}
use Rattle.model.specs.Answers as Numbers
use Rattle.model.specs.Options.{Options}
use Rattle.model.specs.Netlist.{Design, registers_by_name}
use Rattle.model.specs.Names.{Place}
use Rattle.model.specs.Sat.{score_zero}
use Rattle.model.specs.Run.{StoredBits, bit_at, initial_bits, by_name}
use Rattle.model.specs.Equivalence as Model
use Rattle.model.specs.Equivalence.{Problem, Outcome, prove_sequential_equivalence, largest_learned, proved_through}
use Rattle.model.specs.Pair.{Lent, both, refused_pair, read_pair, check_fault}
use Rattle.model.specs.Check.{CheckResult, refused_check, accepted_check, problem_of, check_designs, check_pair, check_read, check_outcome, verdict_answer, verdict_trace, check_answer, trace_after, cleared_after, check_result, lent_of}
use Rattle.laws.specs.Terms.{proved_by_place}
use Rattle.laws.proofs.Check.Asked.{largest_within}
use Rattle.laws.proofs.Check.Proved.{prove_place}
use Rattle.calls.specs.Answers.{asked_of, check_of, checked_of}
use Rattle.calls.specs.declared.answers.Asked.{Asked}
use Rattle.calls.specs.declared.answers.CheckAnswer.{CheckAnswer}
use Rattle.run.specs.RunTables.{padded}
use Rattle.run.specs.RunLaws.{Alike, bit_at_append}
use Rattle.refusals.specs.RefusalLaws.{accepted}
use Rattle.queries.specs.Problem.{answer_of_verdict}
use Rattle.queries.specs.declared.problem.Verdict.{Verdict}
use Rattle.queries.specs.declared.problem.Verdict.TheVariants as Verdicts
use Rattle.checker.specs.Results.{Cleared, proved_by}

-- ---- a call that is refused

module _ (r : CheckAnswer) (trace words : List ℕ) (scores : List Float) where
  -- everything lent stays
  refused_result : (f : Refusal) → check_of r ≡ check_answer (refused_check f) → checked_of r trace words scores ≡ check_result (refused_check f) trace words scores
  unfolding checked_of check_result trace_after cleared_after
  refused_result f e = rw e

  -- the pair is refused
  pub pair-refused : (o : Options) (gold gate : Design) (f : Option Refusal) (g : Refusal) → f ≡ some g → check_of r ≡ check_answer (refused_check g)
      → checked_of r trace words scores ≡ check_result (check_pair o gold gate f) trace words scores
  unfolding check_pair
  pair-refused o gold gate f g e h = rw e (refused_result g h)

  -- a record is refused
  pub read-refused : (s t : List ℕ) (o : Options) (lent : Lent) (f : Refusal) → read_pair s t ≡ refused_pair f → check_of r ≡ check_answer (refused_check f)
      → checked_of r trace words scores ≡ check_result (check_outcome s t o lent) trace words scores
  unfolding check_outcome check_read
  read-refused s t o lent f e h = rw e (refused_result f h)

-- ---- a call that is accepted

-- both records are accepted
pub read-accepted : (r : CheckResult) (s t trace words : List ℕ) (scores : List Float) (o : Options) (lent : Lent) (gold gate : Design) → read_pair s t ≡ both gold gate
    → r ≡ check_result (check_pair o gold gate (check_fault gold gate o lent)) trace words scores → r ≡ check_result (check_outcome s t o lent) trace words scores
unfolding check_outcome check_read
read-accepted r s t trace words scores o lent gold gate e h = rw e h

-- no check of the pair refuses
pub pair-accepted : (r : CheckResult) (trace words : List ℕ) (scores : List Float) (o : Options) (gold gate : Design) (f : Option Refusal) → f ≡ none
    → r ≡ check_result (accepted_check (check_designs o gold gate (initial_bits gold) (initial_bits gate))) trace words scores → r ≡ check_result (check_pair o gold gate f) trace words scores
unfolding check_pair
pair-accepted r trace words scores o gold gate f e h = rw e h

-- ---- what is proved

-- by the mode, and the status, depth and query of an answer
proved_in : Bool → Numbers.CheckAnswer → Option ℕ
proved_in earliest c = cond (eqb c.status 3) (proved_by_place earliest c.depth c.query) none

verdict_in : (earliest : Bool) (u : Verdict) (a : Numbers.Asked) → proved_by earliest u ≡ proved_in earliest (answer_of_verdict u a none)
unfolding proved_by proved_in answer_of_verdict accepted_answer status_number
verdict_in earliest (Verdicts.Equivalent d) a = refl
verdict_in earliest (Verdicts.NotEquivalent d m) a = refl
verdict_in earliest (Verdicts.Inconclusive d) a = refl
verdict_in earliest (Verdicts.GaveUp d q) a = refl

-- the model's verdict has proved what its answer's numbers say
outcome_in : (earliest : Bool) (limit : ℕ) (p : Problem) (D : ℕ) (a : Numbers.Asked)
    → proved_in earliest (verdict_answer (prove_sequential_equivalence earliest limit p D).verdict a none) ≡ proved_through (prove_sequential_equivalence earliest limit p D).verdict (prove_sequential_equivalence earliest limit p D).asked
unfolding proved_in verdict_answer accepted_answer status_number proved_through
outcome_in earliest limit p D a = go (prove_sequential_equivalence earliest limit p D).verdict refl
  where
    go : (v : Model.Verdict) → (prove_sequential_equivalence earliest limit p D).verdict ≡ v → proved_in earliest (verdict_answer v a none) ≡ proved_through v (prove_sequential_equivalence earliest limit p D).asked
    go (Model.Equivalent d) e = refl
    go (Model.NotEquivalent d m bytes) e = refl
    go (Model.Inconclusive d) e = refl
    go (Model.GaveUp d q) e = sym (prove_place earliest limit p D d q e) ∙ ap (λ (v : Model.Verdict). proved_through v (prove_sequential_equivalence earliest limit p D).asked) e
    go Model.OutOfFuel e = refl

-- the verdict alone tells what the queries asked have proved
proved_by_verdict : (earliest : Bool) (limit : ℕ) (p : Problem) (D : ℕ) (u : Verdict) (a : Numbers.Asked) → answer_of_verdict u a ≡ verdict_answer (prove_sequential_equivalence earliest limit p D).verdict a
    → proved_by earliest u ≡ proved_through (prove_sequential_equivalence earliest limit p D).verdict (prove_sequential_equivalence earliest limit p D).asked
proved_by_verdict earliest limit p D u a e = verdict_in earliest u a ∙ ap (λ (f : Option ℕ → Numbers.CheckAnswer). proved_in earliest (f none)) e ∙ outcome_in earliest limit p D a

-- so the answer is that of the model's outcome
pub answer_of_lem : (earliest : Bool) (limit : ℕ) (p : Problem) (D : ℕ) (u : Verdict) (m : Asked) → ((a : Numbers.Asked) → answer_of_verdict u a ≡ verdict_answer (prove_sequential_equivalence earliest limit p D).verdict a)
    → asked_of m ≡ largest_learned (prove_sequential_equivalence earliest limit p D).asked
    → answer_of_verdict u (asked_of m) (proved_by earliest u)
    ≡ verdict_answer (prove_sequential_equivalence earliest limit p D).verdict (largest_learned (prove_sequential_equivalence earliest limit p D).asked) (proved_through (prove_sequential_equivalence earliest limit p D).verdict (prove_sequential_equivalence earliest limit p D).asked)
answer_of_lem earliest limit p D u m e h =
    ap (λ (f : Option ℕ → Numbers.CheckAnswer). f (proved_by earliest u)) (e (asked_of m))
    ∙ ap₂ (verdict_answer (prove_sequential_equivalence earliest limit p D).verdict) h (proved_by_verdict earliest limit p D u (asked_of m) (e (asked_of m)))

-- ---- what was learned

-- the most that a query learns is within every limit
pub most-small : (earliest : Bool) (limit : ℕ) (p : Problem) (D : ℕ) (m : Asked) → limit ≤ MOST-LEARNED → asked_of m ≡ largest_learned (prove_sequential_equivalence earliest limit p D).asked → m.learned ≤ 262144
unfolding asked_of
most-small earliest limit p D m h e =
    let same : m.learned ≡ (largest_learned (prove_sequential_equivalence earliest limit p D).asked).learned = ap (λ (a : Numbers.Asked). a.learned) e in
    omega (arith, same, largest_within earliest limit p D, h)

-- ---- the whole result

-- the verdict is answered with the query that learned most and what is proved, its trace is written, and all work memory is zero
pub proved : (r : CheckAnswer) (o : Outcome) (trace trace' words words₁ words' : List ℕ) (scores scores₁ scores' : List Float)
    → check_of r ≡ verdict_answer o.verdict (largest_learned o.asked) (proved_through o.verdict o.asked) → trace' ≡ verdict_trace o.verdict trace → Cleared 0 words₁ words' → Cleared score_zero scores₁ scores'
    → length words₁ ≡ length words → length scores₁ ≡ length scores
    → checked_of r trace' words' scores' ≡ check_result (accepted_check o) trace words scores
unfolding checked_of check_result check_answer trace_after cleared_after
proved r o trace trace' words words₁ words' scores scores₁ scores' a t w c lw ls = rw (a, t, w.is, c.is, lw, ls)

-- an accepted pair is lent words enough
pub words_enough : (gold gate : Design) (o : Options) (trace words : List ℕ) (scores : List Float) → check_fault gold gate o (lent_of trace words scores) ≡ none → LENT ≤ length words
unfolding lent_of
words_enough gold gate o trace words scores e = (accepted gold gate o (lent_of trace words scores) e).words_long

-- ---- rows that read alike

-- stored bits that read alike are the same by name
by_name-alike : (d : Design) (u v : StoredBits) → Alike u v → by_name d u ≡ by_name d v
unfolding by_name
by_name-alike d u v e = go (registers_by_name d)
  where
    go : (ps : List Place) → map (λ (p : Place). bit_at u p.number) ps ≡ map (λ (p : Place). bit_at v p.number) ps
    go [] = refl
    go (p ∷ ps) = ap₂ ◌∷◌ (e p.number) (go ps)

-- a check begun at them is the same
starts_alike : (o : Options) (gold gate : Design) (u v u' v' : StoredBits) → Alike u u' → Alike v v' → check_designs o gold gate u v ≡ check_designs o gold gate u' v'
unfolding check_designs problem_of
starts_alike o gold gate u v u' v' e f = rw (by_name-alike gold u u' e, by_name-alike gate v v' f)

-- rows of initial bits, with false past them, begin the check from the initial states
pub from_initial : (o : Options) (gold gate : Design) (u v : List Bool) (trace words : List ℕ) (scores : List Float) → u ≡ padded 128 (initial_bits gold) → v ≡ padded 128 (initial_bits gate)
    → check_result (accepted_check (check_designs o gold gate u v)) trace words scores ≡ check_result (accepted_check (check_designs o gold gate (initial_bits gold) (initial_bits gate))) trace words scores
unfolding padded
from_initial o gold gate u v trace words scores e f =
    ap (λ (x : Outcome). check_result (accepted_check x) trace words scores)
    (starts_alike o gold gate u v (initial_bits gold) (initial_bits gate)
    (λ k. ap (λ (x : List Bool). bit_at x k) e ∙ bit_at_append (initial_bits gold) (128 - length (initial_bits gold)) k)
    (λ k. ap (λ (x : List Bool). bit_at x k) f ∙ bit_at_append (initial_bits gate) (128 - length (initial_bits gate)) k))
