-- The call check, with its numbers and its lent memory: what an accepted call answers, and what it leaves in the trace buffer. Assumes nothing.
use Rattle.std.specs.Prelude.{ℕ, suc, ◌+◌, ◌*◌, ◌≤◌, ◌≡◌, ◌≢◌, false, List, length, ltb, Float}
use Rattle.std.proofs.Common.{arith, mul-le-mul_right, sym, ◌∙◌, true≢false, ltb-false}
use Rattle.std.proofs.Math.Path.{refl, ap}
use Rattle.std.proofs.Math.Option.{Option, none, some}
use Rattle.model.specs.Answers.{Status, status_number, Asked, is_proved, proved_cycle, accepted_answer}
use Rattle.model.specs.Answers as Answers
use Rattle.model.specs.Options.{Options}
use Rattle.model.specs.Netlist.{Design, input_count, output_count}
use Rattle.model.specs.Run.{initial_bits}
use Rattle.model.specs.Pair.{Lent, trace_length, too_short, check_refusal}
use Rattle.model.specs.Replay.{replay}
use Rattle.model.specs.Induction.{answered}
use Rattle.model.specs.Equivalence.{Verdict, Equivalent, NotEquivalent, Inconclusive, GaveUp, OutOfFuel, largest_learned, proved_before, proved_through}
use Rattle.model.specs.Check.{check_designs, verdict_answer, check_answer, overwrite, verdict_trace, trace_after, CheckResult, check_result, lent_of, check, checked}
use Rattle.laws.specs.Terms.{Numbered, UnusedZero, Called, TraceLeft}
use Rattle.facts.specs.Bools.{or_left}
use Rattle.laws.specs.Induction.Pairs.{Accepted, accepted-pair, Facts, facts_of, comparable}
use Rattle.laws.specs.Check.Call.{call-is, check-numbered}
use Rattle.laws.proofs.Check.Designs.{designs_trace}
use Rattle.laws.proofs.Check.Records.{check_sound, check-replays}
use Rattle.laws.proofs.Check.Ending.{check-answers}

-- no two statuses have one number
status_injective : (p q : Status) → status_number p ≡ status_number q → p ≡ q
unfolding status_number
status_injective Answers.Equivalent Answers.Equivalent e = refl
status_injective Answers.Equivalent Answers.NotEquivalent e = absurd (omega arith)
status_injective Answers.Equivalent Answers.Inconclusive e = absurd (omega arith)
status_injective Answers.Equivalent Answers.GaveUp e = absurd (omega arith)
status_injective Answers.NotEquivalent Answers.Equivalent e = absurd (omega arith)
status_injective Answers.NotEquivalent Answers.NotEquivalent e = refl
status_injective Answers.NotEquivalent Answers.Inconclusive e = absurd (omega arith)
status_injective Answers.NotEquivalent Answers.GaveUp e = absurd (omega arith)
status_injective Answers.Inconclusive Answers.Equivalent e = absurd (omega arith)
status_injective Answers.Inconclusive Answers.NotEquivalent e = absurd (omega arith)
status_injective Answers.Inconclusive Answers.Inconclusive e = refl
status_injective Answers.Inconclusive Answers.GaveUp e = absurd (omega arith)
status_injective Answers.GaveUp Answers.Equivalent e = absurd (omega arith)
status_injective Answers.GaveUp Answers.NotEquivalent e = absurd (omega arith)
status_injective Answers.GaveUp Answers.Inconclusive e = absurd (omega arith)
status_injective Answers.GaveUp Answers.GaveUp e = refl

-- a trace of a cycle within the depth fits the buffer
trace-fits : (gold : Design) (D : ℕ) (lent : Lent) (m n : ℕ) → too_short gold D lent ≡ false → m ≤ D → n ≡ trace_length gold m → n ≤ lent.trace
unfolding too_short trace_length
trace-fits gold D lent m n h l e =
    let k = ltb-false lent.trace (suc D * input_count gold + output_count gold) (or_left _ (ltb lent.words 8388608) (or_left _ (ltb lent.scores 65536) h)) in
    omega (arith, k, e, mul-le-mul_right {m = suc m} {n = suc D} (input_count gold) (omega (arith, l)))

-- where nothing is proved the cycle is 0
not-proved : (proved : Option ℕ) → is_proved proved ≡ false → proved_cycle proved ≡ 0
unfolding is_proved proved_cycle
not-proved none h = refl
not-proved (some c) h = absurd (true≢false h)

-- what the answer of a verdict does not use is 0
verdict_unused : (v : Verdict) (most : Asked) (asked : List Asked) → UnusedZero (verdict_answer v most (proved_through v asked))
unfolding verdict_answer accepted_answer status_number proved_through is_proved proved_cycle
verdict_unused (Equivalent d) most asked = record { side = refl; place = refl; mismatch = λ h. refl; query = λ h. refl; equal = λ h. refl; through = λ h. refl }
verdict_unused (NotEquivalent d m bytes) most asked = record { side = refl; place = refl; mismatch = λ h. absurd (h refl); query = λ h. refl; equal = λ h. refl; through = λ h. refl }
verdict_unused (Inconclusive d) most asked = record { side = refl; place = refl; mismatch = λ h. refl; query = λ h. refl; equal = λ h. refl; through = λ h. refl }
verdict_unused (GaveUp d q) most asked = record { side = refl; place = refl; mismatch = λ h. refl; query = λ h. absurd (h refl); equal = λ h. absurd (h refl); through = not-proved (proved_before d q asked) }
verdict_unused OutOfFuel most asked = record { side = refl; place = refl; mismatch = λ h. refl; query = λ h. refl; equal = λ h. refl; through = λ h. refl }

module _ (a b : List ℕ) (o : Options) (trace words : List ℕ) (scores : List Float) (free : check_refusal a b o (lent_of trace words scores) ≡ none) where
  -- an accepted call's numbers
  pub called : Called a b o trace words scores
  called =
      let k : Accepted a b o (lent_of trace words scores) = accepted-pair a b o (lent_of trace words scores) free in
      let r = check-answers a b o (lent_of trace words scores) free in
      record {
        gold = k.gold;
        gate = k.gate;
        pair = k.pair;
        status = r.0;
        depth = r.1;
        numbered = check-numbered a b o trace words scores r.0 r.1 r.2;
        says = λ n. check_sound a b o (lent_of trace words scores) r.0 r.1 r.2 n k.gold k.gate k.pair;
      }

  -- the call's numbers are what the laws of checks speak of
  pub call-checked : (status : Status) → (check a b o trace words scores).answer.status ≡ status_number status
      → checked a b o (lent_of trace words scores) ≡ answered status (check a b o trace words scores).answer.depth
  call-checked status h =
      let r = check-answers a b o (lent_of trace words scores) free in
      let n : Numbered (check a b o trace words scores).answer r.0 r.1 = check-numbered a b o trace words scores r.0 r.1 r.2 in
      let e : r.0 ≡ status = status_injective r.0 status (sym n.status_number_lem ∙ h) in
      r.2 ∙ ap (λ (p : Status). answered p r.1) e ∙ ap (answered status) (sym n.depth)

  module _ (k : Accepted a b o (lent_of trace words scores)) where
    -- the verdict on its designs
    abbrev verdict : Verdict
    verdict = (check_designs o k.gold k.gate (initial_bits k.gold) (initial_bits k.gate)).verdict

    -- the query of theirs that learned most
    abbrev most : Asked
    most = largest_learned (check_designs o k.gold k.gate (initial_bits k.gold) (initial_bits k.gate)).asked

    -- what is proved where the verdict is this
    abbrev proved : Verdict → Option ℕ
    proved v = proved_through v (check_designs o k.gold k.gate (initial_bits k.gold) (initial_bits k.gate)).asked

    -- answer and trace, by the verdict
    by_verdict : (v : Verdict) → verdict ≡ v → ((check a b o trace words scores).answer ≡ verdict_answer v most (proved v)) × ((check a b o trace words scores).trace ≡ verdict_trace v trace)
    unfolding check_result check_answer trace_after
    by_verdict v e =
        let c = call-is a b o trace words scores k.gold k.gate free k.pair in
        (ap (λ (r : CheckResult). r.answer) c ∙ ap (λ (x : Verdict). verdict_answer x most (proved x)) e, ap (λ (r : CheckResult). r.trace) c ∙ ap (λ (x : Verdict). verdict_trace x trace) e)

    not-one : (n : ℕ) (v : Verdict) → (verdict_answer v most (proved v)).status ≡ n → n ≢ 1 → (check a b o trace words scores).answer ≡ verdict_answer v most (proved v) → (check a b o trace words scores).answer.status ≡ 1 → ⊥
    not-one n v e h p q = h (sym e ∙ sym (ap (λ x. x.status) p) ∙ q)

    left : (v : Verdict) → verdict ≡ v → (check a b o trace words scores).answer.status ≡ 1 → TraceLeft a b o trace words scores
    unfolding verdict_answer accepted_answer status_number verdict_trace overwrite lent_of
    left (Equivalent d) e s = absurd (not-one 0 (Equivalent d) refl (λ q. omega arith) (by_verdict (Equivalent d) e).0 s)
    left (NotEquivalent d m bytes) e s =
        let c = by_verdict (NotEquivalent d m bytes) e in
        let x = designs_trace o k.gold k.gate (comparable a b o (lent_of trace words scores) k.gold k.gate free k.pair) (initial_bits k.gold) (initial_bits k.gate) d m bytes e in
        let f : Facts k.gold k.gate o (lent_of trace words scores) = facts_of k.gold k.gate o (lent_of trace words scores) k.free in
        let q : (check a b o trace words scores).answer.mismatch ≡ m = ap (λ y. y.mismatch) c.0 in
        let p : (check a b o trace words scores).answer.depth ≡ d = ap (λ y. y.depth) c.0 in
        record {
          bytes = bytes;
          fits = trace-fits k.gold o.depth (lent_of trace words scores) m (length bytes) f.memory (omega (arith, x.0, x.1.early)) x.1.size;
          written = c.1;
          yes = ap (λ (i : ℕ). replay a b i bytes) q ∙ check-replays a b o (lent_of trace words scores) k.gold k.gate d m bytes free k.pair e;
          early = omega (arith, q, p, x.1.early);
        }
    left (Inconclusive d) e s = absurd (not-one 2 (Inconclusive d) refl (λ q. omega arith) (by_verdict (Inconclusive d) e).0 s)
    left (GaveUp d q) e s = absurd (not-one 3 (GaveUp d q) refl (λ q. omega arith) (by_verdict (GaveUp d q) e).0 s)
    left OutOfFuel e s = absurd (not-one 4 OutOfFuel refl (λ q. omega arith) (by_verdict OutOfFuel e).0 s)

    kept : (v : Verdict) → verdict ≡ v → (check a b o trace words scores).answer.status ≢ 1 → (check a b o trace words scores).trace ≡ trace
    unfolding verdict_answer accepted_answer status_number verdict_trace
    kept (Equivalent d) e s = (by_verdict (Equivalent d) e).1
    kept (NotEquivalent d m bytes) e s = absurd (s (ap (λ y. y.status) (by_verdict (NotEquivalent d m bytes) e).0))
    kept (Inconclusive d) e s = (by_verdict (Inconclusive d) e).1
    kept (GaveUp d q) e s = (by_verdict (GaveUp d q) e).1
    kept OutOfFuel e s = (by_verdict OutOfFuel e).1

  -- what an accepted call's answer does not use is 0
  pub unused_zero : UnusedZero (check a b o trace words scores).answer
  unused_zero =
      let k : Accepted a b o (lent_of trace words scores) = accepted-pair a b o (lent_of trace words scores) free in
      rw (by_verdict k (verdict k) refl).0 (verdict_unused (verdict k) (most k) (check_designs o k.gold k.gate (initial_bits k.gold) (initial_bits k.gate)).asked)

  -- after status 1 the trace buffer begins with bytes that replay answers with yes at a mismatch within the depth, and the others stay
  pub trace-left : (check a b o trace words scores).answer.status ≡ 1 → TraceLeft a b o trace words scores
  trace-left s = left (accepted-pair a b o (lent_of trace words scores) free) _ refl s

  -- after another status the trace buffer stays
  pub trace-kept : (check a b o trace words scores).answer.status ≢ 1 → (check a b o trace words scores).trace ≡ trace
  trace-kept s = kept (accepted-pair a b o (lent_of trace words scores) free) _ refl s
