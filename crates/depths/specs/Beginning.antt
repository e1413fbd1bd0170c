-- Before query 1 of depth 1: query 0 or nothing; then the depths, and what the whole proves. Assumes nothing.
use Rattle.std.specs.Prelude.{◌≡◌, Bool, true, false, ℕ, zero, suc, ◌+◌, ◌*◌, ◌≤◌, length, Float}
use Rattle.std.proofs.Math.Path.{refl, ap}
use Rattle.std.proofs.Common.{sym, subst, ◌∙◌, arith, mul-le-mul}
use mathlib.Core.List.{List, []}
use Rattle.model.specs.Answers as Numbers
use Rattle.model.specs.Options.{first_query}
use Rattle.model.specs.Equivalence as Model
use Rattle.model.specs.Equivalence.{Proving, undecided, decided, base_counterexample, depths, query0, before_query1, prove_sequential_equivalence, largest_from, largest_learned}
use Rattle.model.specs.Check.{verdict_answer, verdict_trace}
use Rattle.laws.proofs.Check.Asked.{asked-first, largest_from-first}
use Rattle.calls.specs.Answers.{asked_of}
use Rattle.calls.specs.declared.answers.Asked.{Asked}
use Rattle.unrolling.specs.Side.{Untouched}
use Rattle.unrolling.specs.Cycling.{paired-kept}
use Rattle.queries.specs.Problem.{StandsFor, Provable, answer_of_verdict, Proves}
use Rattle.queries.specs.Untouched.{untouched_none, cycle_cost_kept}
use Rattle.queries.specs.Querying.{Queryable, stands_for_kept, queryable_at}
use Rattle.queries.specs.declared.problem.Problem.{Problem}
use Rattle.queries.specs.declared.problem.Outcome.{Outcome}
use Rattle.depths.specs.Most.{MostOf}
use Rattle.depths.specs.Deciding.{Agrees}
use Rattle.depths.specs.Depths.{Asks0, Deepens, decided_stays}
use Rattle.std.specs.declared.ops.ControlFlow.{ControlFlow}
use Rattle.std.specs.declared.ops.ControlFlow.TheVariants.{Continue, Break}

-- what the most learned is before the first query
abbrev pub none_asked : Bool → Numbers.Asked
none_asked earliest = record { depth = 1; query = first_query earliest; learned = 0 }

-- From w to w' what comes before query 1 of depth 1 was asked, and what is decided is the model's.
pub record Begins (x : Problem) (earliest : Bool) (limit D : ℕ) (w t : List ℕ) (r : ControlFlow Outcome Asked) (w' t' : List ℕ) : Type 0 where
  pub is : (p : Model.Problem) → StandsFor x w p → Agrees (none_asked earliest) r t t' (before_query1 earliest limit p D)
  pub kept : Untouched w w'

-- query 0 may be asked
pub asked_0 : (x : Problem) (limit D : ℕ) (w : List ℕ) (s : List Float) (t : List ℕ) → Provable x limit D w s t
    → Queryable x limit 0 w s × (suc 0 * x.gold.input_count + x.gold.output_count ≤ length t)
asked_0 x limit D w s t a =
    let i = x.gold.input_count in
    let less : suc 0 * i ≤ suc D * i = mul-le-mul {n₁ = suc 0} {m₁ = i} {n₂ = suc D} {m₂ = i} (omega arith) (omega arith) in
    (queryable_at x limit D 0 w s t a (omega arith), omega (arith, a.trace_long, less))

-- in the mode of the earliest cycle it is asked
pub begins_0 : (x : Problem) (earliest : Bool) (limit D : ℕ) (w t : List ℕ) (m : Asked) (r : ControlFlow Outcome Asked) (w' t' : List ℕ) → earliest ≡ true → 1 ≤ D → asked_of m ≡ none_asked earliest
    → Asks0 x limit w t m r w' t' → Begins x earliest limit D w t r w' t'
begins_0 x earliest limit D w t m r w' t' mode low h b =
    record { is = λ p q. subst (Agrees (none_asked earliest) r t t') (sym (asked p D low)) (b.is p q (none_asked earliest) h); kept = b.kept }
  where
    to_depth_lem : (p : Model.Problem) (n : ℕ) → 1 ≤ n → before_query1 true limit p n ≡ query0 limit (base_counterexample p 0)
    to_depth_lem p zero z = absurd (omega arith)
    to_depth_lem p (suc n) z = unfold before_query1 in refl

    asked : (p : Model.Problem) (n : ℕ) → 1 ≤ n → before_query1 earliest limit p n ≡ query0 limit (base_counterexample p 0)
    asked p n z = ap (λ (e : Bool). before_query1 e limit p n) mode ∙ to_depth_lem p n z

-- without it nothing is
pub begins-none : (x : Problem) (earliest : Bool) (limit D : ℕ) (w t : List ℕ) (m : Asked) → earliest ≡ false → asked_of m ≡ none_asked earliest → Begins x earliest limit D w t (Continue m) w t
begins-none x earliest limit D w t m mode h =
    record { is = λ p q. subst (Agrees (none_asked earliest) (Continue m) t t) (sym (asked p)) (refl, unfold largest_from in h); kept = untouched_none w }
  where
    asked : (p : Model.Problem) → before_query1 earliest limit p D ≡ undecided []
    asked p = unfold before_query1 in ap (λ (e : Bool). before_query1 e limit p D) mode

-- the depths may be asked after it
pub provable_kept : (x : Problem) (limit D : ℕ) (w : List ℕ) (s : List Float) (t : List ℕ) (w' : List ℕ) (s' : List Float) (t' : List ℕ) → Provable x limit D w s t → Untouched w w'
    → length w' ≡ length w → length s' ≡ length s → length t' ≡ length t → Provable x limit D w' s' t'
provable_kept x limit D w s t w' s' t' a k e f g =
    record {
      long = omega (arith, a.long);
      scores_long = omega (arith, a.scores_long);
      trace_long = omega (arith, a.trace_long);
      limited = a.limited;
      some = a.some;
      shallow = a.shallow;
      paired = paired-kept x.gold x.gate w w' a.paired k;
      gold_matches = a.gold_matches;
      gate_matches = a.gate_matches;
      gold_bits = a.gold_bits;
      gate_bits_lem = a.gate_bits_lem;
      room = rw (cycle_cost_kept x.gold x.gate w w' a.paired k) a.room;
      problem = a.problem;
      stands = stands_for_kept x w w' a.paired k a.problem a.stands;
    }

-- the most of the queries that a whole proof asks: it begins at the first of them
most_of_all : (earliest : Bool) (limit : ℕ) (p : Model.Problem) (D : ℕ) (asked : List Numbers.Asked) (m : Asked) → 1 ≤ D → (prove_sequential_equivalence earliest limit p D).asked ≡ asked
    → MostOf (none_asked earliest) asked m → asked_of m ≡ largest_learned (prove_sequential_equivalence earliest limit p D).asked
most_of_all earliest limit p D asked m low e h =
    let z = asked-first earliest limit p D low in
    h ∙ ap (largest_from (none_asked earliest)) (sym e) ∙ ap (largest_from (none_asked earliest)) z.2 ∙ largest_from-first (first_query earliest) z.0 z.1 ∙ ap largest_learned (sym z.2)

-- what is promised of a problem that is stood for
abbrev Given : Bool → ℕ → ℕ → List ℕ → Outcome → List ℕ → Model.Problem → Type 0
Given earliest limit D t o t' p =
    ((y : Numbers.Asked) → answer_of_verdict o.verdict y ≡ verdict_answer (prove_sequential_equivalence earliest limit p D).verdict y)
    × (t' ≡ verdict_trace (prove_sequential_equivalence earliest limit p D).verdict t)
    × (asked_of o.most ≡ largest_learned (prove_sequential_equivalence earliest limit p D).asked)

-- an outcome that agrees with the model's
given : (earliest : Bool) (limit D : ℕ) (t : List ℕ) (o : Outcome) (t' : List ℕ) (p : Model.Problem) (u : Model.Outcome) → 1 ≤ D → u ≡ prove_sequential_equivalence earliest limit p D
    → Agrees (none_asked earliest) (Break o) t t' (decided u.verdict u.asked) → Given earliest limit D t o t' p
given earliest limit D t o t' p u low e g = (
  λ y. g.0 y ∙ ap (λ (z : Model.Outcome). verdict_answer z.verdict y) e,
  g.1 ∙ ap (λ (z : Model.Outcome). verdict_trace z.verdict t) e,
  most_of_all earliest limit p D u.asked o.most low (ap (λ (z : Model.Outcome). z.asked) (sym e)) g.2,
)

module _ (x : Problem) (earliest : Bool) (limit D : ℕ) (w t : List ℕ) (r : ControlFlow Outcome Asked) (w₁ t₁ : List ℕ) (low : 1 ≤ D) (b : Begins x earliest limit D w t r w₁ t₁) where
  -- it decided
  pub decided-first : (o : Outcome) → r ≡ Break o → Proves x earliest limit D w t o t₁
  decided-first o e = record { answer = λ p q. (all p q).0; traced = λ p q. (all p q).1; most = λ p q. (all p q).2 }
    where
      by : (p : Model.Problem) (z : Proving) → before_query1 earliest limit p D ≡ z → Agrees (none_asked earliest) (Break o) t t₁ z → Given earliest limit D t o t₁ p
      by p (undecided asked) h g = absurd g
      by p (decided v asked) h g =
          given earliest limit D t o t₁ p (record { verdict = v; asked = asked }) low
          (sym (decided_stays limit p D 0 v asked) ∙ (unfold prove_sequential_equivalence in ap (depths limit p D 0) (sym h))) g

      all : (p : Model.Problem) → StandsFor x w p → Given earliest limit D t o t₁ p
      all p q = by p (before_query1 earliest limit p D) refl (rw e at (b.is p q))

  -- it did not: the depths decide
  pub deepened : (m : Asked) → r ≡ Continue m → ((p : Model.Problem) → StandsFor x w p → StandsFor x w₁ p) → (o : Outcome) (t₂ : List ℕ) → Deepens x limit D w₁ t₁ m o t₂ → Proves x earliest limit D w t o t₂
  deepened m e here o t₂ c = record { answer = λ p q. (all p q).0; traced = λ p q. (all p q).1; most = λ p q. (all p q).2 }
    where
      by : (p : Model.Problem) → StandsFor x w p → (z : Proving) → before_query1 earliest limit p D ≡ z → Agrees (none_asked earliest) (Continue m) t t₁ z → Given earliest limit D t o t₂ p
      by p q (decided v asked) h g = absurd g
      by p q (undecided asked) h g =
          given earliest limit D t o t₂ p (depths limit p D 0 (undecided asked)) low (unfold prove_sequential_equivalence in ap (depths limit p D 0) (sym h))
          (subst (λ (l : List ℕ). Agrees (none_asked earliest) (Break o) l t₂ (decided (depths limit p D 0 (undecided asked)).verdict (depths limit p D 0 (undecided asked)).asked)) g.0
          (c.is p (here p q) (none_asked earliest) asked g.1))

      all : (p : Model.Problem) → StandsFor x w p → Given earliest limit D t o t₂ p
      all p q = by p q (before_query1 earliest limit p D) refl (rw e at (b.is p q))
