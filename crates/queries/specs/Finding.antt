-- Query 1: a counterexample found, with its trace, or none. Assumes nothing.
use Rattle.std.specs.Prelude.{◌≡◌, refl, Bool, List, ℕ, suc, ◌+◌, ◌*◌, ◌≤◌, length, replicate, Float}
use Rattle.std.proofs.Common.{ap, sym, ◌∙◌, arith, add-one}
use Rattle.words.specs.Layout.{FRAMES}
use Rattle.words.specs.Region.{region}
use Rattle.model.specs.Sat as Sat
use Rattle.model.specs.Equivalence as Model
use Rattle.model.specs.Equivalence.{FrameComparison, base_counterexample, first_mismatch, trace_bytes}
use Rattle.model.specs.Check.{overwrite}
use Rattle.equivalence.specs.Frames.{comparisons_of}
use Rattle.equivalence.specs.Counterexample.{Compares}
use Rattle.assignment.specs.State.{model_of}
use Rattle.sat.specs.SolveLaws.{search_answer}
use Rattle.sat.specs.declared.state.Answer.{Answer}
use Rattle.sat.specs.declared.state.Answer.TheVariants as Answers
use Rattle.trace.specs.Trace.{Traceable, Traced}
use Rattle.queries.specs.Problem.{StandsFor}
use Rattle.unrolling.specs.Side.{Untouched}
use Rattle.queries.specs.Asking.{Asked}
use Rattle.queries.specs.Querying.{Queryable, Stated, Queried, started, stated_compares, queried}
use Rattle.queries.specs.declared.problem.Problem.{Problem}
use Rattle.queries.specs.declared.query.Found.{Found}

-- the search's answer, with the mismatch of a model, agrees with the model's answer to a query with these comparisons; the trace goes from t to t'
abbrev pub FoundBy : Answer → ℕ → List ℕ → List ℕ → List FrameComparison → Sat.Answer → Type 0
FoundBy (Answers.Model n) m t t' cs z =
    (values : List Bool) × (z ≡ Sat.model values n) × (m ≡ first_mismatch values cs) × (t' ≡ overwrite (trace_bytes values cs m) t)
FoundBy (Answers.NoModel n) m t t' cs z = (z ≡ Sat.no_model n) × (t' ≡ t)
FoundBy (Answers.GaveUp n) m t t' cs z = (z ≡ Sat.gave_up n) × (t' ≡ t)

-- Query 1 is answered as the model answers it, and the next query may be asked.
pub record Finds (x : Problem) (limit d : ℕ) (w t : List ℕ) (r : Found) (w' : List ℕ) (scores' : List Float) (t' : List ℕ) : Type 0 where
  pub is : (p : Model.Problem) → StandsFor x w p → FoundBy r.answer r.mismatch t t' (base_counterexample p d).comparisons (Model.ask limit (base_counterexample p d))
  pub kept : Untouched w w'
  pub next : Queryable x limit d w' scores'

module _ (x : Problem) (limit d : ℕ) (w : List ℕ) (s : List Float) (t : List ℕ) (a : Queryable x limit d w s) (c : ℕ) (w₁ : List ℕ) (m : ℕ)
    (b : Compares x.gold x.gate x.gold_start x.gate_start d w c w₁ m)
    (r : Answer) (w₂ : List ℕ) (s₂ : List Float) (z : Asked limit c w₁ (replicate 128 m) 1 r w₂ s₂) where
  stated : Stated x (λ p. base_counterexample p d) w c w₁ (replicate 128 m) 1
  stated = stated_compares x limit d w s a c w₁ m b

  answer : Queried x limit d (λ p. base_counterexample p d) w r w₂ s₂
  answer = queried x limit d (λ p. base_counterexample p d) w s c w₁ (replicate 128 m) 1 a stated r w₂ s₂ z

  -- the model's answer, by an answer of the search
  answer-is : (u : Answer) → r ≡ u → (p : Model.Problem) → StandsFor x w p → Model.ask limit (base_counterexample p d) ≡ search_answer c u w₂
  answer-is u e p q = sym (z.is (base_counterexample p d) (stated.graph p q) (stated.assumptions p q)) ∙ ap (λ (y : Answer). search_answer c y w₂) e

  -- the search leaves the comparisons
  frames_kept : region FRAMES w₂ ≡ region FRAMES w₁
  frames_kept = z.frame.same FRAMES refl

  comparisons_are : (p : Model.Problem) → StandsFor x w p
      → comparisons_of x.gold.input_count x.gold.output_count (d + 1) (region FRAMES w₂) ≡ (base_counterexample p d).comparisons
  comparisons_are p q = rw frames_kept (ap (λ (y : Model.Query). y.comparisons) (b.is p q.standing (started x w p q)))

  -- a trace may be written
  pub traceable : suc d * x.gold.input_count + x.gold.output_count ≤ length t → Traceable x.gold.input_count x.gold.output_count (d + 1) w₂ t
  traceable room =
      record {
        long = z.long;
        inputs = a.paired.gold.input_count_lem;
        outputs = a.paired.gold.output_count_lem;
        some = omega arith;
        cycles_small = omega (arith, a.shallow);
        room = rw add-one room;
      }

  -- what was found, by the search's answer
  finds : (u : Answer) → r ≡ u → (n : ℕ) (t' : List ℕ)
      → ((p : Model.Problem) → StandsFor x w p → FoundBy u n t t' (base_counterexample p d).comparisons (Model.ask limit (base_counterexample p d)))
      → Finds x limit d w t (record { answer = r; mismatch = n }) w₂ s₂ t'
  finds u e n t' h = record { is = λ p q. rw e (h p q); kept = answer.kept; next = answer.next }

  module _ (k : ℕ) where
    -- the search found a model, and its trace was written
    pub found : r ≡ Answers.Model k → (n : ℕ) (t' : List ℕ) → Traced c x.gold.input_count x.gold.output_count (d + 1) w₂ t n t'
        → Finds x limit d w t (record { answer = r; mismatch = n }) w₂ s₂ t'
    found e n t' f =
        finds (Answers.Model k) e n t' (λ p q. (
          model_of c w₂,
          answer-is (Answers.Model k) e p q,
          f.mismatch_is ∙ ap (λ (cs : List FrameComparison). first_mismatch (model_of c w₂) cs) (comparisons_are p q),
          f.trace_is ∙ ap (λ (cs : List FrameComparison). overwrite (trace_bytes (model_of c w₂) cs n) t) (comparisons_are p q),
        ))

    -- there is none
    pub found_none : r ≡ Answers.NoModel k → (n : ℕ) → Finds x limit d w t (record { answer = r; mismatch = n }) w₂ s₂ t
    found_none e n = finds (Answers.NoModel k) e n t (λ p q. (answer-is (Answers.NoModel k) e p q, refl))

    -- the search gave up
    pub found_gave_up : r ≡ Answers.GaveUp k → (n : ℕ) → Finds x limit d w t (record { answer = r; mismatch = n }) w₂ s₂ t
    found_gave_up e n = finds (Answers.GaveUp k) e n t (λ p q. (answer-is (Answers.GaveUp k) e p q, refl))
