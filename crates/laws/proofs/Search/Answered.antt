-- The state in which the search of a query ends, and that the answer's total is that state's: what is learned is learned in a round that goes on. Assumes nothing.
use Prim.Native.Nat.{ℕ, zero, suc, ◌+◌, ◌<◌}
use Rattle.std.proofs.Common.{arith, ◌∙◌}
use Rattle.std.specs.Prelude.{◌≡◌, Bool, List, length, drop, ltb}
use Rattle.std.proofs.Math.Path.{refl, sym, ap, subst}
use Rattle.std.proofs.Math.Bool.{true, false}
use Rattle.std.proofs.Math.Option.{Option, none, some}
use Rattle.std.proofs.Math.Seq.{drop-length}
use Rattle.model.specs.Literal.{Literal, node, negate}
use Rattle.model.specs.Aig.{Aig}
use Rattle.model.specs.Sat.{Value, False, Unassigned, True, Clause, Assignment, Scores, Solver, value, enqueue_valued, enqueue, decision_level, Propagation, propagating, complete, conflict, propagate, Analysis, Resolution, resolving, resolved, analyze, decay_activity, Choice, no_choice, chosen, choose_variable, Answer, Search, searching, answered, decide, after_enqueue, learn, assert_learned, learn_unless, after_analysis, after_conflict, after_propagation, step, search_rounds, initialize_units, start_unless, start, encode, rounds, solve}
use Rattle.facts.specs.Lists.{All}
use Rattle.laws.specs.Terms.{answer_total, literal_count, Reached, begun, stepped, EndsIn, at_start, in_round}
use Rattle.laws.specs.Graph.Operations.{Formed}
use Rattle.laws.specs.Search.Adding.{encode-learned}
use Rattle.laws.specs.Search.Analysis.{Analyzed, AnalysisEnded}
use Rattle.laws.specs.Search.Growth.{solver_of, propagate-grows}
use Rattle.laws.specs.Search.State.{Idle, Stuck, Conflicting, RoundOk}
use Rattle.laws.specs.Search.Propagation.{propagate-keeps}
use Rattle.laws.specs.Search.Learning.{asserted-not-false}
use Rattle.laws.specs.Search.Step.{analysis-ends}
use Rattle.laws.specs.Search.Ending.{solve-not_out}
use Rattle.laws.proofs.Search.Reachable.{reached-idle, reached-total}

-- an answer has this total
abbrev AnswersWith : ℕ → Search → Type 0
AnswersWith total (searching s) = Unit {0}
AnswersWith total (answered a) = answer_total a ≡ total

-- ---- a round

module _ (total : ℕ) where
  decide-answers : (s : Solver) (c : Choice) → s.learned ≡ total → AnswersWith total (decide s c)
  unfolding decide answer_total
  decide-answers s no_choice h = h
  decide-answers s (chosen v x) h = tt

  -- a literal that is not false is enqueued
  enqueued_goes : (s : Solver) (l : Literal) (r : Option ℕ) (v : Value) → value s.assignment l ≡ v → (value s.assignment l ≡ False → ⊥)
      → AnswersWith total (after_enqueue s (enqueue_valued s.assignment l r v))
  unfolding after_enqueue enqueue_valued
  enqueued_goes s l r True e f = tt
  enqueued_goes s l r False e f = absurd (f e)
  enqueued_goes s l r Unassigned e f = tt

  module _ (n : ℕ) (C : List Clause) (s : Solver) (w : Stuck n C s) (same : s.learned ≡ total) where
    learn-answers : 0 < length s.assignment.trail_limits → (scores : Scores) (a : Analysis) (p : Literal) (b : Bool) → length scores.activity ≡ n → Analyzed n s.clauses s.assignment a p
        → AnswersWith total (learn_unless s scores (negate p) a.learned b)
    unfolding learn_unless assert_learned enqueue answer_total
    learn-answers h scores a p true size z = same
    learn-answers h scores a p false size z =
        let u = learn s scores (negate p) a.learned in
        enqueued_goes u (negate p) (some (length s.clauses)) (value u.assignment (negate p)) refl (asserted-not-false n C s w h scores a p z size)

    analysis-answers : 0 < length s.assignment.trail_limits → (limit : ℕ) (r : Resolution) → AnalysisEnded n s.clauses s.assignment r → AnswersWith total (after_analysis limit s r)
    unfolding after_analysis decay_activity
    analysis-answers h limit (resolving a i id v) z = absurd z
    analysis-answers h limit (resolved a p) z = learn-answers h (decay_activity a.scores) a p (ltb limit (s.learned + suc (length a.learned))) z.size z

    conflict-answers : (limit id level : ℕ) → length s.assignment.trail_limits ≡ level → Conflicting s id w.place → AnswersWith total (after_conflict limit s id level)
    unfolding after_conflict answer_total
    conflict-answers limit id zero e c = same
    conflict-answers limit id (suc level) e c = analysis-answers (omega arith) limit (analyze s id) (analysis-ends n C limit s w level e id c)

  propagation_answers : (n : ℕ) (C : List Clause) (limit : ℕ) (r : Propagation) → RoundOk n C r → (solver_of r).learned ≡ total → AnswersWith total (after_propagation limit r)
  unfolding after_propagation decision_level solver_of answer_total
  propagation_answers n C limit (propagating s) w h = h
  propagation_answers n C limit (complete s) w h = decide-answers s (choose_variable s) h
  propagation_answers n C limit (conflict id s) w h = conflict-answers n C s w.0 h limit id (length s.assignment.trail_limits) refl w.1

  enqueue-answers : (s : Solver) (o : Option Assignment) → s.learned ≡ total → AnswersWith total (after_enqueue s o)
  unfolding after_enqueue answer_total
  enqueue-answers s none h = h
  enqueue-answers s (some t) h = tt

  start-answers : (s : Solver) (b : Bool) → s.learned ≡ total → AnswersWith total (start_unless s b)
  unfolding start_unless answer_total
  start-answers s true h = h
  start-answers s false h = enqueue-answers s (initialize_units 0 s.clauses (some s.assignment)) h

-- a round that answers has learned nothing
step-answers : (n : ℕ) (C : List Clause) (limit : ℕ) (s : Solver) → Idle n C s → AnswersWith s.learned (step limit s)
unfolding step
step-answers n C limit s w = propagation_answers s.learned n C limit (propagate s) (propagate-keeps n C s w) (propagate-grows s).total_same

-- ---- the whole search

module _ (limit : ℕ) (g : Aig) (assumptions : List Literal) where
  -- the original clauses
  abbrev C : List Clause
  C = (encode g assumptions).clauses

  -- the state in which the search ends with this answer: it has the answer's total, which is the sum of the lengths of the clauses learned
  pub record Ended (a : Answer) : Type 0 where
    pub state : Solver
    pub ended : EndsIn limit g assumptions a state
    pub total : state.learned ≡ answer_total a
    pub sum : answer_total a ≡ literal_count (drop (length C) state.clauses)

  module _ (formed : Formed g) (inside : All (λ l. node l < length g) assumptions) where
    -- where the search is
    abbrev Here : Search → Type 0
    Here (searching s) = Reached limit g assumptions s
    Here (answered a) = Ended a

    start-here : (r : Search) → start (encode g assumptions) ≡ r → Here r
    unfolding start literal_count
    start-here (searching s) e = begun e
    start-here (answered a) e =
        let t : answer_total a ≡ 0 = subst (AnswersWith 0) e (start-answers 0 (encode g assumptions) (encode g assumptions).inconsistent (encode-learned g assumptions)) in
        record {
          state = encode g assumptions;
          ended = at_start e;
          total = encode-learned g assumptions ∙ sym t;
          sum = t ∙ ap literal_count (sym (drop-length C));
        }

    step-here : (s : Solver) → Reached limit g assumptions s → (r : Search) → step limit s ≡ r → Here r
    step-here s w (searching t) e = stepped w e
    step-here s w (answered a) e =
        let t : answer_total a ≡ s.learned = subst (AnswersWith s.learned) e (step-answers (length g) C limit s (reached-idle limit g formed assumptions inside s w).0) in
        record { state = s; ended = in_round w e; total = sym t; sum = t ∙ reached-total limit g formed assumptions inside s w }

    rounds-end : (n : ℕ) (r : Search) → Here r → solve limit g assumptions ≡ search_rounds limit n r → Ended (search_rounds limit n r)
    unfolding search_rounds
    rounds-end zero (searching s) h e = absurd (solve-not_out limit g formed assumptions inside s.learned e)
    rounds-end zero (answered a) h e = h
    rounds-end (suc n) (searching s) h e = rounds-end n (step limit s) (step-here s h (step limit s) refl) e
    rounds-end (suc n) (answered a) h e = h

    -- every search ends in such a state
    pub solve-ends : Ended (solve limit g assumptions)
    unfolding solve
    solve-ends = rounds-end (rounds limit g) (start (encode g assumptions)) (start-here (start (encode g assumptions)) refl) refl
