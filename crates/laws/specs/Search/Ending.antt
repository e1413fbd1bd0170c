-- The rounds of `solve` suffice: each round but the last assigns a variable more or learns within the limit, so it never answers out_of_fuel. Assumes nothing.
use Prim.Native.Nat.{ℕ, zero, suc, ◌+◌, ◌-◌, ◌*◌, ◌≤◌, ◌<◌}
use Rattle.std.proofs.Common.{arith, suc-mul, mul-le-mul_right, subst}
use Rattle.std.specs.Prelude.{◌≡◌, ◌≢◌, ◌⊎◌, Bool, List, length, ltb}
use Rattle.std.proofs.Math.Path.{refl, ap}
use Rattle.std.proofs.Math.Logic.{inl, inr}
use Rattle.std.proofs.Math.Bool.{true, false}
use Rattle.std.proofs.Math.Option.{Option, none, some}
use borrow.Author.Tests.{ltb-false}
use Rattle.model.specs.Literal.{Literal, node, negate}
use Rattle.model.specs.Aig.{Aig}
use Rattle.laws.specs.Search.Growth.{solver_of, Grown, propagate-grows}
use Rattle.laws.specs.Search.Analysis.{AnalysisEnded}
use Rattle.laws.specs.Graph.Operations.{Formed}
use Rattle.facts.specs.Lists.{All}
use Rattle.laws.specs.Lists.{length-snoc}
use Rattle.laws.specs.Search.Loop.{Keeps}
use Rattle.laws.specs.Search.Total.{learn-total}
use Rattle.laws.specs.Search.State.{Idle, Stuck, Conflicting, RoundOk}
use Rattle.laws.specs.Search.Propagation.{propagate-keeps}
use Rattle.laws.specs.Search.Pigeonhole.{trail-fits}
use Rattle.laws.specs.Search.Rounds.{Ended, propagate-ends}
use Rattle.laws.specs.Search.Step.{AnswerOk, analysis-ends, step_keeps}
use Rattle.laws.specs.Search.Encode.{Encoded, encode-encoded}
use Rattle.laws.specs.Search.Start.{start-keeps}
use Rattle.model.specs.Sat.{Clause, Assignment, Scores, Solver, with_assignment, assign, push_limit, decision_level, Propagation, propagating, complete, conflict, propagate, Resolution, resolving, resolved, analyze, decay_activity, Choice, no_choice, chosen, choose_variable, Answer, model, no_model, gave_up, out_of_fuel, Search, searching, answered, enqueue, decision, decide, after_enqueue, learn, assert_learned, learn_unless, after_analysis, after_conflict, after_propagation, step, search_rounds, initialize_units, start_unless, start, encode, rounds, solve}

-- the answer is not that the rounds ended
abbrev pub InTime : Answer → Type 0
InTime (model values k) = Unit {0}
InTime (no_model k) = Unit {0}
InTime (gave_up k) = Unit {0}
InTime (out_of_fuel k) = ⊥

-- a round ends the search in time, or assigns a variable more, or learns a literal within the limit
abbrev pub Moves : ℕ → ℕ → ℕ → Search → Type 0
Moves limit long total (searching s) =
    ((long < length s.assignment.trail) × (s.learned ≡ total)) ⊎ ((total < s.learned) × (s.learned ≤ limit))
Moves limit long total (answered a) = InTime a

module _ (limit long total : ℕ) where
  decide-moves : (s : Solver) (c : Choice) → long ≤ length s.assignment.trail → s.learned ≡ total → Moves limit long total (decide s c)
  unfolding decide with_assignment assign push_limit
  decide-moves s no_choice h e = tt
  decide-moves s (chosen v x) h e = inl (omega (arith, length-snoc s.assignment.trail (decision s.assignment v)), e)

  enqueued-moves : (s : Solver) (o : Option Assignment) → total < s.learned → s.learned ≤ limit → Moves limit long total (after_enqueue s o)
  unfolding after_enqueue with_assignment
  enqueued-moves s none h e = tt
  enqueued-moves s (some t) h e = inr (h, e)

  learn-moves : (s : Solver) (c : Scores) (l : Literal) (ls : List Literal) (b : Bool) → ltb limit (s.learned + suc (length ls)) ≡ b → s.learned ≡ total
      → Moves limit long total (learn_unless s c l ls b)
  unfolding learn_unless assert_learned
  learn-moves s c l ls true e h = tt
  learn-moves s c l ls false e h =
      enqueued-moves (learn s c l ls) (enqueue (learn s c l ls).assignment l (some (length s.clauses))) (omega (arith, learn-total s c l ls))
      (omega (arith, learn-total s c l ls, ltb-false limit (s.learned + suc (length ls)) e))

  analysis-moves : (n : ℕ) (s : Solver) (r : Resolution) → AnalysisEnded n s.clauses s.assignment r → s.learned ≡ total → Moves limit long total (after_analysis limit s r)
  unfolding after_analysis
  analysis-moves n s (resolving a i id v) h e = absurd h
  analysis-moves n s (resolved a p) h e = learn-moves s (decay_activity a.scores) (negate p) a.learned (ltb limit (s.learned + suc (length a.learned))) refl e

module _ (n : ℕ) (C : List Clause) (limit : ℕ) where
  conflict-moves : (long total : ℕ) (s : Solver) (id level : ℕ) → length s.assignment.trail_limits ≡ level → (w : Stuck n C s) → Conflicting s id w.place → s.learned ≡ total
      → Moves limit long total (after_conflict limit s id level)
  unfolding after_conflict
  conflict-moves long total s id zero e w c h = tt
  conflict-moves long total s id (suc level) e w c h =
      analysis-moves limit long total n s (analyze s id) (analysis-ends n C limit s w level e id c) h

  propagation_moves : (long total : ℕ) (r : Propagation) → RoundOk n C r → Ended r → Grown total long (solver_of r) → Moves limit long total (after_propagation limit r)
  unfolding after_propagation decision_level solver_of
  propagation_moves long total (propagating s) w e h = absurd e
  propagation_moves long total (complete s) w e h = decide-moves limit long total s (choose_variable s) h.long h.total_same
  propagation_moves long total (conflict id s) w e h = conflict-moves long total s id (length s.assignment.trail_limits) refl w.0 w.1 h.total_same

  -- each round of the search moves on
  step-moves : (s : Solver) → Idle n C s → Moves limit (length s.assignment.trail) s.learned (step limit s)
  unfolding step
  step-moves s w =
      propagation_moves (length s.assignment.trail) s.learned (propagate s) (propagate-keeps n C s w) (propagate-ends n C s w) (propagate-grows s)

  -- what is left: literals to learn, then variables to assign
  measure : Solver → ℕ
  measure s = (limit - s.learned) * (n + 2) + (n - length s.assignment.trail)

  times : (a b m : ℕ) → suc a ≤ b → a * m + m ≤ b * m
  times a b m h = omega (arith, suc-mul a m, mul-le-mul_right {m = suc a} {n = b} m h)

  moves-less : (s u : Solver) → Idle n C u → ((length s.assignment.trail < length u.assignment.trail) × (u.learned ≡ s.learned)) ⊎ ((s.learned < u.learned) × (u.learned ≤ limit))
      → measure u < measure s
  unfolding measure
  moves-less s u w (inl h) =
      omega (arith, h.0, trail-fits n u.assignment w.core.justified.trail_inv, ap (λ x. (limit - x) * (n + 2)) h.1)
  moves-less s u w (inr h) =
      omega (arith, times (limit - u.learned) (limit - s.learned) (n + 2) (omega (arith, h.0, h.1)))

  -- the rounds left suffice, or the answer came in time
  abbrev Going : ℕ → Search → Type 0
  Going k (searching s) = Idle n C s × (measure s < k)
  Going k (answered a) = InTime a

  going : (k : ℕ) (s : Solver) (r : Search) → measure s < suc k → Keeps (Idle n C) (AnswerOk n C) r → Moves limit (length s.assignment.trail) s.learned r → Going k r
  going k s (searching u) h w m = (w, omega (arith, moves-less s u w m))
  going k s (answered a) h w m = m

  search_in_time : (k : ℕ) (r : Search) → Going k r → InTime (search_rounds limit k r)
  unfolding search_rounds
  search_in_time zero (searching s) h = omega (arith, h.1)
  search_in_time zero (answered a) h = h
  search_in_time (suc k) (searching s) h =
      search_in_time k (step limit s) (going k s (step limit s) h.1 (step_keeps n C limit s h.0) (step-moves s h.0))
  search_in_time (suc k) (answered a) h = h

  start_enough : (s : Solver) → measure s < (limit + 2) * (n + 2)
  unfolding measure
  start_enough s = omega (arith, times (limit - s.learned) (limit + 2) (n + 2) (omega arith))

module _ (limit n : ℕ) (s : Solver) (e : Encoded n s) where
  -- the start never answers out_of_fuel
  enqueue-going : (o : Option Assignment) → Keeps (Idle n s.clauses) (AnswerOk n s.clauses) (after_enqueue s o)
      → Going n s.clauses limit ((limit + 2) * (n + 2)) (after_enqueue s o)
  unfolding after_enqueue
  enqueue-going none k = tt
  enqueue-going (some t) k = (k, start_enough n s.clauses limit (with_assignment s t))

  start-going : (b : Bool) → s.inconsistent ≡ b → Going n s.clauses limit ((limit + 2) * (n + 2)) (start_unless s b)
  unfolding start_unless
  start-going true q = tt
  start-going false q =
      enqueue-going (initialize_units 0 s.clauses (some s.assignment))
      (subst (λ b. Keeps (Idle n s.clauses) (AnswerOk n s.clauses) (start_unless s b)) q (unfold start in start-keeps n s e q))

  encoded_in_time : InTime (search_rounds limit ((limit + 2) * (n + 2)) (start s))
  unfolding start
  encoded_in_time =
      search_in_time n s.clauses limit ((limit + 2) * (n + 2)) (start_unless s s.inconsistent) (start-going s.inconsistent refl)

-- `solve` never answers out_of_fuel
solve_in_time : (limit : ℕ) (g : Aig) → Formed g → (assumptions : List Literal) → All (λ l. node l < length g) assumptions → InTime (solve limit g assumptions)
unfolding solve rounds
solve_in_time limit g w ls inside =
    encoded_in_time limit (length g) (encode g ls) (encode-encoded g w.order ls inside)

-- the same as an inequation
pub solve-not_out : (limit : ℕ) (g : Aig) → Formed g → (assumptions : List Literal) → All (λ l. node l < length g) assumptions → (total : ℕ)
    → solve limit g assumptions ≢ out_of_fuel total
solve-not_out limit g w ls inside total e = subst InTime e (solve_in_time limit g w ls inside)
