-- The total of learned literals grows by the length of each learned clause and never passes the limit, whatever the answer. Assumes nothing.
use Prim.Native.Nat.{ℕ, zero, suc, ◌+◌, ◌≤◌}
use Rattle.std.proofs.Common.{arith, ltb-false}
use Rattle.std.specs.Prelude.{◌≡◌, Bool, List, ◌∷◌, length, ltb}
use Rattle.std.proofs.Math.Path.{refl}
use Rattle.std.proofs.Math.Bool.{true, false}
use Rattle.std.proofs.Math.Option.{Option, none, some}
use Rattle.model.specs.Literal.{Literal, negate}
use Rattle.model.specs.Aig.{Aig}
use Rattle.model.specs.Sat.{Assignment, Scores, Solver, with_assignment, sort_literals, add_clause, Propagation, propagating, complete, conflict, propagate, Resolution, resolving, resolved, analyze, decay_activity, Choice, no_choice, chosen, Answer, decide, after_enqueue, learn, assert_learned, learn_unless, after_analysis, after_conflict, after_propagation, step, start_unless, start, encode, rounds, solve}
use Rattle.laws.specs.Search.Growth.{solver_of, propagate-grows}
use Rattle.laws.specs.Terms.{answer_total}
use Rattle.laws.specs.Search.Adding.{sorted_added, encode-learned}
use Rattle.laws.specs.Search.Loop.{Keeps, search_keeps}

-- a learned clause adds its length
pub learn-total : (s : Solver) (c : Scores) (l : Literal) (ls : List Literal) → (learn s c l ls).learned ≡ s.learned + suc (length ls)
unfolding learn add_clause
learn-total s c l ls = (sorted_added _ (sort_literals (l ∷ ls))).learned

-- ---- a round of the search

module _ (limit : ℕ) where
  -- the total of a state is at most the limit
  abbrev pub Fits : Solver → Type 0
  Fits s = s.learned ≤ limit

  -- and that of an answer
  abbrev pub Ends : Answer → Type 0
  Ends a = answer_total a ≤ limit

  decide-fits : (s : Solver) (c : Choice) → Fits s → Keeps Fits Ends (decide s c)
  unfolding decide with_assignment answer_total
  decide-fits s no_choice h = h
  decide-fits s (chosen v x) h = h

  enqueue-fits : (s : Solver) (o : Option Assignment) → Fits s → Keeps Fits Ends (after_enqueue s o)
  unfolding after_enqueue with_assignment answer_total
  enqueue-fits s none h = h
  enqueue-fits s (some t) h = h

  learn-fits : (s : Solver) (c : Scores) (l : Literal) (ls : List Literal) (t : Bool) → ltb limit (s.learned + suc (length ls)) ≡ t → Fits s
      → Keeps Fits Ends (learn_unless s c l ls t)
  unfolding learn_unless assert_learned answer_total
  learn-fits s c l ls true e h = h
  learn-fits s c l ls false e h = enqueue-fits (learn s c l ls) _ (rw (learn-total s c l ls) (ltb-false limit (s.learned + suc (length ls)) e))

  analysis-fits : (s : Solver) (r : Resolution) → Fits s → Keeps Fits Ends (after_analysis limit s r)
  unfolding after_analysis answer_total
  analysis-fits s (resolving a i id v) h = h
  analysis-fits s (resolved a p) h = learn-fits s (decay_activity a.scores) (negate p) a.learned _ refl h

  conflict-fits : (s : Solver) (id level : ℕ) → Fits s → Keeps Fits Ends (after_conflict limit s id level)
  unfolding after_conflict answer_total
  conflict-fits s id zero h = h
  conflict-fits s id (suc level) h = analysis-fits s (analyze s id) h

  propagation_fits : (r : Propagation) → Fits (solver_of r) → Keeps Fits Ends (after_propagation limit r)
  unfolding after_propagation solver_of answer_total
  propagation_fits (propagating s) h = h
  propagation_fits (complete s) h = decide-fits s _ h
  propagation_fits (conflict id s) h = conflict-fits s id _ h

  -- a round keeps it so
  pub step_fits : (s : Solver) → Fits s → Keeps Fits Ends (step limit s)
  unfolding step
  step_fits s h = propagation_fits (propagate s) (omega (arith, (propagate-grows s).total_same))

  -- and it begins so
  pub start_fits : (s : Solver) (t : Bool) → Fits s → Keeps Fits Ends (start_unless s t)
  unfolding start_unless answer_total
  start_fits s true h = h
  start_fits s false h = enqueue-fits s _ h

  -- the total of the answer is at most the limit
  pub solve-total : (g : Aig) (assumptions : List Literal) → answer_total (solve limit g assumptions) ≤ limit
  unfolding solve start answer_total
  solve-total g assumptions =
      search_keeps Fits Ends limit step_fits (λ s h. h) (rounds limit g) _
      (start_fits (encode g assumptions) (encode g assumptions).inconsistent (rw (encode-learned g assumptions) (omega arith)))
