-- A larger limit: it changes no answer of `solve` but a give-up, where it learns no less, and a query gives up only where it has to, since any larger limit that settles it learns more than the limit. Assumes nothing.
use Prim.Native.Nat.{ℕ, zero, suc, ◌+◌, ◌*◌, ◌≤◌, ◌<◌}
use Rattle.std.proofs.Common.{arith, mul-le-mul_right, sym, ap, ◌∙◌}
use Rattle.std.proofs.Math.Path.{◌≡◌, refl, subst}
use Rattle.std.specs.Prelude.{◌⊎◌, Bool, List, length, ltb}
use Rattle.std.proofs.Math.Logic.{inl, inr}
use Rattle.std.proofs.Math.Bool.{true, false}
use Rattle.std.proofs.Math.Option.{Option, none, some}
use borrow.Author.Tests.{ltb-true, ltb-false, le-ltb}
use Rattle.model.specs.Literal.{Literal, negate}
use Rattle.model.specs.Aig.{Aig}
use Rattle.model.specs.Sat.{Assignment, Scores, Solver, with_assignment, Propagation, propagating, complete, conflict, propagate, Resolution, resolving, resolved, analyze, decay_activity, decision_level, Choice, no_choice, chosen, Answer, gave_up, out_of_fuel, Search, searching, answered, decide, after_enqueue, learn, assert_learned, learn_unless, after_analysis, after_conflict, after_propagation, step, search_rounds, start, encode, rounds, solve}
use Rattle.laws.specs.Terms.{Settled, answer_total}
use Rattle.laws.specs.Search.Adding.{search_answered}
use Rattle.laws.specs.Search.Loop.{Keeps, search_keeps}
use Rattle.laws.specs.Search.Growth.{solver_of, propagate-grows}
use Rattle.laws.specs.Search.Total.{learn-total, solve-total}

module _ (limit larger : ℕ) (le : limit ≤ larger) where
  -- more is learned than the limit
  abbrev Above : Solver → Type 0
  Above s = limit < s.learned

  -- the same of an answer
  abbrev Over : Answer → Type 0
  Over a = limit < answer_total a

  -- ---- once above the limit, always above it

  decide-above : (s : Solver) (c : Choice) → Above s → Keeps Above Over (decide s c)
  unfolding decide with_assignment answer_total
  decide-above s no_choice h = h
  decide-above s (chosen v x) h = h

  enqueue-above : (s : Solver) (o : Option Assignment) → Above s → Keeps Above Over (after_enqueue s o)
  unfolding after_enqueue with_assignment answer_total
  enqueue-above s none h = h
  enqueue-above s (some t) h = h

  assert_above : (s : Solver) (c : Scores) (l : Literal) (ls : List Literal) → limit < s.learned + suc (length ls) → Keeps Above Over (learn_unless s c l ls false)
  unfolding learn_unless assert_learned
  assert_above s c l ls h = enqueue-above (learn s c l ls) _ (rw (learn-total s c l ls) h)

  learn-above : (s : Solver) (c : Scores) (l : Literal) (ls : List Literal) (t : Bool) → Above s → Keeps Above Over (learn_unless s c l ls t)
  unfolding learn_unless answer_total
  learn-above s c l ls true h = h
  learn-above s c l ls false h = assert_above s c l ls (omega (arith, h))

  analysis-above : (s : Solver) (r : Resolution) → Above s → Keeps Above Over (after_analysis larger s r)
  unfolding after_analysis answer_total
  analysis-above s (resolving a i id v) h = h
  analysis-above s (resolved a p) h = learn-above s (decay_activity a.scores) (negate p) a.learned _ h

  conflict-above : (s : Solver) (id level : ℕ) → Above s → Keeps Above Over (after_conflict larger s id level)
  unfolding after_conflict answer_total
  conflict-above s id zero h = h
  conflict-above s id (suc level) h = analysis-above s (analyze s id) h

  propagation_above : (r : Propagation) → Above (solver_of r) → Keeps Above Over (after_propagation larger r)
  unfolding after_propagation solver_of answer_total
  propagation_above (propagating s) h = h
  propagation_above (complete s) h = decide-above s _ h
  propagation_above (conflict id s) h = conflict-above s id _ h

  over_fuel : (s : Solver) → Above s → Over (out_of_fuel s.learned)
  unfolding answer_total
  over_fuel s h = h

  step-above : (s : Solver) → Above s → Keeps Above Over (step larger s)
  unfolding step
  step-above s h = propagation_above (propagate s) (omega (arith, (propagate-grows s).total_same))

  -- ---- the two searches go together until the smaller limit stops one

  -- they are the same, or the one gave up and the other goes on above the limit
  data Together (r t : Search) : Type 0 where
    same : t ≡ r → Together r t
    parted : (k : ℕ) → r ≡ answered (gave_up k) → Keeps Above Over t → Together r t

  learn_together : (s : Solver) (c : Scores) (l : Literal) (ls : List Literal) (t : Bool) → ltb limit (s.learned + suc (length ls)) ≡ t
      → Together (learn_unless s c l ls t) (learn_unless s c l ls (ltb larger (s.learned + suc (length ls))))
  unfolding learn_unless
  learn_together s c l ls true e = go (ltb larger (s.learned + suc (length ls)))
    where
      go : (t : Bool) → Together (answered (gave_up s.learned)) (learn_unless s c l ls t)
      go true = same refl
      go false = parted s.learned refl (assert_above s c l ls (ltb-true limit (s.learned + suc (length ls)) e))
  learn_together s c l ls false e =
      same (ap (learn_unless s c l ls) (le-ltb larger (s.learned + suc (length ls)) (omega (arith, ltb-false limit (s.learned + suc (length ls)) e, le))))

  analysis_together : (s : Solver) (r : Resolution) → Together (after_analysis limit s r) (after_analysis larger s r)
  unfolding after_analysis
  analysis_together s (resolving a i id v) = same refl
  analysis_together s (resolved a p) = learn_together s (decay_activity a.scores) (negate p) a.learned _ refl

  conflict_together : (s : Solver) (id level : ℕ) → Together (after_conflict limit s id level) (after_conflict larger s id level)
  unfolding after_conflict
  conflict_together s id zero = same refl
  conflict_together s id (suc level) = analysis_together s (analyze s id)

  propagation_together : (r : Propagation) → Together (after_propagation limit r) (after_propagation larger r)
  unfolding after_propagation
  propagation_together (propagating s) = same refl
  propagation_together (complete s) = same refl
  propagation_together (conflict id s) = conflict_together s id (decision_level s.assignment)

  step_together : (s : Solver) → Together (step limit s) (step larger s)
  unfolding step
  step_together s = propagation_together (propagate s)

  -- the answers are the same where the smaller limit settles the query, and where it gives up they are the same or the larger one learns more than the limit
  abbrev Compared : Answer → Answer → Type 0
  Compared a b = (Settled a → b ≡ a) × ((k : ℕ) → a ≡ gave_up k → (b ≡ a) ⊎ Over b)

  rounds_compared : (n m : ℕ) (r : Search) → n ≤ m → Compared (search_rounds limit n r) (search_rounds larger m r)
  unfolding search_rounds
  rounds_compared zero m (searching s) i = (λ h. absurd h, λ k e. absurd (let z : ◌≡◌ {A = ℕ} 0 1 = cc in omega arith))
  rounds_compared zero m (answered a) i = (λ h. search_answered larger m a, λ k e. inl (search_answered larger m a))
  rounds_compared (suc n) zero r i = absurd (omega arith)
  rounds_compared (suc n) (suc m) (answered a) i = (λ h. refl, λ k e. inl refl)
  rounds_compared (suc n) (suc m) (searching s) i = go (step_together s) (rounds_compared n m (step limit s) (omega arith))
    where
      go : Together (step limit s) (step larger s) → Compared (search_rounds limit n (step limit s)) (search_rounds larger m (step limit s))
          → Compared (search_rounds limit n (step limit s)) (search_rounds larger m (step larger s))
      go (same q) h = subst (λ (r : Search). Compared (search_rounds limit n (step limit s)) (search_rounds larger m r)) (sym q) h
      go (parted k q a) h = (
        λ x. absurd (subst Settled (ap (search_rounds limit n) q ∙ search_answered limit n (gave_up k)) x),
        λ j e. inr (search_keeps Above Over larger step-above over_fuel m (step larger s) a),
      )

  solve_compared : (g : Aig) (assumptions : List Literal) → Compared (solve limit g assumptions) (solve larger g assumptions)
  unfolding solve rounds
  solve_compared g assumptions =
      rounds_compared ((limit + 2) * (length g + 2)) ((larger + 2) * (length g + 2)) (start (encode g assumptions))
      (mul-le-mul_right {m = limit + 2} {n = larger + 2} (length g + 2) (omega (arith, le)))

  -- the model, or that there is none, with its total
  pub solve-same : (g : Aig) (assumptions : List Literal) → Settled (solve limit g assumptions) → solve larger g assumptions ≡ solve limit g assumptions
  solve-same g assumptions h = (solve_compared g assumptions).0 h

  -- a give-up was needed
  pub give_up_needed : (g : Aig) (assumptions : List Literal) (k : ℕ) → solve limit g assumptions ≡ gave_up k → Settled (solve larger g assumptions) → limit < answer_total (solve larger g assumptions)
  give_up_needed g assumptions k e t = go ((solve_compared g assumptions).1 k e)
    where
      go : (solve larger g assumptions ≡ solve limit g assumptions) ⊎ Over (solve larger g assumptions) → Over (solve larger g assumptions)
      go (inl q) = absurd (subst Settled (q ∙ e) t)
      go (inr h) = h

  -- where the smaller limit gives up, the larger one learns no less, whatever it answers
  pub give_up-no-less : (g : Aig) (assumptions : List Literal) (k : ℕ) → solve limit g assumptions ≡ gave_up k → k ≤ answer_total (solve larger g assumptions)
  unfolding answer_total
  give_up-no-less g assumptions k e = go ((solve_compared g assumptions).1 k e)
    where
      fits : k ≤ limit
      fits = subst (λ (a : Answer). answer_total a ≤ limit) e (solve-total limit g assumptions)

      go : (solve larger g assumptions ≡ solve limit g assumptions) ⊎ Over (solve larger g assumptions) → k ≤ answer_total (solve larger g assumptions)
      go (inl q) = rw (q ∙ e) (omega arith)
      go (inr h) = omega (arith, h, fits)
