-- The states that the search of a query goes through, and that it gives up exactly where the next learned clause would bring the total above the limit. Assumes nothing.
use Prim.Native.Nat.{ℕ, zero, suc, ◌+◌, ◌<◌}
use native.Mathlib.Omega.{arith}
use Rattle.std.proofs.Math.Path.{◌≡◌, refl, sym, ap}
use Rattle.std.proofs.Common.{◌∙◌}
use Rattle.std.specs.Prelude.{◌↔◌, Bool, List, length, ltb}
use Rattle.std.proofs.Math.Bool.{true, false}
use Rattle.std.proofs.Math.Option.{Option, none, some}
use borrow.Author.Tests.{ltb-true, lt-ltb}
use Rattle.model.specs.Literal.{Literal, node, negate}
use Rattle.model.specs.Aig.{Aig}
use Rattle.model.specs.Sat.{Assignment, Scores, Solver, decision_level, Propagation, propagating, complete, conflict, propagate, Resolution, resolving, resolved, analyze, decay_activity, Choice, no_choice, chosen, choose_variable, gave_up, Search, searching, answered, decide, after_enqueue, learn, assert_learned, learn_unless, after_analysis, after_conflict, after_propagation, step, search_rounds, enqueue, initialize_units, start_unless, start, encode, rounds, solve}
use Rattle.laws.specs.Search.Growth.{solver_of, propagate-grows}
use Rattle.laws.specs.Terms.{Reached, begun, stepped, Overflows, GivesUp}
use Rattle.laws.specs.Graph.Operations.{Formed}
use Rattle.facts.specs.Lists.{All}
use Rattle.laws.specs.Search.Ending.{solve-not_out}
use Rattle.laws.specs.Search.Adding.{search_answered}

-- ---- a round that gives up

-- the answer is a give-up with this total
abbrev Gives : ℕ → Search → Type 0
Gives k r = r ≡ answered (gave_up k)

module _ (limit k : ℕ) where
  enqueue_goes : (s : Solver) (o : Option Assignment) → Gives k (after_enqueue s o) → ⊥
  unfolding after_enqueue
  enqueue_goes s none e = let z : ◌≡◌ {A = ℕ} 0 1 = cc in omega arith
  enqueue_goes s (some t) e = let z : ◌≡◌ {A = ℕ} 0 1 = cc in omega arith

  decide_goes : (s : Solver) (c : Choice) → Gives k (decide s c) → ⊥
  unfolding decide
  decide_goes s no_choice e = let z : ◌≡◌ {A = ℕ} 0 1 = cc in omega arith
  decide_goes s (chosen v x) e = let z : ◌≡◌ {A = ℕ} 0 1 = cc in omega arith

  learn_gives : (s : Solver) (c : Scores) (l : Literal) (ls : List Literal) (b : Bool) → Gives k (learn_unless s c l ls b) → (b ≡ true) × (s.learned ≡ k)
  unfolding learn_unless assert_learned
  learn_gives s c l ls true e = (refl, cc)
  learn_gives s c l ls false e = absurd (enqueue_goes (learn s c l ls) (enqueue (learn s c l ls).assignment l (some (length s.clauses))) e)

  module _ (s after : Solver) (id : ℕ) (stopped : propagate s ≡ conflict id after) where
    -- propagation learned nothing
    same_total : after.learned ≡ s.learned
    unfolding solver_of
    same_total = ap (λ r. (solver_of r).learned) (sym stopped) ∙ (propagate-grows s).total_same

    analysis_gives : (level : ℕ) → decision_level after.assignment ≡ suc level → (r : Resolution) → analyze after id ≡ r → Gives k (after_analysis limit after r) → Overflows limit s × (s.learned ≡ k)
    unfolding after_analysis
    analysis_gives level d (resolving a i j v) q e = absurd (let z : ◌≡◌ {A = ℕ} 0 1 = cc in omega arith)
    analysis_gives level d (resolved a p) q e =
        let z = learn_gives after (decay_activity a.scores) (negate p) a.learned (ltb limit (after.learned + suc (length a.learned))) e in (
          record {
            clause = id;
            after = after;
            stopped = stopped;
            level = level;
            decided = d;
            analysis = a;
            pivot = p;
            analyzed = q;
            above = omega (arith, ltb-true limit (after.learned + suc (length a.learned)) z.0, same_total);
          },
          sym same_total ∙ z.1,
        )

    conflict_gives : (level : ℕ) → decision_level after.assignment ≡ level → Gives k (after_conflict limit after id level) → Overflows limit s × (s.learned ≡ k)
    unfolding after_conflict
    conflict_gives zero d e = absurd (let z : ◌≡◌ {A = ℕ} 0 1 = cc in omega arith)
    conflict_gives (suc level) d e = analysis_gives level d (analyze after id) refl e

  propagation_gives : (s : Solver) (r : Propagation) → propagate s ≡ r → Gives k (after_propagation limit r) → Overflows limit s × (s.learned ≡ k)
  unfolding after_propagation
  propagation_gives s (propagating t) q e = absurd (let z : ◌≡◌ {A = ℕ} 0 1 = cc in omega arith)
  propagation_gives s (complete t) q e = absurd (decide_goes t (choose_variable t) e)
  propagation_gives s (conflict id t) q e = conflict_gives s t id q (decision_level t.assignment) refl e

  -- a round gives up only at an overflow, with the total so far
  step_gives : (s : Solver) → Gives k (step limit s) → Overflows limit s × (s.learned ≡ k)
  unfolding step
  step_gives s e = propagation_gives s (propagate s) refl e

  start_goes : (s : Solver) (b : Bool) → Gives k (start_unless s b) → ⊥
  unfolding start_unless
  start_goes s true e = let z : ◌≡◌ {A = ℕ} 0 1 = cc in omega arith
  start_goes s false e = enqueue_goes s (initialize_units 0 s.clauses (some s.assignment)) e

-- at an overflow the round gives up
overflow_gives : (limit : ℕ) (s : Solver) → Overflows limit s → step limit s ≡ answered (gave_up s.learned)
unfolding step after_propagation after_conflict after_analysis learn_unless
overflow_gives limit s o =
    let same = same_total limit 0 s o.after o.clause o.stopped in
    let t : ltb limit (o.after.learned + suc (length o.analysis.learned)) ≡ true = lt-ltb limit (o.after.learned + suc (length o.analysis.learned)) (omega (arith, o.above)) in
    ap (after_propagation limit) o.stopped
    ∙ ap (after_conflict limit o.after o.clause) o.decided
    ∙ ap (after_analysis limit o.after) o.analyzed
    ∙ ap (learn_unless o.after (decay_activity o.analysis.scores) (negate o.pivot) o.analysis.learned) t
    ∙ ap (λ x. answered (gave_up x)) same

-- ---- the whole search

module _ (limit : ℕ) (g : Aig) (assumptions : List Literal) where
  -- where the search is, is where it came to
  abbrev Here : Search → Type 0
  Here (searching s) = Reached limit g assumptions s
  Here (answered a) = (k : ℕ) → a ≡ gave_up k → GivesUp limit g assumptions k

  step-here : (s : Solver) → Reached limit g assumptions s → (r : Search) → step limit s ≡ r → Here r
  step-here s w (searching t) e = stepped w e
  step-here s w (answered a) e = λ k q. let z = step_gives limit k s (e ∙ ap answered q) in record { state = s; reached = w; overflows = z.0; total = z.1 }

  start-here : (r : Search) → start (encode g assumptions) ≡ r → Here r
  unfolding start
  start-here (searching t) e = begun e
  start-here (answered a) e = λ k q. absurd (start_goes limit k (encode g assumptions) (encode g assumptions).inconsistent (e ∙ ap answered q))

  rounds_give : (n : ℕ) (r : Search) → Here r → (k : ℕ) → search_rounds limit n r ≡ gave_up k → GivesUp limit g assumptions k
  unfolding search_rounds
  rounds_give zero (searching s) h k e = absurd (let z : ◌≡◌ {A = ℕ} 0 1 = cc in omega arith)
  rounds_give zero (answered a) h k e = h k e
  rounds_give (suc n) (searching s) h k e = rounds_give n (step limit s) (step-here s h (step limit s) refl) k e
  rounds_give (suc n) (answered a) h k e = h k e

  module _ (formed : Formed g) (inside : All (λ l. node l < length g) assumptions) where
    -- rounds are left in every state that is reached
    pub record Left (s : Solver) : Type 0 where
      pub rounds-left : ℕ
      pub same : solve limit g assumptions ≡ search_rounds limit (suc rounds-left) (searching s)

    left_of : (s : Solver) (n : ℕ) → solve limit g assumptions ≡ search_rounds limit n (searching s) → Left s
    unfolding search_rounds
    left_of s zero e = absurd (solve-not_out limit g formed assumptions inside s.learned e)
    left_of s (suc n) e = record { rounds-left = n; same = e }

    reached-left : (s : Solver) → Reached limit g assumptions s → Left s
    unfolding solve search_rounds
    reached-left s (begun e) = left_of s (rounds limit g) (ap (search_rounds limit (rounds limit g)) e)
    reached-left s (stepped {s = t} w e) = let z = reached-left t w in left_of s z.rounds-left (z.same ∙ ap (search_rounds limit z.rounds-left) e)

    gives_up : (k : ℕ) → GivesUp limit g assumptions k → solve limit g assumptions ≡ gave_up k
    unfolding search_rounds
    gives_up k w =
        let z = reached-left w.state w.reached in
        z.same ∙ ap (search_rounds limit z.rounds-left) (overflow_gives limit w.state w.overflows) ∙ search_answered limit z.rounds-left (gave_up w.state.learned) ∙ ap gave_up w.total

    -- a query gives up exactly there
    pub solve_gives_up : (k : ℕ) → (solve limit g assumptions ≡ gave_up k) ↔ GivesUp limit g assumptions k
    unfolding solve
    solve_gives_up k = (λ e. rounds_give (rounds limit g) (start (encode g assumptions)) (start-here (start (encode g assumptions)) refl) k e, gives_up k)
