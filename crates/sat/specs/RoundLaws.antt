-- Laws of a round of the search: each part of it is the definition's, and keeps the words sound. Assumes nothing.
use Rattle.std.specs.Prelude.{◌≡◌, refl, false, List, [], ℕ, suc, ◌+◌, length, Float}
use Rattle.std.specs.Prelude as Std
use Rattle.std.proofs.Math.Path.{ap, sym}
use Rattle.std.proofs.Common.{◌∙◌, arith, add-one, length-take-le}
use Rattle.std.proofs.Math.Option.{Option, none, some}
use Rattle.words.specs.Layout.{SEEN, LEARNED, BLOCKS}
use Rattle.words.specs.Region.{region, length-region}
use Rattle.model.specs.Sat as Sat
use Rattle.assignment.specs.State.{assignment_of, assignment_regions, column, enqueued, word_reason, Unchanged}
use Rattle.assignment.specs.Scores.{scores_of}
use Rattle.assignment.specs.StateLaws.{unchanged_both, unchanged_within}
use Rattle.assignment.specs.declared.state.Trail.{Trail}
use Rattle.clauses.specs.Clauses.{watches_of}
use Rattle.assignment.specs.KnownLaws.{cached-grown}
use Rattle.clauses.specs.State.{solver_of, scored}
use Rattle.clauses.specs.StepLaws.{assigned_clauses, assigned_queues}
use Rattle.watches.specs.State.{UnitStep}
use Rattle.analysis.specs.SeeLaws.{unmarked_kept}
use Rattle.sat.specs.LearnLaws.{learned_clause, learn_regions, Learns, counted, learn_of}
use Rattle.sat.specs.State.{base_of, state_of, Fits, Marks, solve_regions, Results, Assertable}
use Rattle.sat.specs.declared.state.Learned.{Learned}
use Rattle.sat.specs.declared.state.State.{State}
use Rattle.sat.specs.declared.state.Answer.TheVariants as Answered
use Rattle.std.specs.declared.ops.ControlFlow.TheVariants.{Continue, Break}

-- ---- the asserting literal

-- the solver with the assignment of a unit's step
pub solver_unit : (v : Sat.Solver) (s : State) (l : Learned) (r : Trail) (w w' : List ℕ) → UnitStep l.store l.trail w r w'
    → solver_of v l.store r w' ≡ Sat.with_assignment (solver_of v l.store l.trail w) (assignment_of r w')
unfolding solver_of Sat.with_assignment watches_of
solver_unit v s l r w w' u = rw (assigned_clauses l.store.clauses w w' u.frame, u.variables, assigned_queues l.trail.variables w w' u.frame)

module _ (limit : ℕ) (s : State) (w : List ℕ) (x : List Float) (asserting count : ℕ) (a : Assertable limit s w x asserting count) (l : Learned) (w₁ : List ℕ) (x₁ : List Float)
    (L : Learns s.store s.trail w x asserting count l w₁ x₁) (reason : ℕ) (reason-is : reason ≡ s.store.clauses + 1) (e : Trail) (w₂ : List ℕ)
    (u : UnitStep l.store l.trail w₁ e w₂)
    (total : ℕ) (total-is : total ≡ s.learned + count + 1) where
  -- the literals learned beside the asserting one
  abbrev others : List ℕ
  others = column count LEARNED w

  others-length : length others ≡ count
  others-length = length-take-le count (region LEARNED w) (omega (arith, a.able.few, length-region LEARNED w (omega (arith, a.fits.sound.formed.ready.words))))

  -- the solver's part that is in no lent word, once the clause is counted
  abbrev base₁ : Sat.Solver
  base₁ = scored (counted (base_of s x) (scores_of s.trail.variables s.activity x) (length others)) s.trail.variables x₁

  learned-is : Sat.learn (state_of s w x) (state_of s w x).scores asserting others ≡ solver_of base₁ l.store l.trail w₁
  unfolding state_of solver_of scored counted base_of scores_of
  learned-is =
      learn_of (base_of s x) (scores_of s.trail.variables s.activity x) s.store s.trail w asserting others
      ∙ sym (L.is (counted (base_of s x) (scores_of s.trail.variables s.activity x) (length others)))

  total-counted : s.learned + suc (length others) ≡ total
  total-counted = omega (arith, others-length, total-is)

  reason_word : word_reason reason ≡ some s.store.clauses
  unfolding word_reason
  reason_word = rw (reason-is, add-one)

  goal-is : (o : Option Sat.Assignment) → o ≡ Sat.enqueue (assignment_of l.trail w₁) asserting (word_reason reason) → Sat.assert_learned s.store.clauses asserting (Sat.learn (state_of s w x) (state_of s w x).scores asserting others)
      ≡ Sat.after_enqueue (solver_of base₁ l.store l.trail w₁) o
  unfolding Sat.assert_learned solver_of
  goal-is o q =
      ap (λ (z : Sat.Solver). Sat.assert_learned s.store.clauses asserting z) learned-is
      ∙ ap (λ (o : Option ℕ). Sat.after_enqueue (solver_of base₁ l.store l.trail w₁) (Sat.enqueue (assignment_of l.trail w₁) asserting o)) (sym reason_word)
      ∙ ap (λ (o : Option Sat.Assignment). Sat.after_enqueue (solver_of base₁ l.store l.trail w₁) o) (sym q)

  frame-all : Unchanged solve_regions w w₂
  frame-all = unchanged_both solve_regions (unchanged_within learn_regions solve_regions refl L.frame) (unchanged_within assignment_regions solve_regions refl u.frame)

  pub asserts_not : enqueued (Std.Err e) w₂ ≡ Sat.enqueue (assignment_of l.trail w₁) asserting (word_reason reason) → Results limit s.trail.variables w x
      (Sat.assert_learned s.store.clauses asserting (Sat.learn (state_of s w x) (state_of s w x).scores asserting others)) (Break (Answered.NoModel total)) w₂ x₁
  unfolding Sat.after_enqueue enqueued solver_of scored counted base_of
  asserts_not q =
      record {
        is = sym (goal-is none q ∙ ap (λ n. Sat.answered (Sat.no_model n)) total-counted);
        next = tt;
        others = L.others;
        frame = frame-all;
      }

  -- the state after
  abbrev after : State
  after = record { store = l.store; trail = e; activity = s.activity; learned = total }

  after_is : state_of after w₂ x₁ ≡ Sat.with_assignment (solver_of base₁ l.store l.trail w₁) (assignment_of e w₂)
  unfolding state_of base_of scores_of solver_of scored counted
  after_is =
      ap (λ n. solver_of (record { clauses = []; watches = []; assignment = (Sat.new 0).assignment; scores = scores_of n s.activity x₁; inconsistent = false; learned = total }) l.store e w₂) (u.variables ∙ L.variables)
      ∙ ap (λ n. solver_of (record { clauses = []; watches = []; assignment = (Sat.new 0).assignment; scores = scores_of s.trail.variables s.activity x₁; inconsistent = false; learned = n }) l.store e w₂) (sym total-counted)
      ∙ solver_unit base₁ s l e w₁ w₂ u

  after-fits : length (learned_clause asserting count w) ≡ suc count → Fits limit after w₂ x₁
  after-fits z =
      record {
        sound = u.sound;
        scores = omega (arith, a.fits.scores, u.variables, L.variables, L.others.long);
        fixed = a.fits.fixed;
        limited = a.fits.limited;
        total = omega (arith, a.within, total-is);
        clauses = omega (arith, a.fits.clauses, L.clauses, total-is);
        literals = omega (arith, a.fits.literals, L.literals, total-is, z);
        cached = cached-grown l.trail w₁ e w₂ s.activity x₁ u.variables (u.frame.same BLOCKS refl) u.grows (L.cached s.activity a.fits.cached);
      }

  -- the clause is counted, so that the marks of the analysis that taught it are not above the number of clauses
  after-marks : Marks l.store.clauses after w₂
  after-marks = λ v h.
      omega (
        arith,
        L.clauses,
        unmarked_kept (s.store.clauses + 1) s.trail.variables w w₂ (u.frame.same SEEN refl ∙ L.frame.same SEEN refl) a.marks v (omega (arith, u.variables, L.variables)),
      )

  pub asserts : enqueued (Std.Ok e) w₂ ≡ Sat.enqueue (assignment_of l.trail w₁) asserting (word_reason reason) → Results limit s.trail.variables w x
      (Sat.assert_learned s.store.clauses asserting (Sat.learn (state_of s w x) (state_of s w x).scores asserting others)) (Continue after) w₂ x₁
  unfolding Sat.after_enqueue enqueued
  asserts q =
      record {
        is = sym (goal-is (some (assignment_of e w₂)) q ∙ ap Sat.searching (sym after_is));
        next = (after-fits a.size, u.variables ∙ L.variables, after-marks);
        others = L.others;
        frame = frame-all;
      }
