-- Laws of a round of the search by the end of its propagation: a decision, the model, or a conflict. Assumes nothing.
use Rattle.std.specs.Prelude.{◌≡◌, List, [], ◌∷◌, map, ℕ, ◌<◌, ◌≤◌, length, take, Float}
use Rattle.std.specs.Prelude as Std
use Rattle.std.proofs.Math.Path.{refl, ap, sym}
use Rattle.std.proofs.Common.{subst, ◌∙◌, arith}
use Rattle.words.specs.Layout.{SMALL, SEEN, BLOCKS}
use Rattle.model.specs.Sat as Sat
use Rattle.laws.specs.Search.State.{Done, RoundOk}
use Rattle.laws.specs.Search.Propagation.{propagate-keeps}
use Rattle.laws.specs.Search.Rounds.{Ended, propagate-ends}
use Rattle.laws.specs.Search.Reachable.{Reachable}
use Rattle.laws.proofs.Search.Reachable.{core_reachable}
use Rattle.assignment.specs.State.{assignment_of, assignment_regions, Unchanged, model_of}
use Rattle.assignment.specs.Scores.{scores_of}
use Rattle.assignment.specs.StateLaws.{unchanged_both, unchanged_within, level-is}
use Rattle.assignment.specs.declared.state.Trail.{Trail}
use Rattle.assignment.specs.Blocks.{Unsigned, KnownIn}
use Rattle.assignment.specs.KnownLaws.{cached-grown}
use Rattle.clauses.specs.State.{solver_of, scored, SoundStore, search_regions}
use Rattle.analysis.specs.SeeLaws.{unmarked_kept}
use Rattle.watches.specs.declared.state.Propagation.{Propagation}
use Rattle.watches.specs.declared.state.Propagation.TheVariants as Propagations
use Rattle.watches.specs.State.{trail_of, propagation_of, Propagates}
use Rattle.assignment.specs.ScoreLaws.{others-none}
use Rattle.sat.specs.DecideLaws.{Decides}
use Rattle.sat.specs.State.{base_of, state_of, Fits, Marks, Going, Stopped, solve_regions, Results}
use Rattle.sat.specs.ConflictLaws.{results_after}
use Rattle.sat.specs.declared.state.State.{State}
use Rattle.sat.specs.declared.state.Answer.{Answer}
use Rattle.sat.specs.declared.state.Answer.TheVariants as Answered
use Rattle.std.specs.declared.ops.ControlFlow.{ControlFlow}
use Rattle.std.specs.declared.ops.ControlFlow.TheVariants.{Continue, Break}

-- the state with another trail
abbrev pub moved : State → Trail → State
moved s t = record { store = s.store; trail = t; activity = s.activity; learned = s.learned }

-- it stands for the solver over the same part that is in no lent word
moved-is : (s : State) (t : Trail) (w : List ℕ) (x : List Float) → t.variables ≡ s.trail.variables → state_of (moved s t) w x ≡ solver_of (base_of s x) s.store t w
unfolding state_of base_of solver_of
moved-is s t w x e = rw e

module _ (limit : ℕ) (s : State) (w : List ℕ) (x : List Float) (g : Going limit s w x) (p : Propagation) (w₁ : List ℕ) (P : Propagates s.store s.trail w (trail_of p) w₁)
    (k : (v : Sat.Solver) → propagation_of v s.store w₁ p ≡ Sat.propagate (solver_of v s.store s.trail w)) where
  -- the solver before the round
  abbrev S : Sat.Solver
  S = state_of s w x

  -- the original clauses
  abbrev C : List Sat.Clause
  C = (Sat.encode g.graph g.assumptions).clauses

  ran : propagation_of (base_of s x) s.store w₁ p ≡ Sat.propagate S
  unfolding state_of
  ran = k (base_of s x)

  round_ok : RoundOk (length g.graph) C (propagation_of (base_of s x) s.store w₁ p)
  round_ok = subst (RoundOk (length g.graph) C) (sym ran) (propagate-keeps (length g.graph) C S g.idle)

  ended : Ended (propagation_of (base_of s x) s.store w₁ p)
  ended = subst Ended (sym ran) (propagate-ends (length g.graph) C S g.idle)

  frame₁ : Unchanged solve_regions w w₁
  frame₁ = unchanged_within search_regions solve_regions refl P.frame

  -- the round by its propagation
  step_is : Sat.step limit S ≡ Sat.after_propagation limit (propagation_of (base_of s x) s.store w₁ p)
  unfolding Sat.step
  step_is = ap (Sat.after_propagation limit) (sym ran)

  -- a propagation does not end unfinished
  pub never-unfinished : (t : Trail) → p ≡ Propagations.Propagating t → ⊥
  never-unfinished t e = rw e at ended

  module _ (t : Trail) (trail_is : trail_of p ≡ t) where
    same-variables : t.variables ≡ s.trail.variables
    same-variables = (rw trail_is at P).variables

    pub moved-fits : Fits limit (moved s t) w₁ x
    moved-fits =
        let f = g.fits in
        record {
          sound = (rw trail_is at P).sound;
          scores = omega (arith, same-variables, f.scores);
          fixed = f.fixed;
          limited = f.limited;
          total = f.total;
          clauses = f.clauses;
          literals = f.literals;
          cached =
              let q : Propagates s.store s.trail w t w₁ = rw trail_is at P in
              cached-grown s.trail w t w₁ s.activity x same-variables (q.frame.same BLOCKS refl) q.grows f.cached;
        }

    -- a propagation writes no mark
    moved_marks : Marks s.store.clauses (moved s t) w₁
    moved_marks = λ v h. unmarked_kept s.store.clauses s.trail.variables w w₁ (P.frame.same SEEN refl) g.marks v (omega (arith, same-variables))

  -- ---- a conflict

  module _ (id : ℕ) (t : Trail) (e : p ≡ Propagations.Conflict id t) where
    trail-conflict : trail_of p ≡ t
    trail-conflict = ap trail_of e

    at-conflict : RoundOk t.variables C (Sat.conflict id (state_of (moved s t) w₁ x))
    at-conflict =
        subst (λ (n : ℕ). RoundOk n C (Sat.conflict id (state_of (moved s t) w₁ x))) (g.size ∙ sym (same-variables t trail-conflict))
        (subst (λ (u : Sat.Solver). RoundOk (length g.graph) C (Sat.conflict id u)) (sym (moved-is s t w₁ x (same-variables t trail-conflict))) (rw e at round_ok))

    pub conflict-asked : Stopped limit (moved s t) w₁ x id
    conflict-asked = record { fits = moved-fits t trail-conflict; marks = moved_marks t trail-conflict; original = C; stuck = at-conflict.0; conflicting = at-conflict.1 }

    conflict-goal : Sat.after_conflict limit (state_of (moved s t) w₁ x) id (Sat.decision_level (state_of (moved s t) w₁ x).assignment) ≡ Sat.step limit S
    unfolding Sat.after_propagation
    conflict-goal =
        ap (λ (u : Sat.Solver). Sat.after_conflict limit u id (Sat.decision_level u.assignment)) (moved-is s t w₁ x (same-variables t trail-conflict))
        ∙ sym (step_is ∙ ap (λ (q : Propagation). Sat.after_propagation limit (propagation_of (base_of s x) s.store w₁ q)) e)

    pub step-conflict : (r : ControlFlow Answer State) (w' : List ℕ) (x' : List Float)
        → Results limit t.variables w₁ x (Sat.after_conflict limit (state_of (moved s t) w₁ x) id (Sat.decision_level (state_of (moved s t) w₁ x).assignment)) r w' x'
        → Results limit s.trail.variables w x (Sat.step limit S) r w' x'
    step-conflict r w' x' y =
        results_after frame₁ (others-none s.trail.variables x) conflict-goal
        (subst (λ (n : ℕ). Results limit n w₁ x (Sat.after_conflict limit (state_of (moved s t) w₁ x) id (Sat.decision_level (state_of (moved s t) w₁ x).assignment)) r w' x') (same-variables t trail-conflict) y)

  -- ---- a decision

  module _ (t : Trail) (e : p ≡ Propagations.Complete t) where
    trail-complete : trail_of p ≡ t
    trail-complete = ap trail_of e

    -- the solver once all is propagated
    abbrev T : Sat.Solver
    T = solver_of (base_of s x) s.store t w₁

    done : Done (length g.graph) C T
    done = rw e at round_ok

    fits : Fits limit (moved s t) w₁ x
    fits = moved-fits t trail-complete

    facts : Reachable limit g.graph g.assumptions T
    facts =
        core_reachable limit g.graph g.assumptions T (omega (arith, g.size, g.fits.sound.formed.some)) done.idle.core (unfold solver_of base_of in g.fits.total)

    level-low : t.level < SMALL
    level-low =
        omega (
          arith,
          facts.levels_fit,
          facts.trail_short,
          g.size,
          g.fits.sound.formed.ready.variables,
          (let z : Sat.decision_level T.assignment ≡ t.level = unfold solver_of in level-is t w₁ fits.sound.formed.ready in z),
        )

    -- what `decide` asks
    pub decide_needs : SoundStore s.store t w₁ [] × (t.variables ≤ length x) × (t.level < SMALL) × Unsigned (take t.variables x) × KnownIn t w₁ x
    decide_needs = (fits.sound, fits.scores, level-low, fits.cached.scores, fits.cached.known)

    decide-goal : Sat.step limit S ≡ Sat.decide T (Sat.choose_variable T)
    unfolding Sat.after_propagation
    decide-goal = step_is ∙ ap (λ (q : Propagation). Sat.after_propagation limit (propagation_of (base_of s x) s.store w₁ q)) e

    -- scores that are the solver's already
    scored-same : (u : Trail) (w₂ : List ℕ) → solver_of (scored (base_of s x) t.variables x) s.store u w₂ ≡ solver_of (base_of s x) s.store u w₂
    unfolding solver_of scored base_of scores_of
    scored-same u w₂ = rw (same-variables t trail-complete)

    pub step-model : (w₂ : List ℕ) → Decides s.store t w₁ x Std.None w₂ → Results limit s.trail.variables w x (Sat.step limit S) (Break (Answered.Model s.learned)) w₂ x
    unfolding Sat.decide solver_of base_of assignment_of
    step-model w₂ d =
        let o = d.is (base_of s x) in
        record {
          is =
              sym (
              decide-goal
              ∙ ap (λ (c : Sat.Choice). Sat.decide T c) (ap Sat.choose_variable (sym (scored-same t w₁)) ∙ o.0)
              ∙ ap (λ (v : Sat.Solver). Sat.answered (Sat.model (map Sat.is_true v.assignment.assignments) s.learned)) (sym (scored-same t w₁) ∙ sym o.1 ∙ scored-same t w₂)
              ∙ ap (λ (n : ℕ). Sat.answered (Sat.model (model_of n w₂) s.learned)) (same-variables t trail-complete)
              );
          next = tt;
          others = others-none s.trail.variables x;
          frame = unchanged_both solve_regions frame₁ (unchanged_within (BLOCKS ∷ assignment_regions) solve_regions refl d.frame);
        }

    pub step-decided : (u : Trail) (w₂ : List ℕ) → Decides s.store t w₁ x (Std.Some u) w₂ → Results limit s.trail.variables w x (Sat.step limit S) (Continue (moved s u)) w₂ x
    step-decided u w₂ d =
        let same : u.variables ≡ s.trail.variables = d.variables ∙ same-variables t trail-complete in
        record {
          is =
              ap Sat.searching (moved-is s u w₂ x same ∙ sym (scored-same u w₂))
              ∙ sym (decide-goal ∙ ap (λ (v : Sat.Solver). Sat.decide v (Sat.choose_variable v)) (sym (scored-same t w₁)) ∙ d.is (base_of s x));
          next = (
            record {
              sound = d.sound;
              scores = omega (arith, same, g.fits.scores);
              fixed = g.fits.fixed;
              limited = g.fits.limited;
              total = g.fits.total;
              clauses = g.fits.clauses;
              literals = g.fits.literals;
              cached = d.cached s.activity fits.cached;
            },
            same,
            λ v h. unmarked_kept s.store.clauses t.variables w₁ w₂ (d.frame.same SEEN refl) (moved_marks t trail-complete) v (omega (arith, d.variables)),
          );
          others = others-none s.trail.variables x;
          frame = unchanged_both solve_regions frame₁ (unchanged_within (BLOCKS ∷ assignment_regions) solve_regions refl d.frame);
        }
