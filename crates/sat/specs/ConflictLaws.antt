-- Laws of the search after a conflict: what its analysis and its learned clause ask, and that the outcome is the definition's. Assumes nothing.
use Rattle.std.specs.Prelude.{◌≡◌, Bool, List, [], ◌∷◌, ltb, get_or, Float}
use Rattle.std.proofs.Math.Path.{refl, ap, sym}
use Rattle.std.proofs.Common.{subst, ◌∙◌, arith, lt-ltb, le-ltb, length-take-le}
use Rattle.std.proofs.Math.Bool.{true, false}
use Prim.Native.Nat.{ℕ, zero, suc, ◌+◌, ◌-◌, ◌*◌, ◌<◌, ◌≤◌}
use Rattle.std.proofs.Math.ListN.{length}
use Rattle.std.proofs.Math.Seq.{get_or-take}
use Rattle.words.specs.Layout.{STARTS, TRAIL, LEARNED}
use Rattle.words.specs.Region.{region, length-region}
use Rattle.model.specs.Literal.{node, negate}
use Rattle.model.specs.Sat as Sat
use Rattle.laws.specs.Search.Analysis.{Analyzed, AnalysisEnded}
use Rattle.laws.specs.Search.Step.{analysis-ends}
use Rattle.assignment.specs.State.{column, assignment_of, TrailReady, Unchanged}
use Rattle.assignment.specs.Scores.{scores_of, Fixed, Others, Decays}
use Rattle.assignment.specs.StateLaws.{unchanged_none, unchanged_both, unchanged_within, trail-length, level-is}
use Rattle.assignment.specs.declared.state.Activity.{Activity}
use Rattle.clauses.specs.Clauses.{length-clauses}
use Rattle.assignment.specs.Blocks.{Cached}
use Rattle.assignment.specs.OrderLaws.{decay-unsigned}
use Rattle.clauses.specs.State.{solver_of, SoundStore}
use Rattle.clauses.specs.KeptLaws.{sound-kept, solver_kept}
use Rattle.analysis.specs.Analysis.{analysis_of, analysis_regions, Ranged, view_of, Bounded, Analyzes}
use Rattle.analysis.specs.declared.state.Analyzed as Answers
use Rattle.assignment.specs.ScoreLaws.{others-none, others-both}
use Rattle.sat.specs.CapacityLaws.{analysis-fits, asserting_below, clause-below, clause-length, clause-clean}
use Rattle.sat.specs.ViewLaws.{analysis_of_lem}
use Rattle.sat.specs.State.{base_of, state_of, Marks, Stopped, solve_regions, Results, Assertable}
use Rattle.sat.specs.declared.state.State.{State}
use Rattle.sat.specs.declared.state.Answer.{Answer}
use Rattle.sat.specs.declared.state.Answer.TheVariants as Answered
use Rattle.std.specs.declared.ops.ControlFlow.{ControlFlow}
use Rattle.std.specs.declared.ops.ControlFlow.TheVariants.{Break}

-- a result after other words and scores of the search were written
pub results_after : {limit n : ℕ} {w w₁ : List ℕ} {x x₁ : List Float} {goal goal₁ : Sat.Search} {r : ControlFlow Answer State} {w' : List ℕ} {x' : List Float}
    → Unchanged solve_regions w w₁ → Others n x x₁ → goal₁ ≡ goal → Results limit n w₁ x₁ goal₁ r w' x' → Results limit n w x goal r w' x'
results_after f o e r =
    record { is = r.is ∙ e; next = r.next; others = others-both _ o r.others; frame = unchanged_both solve_regions f r.frame }

-- the answer does not go on, and nothing is written
module _ (limit : ℕ) (s : State) (w : List ℕ) (x : List Float) (id : ℕ) (h : Stopped limit s w x id) where
  -- the solver at the conflict
  abbrev S : Sat.Solver
  S = state_of s w x

  level-here : Sat.decision_level S.assignment ≡ s.trail.level
  unfolding state_of solver_of
  level-here = level-is s.trail w h.fits.sound.formed.ready

  pub conflict_bottom : s.trail.level ≡ 0 → Results limit s.trail.variables w x (Sat.after_conflict limit S id (Sat.decision_level S.assignment)) (Break (Answered.NoModel s.learned)) w x
  unfolding Sat.after_conflict state_of solver_of base_of
  conflict_bottom e =
      record {
        is = sym (ap (Sat.after_conflict limit S id) (level-here ∙ e));
        next = tt;
        others = others-none s.trail.variables x;
        frame = unchanged_none solve_regions w;
      }

  module _ (above : s.trail.level ≡ 0 → ⊥) where
    some_level : 0 < s.trail.level
    some_level = go s.trail.level refl
      where
        go : (k : ℕ) → s.trail.level ≡ k → 0 < k
        go zero e = absurd (above e)
        go (suc k) e = omega arith

    level-suc : Sat.decision_level S.assignment ≡ suc (s.trail.level - 1)
    level-suc = omega (arith, level-here, some_level)

    top : length S.assignment.trail_limits ≡ suc (s.trail.level - 1)
    top = unfold Sat.decision_level in level-suc

    ended : AnalysisEnded s.trail.variables S.clauses S.assignment (Sat.analyze S id)
    ended = analysis-ends s.trail.variables h.original limit S h.stuck (s.trail.level - 1) top id h.conflicting

    -- the analysis of the solver is that of its view
    viewed : Sat.analyze S id ≡ Sat.analyze (view_of s.store.clauses s.trail s.activity w x) id
    unfolding state_of base_of
    viewed = analysis_of_lem (base_of s x) s.store s.trail s.activity w x refl id

    trail_low : (i : ℕ) → i < s.trail.length → get_or (region TRAIL w) i 0 < s.trail.variables * 2
    unfolding state_of solver_of assignment_of node
    trail_low i k =
        let m : i < length (column s.trail.length TRAIL w) = omega (arith, trail-length s.trail w h.fits.sound.formed.ready) in
        omega (arith, (h.stuck.core.justified.trail_inv.range i m).1, get_or-take s.trail.length (region TRAIL w) i 0 k)

    -- the literals of the clauses and of the trail are of the variables
    ranged : Ranged s.store.clauses s.trail w
    ranged =
        let f = h.fits.sound.formed in
        record { some = f.some; clauses = λ id k i l. f.range i (omega (arith, l, f.within (id + 1) (omega arith))); trail = trail_low }

    -- what `analyze` asks
    pub analyze-asked : TrailReady s.trail w × (s.trail.variables ≤ length x) × Fixed s.activity × (s.store.clauses < STARTS) × Marks s.store.clauses s w × Ranged s.store.clauses s.trail w
        × Bounded (Sat.analyze (view_of s.store.clauses s.trail s.activity w x) id)
    analyze-asked = (
      h.fits.sound.formed.ready,
      h.fits.scores,
      h.fits.fixed,
      omega (arith, h.fits.clauses, h.fits.total, h.fits.limited),
      h.marks,
      ranged,
      subst Bounded viewed (analysis-fits s.trail.variables S.clauses S.assignment (Sat.analyze S id) h.fits.sound.formed.ready.variables ended),
    )

    module _ (r : Answers.Analyzed) (w₁ : List ℕ) (x₁ : List Float) (z : Analyzes s.store.clauses s.trail s.activity id w x r w₁ x₁) where
      -- the analysis, and how many literals it learned
      abbrev A : Sat.Analysis
      A = analysis_of s.trail r.analysis w₁ x₁

      abbrev count : ℕ
      count = r.analysis.learned

      analyzed : Sat.analyze S id ≡ Sat.resolved A r.pivot.0
      analyzed = viewed ∙ sym z.is

      facts : Analyzed s.trail.variables S.clauses S.assignment A r.pivot.0
      facts = subst (AnalysisEnded s.trail.variables S.clauses S.assignment) analyzed ended

      learned_are : A.learned ≡ column count LEARNED w₁
      unfolding analysis_of
      learned_are = refl

      learned-length : length (column count LEARNED w₁) ≡ count
      learned-length = length-take-le count (region LEARNED w₁) (omega (arith, z.room, length-region LEARNED w₁ (omega (arith, z.words))))

      length-is : length A.learned ≡ count
      length-is = ap length learned_are ∙ learned-length

      frame₁ : Unchanged solve_regions w w₁
      frame₁ = unchanged_within analysis_regions solve_regions refl z.frame

      -- the definition's outcome by the limit
      outcome : (b : Bool) → ltb limit (s.learned + suc (length A.learned)) ≡ b
          → Sat.after_conflict limit S id (Sat.decision_level S.assignment) ≡ Sat.learn_unless S (Sat.decay_activity A.scores) (negate r.pivot.0) A.learned b
      unfolding Sat.after_conflict Sat.after_analysis state_of solver_of base_of
      outcome b e =
          ap (Sat.after_conflict limit S id) level-suc ∙ ap (Sat.after_analysis limit S) analyzed
          ∙ ap (Sat.learn_unless S (Sat.decay_activity A.scores) (negate r.pivot.0) A.learned) e

      pub conflict_over : limit < s.learned + count + 1 → Results limit s.trail.variables w x (Sat.after_conflict limit S id (Sat.decision_level S.assignment)) (Break (Answered.GaveUp s.learned)) w₁ x₁
      unfolding Sat.learn_unless state_of solver_of base_of
      conflict_over k =
          record {
            is = sym (outcome true (lt-ltb limit (s.learned + suc (length A.learned)) (omega (arith, length-is))));
            next = tt;
            others = z.others;
            frame = frame₁;
          }

      module _ (long : length w₁ ≡ length w) (within : s.learned + count + 1 ≤ limit) (activity : Activity) (d : Decays r.analysis.activity activity) where
        -- the state with the decayed increment
        abbrev decayed : State
        decayed = record { store = s.store; trail = s.trail; activity = activity; learned = s.learned }

        sound₁ : SoundStore s.store s.trail w₁ []
        sound₁ = sound-kept analysis_regions refl s.store s.trail w w₁ z.frame [] long h.fits.sound

        -- the increment divided by the decay is ordered still
        decayed-cached : Cached s.trail w₁ r.analysis.activity x₁ → Cached s.trail w₁ activity x₁
        unfolding scores_of Sat.decay_activity
        decayed-cached c =
            record {
              known = c.known;
              scores = c.scores;
              increment = rw (ap (λ (u : Sat.Scores). u.activity_increment) (d.is s.trail.variables x₁)) (decay-unsigned r.analysis.activity.increment c.increment);
            }

        levels : 0 < length S.assignment.trail_limits
        levels = omega (arith, top)

        sorted_length : length (Sat.sort_literals (negate r.pivot.0 ∷ column count LEARNED w₁)) ≡ suc count
        sorted_length = ap (λ ls. length (Sat.sort_literals (negate r.pivot.0 ∷ ls))) (sym learned_are)
            ∙ clause-length s.trail.variables h.original S h.stuck levels A r.pivot.0 facts ∙ ap suc length-is

        -- what `assert_learned` asks
        pub assert_asked : Assertable limit decayed w₁ x₁ (negate r.pivot.0) count
        unfolding analysis_of
        assert_asked =
            record {
              fits =
                  record {
                    sound = sound₁;
                    scores = omega (arith, h.fits.scores, z.others.long);
                    fixed = d.fixed;
                    limited = h.fits.limited;
                    total = h.fits.total;
                    clauses = h.fits.clauses;
                    literals = h.fits.literals;
                    cached = decayed-cached (z.cached h.fits.cached);
                  };
              marks = z.marks;
              able =
                  record {
                    sound = sound₁;
                    scores = omega (arith, h.fits.scores, z.others.long);
                    few = z.room;
                    clauses = omega (arith, h.fits.clauses, h.fits.limited);
                    literals = omega (arith, h.fits.literals, h.fits.limited);
                    range = clause-below s.trail.variables h.original S h.stuck levels A r.pivot.0 facts;
                    distinct = clause-clean s.trail.variables h.original S h.stuck levels A r.pivot.0 facts;
                  };
              range = asserting_below s.trail.variables h.original S h.stuck levels A r.pivot.0 facts;
              within = omega arith;
              size = sorted_length;
            }

        -- learning is the same before and after the analysis
        learn-same : Sat.learn (state_of decayed w₁ x₁) (state_of decayed w₁ x₁).scores (negate r.pivot.0) (column count LEARNED w₁)
            ≡ Sat.learn S (Sat.decay_activity A.scores) (negate r.pivot.0) A.learned
        unfolding state_of base_of solver_of analysis_of Sat.learn
        learn-same =
            ap (λ (u : Sat.Solver). Sat.learn u (scores_of s.trail.variables activity x₁) (negate r.pivot.0) (column count LEARNED w₁)) (solver_kept analysis_regions refl s.store s.trail w w₁ z.frame (base_of decayed x₁))
            ∙ ap (λ (u : Sat.Scores). Sat.learn S u (negate r.pivot.0) (column count LEARNED w₁)) (d.is s.trail.variables x₁)

        clause_count : s.store.clauses ≡ length S.clauses
        unfolding state_of solver_of
        clause_count = sym (length-clauses s.store.clauses w)

        goal-same : Sat.assert_learned s.store.clauses (negate r.pivot.0) (Sat.learn (state_of decayed w₁ x₁) (state_of decayed w₁ x₁).scores (negate r.pivot.0) (column count LEARNED w₁))
            ≡ Sat.after_conflict limit S id (Sat.decision_level S.assignment)
        unfolding Sat.learn_unless
        goal-same =
            ap (λ (u : Sat.Solver). Sat.assert_learned s.store.clauses (negate r.pivot.0) u) learn-same
            ∙ ap (λ (k : ℕ). Sat.assert_learned k (negate r.pivot.0) (Sat.learn S (Sat.decay_activity A.scores) (negate r.pivot.0) A.learned)) clause_count
            ∙ sym (outcome false (le-ltb limit (s.learned + suc (length A.learned)) (omega (arith, length-is))))

        pub conflict_learns : (q : ControlFlow Answer State) (w' : List ℕ) (x' : List Float)
            → Results limit s.trail.variables w₁ x₁ (Sat.assert_learned s.store.clauses (negate r.pivot.0) (Sat.learn (state_of decayed w₁ x₁) (state_of decayed w₁ x₁).scores (negate r.pivot.0) (column count LEARNED w₁))) q w' x'
            → Results limit s.trail.variables w x (Sat.after_conflict limit S id (Sat.decision_level S.assignment)) q w' x'
        conflict_learns q w' x' y = results_after frame₁ z.others goal-same y
