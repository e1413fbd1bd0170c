-- Laws of the rounds of a search and of its start: the answer is the definition's, and the rounds never run out. Assumes nothing.
use Rattle.std.specs.Prelude.{◌≡◌, List, length, Float}
use Rattle.std.proofs.Math.Path.{refl, ap}
use Rattle.std.proofs.Common.{sym, subst, ◌∙◌}
use Prim.Native.Nat.{ℕ, zero, suc, ◌-◌, ◌<◌}
use native.Mathlib.Omega.{arith}
use Rattle.model.specs.Sat as Sat
use Rattle.laws.specs.Search.State.{Idle}
use Rattle.laws.specs.Search.Loop.{Keeps}
use Rattle.laws.specs.Search.Step.{AnswerOk, step_keeps}
use Rattle.assignment.specs.State.{Unchanged}
use Rattle.assignment.specs.Scores.{Others}
use Rattle.assignment.specs.StateLaws.{unchanged_both}
use Rattle.laws.specs.Search.Adding.{search_answered}
use Rattle.assignment.specs.ScoreLaws.{others-both}
pub use Rattle.sat.specs.State.{search_answer}
use Rattle.sat.specs.State.{state_of, step_of, Going, solve_regions, Results}
use Rattle.sat.specs.declared.state.State.{State}
use Rattle.std.specs.declared.ops.ControlFlow.{ControlFlow}
use Rattle.std.specs.declared.ops.ControlFlow.TheVariants.{Continue, Break}
use Rattle.sat.specs.declared.state.Answer.{Answer}

-- the definition's answer after so many rounds
abbrev pub ran_from : ℕ → ℕ → State → List ℕ → List Float → Sat.Answer
ran_from limit rounds s w x = Sat.search_rounds limit rounds (Sat.searching (state_of s w x))

-- what `search` asks: the invariant, and that the rounds do not run out
pub record Searchable (limit : ℕ) (s : State) (w : List ℕ) (x : List Float) (rounds : ℕ) : Type 0 where
  pub going : Going limit s w x
  pub ends : (k : ℕ) → ran_from limit rounds s w x ≡ Sat.out_of_fuel k → ⊥

-- of `search`
pub record Searches (limit : ℕ) (s : State) (w : List ℕ) (x : List Float) (rounds : ℕ) (r : Answer) (w' : List ℕ) (x' : List Float) : Type 0 where
  pub is : search_answer s.trail.variables r w' ≡ ran_from limit rounds s w x
  pub others : Others s.trail.variables x x'
  pub frame : Unchanged solve_regions w w'

module _ (limit : ℕ) (s₀ : State) (w₀ : List ℕ) (x₀ : List Float) (rounds : ℕ) where
  -- between rounds: those that are left decide
  pub record Rounds (s : State) (w : List ℕ) (x : List Float) (left : ℕ) : Type 0 where
    pub here : Searchable limit s w x left
    pub variables : s.trail.variables ≡ s₀.trail.variables
    pub others : Others s₀.trail.variables x₀ x
    pub frame : Unchanged solve_regions w₀ w
    pub same : ran_from limit left s w x ≡ ran_from limit rounds s₀ w₀ x₀

  module _ (s : State) (w : List ℕ) (x : List Float) (left : ℕ) (i : Rounds s w x left) where
    -- a round is left
    pub some_left : 0 < left
    unfolding Sat.search_rounds
    some_left = go left refl
      where
        go : (k : ℕ) → left ≡ k → 0 < k
        go zero e = absurd (i.here.ends (state_of s w x).learned (ap (λ (k : ℕ). ran_from limit k s w x) e))
        go (suc k) e = omega arith

    module _ (r : ControlFlow Answer State) (w' : List ℕ) (x' : List Float) (q : Results limit s.trail.variables w x (Sat.step limit (state_of s w x)) r w' x') where
      -- one round done
      one-done : ran_from limit left s w x ≡ Sat.search_rounds limit (left - 1) (step_of s.trail.variables r w' x')
      unfolding Sat.search_rounds
      one-done =
          let e : left ≡ suc (left - 1) = omega (arith, some_left) in
          ap (λ (k : ℕ). ran_from limit k s w x) e ∙ ap (Sat.search_rounds limit (left - 1)) (sym q.is)

      others_so_far : Others s₀.trail.variables x₀ x'
      others_so_far = others-both s₀.trail.variables i.others (subst (λ (n : ℕ). Others n x x') i.variables q.others)

      frame_so_far : Unchanged solve_regions w₀ w'
      frame_so_far = unchanged_both solve_regions i.frame q.frame

      -- the search goes on
      pub rounds-next : (u : State) → r ≡ Continue u → Rounds u w' x' (left - 1)
      rounds-next u e =
          let g = i.here.going in
          let z : Results limit s.trail.variables w x (Sat.step limit (state_of s w x)) (Continue u) w' x' = rw e at q in
          let on : ran_from limit left s w x ≡ ran_from limit (left - 1) u w' x' = rw e at one-done in
          let C = (Sat.encode g.graph g.assumptions).clauses in
          record {
            here =
                record {
                  going =
                      record {
                        fits = z.next.0;
                        marks = z.next.2;
                        graph = g.graph;
                        assumptions = g.assumptions;
                        size = g.size ∙ sym z.next.1;
                        idle = subst (Keeps (Idle (length g.graph) C) (AnswerOk (length g.graph) C)) (sym z.is) (step_keeps (length g.graph) C limit (state_of s w x) g.idle);
                      };
                  ends = λ k f. i.here.ends k (on ∙ f);
                };
            variables = z.next.1 ∙ i.variables;
            others = others_so_far;
            frame = frame_so_far;
            same = sym on ∙ i.same;
          }

      -- it is answered
      answered-same : (a : Sat.Answer) → step_of s.trail.variables r w' x' ≡ Sat.answered a → a ≡ ran_from limit rounds s₀ w₀ x₀
      answered-same a e = sym (sym i.same ∙ one-done ∙ ap (Sat.search_rounds limit (left - 1)) e ∙ search_answered limit (left - 1) a)

      finished : (a : Answer) → search_answer s₀.trail.variables a w' ≡ ran_from limit rounds s₀ w₀ x₀ → Searches limit s₀ w₀ x₀ rounds a w' x'
      finished a e = record { is = e; others = others_so_far; frame = frame_so_far }

      pub rounds-answered : (a : Answer) → r ≡ Break a → Searches limit s₀ w₀ x₀ rounds a w' x'
      rounds-answered a e =
          finished a
          (ap (λ (n : ℕ). search_answer n a w') (sym i.variables) ∙ answered-same (search_answer s.trail.variables a w') (ap (λ (z : ControlFlow Answer State). step_of s.trail.variables z w' x') e))
