-- Laws of a decision of the search: what is chosen is not assigned, and the solver after it is the definition's. Assumes nothing.
use Rattle.std.specs.Prelude.{◌≡◌, refl, List, [], ◌∷◌, ℕ, ◌<◌, length, take, drop, Float, Option, Some, None}
use Rattle.std.proofs.Math.Path.{ap}
use Rattle.std.proofs.Common.{sym, ◌∙◌, arith, get_or-drop}
use Rattle.std.proofs.Math.ListN.{get_or}
use Rattle.words.specs.Layout.{SMALL, MOST-NODES, BLOCKS}
use Rattle.model.specs.Sat as Sat
use Rattle.laws.specs.Search.Choice.{ChoiceOk, from_ok}
use Rattle.assignment.specs.State.{assignment_of, assignment_regions, Unchanged, TrailReady, Becomes, decided}
use Rattle.assignment.specs.StateLaws.{unchanged_both, unchanged_within, assignment-kept}
use Rattle.assignment.specs.KnownLaws.{cached-grown, decide-grows}
use Rattle.assignment.specs.Scores.{choice_of}
use Rattle.assignment.specs.Blocks.{Cached, Chooses}
use Rattle.assignment.specs.declared.state.Activity.{Activity}
use Rattle.assignment.specs.declared.state.Trail.{Trail}
use Rattle.clauses.specs.State.{solver_of, scored, SoundStore}
use Rattle.clauses.specs.KeptLaws.{sound-kept, solver_kept}
use Rattle.clauses.specs.declared.state.Store.{Store}
use Rattle.sat.specs.SoundLaws.{becomes_changes, decide-fits, sound-decide, solver_becomes}

-- the trail of an answer
abbrev pub trail_after : Trail → Option Trail → Trail
trail_after t None = t
trail_after t (Some r) = r

-- what an answer says of the solver: no variable is left to choose and nothing is changed, or it is searching on
abbrev pub Outcome : Sat.Solver → Sat.Solver → Option Trail → Type 0
Outcome s after None = (Sat.choose_variable s ≡ Sat.no_choice) × (after ≡ s)
Outcome s after (Some r) = Sat.decide s (Sat.choose_variable s) ≡ Sat.searching after

-- of `decide`
pub record Decides (m : Store) (t : Trail) (w : List ℕ) (x : List Float) (r : Option Trail) (w' : List ℕ) : Type 0 where
  pub is : (s : Sat.Solver) → Outcome (solver_of (scored s t.variables x) m t w) (solver_of (scored s t.variables x) m (trail_after t r) w') r
  pub sound : SoundStore m (trail_after t r) w' []
  pub variables : (trail_after t r).variables ≡ t.variables
  pub frame : Unchanged (BLOCKS ∷ assignment_regions) w w'
  pub cached : (a : Activity) → Cached t w a x → Cached (trail_after t r) w' a x

-- the choice is that of the solver
choice_is : (s : Sat.Solver) (m : Store) (t : Trail) (w : List ℕ) (x : List Float) (c : Option ℕ) (w₁ : List ℕ) → Chooses t w x c w₁
    → choice_of (take t.variables x) c ≡ Sat.choose_variable (solver_of (scored s t.variables x) m t w)
unfolding Sat.choose_variable solver_of scored
choice_is s m t w x c w₁ h = h.is

-- the variable is not assigned
abbrev Open : Sat.Solver → ℕ → Type 0
Open s v = get_or s.assignment.assignments v Sat.Unassigned ≡ Sat.Unassigned

-- a chosen variable is not
choice_open : (s : Sat.Solver) → ChoiceOk (Open s) (Sat.choose_variable s)
unfolding Sat.choose_variable
choice_open s =
    from_ok (Open s) (drop 1 s.assignment.assignments) (drop 1 s.scores.activity) 1 Sat.no_choice
    (λ i h e. sym (get_or-drop 1 s.assignment.assignments i Sat.Unassigned) ∙ e) tt

-- w are the words before the choice, w₁ those after it
module _ (m : Store) (t : Trail) (w w₁ : List ℕ) (x : List Float) (c : Option ℕ) (h : Chooses t w x c w₁) (long : length w₁ ≡ length w) (s : SoundStore m t w []) where
  sound₁ : SoundStore m t w₁ []
  sound₁ = sound-kept (BLOCKS ∷ []) refl m t w w₁ h.frame [] long s

  solver₁ : (u : Sat.Solver) → solver_of u m t w₁ ≡ solver_of u m t w
  solver₁ u = solver_kept (BLOCKS ∷ []) refl m t w w₁ h.frame u

  same : assignment_of t w₁ ≡ assignment_of t w
  same = assignment-kept (BLOCKS ∷ []) t refl h.frame

  frame₁ : Unchanged (BLOCKS ∷ assignment_regions) w w₁
  frame₁ = unchanged_within (BLOCKS ∷ []) (BLOCKS ∷ assignment_regions) refl h.frame

  cached₁ : (a : Activity) → Cached t w a x → Cached t w₁ a x
  cached₁ a k = record { known = h.known; scores = k.scores; increment = k.increment }

  pub decides-nothing : c ≡ None → Decides m t w x None w₁
  unfolding choice_of
  decides-nothing e =
      record {
        is = λ u. (sym (choice_is u m t w x c w₁ h) ∙ ap (λ (d : Option ℕ). choice_of (take t.variables x) d) e, solver₁ (scored u t.variables x));
        sound = sound₁;
        variables = refl;
        frame = frame₁;
        cached = cached₁;
      }

  module _ (v : ℕ) (e : c ≡ Some v) where
    chosen-here : Chooses t w x (Some v) w₁
    chosen-here = rw e at h

    -- a chosen variable is not assigned
    free : (u : Sat.Solver) → get_or (assignment_of t w).assignments v Sat.Unassigned ≡ Sat.Unassigned
    unfolding choice_of solver_of
    free u =
        let S = solver_of (scored u t.variables x) m t w in
        let z : ChoiceOk (Open S) (Sat.chosen v (get_or (take t.variables x) v Sat.score_zero))
        = rw (← choice_is u m t w x (Some v) w₁ chosen-here) at (choice_open S) in
        z

    -- what the assignment's part asks
    pub decide-asked : t.level < SMALL → TrailReady t w₁ × (t.length < SMALL) × (t.level < SMALL) × (v < MOST-NODES)
    decide-asked l =
        let r = s.formed.ready in
        (h.ready, omega (arith, decide-fits m t w v s.formed chosen-here.below (free (Sat.new 0)), r.variables), l, omega (arith, chosen-here.below, r.variables))

    pub decides : (r : Trail) (w' : List ℕ) → Becomes t w₁ (decided (assignment_of t w₁) v) r w' → Decides m t w x (Some r) w'
    unfolding choice_of Sat.decide decided solver_of
    decides r w' b =
        let d = becomes_changes t w₁ (decided (assignment_of t w₁) v) r w' b in
        let f : get_or (assignment_of t w₁).assignments v Sat.Unassigned ≡ Sat.Unassigned = rw same (free (Sat.new 0)) in
        record {
          is = λ u.
              ap (λ (k : Sat.Choice). Sat.decide (solver_of (scored u t.variables x) m t w) k) (sym (choice_is u m t w x (Some v) w₁ chosen-here))
              ∙ ap (λ (z : Sat.Solver). Sat.decide z (Sat.chosen v (get_or (take t.variables x) v Sat.score_zero))) (sym (solver₁ (scored u t.variables x)))
              ∙ ap (λ (z : Sat.Solver). Sat.searching z) (sym (solver_becomes (scored u t.variables x) m t r w₁ w' (decided (assignment_of t w₁) v) d));
          sound = sound-decide m t r w₁ w' v sound₁ chosen-here.below f d;
          variables = b.variables;
          frame = unchanged_both (BLOCKS ∷ assignment_regions) frame₁ d.frame;
          cached = λ a k. cached-grown t w₁ r w' a x b.variables (b.frame.same BLOCKS refl) (decide-grows t w₁ v r w' b) (cached₁ a k);
        }
