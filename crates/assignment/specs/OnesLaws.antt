-- Laws of the ones that a clause adds. Assumes nothing.
use Rattle.std.specs.Prelude.{◌≡◌, refl, ℕ, ◌+◌, ◌<◌, ◌≤◌, length, take, get_or, Float}
use Rattle.std.proofs.Math.Path.{ap}
use Rattle.std.proofs.Common.{sym, ◌∙◌, arith, add-one, get_or-set_other}
use mathlib.Core.List.{List, [], ◌∷◌}
use Rattle.std.proofs.Math.Seq.{slice, slice-cons, slice_empty}
use Rattle.words.specs.Layout.{BLOCKS, LITERALS}
use Rattle.words.specs.Region.{region}
use Rattle.model.specs.Literal as Literals
use Rattle.model.specs.Sat as Sat
use Rattle.assignment.specs.State.{Unchanged, TrailReady}
use Rattle.assignment.specs.StateLaws.{unchanged_both}
use Rattle.assignment.specs.Scores.{Raised, Others}
use Rattle.assignment.specs.ScoreLaws.{others-both}
use Rattle.assignment.specs.Blocks.{score, Cached, Forgets, AddsOnes}
use Rattle.assignment.specs.OrderLaws.{one-unsigned, raise_unsigned}
use Rattle.assignment.specs.declared.state.Activity.{Activity}
use Rattle.assignment.specs.declared.state.Trail.{Trail}

-- a raised score leaves the others
pub raised_others : (n v : ℕ) (x : Float) (s s' : List Float) → Raised n v x s s' → (i : ℕ) → (i ≡ v → ⊥) → score (take n s') i ≡ score (take n s) i
unfolding Sat.add_score
raised_others n v x s s' r i d = rw r.is (get_or-set_other (take n s) v i _ Sat.score_zero d)

-- what is left of `add_ones` at place i of the pool
pub record AddingOnes (t : Trail) (start end : ℕ) (w₀ : List ℕ) (s₀ : List Float) (i : ℕ) (w : List ℕ) (s : List Float) : Type 0 where
  pub inside : i ≤ end
  pub left : Sat.add_ones (take t.variables s) (slice i end (region LITERALS w₀)) ≡ Sat.add_ones (take t.variables s₀) (slice start end (region LITERALS w₀))
  pub others : Others t.variables s₀ s
  pub frame : Unchanged (BLOCKS ∷ []) w₀ w
  pub ready : TrailReady t w
  pub cached : (a : Activity) → Cached t w₀ a s₀ → Cached t w a s

module _ (t : Trail) (start end : ℕ) (w₀ w w' : List ℕ) (s₀ s s' : List Float) (i v : ℕ) where
  -- one score raised, and its block forgotten
  ones_cached : Raised t.variables v Sat.score_one s s' → Forgets t w v w' → (a : Activity) → Cached t w a s → Cached t w' a s'
  ones_cached r f a c =
      record {
        known = f.known s s' (raised_others t.variables v Sat.score_one s s' r) c.known;
        scores = rw r.is (raise_unsigned (take t.variables s) v Sat.score_one one-unsigned c.scores);
        increment = c.increment;
      }

  pub adding_step : end ≤ length (region LITERALS w₀) → AddingOnes t start end w₀ s₀ i w s → i < end → v ≡ Literals.node (get_or (region LITERALS w) i 0)
      → Raised t.variables v Sat.score_one s s' → Forgets t w v w' → AddingOnes t start end w₀ s₀ (i + 1) w' s'
  unfolding Sat.add_ones
  adding_step h a k e r f =
      let n = t.variables in
      let q : v ≡ Literals.node (get_or (region LITERALS w₀) i 0) = e ∙ ap (λ (l : List ℕ). Literals.node (get_or l i 0)) (a.frame.same LITERALS refl) in
      record {
        inside = omega arith;
        left = rw (r.is, q, add-one) (sym (ap (λ (ls : List ℕ). Sat.add_ones (take n s) ls) (slice-cons i end (region LITERALS w₀) 0 k h)) ∙ a.left);
        others = others-both n a.others r.others;
        frame = unchanged_both (BLOCKS ∷ []) a.frame f.frame;
        ready = f.ready;
        cached = λ b c. ones_cached r f b (a.cached b c);
      }

pub adds_ones : (t : Trail) (start end : ℕ) (w₀ w : List ℕ) (s₀ s : List Float) (i : ℕ) → AddingOnes t start end w₀ s₀ i w s → end ≤ i → AddsOnes t (slice start end (region LITERALS w₀)) w₀ s₀ w s
unfolding Sat.add_ones
adds_ones t start end w₀ w s₀ s i a h =
    let e : i ≡ end = omega arith in
    record { scores = record { is = rw (e, slice_empty) at a.left; others = a.others }; frame = a.frame; ready = a.ready; cached = a.cached }
