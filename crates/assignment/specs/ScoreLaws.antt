-- Laws of the scores: a score raised, all of them rescaled, a bump, and the start. Assumes nothing.
use Rattle.std.specs.Prelude.{◌≡◌, refl, true, false, List, [], ◌∷◌, ◌++◌, map, ℕ, ◌<◌, ◌≤◌, length, take, drop, set, replicate, Float}
use Rattle.std.proofs.Common.{ap, sym, ◌∙◌, arith, length-set, drop-set-lt, get_or-take, get_or-set_same, length-take-le}
use Rattle.std.proofs.lemmas.Grind.{common_steps}
use Rattle.std.proofs.lemmas.List.{length-replicate, get_or_default}
use Rattle.std.proofs.Math.ListN.{get_or, length-take, get_or-eq_default}
use Rattle.std.proofs.Math.Seq.{set_out}
use Rattle.std.specs.Float.{nan, binary64}
use Rattle.std.specs.Float.Ieee.{lt}
use Rattle.std.specs.Float.Ieee as Ieee
use Rattle.model.specs.Sat as Sat
use Rattle.assignment.specs.Scores.{scores_of, Fixed, Others, Rescaled, Raised, Bumped, ZeroScores}
use Rattle.assignment.specs.StateLaws.{take-set}
use Rattle.assignment.specs.declared.state.Activity.{Activity}

-- ---- the scores past n

pub others-none : (n : ℕ) (s : List Float) → Others n s s
others-none n s = record { long = refl; same = refl }

pub others-both : (n : ℕ) {s t u : List Float} → Others n s t → Others n t u → Others n s u
others-both n f g = record { long = g.long ∙ f.long; same = g.same ∙ f.same }

pub others-set : (n : ℕ) (s : List Float) (i : ℕ) (x : Float) → i < n → Others n s (set s i x)
others-set n s i x h = record { long = length-set s i x; same = drop-set-lt n s i x h }

-- ---- a score

-- the score of a variable, one of n
pub score-is : (n : ℕ) (s : List Float) (v : ℕ) → n ≤ length s → v < n → get_or s v nan ≡ get_or (take n s) v Sat.score_zero
score-is n s v h k =
    let l : v < length s = omega arith in
    get_or_default s v nan Sat.score_zero l ∙ sym (get_or-take n s v Sat.score_zero k)

pub raised : (n : ℕ) (s : List Float) (v : ℕ) (x : Float) → n ≤ length s → v < n → Raised n v x s (set s v (Ieee.add binary64 (get_or s v nan) x))
unfolding Sat.add_score
raised n s v x h k =
    record {
      is = take-set n s v _ ∙ ap (λ (y : Float). set (take n s) v (Ieee.add binary64 y x)) (score-is n s v h k);
      others = others-set n s v _ k;
    }

pub raised_not : (n : ℕ) (s : List Float) (v : ℕ) (x : Float) → n ≤ v → Raised n v x s s
unfolding Sat.add_score
raised_not n s v x h = record { is = sym (set_out (take n s) v _ (simp length-take (omega arith))); others = others-none n s }

-- ---- the first n scores, written anew

-- they are the new ones, and the others stay
replaced : (n : ℕ) (s z : List Float) → n ≤ length s → length z ≡ n → (take n (z ++ drop n s) ≡ z) × Others n s (z ++ drop n s)
replaced n s z h k = (grind (arith, common_steps), record { long = grind (arith, common_steps); same = grind (arith, common_steps) })

pub filled : (n : ℕ) (s z : List Float) → n ≤ length s → z ≡ replicate (length (take n s)) Sat.score_zero → ZeroScores n s (z ++ drop n s)
filled n s z h e =
    let k : z ≡ replicate n Sat.score_zero = rw (← length-take-le n s h) e in
    let l : length z ≡ n = rw k (length-replicate n Sat.score_zero) in
    record { is = (replaced n s z h l).0 ∙ k; others = (replaced n s z h l).1 }

-- the first i of n scores mapped, the scores being s
pub record Mapping (f : Float → Float) (n : ℕ) (s₀ : List Float) (i : ℕ) (s : List Float) : Type 0 where
  pub inside : i ≤ n
  pub long : length s ≡ length s₀
  pub done : take i s ≡ map f (take i s₀)
  pub left : drop i s ≡ drop i s₀

map_same : (x : Float) (s : List Float) → map (λ (y : Float). x) s ≡ replicate (length s) x
map_same x [] = refl
map_same x (y ∷ s) = ap (λ (l : List Float). x ∷ l) (map_same x s)

-- all n of them mapped to the score of none
pub zeroed : (n : ℕ) (s₀ s : List Float) (i : ℕ) → n ≤ length s₀ → Mapping (λ (x : Float). Sat.score_zero) n s₀ i s → n ≤ i → ZeroScores n s₀ s
zeroed n s₀ s i h m k =
    let e : i ≡ n = omega (arith, m.inside) in
    let d : take n s ≡ map (λ (x : Float). Sat.score_zero) (take n s₀) = rw e at m.done in
    record {
      is = d ∙ map_same Sat.score_zero (take n s₀) ∙ ap (λ (j : ℕ). replicate j Sat.score_zero) (length-take-le n s₀ h);
      others = record { long = m.long; same = rw e at m.left };
    }

-- ---- a bump

-- the test of the ceiling is that of the raised score
ceiling-test : (n : ℕ) (s : List Float) (v : ℕ) (by x : Float) → n ≤ length s → v < n → x ≡ Ieee.add binary64 (get_or s v nan) by
    → get_or (Sat.add_score (take n s) v by) v Sat.score_zero ≡ x
ceiling-test n s v by x h k e =
    let l : v < length s = omega arith in
    ap (λ (t : List Float). get_or t v Sat.score_zero) (sym (raised n s v by h k).is) ∙ get_or-take n _ v Sat.score_zero k ∙ get_or-set_same s v _ Sat.score_zero l ∙ sym e

module _ (n : ℕ) (a : Activity) (v : ℕ) (s : List Float) (f : Fixed a) where
  pub bumps_not : n ≤ v → Bumped n a v s a s
  unfolding scores_of Sat.bump_activity Sat.rescale_if Sat.ceiling Sat.score_zero lt
  bumps_not h =
      let out : get_or (take n s) v Sat.score_zero ≡ Sat.score_zero = get_or-eq_default (take n s) Sat.score_zero (simp length-take (omega arith)) in
      record { is = rw (← (raised_not n s v a.increment h).is, out); fixed = f; others = others-none n s }

  module _ (x : Float) (h : n ≤ length s) (k : v < n) (e : x ≡ Ieee.add binary64 (get_or s v nan) a.increment) where
    after : Raised n v a.increment s (set s v x)
    after = rw e (raised n s v a.increment h k)

    pub bumps_below : lt a.ceiling x ≡ false → Bumped n a v s a (set s v x)
    unfolding scores_of Sat.bump_activity Sat.rescale_if
    bumps_below t =
        record {
          is = rw (ceiling-test n s v a.increment x h k e, ← f.ceiling, t, after.is);
          fixed = f;
          others = after.others;
        }

    pub bumps_above : (s' : List Float) (factor : Float) → lt a.ceiling x ≡ true → Rescaled n (set s v x) s' → factor ≡ Sat.rescale_factor
        → Bumped n a v s (record { increment = Ieee.mul binary64 a.increment factor; decay = a.decay; ceiling = a.ceiling }) s'
    unfolding scores_of Sat.bump_activity Sat.rescale_if
    bumps_above s' factor t r g =
        record {
          is = rw (ceiling-test n s v a.increment x h k e, ← f.ceiling, t, r.is, after.is, g);
          fixed = record { decay = f.decay; ceiling = f.ceiling };
          others = others-both n after.others r.others;
        }
