-- What lent scores stand for: the definition's scores; and what the functions over them promise. Definitions only.
use Rattle.std.specs.Prelude.{◌≡◌, List, map, ℕ, zero, suc, ◌<◌, length, take, drop, get_or, replicate, Float, Option, Some, None}
use Rattle.std.specs.Float.{binary64}
use Rattle.std.specs.Float.Ieee as Ieee
use Rattle.model.specs.Sat as Sat
use Rattle.assignment.specs.declared.state.Activity.{Activity}

-- THE ABSTRACTION: the scores of n variables
unfoldable pub scores_of : ℕ → Activity → List Float → Sat.Scores
scores_of n a s = record { activity = take n s; activity_increment = a.increment }

-- decay and ceiling are the definition's
pub record Fixed (a : Activity) : Type 0 where
  pub decay : a.decay ≡ Sat.decay
  pub ceiling : a.ceiling ≡ Sat.ceiling

-- of `start`
pub record Starts (r : Activity) : Type 0 where
  pub increment : r.increment ≡ Sat.score_one
  pub fixed : Fixed r

-- of `decay_activity`
pub record Decays (a r : Activity) : Type 0 where
  pub is : (n : ℕ) (s : List Float) → scores_of n r s ≡ Sat.decay_activity (scores_of n a s)
  pub fixed : Fixed r

-- only the first n scores may have changed, and there are as many
pub record Others (n : ℕ) (s s' : List Float) : Type 0 where
  pub long : length s' ≡ length s
  pub same : drop n s' ≡ drop n s

-- of `rescale`
pub record Rescaled (n : ℕ) (s s' : List Float) : Type 0 where
  pub is : take n s' ≡ map (λ (x : Float). Ieee.mul binary64 x Sat.rescale_factor) (take n s)
  pub others : Others n s s'

-- of `add_score`
pub record Raised (n v : ℕ) (x : Float) (s s' : List Float) : Type 0 where
  pub is : take n s' ≡ Sat.add_score (take n s) v x
  pub others : Others n s s'

-- the scores of n variables after a bump
pub record Bumped (n : ℕ) (a : Activity) (v : ℕ) (s : List Float) (r : Activity) (s' : List Float) : Type 0 where
  pub is : scores_of n r s' ≡ Sat.bump_activity (scores_of n a s) v
  pub fixed : Fixed r
  pub others : Others n s s'

-- of `clear_scores`
pub record ZeroScores (n : ℕ) (s s' : List Float) : Type 0 where
  pub is : take n s' ≡ replicate n Sat.score_zero
  pub others : Others n s s'

-- the scores of n variables with the ones of a clause
pub record Added (n : ℕ) (ls : List ℕ) (s s' : List Float) : Type 0 where
  pub is : take n s' ≡ Sat.add_ones (take n s) ls
  pub others : Others n s s'

-- ---- the choice

-- the best variable so far with its score; 0 is none
unfoldable pub best_of : List Float → ℕ → Sat.Choice
best_of s zero = Sat.no_choice
best_of s (suc v) = Sat.chosen (suc v) (get_or s (suc v) Sat.score_zero)

-- an answer of `choose_variable` as the definition has it
unfoldable pub choice_of : List Float → Option ℕ → Sat.Choice
choice_of s None = Sat.no_choice
choice_of s (Some v) = Sat.chosen v (get_or s v Sat.score_zero)

-- the chosen variable is one of n
abbrev pub one_of : ℕ → Option ℕ → Type 0
one_of n None = Unit
one_of n (Some v) = v < n
