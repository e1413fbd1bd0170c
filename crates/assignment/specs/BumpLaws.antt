-- Laws of a bump in lent words: the scores stay ordered, and the words of the blocks true. Assumes nothing.
use Rattle.std.specs.Prelude.{◌≡◌, true, List, [], ◌∷◌, ℕ, take, set, Float}
use Rattle.std.proofs.Common.{ap, ◌∙◌, get_or-set_other}
use Rattle.facts.specs.Floats.{unsigned}
use Rattle.words.specs.Layout.{BLOCKS}
use Rattle.model.specs.Sat as Sat
use Rattle.assignment.specs.State.{TrailReady}
use Rattle.assignment.specs.StateLaws.{take-set, unchanged_none}
use Rattle.assignment.specs.Scores.{scores_of, Bumped}
use Rattle.assignment.specs.Blocks.{score, Unsigned, Forgets, ForgetsAll, Bumps}
use Rattle.assignment.specs.OrderLaws.{bump_unsigned}
use Rattle.assignment.specs.declared.state.Activity.{Activity}
use Rattle.assignment.specs.declared.state.Trail.{Trail}

-- the scores and the increment after a bump
bumped_ordered : (n : ℕ) (a : Activity) (v : ℕ) (s : List Float) (r : Activity) (s' : List Float) → Bumped n a v s r s' → Unsigned (take n s) → unsigned a.increment ≡ true
    → Unsigned (take n s') × (unsigned r.increment ≡ true)
unfolding scores_of
bumped_ordered n a v s r s' b u p =
    let q = bump_unsigned (scores_of n a s) v u p in
    (rw (ap (λ (c : Sat.Scores). c.activity) b.is) q.0, rw (ap (λ (c : Sat.Scores). c.activity_increment) b.is) q.1)

module _ (t : Trail) (a : Activity) (v : ℕ) (w : List ℕ) (s : List Float) (r : Activity) where
  -- no variable, and nothing is changed
  pub bumps_nothing : TrailReady t w → Bumped t.variables a v s r s → Bumps t a v w s r w s
  bumps_nothing y b =
      record {
        scores = b;
        frame = unchanged_none (BLOCKS ∷ []) w;
        ready = y;
        cached = λ c. let q = bumped_ordered t.variables a v s r s b c.scores c.increment in record { known = c.known; scores = q.0; increment = q.1 };
      }

  -- one score is another
  pub bumps_one : (w' : List ℕ) (x : Float) → Bumped t.variables a v s r (set s v x) → Forgets t w v w' → Bumps t a v w s r w' (set s v x)
  bumps_one w' x b f =
      let n = t.variables in
      record {
        scores = b;
        frame = f.frame;
        ready = f.ready;
        cached = λ c.
            let q = bumped_ordered n a v s r (set s v x) b c.scores c.increment in
            record {
              known = f.known s (set s v x) (λ i d. ap (λ (l : List Float). score l i) (take-set n s v x) ∙ get_or-set_other (take n s) v i x Sat.score_zero d) c.known;
              scores = q.0;
              increment = q.1;
            };
      }

  -- all are
  pub bumps_all : (w' : List ℕ) (s' : List Float) → Bumped t.variables a v s r s' → ForgetsAll t w w' → Bumps t a v w s r w' s'
  bumps_all w' s' b f =
      record {
        scores = b;
        frame = f.frame;
        ready = f.ready;
        cached = λ c. let q = bumped_ordered t.variables a v s r s' b c.scores c.increment in record { known = f.known s'; scores = q.0; increment = q.1 };
      }
