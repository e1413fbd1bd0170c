-- The scores keep their number. Assumes nothing.
use Rattle.std.specs.Prelude.{ℕ, ◌≡◌, refl, Bool, true, false, List, [], ◌∷◌, length, Float}
use Rattle.std.proofs.Common.{◌∙◌, length-set}
use Rattle.std.proofs.lemmas.List.{length-map}
use Rattle.model.specs.Literal.{Literal, node}
use Rattle.model.specs.Sat.{Scores, score_one, add_score, rescale_if, bump_activity, add_ones}

rescale_size : (b : Bool) (xs : List Float) (x : Float) → length (rescale_if b xs x).activity ≡ length xs
unfolding rescale_if
rescale_size true xs x = length-map xs _
rescale_size false xs x = refl

add-size : (xs : List Float) (v : ℕ) (x : Float) → length (add_score xs v x) ≡ length xs
unfolding add_score
add-size xs v x = length-set xs v _

-- a bump keeps the number of scores
pub bump_size : (c : Scores) (v : ℕ) → length (bump_activity c v).activity ≡ length c.activity
unfolding bump_activity
bump_size c v = rescale_size _ (add_score c.activity v c.activity_increment) c.activity_increment ∙ add-size c.activity v c.activity_increment

-- and so does a new clause
pub ones_size : (ls : List Literal) (xs : List Float) → length (add_ones xs ls) ≡ length xs
unfolding add_ones
ones_size [] xs = refl
ones_size (l ∷ ls) xs = ones_size ls (add_score xs (node l) score_one) ∙ add-size xs (node l) score_one
