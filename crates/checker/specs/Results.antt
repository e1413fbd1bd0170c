-- Cleared memory, and what a verdict has proved. Definitions only.
use Rattle.std.specs.Prelude.{ℕ, ◌≡◌, Bool, List, length, replicate}
use Rattle.std.proofs.Math.Option.{Option, none}
use Rattle.laws.specs.Terms.{proved_by_place}
use Rattle.queries.specs.declared.problem.Verdict.{Verdict}
use Rattle.queries.specs.declared.problem.Verdict.TheVariants.{Equivalent, NotEquivalent, Inconclusive, GaveUp}

-- ys is as long as xs, and all of it is z
pub record Cleared {A : Type 0} (z : A) (xs ys : List A) : Type 0 where
  pub is : ys ≡ replicate (length xs) z

-- through which cycle outputs are proved equal, by the mode and the verdict alone
unfoldable pub proved_by : Bool → Verdict → Option ℕ
proved_by earliest (Equivalent d) = none
proved_by earliest (NotEquivalent d m) = none
proved_by earliest (Inconclusive d) = none
proved_by earliest (GaveUp d q) = proved_by_place earliest d q
