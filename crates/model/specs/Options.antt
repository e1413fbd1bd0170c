-- What a caller asks of a check beyond the two records. Definitions only.
use Rattle.std.specs.Prelude.{ℕ, Bool, true, false}

-- the maximum depth D, the limit of learned literals in one query, and whether cycle 0 alone is put first, so that a mismatch is the earliest
pub record Options : Type 0 where
  pub depth : ℕ
  pub limit : ℕ
  pub earliest : Bool

-- the largest limit
unfoldable pub learned_limit : ℕ
learned_limit = 262144

-- a maximum depth, under the largest limit, without the mode of the earliest cycle
unfoldable pub to_depth : ℕ → Options
to_depth depth = record { depth = depth; limit = learned_limit; earliest = false }

-- the number of the first query of depth 1: query 0 in the mode of the earliest cycle, else query 1
unfoldable pub first_query : Bool → ℕ
first_query true = 0
first_query false = 1

-- naming this opens them all
unfoldable pub all : Unit {0}
unfolding learned_limit to_depth first_query
all = tt
