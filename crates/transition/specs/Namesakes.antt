-- The states of one side named as those of the other: a match is one more than the place of the other side's state, 0 for none. Definitions only.
use Rattle.std.specs.Prelude.{List, map, ℕ, suc}
use Rattle.std.proofs.Math.Option.{Option, none, some}
use Rattle.model.specs.Names.{same_name}
use Rattle.model.specs.Lists.{position}
use Rattle.model.specs.Transition.{StateBit}

-- a place as a match
unfoldable pub match_of : Option ℕ → ℕ
match_of none = 0
match_of (some i) = suc i

-- the match of a name among states
unfoldable pub match_in : List StateBit → StateBit → ℕ
match_in ts s = match_of (position (λ (t : StateBit). same_name s.name t.name) ts)

-- the match of each state among the states of the other side
unfoldable pub namesakes : List StateBit → List StateBit → List ℕ
namesakes ss ts = map (match_in ts) ss
