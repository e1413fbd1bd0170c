-- `match_of` meets its contract. Assumes nothing.
use Rattle.std.proofs.Common.{◌≡◌, drop}
use Rattle.struo_ir.specs.Decoded.{name_at}
use Rattle.struo_ir.specs.Orders.{held}
use Rattle.transition.specs.Match.{first_from, named, match_at}
use Rattle.transition.proofs.matches.match_of.Given as goal

-- what is left to search finds what the whole search does
abbrev pub invariant-loop-k : goal.invariant-loop-k
invariant-loop-k l =
    first_from (named (name_at l.gold l.place) l.gate) l.k (drop l.k (held l.order)) ≡ match_at l.gold l.place l.gate l.order
