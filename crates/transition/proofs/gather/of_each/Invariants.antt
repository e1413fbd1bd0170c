-- `of_each` meets its contract. Assumes nothing.
use Rattle.std.proofs.Common.{◌≡◌, ℕ, ◌<◌, length, get_or}
use Rattle.transition.proofs.gather.of_each.Given as goal

-- the items so far are read
abbrev pub invariant-loop-i : goal.invariant-loop-i
invariant-loop-i g l =
    (length l.values ≡ 128) × ((k : ℕ) (d : _) → k < l.i → goal.F-post g l.read (get_or l.items k d) (get_or l.values k 0))
