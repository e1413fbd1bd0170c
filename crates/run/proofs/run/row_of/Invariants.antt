-- `row_of` writes the bits in order: those of the elements so far, and false past them. Assumes nothing.
use Rattle.std.proofs.Common.{◌≡◌, Bool, false, map, ◌-◌, length, take, drop, replicate}
use Rattle.std.specs.Fn.{FnReturnsAt}
use Rattle.run.proofs.run.row_of.Given as goal

abbrev pub invariant-loop-k : goal.invariant-loop-k
invariant-loop-k g l =
    (length l.row ≡ 128) × (drop l.k l.row ≡ replicate (128 - l.k) false)
    × ((f : _ → Bool) → ((x : _) (r : Bool) → FnReturnsAt g.F.Fn l.bit x r → r ≡ f x) → take l.k l.row ≡ map f (take l.k l.items))
