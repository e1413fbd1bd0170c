-- `trace::write_bits` meets its contract. Assumes nothing.
use Rattle.std.proofs.Common.{◌≡◌, ◌<◌, ℕ, Bool, length}
use Rattle.trace.specs.Writing.{Wrote, bytes}
use Rattle.trace.proofs.write_bits.Given as goal

abbrev pub invariant-loop-i : goal.invariant-loop-i
invariant-loop-i g l =
    (length l.trace ≡ length l.initial.trace)
    × ((f : ℕ → Bool) → ((i : ℕ) (b : Bool) → i < l.n → goal.F-post g l.bit i b → b ≡ f i) → Wrote l.place (bytes f l.i) l.initial.trace l.trace)
