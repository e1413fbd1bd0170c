-- Laws of the check of a claimed trace. Assumes nothing.
use Rattle.std.specs.Prelude.{ℕ, ◌+◌, ◌*◌, ◌<◌, ◌≤◌, ◌≡◌, true, false, not, ◌||◌, List, eqb, length, drop, get_or}
use Rattle.std.proofs.Common.{add-one, lt-ltb, le-ltb, drop_of_length-le, drop-cons}
use Rattle.model.specs.Pair.{all_bits}
use Rattle.replay.specs.ClaimChecks.{claim_bad}

-- a byte above 1
pub bits_bad : (l : List ℕ) (k : ℕ) → k < length l → 2 ≤ get_or l k 0 → all_bits (drop k l) ≡ false
unfolding all_bits
bits_bad l k h e = rw (drop-cons l k 0, le-ltb (get_or l k 0) 2 e)

-- a byte 0 or 1
pub bits-more : (l : List ℕ) (k : ℕ) → k < length l → get_or l k 0 < 2 → all_bits (drop k l) ≡ all_bits (drop (k + 1) l)
unfolding all_bits
bits-more l k h e = rw (add-one, drop-cons l k 0, lt-ltb (get_or l k 0) 2 e)

-- no byte is left
pub bits-done : (l : List ℕ) (k : ℕ) → length l ≤ k → all_bits (drop k l) ≡ true
unfolding all_bits
bits-done l k h = rw drop_of_length-le

-- the claim within 64 cycles
pub claim-within : (inputs outputs cycle : ℕ) (claim : List ℕ) → cycle ≤ 64 → claim_bad inputs outputs cycle claim ≡ (not (eqb (length claim) ((cycle + 1) * inputs + outputs)) || not (all_bits claim))
unfolding claim_bad
claim-within inputs outputs cycle claim h = rw (le-ltb 64 cycle h, add-one)
