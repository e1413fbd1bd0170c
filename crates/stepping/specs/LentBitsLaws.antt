-- Laws of the lent bits: read and written byte by byte, and checked. Assumes nothing.
use Rattle.std.specs.Prelude.{ℕ, suc, zero, ◌+◌, ◌<◌, ◌≤◌, ◌≡◌, refl, Bool, true, false, List, [], ◌∷◌, map, length, take, drop, get_or, set}
use Rattle.std.proofs.Common.{sym, ap, ap₂, ◌∙◌, arith, add-one, length-drop, length-take-le, take-suc, take-suc-set, get_or-drop}
use Rattle.std.proofs.lemmas.List.{map-append, length-map}
use Rattle.std.proofs.Math.Option.{none}
use Rattle.std.proofs.Math.ListN.{get_or-map}
use Rattle.std.proofs.Math.Seq.{paste, paste-zero, paste-suc}
use borrow.Author.Tests.{lt-ltb, le-ltb, ltb-false}
use Rattle.model.specs.Netlist.{Design, register_count}
use Rattle.model.specs.Validate.{refuse_if}
use Rattle.model.specs.Pair.{interface_fault, initial_fault, replay_fault}
use Rattle.model.specs.Encode.{bit_byte}
use Rattle.model.specs.Replay.{claim_bit}
use Rattle.model.specs.Stepping.{stored_bits, with_stored, too_few_bits, bad_stored, bits_fault, begin_fault, step_fault}
use Rattle.laws.specs.Record.Accepted.{otherwise_none, refuse_if-none}
use Rattle.stepping.specs.LentBits.{stored_bad, short_fault, counted_fault}

-- ---- read

-- one more bit is read
pub stored_more : (bits : List ℕ) (at k : ℕ) (row : List Bool) (x : Bool) → k < length row → at + k < length bits → x ≡ claim_bit bits (at + k)
    → take k row ≡ stored_bits at k bits → take (k + 1) (set row k x) ≡ stored_bits at (k + 1) bits
unfolding stored_bits claim_bit
stored_more bits at k row x l h e i =
    let w : k < length (drop at bits) = simp length-drop (omega arith) in
    rw (add-one, take-suc-set row k x l, i, take-suc (drop at bits) k 0 w, map-append, get_or-drop at bits k 0, e)

-- ---- written

-- the bytes of the first bits of a row are the first bytes of the row's
bytes-taken : (k : ℕ) (row : List Bool) → map bit_byte (take k row) ≡ take k (map bit_byte row)
bytes-taken zero row = refl
bytes-taken (suc k) [] = refl
bytes-taken (suc k) (b ∷ row) = ap (λ (l : List ℕ). bit_byte b ∷ l) (bytes-taken k row)

-- the first bits of a row written are the first bytes of the row's pasted
pasted : (row : List Bool) (at : ℕ) (bits : List ℕ) (k : ℕ) → k ≤ length row → with_stored at (take k row) bits ≡ paste bits at (map bit_byte row) k
unfolding with_stored
pasted row at bits k h = rw (length-take-le k row h, bytes-taken k row)

-- no bit is written
pub written_none : (row : List Bool) (at : ℕ) (bits : List ℕ) → bits ≡ with_stored at (take 0 row) bits
written_none row at bits = paste-zero bits at (map bit_byte row) ∙ sym (pasted row at bits 0 (omega arith))

-- one more bit is written
pub written-more : (row : List Bool) (at : ℕ) (bits after : List ℕ) (k x : ℕ) → k < length row → at + k < length bits → x ≡ bit_byte (get_or row k false) → after ≡ with_stored at (take k row) bits
    → set after (at + k) x ≡ with_stored at (take (k + 1) row) bits
written-more row at bits after k x l h e i =
    let w : k < length (map bit_byte row) = simp length-map l in
    ap₂ (λ (xs : List ℕ) (y : ℕ). set xs (at + k) y) (i ∙ pasted row at bits k (omega arith)) (e ∙ sym (get_or-map bit_byte row k false))
    ∙ paste-suc bits at (map bit_byte row) k (bit_byte false) h w ∙ rw add-one (sym (pasted row at bits (suc k) l))

-- ---- checked

-- there are 256 bytes where 24 does not apply
pub long_enough : (bits : List ℕ) → too_few_bits bits ≡ false → 256 ≤ length bits
unfolding too_few_bits
long_enough bits e = ltb-false (length bits) 256 e

module _ (bits : List ℕ) where
  -- 24
  pub too_short : length bits < 256 → too_few_bits bits ≡ true
  unfolding too_few_bits
  too_short h = lt-ltb (length bits) 256 h

  pub not_short : 256 ≤ length bits → too_few_bits bits ≡ false
  unfolding too_few_bits
  not_short h = le-ltb (length bits) 256 h

-- 24 does not apply
pub not_refused : (bits : List ℕ) → none ≡ short_fault bits → too_few_bits bits ≡ false
unfolding short_fault
not_refused bits e = refuse_if-none 24 0 0 _ (sym e)

-- the counts of the netlists are those of the designs
pub bits-counted : (gold gate : Design) (n m : ℕ) (bits : List ℕ) → register_count gold ≡ n → register_count gate ≡ m → counted_fault n m bits ≡ bits_fault gold gate bits
unfolding counted_fault stored_bad bits_fault bad_stored
bits-counted gold gate n m bits e f = rw (e, f)

-- an accepted begin has 256 bytes
pub begin-long : (gold gate : Design) (bits : List ℕ) → begin_fault gold gate bits ≡ none → 256 ≤ length bits
unfolding begin_fault
begin-long gold gate bits e =
    let a = otherwise_none (interface_fault gold gate) _ e in
    let b = otherwise_none (initial_fault gold gate) _ a.1 in
    long_enough bits (refuse_if-none 24 0 0 _ b.1)

-- an accepted step has 256 bytes, and its claim is accepted
pub step-long : (gold gate : Design) (cycle : ℕ) (claim bits : List ℕ) → step_fault gold gate cycle claim bits ≡ none → 256 ≤ length bits
unfolding step_fault bits_fault
step-long gold gate cycle claim bits e =
    let a = otherwise_none (replay_fault gold gate cycle claim) _ e in
    let b = otherwise_none (refuse_if 24 0 0 (too_few_bits bits)) _ a.1 in
    long_enough bits (refuse_if-none 24 0 0 _ b.0)

pub step-claim : (gold gate : Design) (cycle : ℕ) (claim bits : List ℕ) → step_fault gold gate cycle claim bits ≡ none → replay_fault gold gate cycle claim ≡ none
unfolding step_fault
step-claim gold gate cycle claim bits e = (otherwise_none (replay_fault gold gate cycle claim) _ e).0
