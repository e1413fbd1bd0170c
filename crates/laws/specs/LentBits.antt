-- Laws of the lent bits: stored bits that are written are read again, other bytes stay, and what is written last counts. Assumes nothing.
use Rattle.std.specs.Prelude.{ℕ, zero, suc, ◌+◌, ◌-◌, ◌≤◌, ◌<◌, ◌≡◌, refl, Bool, true, ltb}
use Rattle.std.proofs.Common.{sym, ap₂, ◌∙◌, take-append-drop, length-take-le, take-add, take-take, ext_get_or, ltb-true}
use Rattle.std.proofs.Math.Path.{ap}
use Rattle.std.proofs.Math.Bool.{false}
use mathlib.Core.List.{List, [], ◌∷◌, ◌++◌, map, append_assoc}
use native.Mathlib.Omega.{arith}
use Rattle.std.proofs.Math.ListN.{length, take, drop, get_or, length-append, length-drop, get_or-map, get_or-append}
use Rattle.std.proofs.lemmas.List.{length-map}
use Rattle.std.proofs.Math.Seq.{take_at, drop_at, get_or-append-add, get_or-drop, get_or-take}
use Rattle.model.specs.Record.{bit}
use Rattle.model.specs.Pair.{all_bits}
use Rattle.model.specs.Encode.{bit_byte}
use Rattle.model.specs.Stepping.{stored_bits, with_stored}
use Rattle.facts.specs.Bools.{and_left}
use Rattle.facts.specs.Numbers.{by_lt}

-- a bit's byte is 1 exactly for true
byte-bit : (b : Bool) → bit (bit_byte b) ≡ b
unfolding bit bit_byte
byte-bit true = refl
byte-bit false = refl

-- bits written as bytes and read again
pub bytes_bits : (stored : List Bool) → map bit (map bit_byte stored) ≡ stored
bytes_bits [] = refl
bytes_bits (b ∷ stored) = ap₂ (λ (x : Bool) (xs : List Bool). x ∷ xs) (byte-bit b) (bytes_bits stored)

-- bytes of bits are 0 or 1
pub bytes_good : (stored : List Bool) → all_bits (map bit_byte stored) ≡ true
unfolding all_bits bit_byte
bytes_good [] = refl
bytes_good (true ∷ stored) = bytes_good stored
bytes_good (false ∷ stored) = bytes_good stored

-- what is read of bytes 0 and 1 has them as its bytes
pub bits-bytes : (bytes : List ℕ) → all_bits bytes ≡ true → map bit_byte (map bit bytes) ≡ bytes
unfolding all_bits bit bit_byte
bits-bytes [] h = refl
bits-bytes (zero ∷ bytes) h = ap (λ (l : List ℕ). 0 ∷ l) (bits-bytes bytes h)
bits-bytes (suc zero ∷ bytes) h = ap (λ (l : List ℕ). 1 ∷ l) (bits-bytes bytes h)
bits-bytes (suc (suc n) ∷ bytes) h = absurd (omega (arith, ltb-true (suc (suc n)) 2 (and_left (ltb (suc (suc n)) 2) _ h)))

module _ (at : ℕ) (stored : List Bool) (bits : List ℕ) (w : at + length stored ≤ length bits) where
  -- the front has the length it should
  front : length (take at bits) ≡ at
  front = length-take-le at bits (omega arith)

  -- the front and the bytes written
  head : length (take at bits ++ map bit_byte stored) ≡ at + length stored
  head = length-append (take at bits) (map bit_byte stored) ∙ ap₂ (λ (x y : ℕ). x + y) front (length-map stored bit_byte)

  -- as many bytes as before
  pub length-written : length (with_stored at stored bits) ≡ length bits
  unfolding with_stored
  length-written = length-append (take at bits ++ map bit_byte stored) _ ∙ simp length-drop (omega (arith, head))

  -- what is before them, and what is past them
  pub take-written : take at (with_stored at stored bits) ≡ take at bits
  unfolding with_stored
  take-written =
      ap (take at) (append_assoc (take at bits) (map bit_byte stored) (drop (at + length stored) bits))
      ∙ take_at (take at bits) (map bit_byte stored ++ drop (at + length stored) bits) at front

  pub drop-written : drop (at + length stored) (with_stored at stored bits) ≡ drop (at + length stored) bits
  unfolding with_stored
  drop-written = drop_at (take at bits ++ map bit_byte stored) (drop (at + length stored) bits) (at + length stored) head

  -- fewer than are before them
  pub take-before : (n : ℕ) → n ≤ at → take n (with_stored at stored bits) ≡ take n bits
  take-before n h = sym (take-take n at (with_stored at stored bits) h) ∙ ap (take n) take-written ∙ take-take n at bits h

  -- the bytes written
  pub written-bytes : take (length stored) (drop at (with_stored at stored bits)) ≡ map bit_byte stored
  unfolding with_stored
  written-bytes =
      ap (λ (l : List ℕ). take (length stored) (drop at l)) (append_assoc (take at bits) (map bit_byte stored) (drop (at + length stored) bits))
      ∙ ap (take (length stored)) (drop_at (take at bits) (map bit_byte stored ++ drop (at + length stored) bits) at front)
      ∙ take_at (map bit_byte stored) (drop (at + length stored) bits) (length stored) (length-map stored bit_byte)

  -- they are read again
  pub written_read : stored_bits at (length stored) (with_stored at stored bits) ≡ stored
  unfolding stored_bits
  written_read = ap (map bit) written-bytes ∙ bytes_bits stored

  -- a byte before them stays
  pub written-before : (k : ℕ) → k < at → get_or (with_stored at stored bits) k 0 ≡ get_or bits k 0
  unfolding with_stored
  written-before k h =
      get_or-append (take at bits ++ map bit_byte stored) (drop (at + length stored) bits) 0 k (omega (arith, head))
      ∙ get_or-append (take at bits) (map bit_byte stored) 0 k (omega (arith, front))
      ∙ get_or-take at bits k 0 h

  -- a byte past them stays
  pub written_after : (k : ℕ) → at + length stored ≤ k → get_or (with_stored at stored bits) k 0 ≡ get_or bits k 0
  unfolding with_stored
  written_after k h =
      let j = k - (at + length stored) in
      let e : k ≡ length (take at bits ++ map bit_byte stored) + j = omega (arith, head) in
      let f : at + length stored + j ≡ k = omega arith in
      ap (λ (i : ℕ). get_or (with_stored at stored bits) i 0) e
      ∙ get_or-append-add (take at bits ++ map bit_byte stored) (drop (at + length stored) bits) j 0
      ∙ get_or-drop (at + length stored) bits j 0
      ∙ ap (λ (i : ℕ). get_or bits i 0) f

  -- a byte of them is its bit's
  pub written_in : (k : ℕ) → k < length stored → get_or (with_stored at stored bits) (at + k) 0 ≡ bit_byte (get_or stored k false)
  unfolding with_stored bit_byte
  written_in k h =
      get_or-append (take at bits ++ map bit_byte stored) (drop (at + length stored) bits) 0 (at + k) (omega (arith, head))
      ∙ ap (λ (i : ℕ). get_or (take at bits ++ map bit_byte stored) (i + k) 0) (sym front)
      ∙ get_or-append-add (take at bits) (map bit_byte stored) k 0
      ∙ get_or-map bit_byte stored k false

-- what is written last counts
pub written_twice : (at : ℕ) (old stored : List Bool) (bits : List ℕ) → length old ≡ length stored → at + length stored ≤ length bits → with_stored at stored (with_stored at old bits) ≡ with_stored at stored bits
unfolding with_stored
written_twice at old stored bits e w =
    let v : at + length old ≤ length bits = omega arith in
    let d : drop (at + length stored) (with_stored at old bits) ≡ drop (at + length stored) bits = rw (← e) (drop-written at old bits v) in
    ap₂ (λ (x y : List ℕ). x ++ map bit_byte stored ++ y) (take-written at old bits v) d

-- bits in two places can be written in either order
module _ (at to : ℕ) (xs ys : List Bool) (bits : List ℕ) (w : at + length xs ≤ to) (v : to + length ys ≤ length bits) where
  -- the lengths
  long_to : length (with_stored to ys bits) ≡ length bits
  long_to = length-written to ys bits v

  long-at : length (with_stored at xs bits) ≡ length bits
  long-at = length-written at xs bits (omega arith)

  in_to : to + length ys ≤ length (with_stored at xs bits)
  in_to = omega (arith, long-at)

  in_at : at + length xs ≤ length (with_stored to ys bits)
  in_at = omega (arith, long_to)

  -- a byte of the first place
  same_first : (k : ℕ) → k < length xs → get_or (with_stored at xs (with_stored to ys bits)) (at + k) 0 ≡ get_or (with_stored to ys (with_stored at xs bits)) (at + k) 0
  same_first k h =
      written_in at xs (with_stored to ys bits) in_at k h
      ∙ sym (written-before to ys (with_stored at xs bits) in_to (at + k) (omega arith) ∙ written_in at xs bits (omega arith) k h)

  -- a byte of the second place
  same_second : (k : ℕ) → k < length ys → get_or (with_stored at xs (with_stored to ys bits)) (to + k) 0 ≡ get_or (with_stored to ys (with_stored at xs bits)) (to + k) 0
  same_second k h =
      written_after at xs (with_stored to ys bits) in_at (to + k) (omega arith) ∙ written_in to ys bits v k h
      ∙ sym (written_in to ys (with_stored at xs bits) in_to k h)

  -- a byte past the first place
  same-past : (k : ℕ) → at + length xs ≤ k → get_or (with_stored at xs (with_stored to ys bits)) k 0 ≡ get_or (with_stored to ys (with_stored at xs bits)) k 0
  same-past k i =
      by_lt k to
      (λ h.
      written_after at xs (with_stored to ys bits) in_at k i ∙ written-before to ys bits v k h
      ∙ sym (written-before to ys (with_stored at xs bits) in_to k h ∙ written_after at xs bits (omega arith) k i))
      (λ h. by_lt k (to + length ys)
      (λ j. let e : to + (k - to) ≡ k = omega arith in rw e at (same_second (k - to) (omega arith)))
      (λ j.
      written_after at xs (with_stored to ys bits) in_at k i ∙ written_after to ys bits v k j
      ∙ sym (written_after to ys (with_stored at xs bits) in_to k j ∙ written_after at xs bits (omega arith) k i)))

  same_byte : (k : ℕ) → get_or (with_stored at xs (with_stored to ys bits)) k 0 ≡ get_or (with_stored to ys (with_stored at xs bits)) k 0
  same_byte k =
      by_lt k at
      (λ h.
      written-before at xs (with_stored to ys bits) in_at k h ∙ written-before to ys bits v k (omega arith)
      ∙ sym (written-before to ys (with_stored at xs bits) in_to k (omega arith) ∙ written-before at xs bits (omega arith) k h))
      (λ h. by_lt k (at + length xs)
      (λ j. let e : at + (k - at) ≡ k = omega arith in rw e at (same_first (k - at) (omega arith)))
      (same-past k))

  pub written_apart : with_stored at xs (with_stored to ys bits) ≡ with_stored to ys (with_stored at xs bits)
  written_apart =
      ext_get_or 0 _ _ (length-written at xs (with_stored to ys bits) in_at ∙ long_to ∙ sym (length-written to ys (with_stored at xs bits) in_to ∙ long-at)) (λ k h. same_byte k)

-- stored bits that are written where they were read change nothing
pub written_same : (at n : ℕ) (bits : List ℕ) → at + n ≤ length bits → all_bits (take n (drop at bits)) ≡ true → with_stored at (stored_bits at n bits) bits ≡ bits
unfolding with_stored stored_bits
written_same at n bits w g =
    let l : length (take n (drop at bits)) ≡ n = length-take-le n (drop at bits) (simp length-drop (omega arith)) in
    let m : length (map bit (take n (drop at bits))) ≡ n = length-map (take n (drop at bits)) bit ∙ l in
    ap₂ (λ (x : List ℕ) (k : ℕ). take at bits ++ x ++ drop (at + k) bits) (bits-bytes (take n (drop at bits)) g) m
    ∙ ap (λ (x : List ℕ). x ++ drop (at + n) bits) (sym (take-add at n bits)) ∙ take-append-drop (at + n) bits
