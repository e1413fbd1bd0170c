-- A region of the lent words: the `size` words from `base` on. Laws of a store inside it and of one outside it. Assumes nothing.
use Rattle.std.specs.Prelude.{◌≡◌, refl, Bool, true, false, ◌||◌, cond, List, [], ◌∷◌, ◌++◌, ℕ, zero, suc, ◌+◌, ◌-◌, ◌≤◌, ◌<◌, min, leb, ltb, length, take, drop, set, get_or}
use Rattle.std.proofs.Common.{ap, sym, ◌∙◌, ⊎_elim, arith, add-one, leb-true, lt-ltb, ltb-true, ltb-false, length-take, length-drop, length-set, take-suc-set, drop-set-lt, get_or-take, get_or-drop}
use Rattle.std.proofs.Math.ListN.{get_or-eq_default}
use Rattle.facts.specs.Bools.{or_cases}
use Rattle.words.specs.Layout.{SMALL, DOUBLE, STARTS, CELLS, POOL, TABLE, AND-HEADS, CLAUSE-STARTS, WATCHED, LITERALS, NETS}
use Rattle.words.specs.Fill.{filled, filled-suc, filled_none}
use Rattle.std.proofs.lemmas.List.{take-set-le, drop-set-add}
use Rattle.std.proofs.Math.Seq.{take-set-lt, set_out}

-- how many words the region that starts at `base` has: the one table of sizes
abbrev pub size_of : ℕ → ℕ
size_of base =
    cond (ltb base AND-HEADS) SMALL (cond (ltb base CLAUSE-STARTS) DOUBLE (cond (ltb base WATCHED) STARTS (cond (ltb base LITERALS) CELLS (cond (ltb base NETS) POOL TABLE))))

unfoldable pub region : ℕ → List ℕ → List ℕ
region base words = take (size_of base) (drop base words)

-- the regions at `b` and `b'` share no word
abbrev pub apart : ℕ → ℕ → Bool
apart b b' = leb (b + size_of b) b' || leb (b' + size_of b') b

-- a store inside
pub inside : (b : ℕ) (w : List ℕ) (i v : ℕ) → i < size_of b → region b (set w (b + i) v) ≡ set (region b w) i v
unfolding region
inside b w i v h = rw (drop-set-add, take-set-lt)

-- THE FRAME: a store into another region
pub frame : (b : ℕ) (w : List ℕ) (b' i v : ℕ) → apart b b' ≡ true → i < size_of b' → region b (set w (b' + i) v) ≡ region b w
unfolding region
frame b w b' i v e h =
    ⊎_elim (λ k. let k' : size_of b ≤ b' + i - b = omega (arith, leb-true (b + size_of b) b' k) in
    let s : b + (b' + i - b) ≡ b' + i = omega (arith, leb-true (b + size_of b) b' k) in
    rw (← s, drop-set-add, take-set-le))
    (λ k. let k' : b' + i < b = omega (arith, leb-true (b' + size_of b') b k) in rw drop-set-lt)
    (or_cases _ _ e)

pub read : (b : ℕ) (w : List ℕ) (i : ℕ) → i < size_of b → get_or w (b + i) 0 ≡ get_or (region b w) i 0
unfolding region
read b w i h = rw (get_or-take, get_or-drop)

pub length-region : (b : ℕ) (w : List ℕ) → b + size_of b ≤ length w → length (region b w) ≡ size_of b
unfolding region
length-region b w h = simp (length-take, length-drop) (omega arith)

-- one more word after the first n of a region
pub push : (b : ℕ) (w : List ℕ) (n v : ℕ) → n < size_of b → b + size_of b ≤ length w → take (n + 1) (set (region b w) n v) ≡ take n (region b w) ++ (v ∷ [])
push b w n v h k =
    let l : n < length (region b w) = omega (arith, length-region b w k) in
    rw (add-one, take-suc-set)

-- ---- total accessors: a store out of the region does nothing, as `set` does

unfoldable pub stored : ℕ → List ℕ → ℕ → ℕ → List ℕ
stored b w i v = cond (ltb i (size_of b)) (set w (b + i) v) w

by_test : (i n : ℕ) (P : Bool → Type 0) → (i < n → P true) → (n ≤ i → P false) → P (ltb i n)
by_test i n P p q = go (ltb i n) refl
  where
    go : (t : Bool) → ltb i n ≡ t → P t
    go true e = p (ltb-true i n e)
    go false e = q (ltb-false i n e)

pub stored_in : (b : ℕ) (w : List ℕ) (i v : ℕ) → region b (stored b w i v) ≡ set (region b w) i v
unfolding stored region
stored_in b w i v = by_test i (size_of b) (λ (t : Bool). region b (cond t (set w (b + i) v) w) ≡ set (region b w) i v)
    (λ h. inside b w i v h)
    (λ h. let k : length (region b w) ≤ i = simp length-take (omega arith) in rw set_out)

pub stored_out : (b : ℕ) (w : List ℕ) (b' i v : ℕ) → apart b b' ≡ true → region b (stored b' w i v) ≡ region b w
unfolding stored
stored_out b w b' i v e = by_test i (size_of b') (λ (t : Bool). region b (cond t (set w (b' + i) v) w) ≡ region b w)
    (λ h. frame b w b' i v e h) (λ h. refl)

pub length-stored : (b : ℕ) (w : List ℕ) (i v : ℕ) → length (stored b w i v) ≡ length w
unfolding stored
length-stored b w i v = by_test i (size_of b) (λ (t : Bool). length (cond t (set w (b + i) v) w) ≡ length w) (λ h. length-set w (b + i) v) (λ h. refl)

pub read_out : (b : ℕ) (w : List ℕ) (i : ℕ) → size_of b ≤ i → 0 ≡ get_or (region b w) i 0
unfolding region
read_out b w i h = let k : length (region b w) ≤ i = simp length-take (omega arith) in rw get_or-eq_default

-- ---- clearing

-- the words with the first n of a region 0; as a store, nothing past the region's end
unfoldable pub cleared : ℕ → List ℕ → ℕ → List ℕ
cleared b w zero = w
cleared b w (suc n) = stored b (cleared b w n) n 0

pub cleared-none : (b : ℕ) (w : List ℕ) → cleared b w 0 ≡ w
unfolding cleared
cleared-none b w = refl

-- one word more
cleared_more : (b : ℕ) (w : List ℕ) (n : ℕ) → stored b (cleared b w n) n 0 ≡ cleared b w (n + 1)
unfolding cleared
cleared_more b w n = rw add-one

-- one word more, in the region
pub cleared-next : (b : ℕ) (w : List ℕ) (n : ℕ) → n < size_of b → set (cleared b w n) (b + n) 0 ≡ cleared b w (n + 1)
unfolding stored
cleared-next b w n h = rw (lt-ltb n (size_of b) h) at (cleared_more b w n)

-- nothing past its end: the lower of the number and the region's size says which
pub cleared-least : (b : ℕ) (w : List ℕ) (n : ℕ) → cleared b w (min n (size_of b)) ≡ cleared b w n
unfolding cleared stored
cleared-least b w zero = let e : min 0 (size_of b) ≡ 0 = omega arith in ap (cleared b w) e
cleared-least b w (suc n) = by_test n (size_of b) (λ (t : Bool). cleared b w (min (suc n) (size_of b)) ≡ cond t (set (cleared b w n) (b + n) 0) (cleared b w n))
    (λ h. let e : min (suc n) (size_of b) ≡ n + 1 = omega arith in ap (cleared b w) e ∙ sym (cleared-next b w n h))
    (λ h. let e : min (suc n) (size_of b) ≡ min n (size_of b) = omega arith in ap (cleared b w) e ∙ cleared-least b w n)

-- inside
pub cleared_in : (b : ℕ) (w : List ℕ) (n : ℕ) → region b (cleared b w n) ≡ filled 0 n (region b w)
unfolding cleared
cleared_in b w zero = sym (filled_none 0 (region b w))
cleared_in b w (suc n) = stored_in b (cleared b w n) n 0 ∙ ap (λ (xs : List ℕ). set xs n 0) (cleared_in b w n) ∙ filled-suc 0 n (region b w)

-- the frame
pub cleared_out : (b : ℕ) (w : List ℕ) (b' n : ℕ) → apart b b' ≡ true → region b (cleared b' w n) ≡ region b w
unfolding cleared
cleared_out b w b' zero e = refl
cleared_out b w b' (suc n) e = stored_out b (cleared b' w n) b' n 0 e ∙ cleared_out b w b' n e

pub length-cleared : (b : ℕ) (w : List ℕ) (n : ℕ) → length (cleared b w n) ≡ length w
unfolding cleared
length-cleared b w zero = refl
length-cleared b w (suc n) = length-stored b (cleared b w n) n 0 ∙ length-cleared b w n

pub ruleset stores = (stored_in, stored_out, cleared_in, cleared_out)
