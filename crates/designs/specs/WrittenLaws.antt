-- Parts that are put one after the other are one part.
use Rattle.std.specs.Prelude.{◌≡◌, refl, ℕ, zero, suc, ◌+◌, ◌<◌, ◌≤◌, List, [], ◌∷◌, ◌++◌, length, take, set}
use Rattle.std.proofs.Common.{ap, sym, arith, append_assoc, append-nil, take_all, length-append, length-take, get_or}
use Rattle.std.proofs.lemmas.List.{take-append-le, take_more_set, take_more}
use Rattle.designs.specs.declared.record.Record.{Record}
use Rattle.designs.specs.Written.{Gains, written}

kept-first : (n : ℕ) (xs ys : List ℕ) → take n (take n xs ++ ys) ≡ take n (xs ++ ys)
kept-first zero xs ys = refl
kept-first (suc n) [] ys = refl
kept-first (suc n) (x ∷ xs) ys = ap (λ zs. x ∷ zs) (kept-first n xs ys)

-- one part, and a further one
pub kept_then : (us vs ws xs ys : List ℕ) → vs ≡ take 2048 (us ++ xs) → ws ≡ take 2048 (vs ++ ys) → ws ≡ take 2048 (us ++ (xs ++ ys))
kept_then us vs ws xs ys first second = rw second (rw first (rw (kept-first 2048 (us ++ xs) ys) (rw (append_assoc us xs ys) refl)))

-- the first n of a list are at most m
short : (n m : ℕ) (xs : List ℕ) → length xs ≤ m → length (take n xs) ≤ m
short n m xs h = rw length-take (omega (arith, h))

-- a byte where there is room for it
pub byte_kept : (xs : List ℕ) (n b : ℕ) → length xs ≡ 2048 → n < length xs → take (n + 1) (set xs n b) ≡ take 2048 (take n xs ++ b ∷ [])
byte_kept xs n b full room =
    let fits : length (take n xs) ≤ n = rw length-take (omega arith) in
    rw take_more_set
    (sym (take_all 2048 (take n xs ++ b ∷ []) (rw length-append (omega (arith, fits)))))

-- a byte where there is none
pub byte_lost : (xs : List ℕ) (n b : ℕ) → length xs ≡ 2048 → length xs ≤ n → take n xs ≡ take 2048 (take n xs ++ b ∷ [])
byte_lost xs n b full past =
    rw take_all
    (sym (rw (take-append-le 2048 xs (b ∷ []) (omega arith)) (take_all 2048 xs (omega arith))))

-- no byte
pub none_kept : (xs : List ℕ) (n : ℕ) → length xs ≡ 2048 → take n xs ≡ take 2048 (take n xs ++ [])
none_kept xs n full = rw append-nil (sym (take_all 2048 (take n xs) (short n 2048 xs (omega arith))))

-- one byte more of a list
pub gains_more : (a b c : Record) (xs : List ℕ) (i : ℕ) → i < length xs → Gains a b (take i xs) → Gains b c (get_or xs i 0 ∷ []) → Gains a c (take (i + 1) xs)
gains_more a b c xs i inside first second = rw (take_more xs i 0 inside) (kept_then (written a) (written b) (written c) (take i xs) (get_or xs i 0 ∷ []) first second)
