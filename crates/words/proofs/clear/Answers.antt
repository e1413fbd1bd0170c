-- `words::clear` fills the part of the region below the lower of `n` and `size` with 0. Assumes nothing.
use Rattle.std.proofs.Common.{◌≡◌, refl, sym, ◌∙◌, ap, List, ◌∷◌, ◌++◌, ℕ, zero, suc, ◌+◌, ◌<◌, ◌≤◌, min, arith, length, set, get_or, take, drop, replicate, length-take, length-append, append_assoc, lt-ltb}
use Rattle.std.proofs.lemmas.List.{length-replicate}
use Rattle.std.proofs.lemmas.Grind.{common_steps}
use Rattle.std.proofs.Math.Seq.{drop-cons, set-append_seam}
use Rattle.words.specs.Region.{size_of, stored, cleared, cleared-least}
use Rattle.words.proofs.clear.Goals as goal

zero-after : (n : ℕ) (xs : List ℕ) → replicate n 0 ++ 0 ∷ xs ≡ replicate (suc n) 0 ++ xs
zero-after zero xs = refl
zero-after (suc n) xs = ap (λ (ys : List ℕ). 0 ∷ ys) (zero-after n xs)

-- one more zero after n of them
zeros-more : (b n : ℕ) (w : List ℕ) → b + n < length w → set (take b w ++ (replicate n 0 ++ drop (b + n) w)) (b + n) 0 ≡ take b w ++ (replicate (suc n) 0 ++ drop (suc (b + n)) w)
zeros-more b n w h =
    let xs : List ℕ = take b w ++ replicate n 0 in
    let ys : List ℕ = drop (suc (b + n)) w in
    let p : length xs ≡ b + n = simp (length-append, length-take, length-replicate) (omega arith) in
    let q : drop (b + n) w ≡ get_or w (b + n) 0 ∷ ys = drop-cons w (b + n) 0 h in
    rw (q, ← (append_assoc (take b w) (replicate n 0) (get_or w (b + n) 0 ∷ ys)))
    (ap (λ (i : ℕ). set (xs ++ get_or w (b + n) 0 ∷ ys) i 0) (sym p) ∙ set-append_seam xs _ ys 0 ∙ append_assoc (take b w) (replicate n 0) (0 ∷ ys) ∙ ap (λ (zs : List ℕ). take b w ++ zs) (zero-after n ys))

-- the words with the first n of a region 0, as a part written over
cleared-part : (b : ℕ) (w : List ℕ) (n : ℕ) → n ≤ size_of b → b + n ≤ length w → cleared b w n ≡ take b w ++ (replicate n 0 ++ drop (b + n) w)
unfolding cleared stored
cleared-part b w zero h k = grind (arith, common_steps)
cleared-part b w (suc n) h k =
    let e : b + suc n ≡ suc (b + n) = omega arith in
    rw (e, lt-ltb n (size_of b) (omega arith), cleared-part b w n (omega arith) (omega arith)) (zeros-more b n w (omega arith))

pub returns : goal.returns
returns c =
    let a = c.args in
    let m : c.min.result ≡ min a.n (size_of a.base) = cc in
    let h = c.fill.ensures.after (λ y e. e) in
    let e = cleared-part a.base a.words.now c.min.result (omega arith) (omega arith) in
    let f = ap (cleared a.base a.words.now) m ∙ cleared-least a.base a.words.now a.n in
    (grind (arith, common_steps, e, f), grind (arith, common_steps, h))
