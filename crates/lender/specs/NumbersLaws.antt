-- A number is read digit by digit: what has been read and what is left say together what the text says.
use Rattle.std.specs.Prelude.{◌≡◌, ◌≢◌, ◌++◌, refl, ℕ, ◌+◌, ◌-◌, ◌*◌, ◌^◌, ◌≤◌, ◌<◌, List, [], ◌∷◌, Bool, true, false, Option, Some, None, min, unwrap_or, if◌then◌else◌}
use Rattle.std.proofs.Common.{arith, ap, subst}
use Rattle.std.proofs.Math.Dec.{leb, ltb}
use Rattle.std.proofs.lemmas.Bool.{leb-true, ltb-true, le-leb, lt-ltb}
use Rattle.lender.specs.Numbers.{answer_word, is_digit, past_digits, said, begins, decimal}

-- the largest number of 64 bits
abbrev pub MAX : ℕ
MAX = 2 ^ 64 - 1

-- digits that say v were read off the start, and the rest is left; n stands for v
pub record After (start : List ℕ) (n : ℕ) (rest : List ℕ) : Type 0 where
  pub v : ℕ
  pub stands : n ≡ min v MAX
  pub begun : begins start ≡ true
  pub past : past_digits rest ≡ past_digits start
  pub says : said v rest ≡ said 0 start

-- so far: no digit was read, or those of a number
abbrev pub SoFar : List ℕ → Option ℕ → List ℕ → Type 0
SoFar start None rest = rest ≡ start
SoFar start (Some n) rest = After start n rest

pub one_more : (start : List ℕ) (o : Option ℕ) (b : ℕ) (bs : List ℕ) → is_digit b ≡ true → SoFar start o (b ∷ bs) → SoFar start (Some (min (min (unwrap_or o 0 * 10) MAX + (b - 48)) MAX)) bs
unfolding past_digits said begins
one_more start None b bs d e = record {
  v = 0 * 10 + (b - 48);
  stands = omega arith;
  begun = rw (← e, d);
  past = rw (← e, d);
  says = rw (← e, d);
}
one_more start (Some n) b bs d a = record {
  v = a.v * 10 + (b - 48);
  stands = omega (arith, a.stands);
  begun = a.begun;
  past = rw d at a.past;
  says = rw d at a.says;
}

pub read_all : (start : List ℕ) (o : Option ℕ) (rest : List ℕ) → begins rest ≡ false → SoFar start o rest → (o ≡ decimal start) × (rest ≡ past_digits start)
unfolding past_digits said begins decimal
read_all start None [] f e = (rw (← e), rw (← e))
read_all start None (b ∷ bs) f e = (rw (← e, f), rw (← e, f))
read_all start (Some n) [] f a = (rw a.begun (ap Some (rw (← a.says) a.stands)), a.past)
read_all start (Some n) (b ∷ bs) f a = (rw a.begun (ap Some (rw (← a.says, f) a.stands)), rw f at a.past)

-- a byte from 48 to 57 is a digit, and no other
pub digit_is : (b : ℕ) → 48 ≤ b → b < 58 → is_digit b ≡ true
unfolding is_digit
digit_is b h k = rw (le-leb 48 b h, lt-ltb b 58 k)

pub no_digit : (b : ℕ) → (48 ≤ b → b < 58 → ⊥) → is_digit b ≡ false
unfolding is_digit
no_digit b n = go (leb 48 b) refl (ltb b 58) refl
  where
    go : (l : Bool) → leb 48 b ≡ l → (r : Bool) → ltb b 58 ≡ r → (if leb 48 b then ltb b 58 else false) ≡ false
    go true e true f = absurd (n (leb-true 48 b e) (ltb-true b 58 f))
    go true e false f = rw (e, f)
    go false e r f = rw e

-- one digit more
pub next_digit : (start : List ℕ) (o : Option ℕ) (d : ℕ) (rest bs : List ℕ) → d < 10 → rest ≡ (48 + d) ∷ bs → SoFar start o rest → SoFar start (Some (min (min (unwrap_or o 0 * 10) MAX + d) MAX)) bs
next_digit start o d rest bs h e a =
    let k : 48 + d - 48 ≡ d = omega arith in
    rw k at (one_more start o (48 + d) bs (digit_is (48 + d) (omega arith) (omega arith)) (subst (λ r. SoFar start o r) e a))

-- neither word
pub no_answer : (bs : List ℕ) → ((rest : List ℕ) → bs ≢ answer_word true ++ rest) → ((rest : List ℕ) → bs ≢ answer_word false ++ rest) → (yes : Bool) (rest : List ℕ) → bs ≢ answer_word yes ++ rest
no_answer bs y n true rest = y rest
no_answer bs y n false rest = n rest
