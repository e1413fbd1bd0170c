-- What stands at the front of a text: a decimal number, or the word yes or no. Definitions only.
use Rattle.std.specs.Prelude.{ℕ, ◌+◌, ◌-◌, ◌*◌, ◌^◌, List, [], ◌∷◌, Bool, true, false, nat_lt, nat_le, if◌then◌else◌, Option, Some, None, min}

-- a decimal digit
unfoldable pub is_digit : ℕ → Bool
is_digit b = if nat_le 48 b then nat_lt b 58 else false

-- what is left behind the digits at the front
unfoldable pub past_digits : List ℕ → List ℕ
past_digits [] = []
past_digits (b ∷ bs) = if is_digit b then past_digits bs else (b ∷ bs)

-- the number that the digits at the front say, behind a number that digits said before them
unfoldable pub said : ℕ → List ℕ → ℕ
said n [] = n
said n (b ∷ bs) = if is_digit b then said (n * 10 + (b - 48)) bs else n

-- whether a text begins with a digit
unfoldable pub begins : List ℕ → Bool
begins [] = false
begins (b ∷ bs) = is_digit b

-- the number at the front, where there is one; the largest number of 64 bits stands for all that are larger
unfoldable pub decimal : List ℕ → Option ℕ
decimal bs = if begins bs then Some (min (said 0 bs) (2 ^ 64 - 1)) else None

-- `yes` or `no`
abbrev pub answer_word : Bool → List ℕ
answer_word true = 121 ∷ 101 ∷ 115 ∷ []
answer_word false = 110 ∷ 111 ∷ []
