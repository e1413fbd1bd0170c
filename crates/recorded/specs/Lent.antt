-- What the memory that a check is lent has to hold after it. Definitions only.
use Rattle.std.specs.Prelude.{ℕ, nat_lt, if◌then◌else◌}

-- the word at a place: `inside` before the end of what was lent, the held one from there on
abbrev pub wanted_word : ℕ → ℕ → ℕ → ℕ
wanted_word end inside place = if nat_lt place end then inside else 1515870810
