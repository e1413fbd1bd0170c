-- What a record in the making holds, and what each part of it is as bytes. Definitions only.
use Rattle.std.specs.Prelude.{◌≡◌, ℕ, List, [], ◌∷◌, ◌++◌, ◌+◌, ◌/◌, ◌%◌, length, take, set, nat_lt, if◌then◌else◌}
use Rattle.designs.specs.declared.record.Record.{Record}
use Rattle.designs.specs.declared.record.Name.{Name}
use Rattle.designs.specs.declared.record.Name.TheVariants.{Word, Numbered}

-- the bytes so far
abbrev pub written : Record → List ℕ
written r = take r.length r.bytes

-- more bytes stand behind those so far, of which the first 2,048 are kept
abbrev pub Gains : Record → Record → List ℕ → Type 0
Gains old new more = written new ≡ take 2048 (written old ++ more)

-- a name: how many letters, and these
unfoldable pub name_bytes : Name → List ℕ
name_bytes (Word letters) = length letters.now % 256 ∷ letters.now
name_bytes (Numbered letter number) = if nat_lt number 10 then 2 ∷ letter ∷ (48 + number % 10) ∷ [] else (3 ∷ letter ∷ (48 + number / 10 % 10) ∷ (48 + number % 10) ∷ [])

-- the bytes with a number of two bytes at a place
abbrev pub stated : List ℕ → ℕ → ℕ → List ℕ
stated xs at n = set (set xs at (n / 256 % 256)) (at + 1) (n % 256)
