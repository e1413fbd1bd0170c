-- A table of marks by node number. Definitions only.
use Rattle.std.specs.Prelude.{ℕ, ◌<◌, ◌≡◌, Bool, true, false, ◌||◌, List, [], ◌∷◌, length, get_or, set}

-- the table with these numbers marked; one that it does not have changes nothing
unfoldable pub with_marks : List ℕ → List Bool → List Bool
with_marks [] table = table
with_marks (n ∷ ns) table = with_marks ns (set table n true)

-- a table by number: in whatever record s, number k is marked where it has the property
pub record Marked (property : List ℕ → ℕ → Bool) (table : List Bool) : Type 0 where
  pub size : length table ≡ 1024
  pub marks : (s : List ℕ) (k : ℕ) → k < 1024 → get_or table k false ≡ property s k

-- the table while a walk goes on: a number has the property where it is marked or will be by what is left
pub record MarkedSoFar (property left : List ℕ → ℕ → Bool) (table : List Bool) : Type 0 where
  pub size : length table ≡ 1024
  pub marks : (s : List ℕ) (k : ℕ) → k < 1024 → (get_or table k false || left s k) ≡ property s k
