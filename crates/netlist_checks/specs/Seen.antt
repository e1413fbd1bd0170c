-- The names and numbers that a walk has seen so far. Definitions only.
use Rattle.std.specs.Prelude.{ℕ, zero, suc, List, [], ◌∷◌, get_or}
use Rattle.model.specs.Names.{Name}
use Rattle.struo_ir.specs.Decoded.{name_at}

-- the names at the first k places, the latest first
unfoldable pub names_before : List ℕ → List ℕ → ℕ → List Name
names_before s places zero = []
names_before s places (suc k) = name_at s (get_or places k 0) ∷ names_before s places k

-- the first k numbers, the latest first
unfoldable pub numbers_before : List ℕ → ℕ → List ℕ
numbers_before numbers zero = []
numbers_before numbers (suc k) = get_or numbers k 0 ∷ numbers_before numbers k
