-- What the region FRAMES holds: a row of ROW words for each cycle, with its inputs at the beginning, gold's outputs at GOLD-OUTPUTS, gate's at GATE-OUTPUTS and its mismatch at MISMATCH. Definitions only.
use Rattle.std.specs.Prelude.{List, [], Bool, ◌&&◌, ℕ, zero, suc, ◌+◌, ◌*◌, get_or}
use Rattle.words.specs.Layout.{FRAMES, ROW, GOLD-OUTPUTS, GATE-OUTPUTS, MISMATCH}
use Rattle.words.specs.Region.{apart}
use Rattle.model.specs.Lists.{snoc}
use Rattle.model.specs.Equivalence.{FrameComparison}
use Rattle.import.specs.Importing.{beyond}

-- n words from a place on; 0 past the end
unfoldable pub words_from : ℕ → ℕ → List ℕ → List ℕ
words_from zero at fs = []
words_from (suc n) at fs = snoc (words_from n at fs) (get_or fs (at + n) 0)

-- n pairs of words from two places on
unfoldable pub pairs_from : ℕ → ℕ → ℕ → List ℕ → List (ℕ × ℕ)
pairs_from zero at to fs = []
pairs_from (suc n) at to fs = snoc (pairs_from n at to fs) (get_or fs (at + n) 0, get_or fs (to + n) 0)

-- the comparison of cycle c, of I inputs and O outputs
unfoldable pub comparison_at : ℕ → ℕ → List ℕ → ℕ → FrameComparison
comparison_at I O fs c =
    record { inputs = words_from I (ROW * c) fs; outputs = pairs_from O (ROW * c + GOLD-OUTPUTS) (ROW * c + GATE-OUTPUTS) fs; mismatch = get_or fs (ROW * c + MISMATCH) 0 }

-- the comparisons of the first n cycles
unfoldable pub comparisons_of : ℕ → ℕ → ℕ → List ℕ → List FrameComparison
comparisons_of I O zero fs = []
comparisons_of I O (suc n) fs = snoc (comparisons_of I O n fs) (comparison_at I O fs n)

-- the region at b is none of the proof graph's, not IMPORTED and not FRAMES
abbrev pub beyond_frames : ℕ → Bool
beyond_frames b = beyond b && apart b FRAMES
