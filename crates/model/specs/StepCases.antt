-- Closed theorems on the stepping call, each by computation: begin, a step before, at and past the claimed cycle, agreement lost, refusals 24 and 25, and bytes that no register has.
use Rattle.std.specs.Prelude.{ℕ, ◌≡◌, refl, Bool, true, false, List, [], ◌∷◌, ◌++◌, replicate}
use Rattle.model.specs.Encode.{record_of}
use Rattle.model.specs.Stepping.{LentPosition, BeginResult, StepResult, begin, step}
use Rattle.model.specs.Stepping as Stepping
use Rattle.model.specs.Cases.{p, q, toggle, toggling, unreset, row, holding, sync, wire, refusal}
use Rattle.model.specs.Cases as Cases

-- lent bits: the bytes of one register of each side, and one byte in all other places
unfoldable pub bits_of : (gold gate others : ℕ) → List ℕ
bits_of gold gate others = gold ∷ (replicate 127 others ++ (gate ∷ replicate 127 others))

-- a lent position
unfoldable pub at : ℕ → Bool → LentPosition
at cycle agreed = record { cycle = cycle; agreed = agreed }

-- what an accepted begin leaves
unfoldable pub begins : List ℕ → BeginResult
begins bits = record { answer = refusal 0 0; position = at 0 true; bits = bits }

-- what an accepted step leaves
unfoldable pub moves : Bool → LentPosition → List ℕ → StepResult
moves said position bits = record { answer = record { refusal = refusal 0 0; yes = said }; position = position; bits = bits }

-- what a refused step leaves: what was lent
unfoldable pub keeps : ℕ → LentPosition → List ℕ → StepResult
keeps number position bits = record { answer = record { refusal = refusal number 0; yes = false }; position = position; bits = bits }

-- the toggle q as gold, p as gate
abbrev gold : List ℕ
gold = record_of (toggle q)

abbrev gate : List ℕ
gate = record_of (toggle p)

-- clk and rst 0 in cycles 0 and 1; y is marked
abbrev claim : List ℕ
claim = 0 ∷ 0 ∷ 0 ∷ 0 ∷ 1 ∷ []

-- naming this opens what the cases use
unfoldable pub all : Unit {0}
unfolding bits_of at begins moves keeps Stepping.all Cases.all
all = tt

-- ---- begin

-- bytes that no register has stay, whatever they are
begin_toggles : begin gold gate (at 9 false) (bits_of 7 8 2) ≡ begins (bits_of 0 0 2)
unfolding all
begin_toggles = refl

-- reset value 1 in gate alone
begin-one : begin gold (record_of (toggling p (sync 1 true))) (at 9 false) (bits_of 0 0 0) ≡ begins (bits_of 0 1 0)
unfolding all
begin-one = refl

-- bytes past 256 stay too
begin-long : begin gold gate (at 9 false) (bits_of 7 8 2 ++ (3 ∷ [])) ≡ begins (bits_of 0 0 2 ++ (3 ∷ []))
unfolding all
begin-long = refl

begin_short : begin gold gate (at 9 false) (replicate 255 7) ≡ record { answer = refusal 24 0; position = at 9 false; bits = replicate 255 7 }
unfolding all
begin_short = refl

-- 22 comes before 24, 18 before 22
begin-unreset : begin (record_of unreset) (record_of unreset) (at 9 false) [] ≡ record { answer = refusal 22 0; position = at 9 false; bits = [] }
unfolding all
begin-unreset = refl

begin_unlike : begin (record_of unreset) wire (at 9 false) [] ≡ record { answer = refusal 18 0; position = at 9 false; bits = [] }
unfolding all
begin_unlike = refl

-- ---- step

-- before the claimed cycle: no, and on
step-before : step gold gate 1 claim (at 0 true) (bits_of 0 0 2) ≡ moves false (at 1 true) (bits_of 1 1 2)
unfolding all
step-before = refl

-- at it, where nothing differs: no, and on
step-equal : step gold gate 1 claim (at 1 true) (bits_of 1 1 2) ≡ moves false (at 2 true) (bits_of 0 0 2)
unfolding all
step-equal = refl

-- at it, where y differs as marked: yes, and agreement is lost
step-yes : step gold gate 1 claim (at 1 true) (bits_of 0 1 2) ≡ moves true (at 2 false) (bits_of 1 0 2)
unfolding all
step-yes = refl

-- the same after a disagreement: no
step_late : step gold gate 1 claim (at 1 false) (bits_of 0 1 2) ≡ moves false (at 2 false) (bits_of 1 0 2)
unfolding all
step_late = refl

-- a difference before the claimed cycle loses agreement
step_loses : step gold gate 1 claim (at 0 true) (bits_of 0 1 2) ≡ moves false (at 1 false) (bits_of 1 0 2)
unfolding all
step_loses = refl

-- past the claimed cycle nothing changes
step_past : step gold gate 1 claim (at 2 true) (bits_of 0 1 2) ≡ moves false (at 2 true) (bits_of 0 1 2)
unfolding all
step_past = refl

step_far : step gold gate 1 claim (at 18446744073709551615 true) (bits_of 0 1 2) ≡ moves false (at 18446744073709551615 true) (bits_of 0 1 2)
unfolding all
step_far = refl

-- the inputs are those of the position's cycle: rst is 1 in cycle 1 alone
step-inputs : step gold gate 1 (0 ∷ 0 ∷ 0 ∷ 1 ∷ 1 ∷ []) (at 0 true) (bits_of 0 0 2) ≡ moves false (at 1 true) (bits_of 1 1 2)
unfolding all
step-inputs = refl

step-reset : step gold gate 1 (0 ∷ 0 ∷ 0 ∷ 1 ∷ 1 ∷ []) (at 1 true) (bits_of 0 0 2) ≡ moves false (at 2 true) (bits_of 0 0 2)
unfolding all
step-reset = refl

-- registers by number: gold has two, gate one
step_row : step (record_of row) (record_of holding) 0 (0 ∷ 1 ∷ 0 ∷ 1 ∷ []) (at 0 true) (1 ∷ 0 ∷ (replicate 126 9 ++ (1 ∷ replicate 127 9)))
    ≡ moves false (at 1 true) (1 ∷ 1 ∷ (replicate 126 9 ++ (1 ∷ replicate 127 9)))
unfolding all
step_row = refl

-- ---- refusals of a step

step_short : step gold gate 1 claim (at 1 true) (replicate 255 0) ≡ keeps 24 (at 1 true) (replicate 255 0)
unfolding all
step_short = refl

-- the claim's 25 comes before 24
step-claim : step gold gate 1 (0 ∷ 0 ∷ 0 ∷ 0 ∷ 2 ∷ []) (at 1 true) (replicate 255 0) ≡ keeps 25 (at 1 true) (replicate 255 0)
unfolding all
step-claim = refl

-- 24 comes before the stored bits' 25
step_both : step gold gate 1 claim (at 1 true) (replicate 255 2) ≡ keeps 24 (at 1 true) (replicate 255 2)
unfolding all
step_both = refl

step_bad_gold : step gold gate 1 claim (at 1 true) (bits_of 2 0 0) ≡ keeps 25 (at 1 true) (bits_of 2 0 0)
unfolding all
step_bad_gold = refl

step_bad_gate : step gold gate 1 claim (at 1 true) (bits_of 0 2 0) ≡ keeps 25 (at 1 true) (bits_of 0 2 0)
unfolding all
step_bad_gate = refl

-- also past the claimed cycle
step_bad_past : step gold gate 1 claim (at 2 true) (bits_of 0 2 0) ≡ keeps 25 (at 2 true) (bits_of 0 2 0)
unfolding all
step_bad_past = refl
