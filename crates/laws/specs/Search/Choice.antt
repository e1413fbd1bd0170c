-- The choice of a variable: it is an unassigned one, and there is none only where every variable is assigned. Assumes nothing.
use Rattle.std.specs.Prelude.{ℕ, zero, suc, ◌+◌, ◌<◌, ◌≡◌, refl, ◌≢◌, Bool, true, false, cond, length, get_or, Float}
use Rattle.std.proofs.Common.{arith, add-suc, suc-add}
use Rattle.std.proofs.Math.Nat.{add-zero}
use mathlib.Core.List.{List, [], ◌∷◌}
use Rattle.std.specs.Float.Ieee.{lt}
use Rattle.model.specs.Sat.{Value, False, Unassigned, True, Choice, no_choice, chosen, choose_between, choose_valued, choose_from}
use Rattle.facts.specs.Bools.{by_cond}

between-chosen : (v : ℕ) (x : Float) (b : Choice) → choose_between v x b ≡ no_choice → ⊥
unfolding choose_between
between-chosen v x no_choice e = let z : ◌≡◌ {A = ℕ} 0 1 = cc in omega arith
between-chosen v x (chosen w y) e = go (lt y x) e
  where
    go : (c : Bool) → cond c (chosen v x) (chosen w y) ≡ no_choice → ⊥
    go true q = let z : ◌≡◌ {A = ℕ} 0 1 = cc in omega arith
    go false q = let z : ◌≡◌ {A = ℕ} 0 1 = cc in omega arith

valued_none : (v : ℕ) (x : Float) (y : Value) (b : Choice) → choose_valued v x y b ≡ no_choice → (b ≡ no_choice) × (y ≢ Unassigned)
unfolding choose_valued
valued_none v x False b e = (e, λ q. let z : ◌≡◌ {A = ℕ} 0 1 = cc in omega arith)
valued_none v x True b e = (e, λ q. let z : ◌≡◌ {A = ℕ} 0 1 = cc in omega arith)
valued_none v x Unassigned b e = absurd (between-chosen v x b e)

-- no choice: every value looked at is assigned
pub from-none : (ys : List Value) (xs : List Float) (v : ℕ) (b : Choice) → choose_from v ys xs b ≡ no_choice
    → (b ≡ no_choice) × ((i : ℕ) → i < length ys → i < length xs → get_or ys i Unassigned ≢ Unassigned)
unfolding choose_from
from-none [] xs v b e = (e, λ i h q. absurd (omega arith))
from-none (y ∷ ys) [] v b e = (e, λ i h q. absurd (omega arith))
from-none (y ∷ ys) (x ∷ xs) v b e = go (from-none ys xs (suc v) (choose_valued v x y b) e)
  where
    rest : (choose_valued v x y b ≡ no_choice) × ((i : ℕ) → i < length ys → i < length xs → get_or ys i Unassigned ≢ Unassigned)
        → (i : ℕ) → i < length (y ∷ ys) → i < length (x ∷ xs) → get_or (y ∷ ys) i Unassigned ≢ Unassigned
    rest r zero h q = (valued_none v x y b r.0).1
    rest r (suc i) h q = r.1 i (omega arith) (omega arith)

    go : (choose_valued v x y b ≡ no_choice) × ((i : ℕ) → i < length ys → i < length xs → get_or ys i Unassigned ≢ Unassigned)
        → (b ≡ no_choice) × ((i : ℕ) → i < length (y ∷ ys) → i < length (x ∷ xs) → get_or (y ∷ ys) i Unassigned ≢ Unassigned)
    go r = ((valued_none v x y b r.0).0, rest r)

module _ (Open : ℕ → Type 0) where
  -- the variable chosen, if one is, is open
  abbrev pub ChoiceOk : Choice → Type 0
  ChoiceOk no_choice = Unit {0}
  ChoiceOk (chosen v x) = Open v

  between_ok : (v : ℕ) (x : Float) (b : Choice) → Open v → ChoiceOk b → ChoiceOk (choose_between v x b)
  unfolding choose_between
  between_ok v x no_choice h w = h
  between_ok v x (chosen u y) h w = by_cond ChoiceOk {t = lt y x} {x = chosen v x} {y = chosen u y} (λ _. h) (λ _. w)

  valued_ok : (v : ℕ) (x : Float) (y : Value) (b : Choice) → (y ≡ Unassigned → Open v) → ChoiceOk b → ChoiceOk (choose_valued v x y b)
  unfolding choose_valued
  valued_ok v x False b h w = w
  valued_ok v x True b h w = w
  valued_ok v x Unassigned b h w = between_ok v x b (h refl) w

  -- the chosen variable is an unassigned one
  pub from_ok : (ys : List Value) (xs : List Float) (v : ℕ) (b : Choice) → ((i : ℕ) → i < length ys → get_or ys i Unassigned ≡ Unassigned → Open (v + i))
      → ChoiceOk b → ChoiceOk (choose_from v ys xs b)
  unfolding choose_from
  from_ok [] xs v b f w = w
  from_ok (y ∷ ys) [] v b f w = w
  from_ok (y ∷ ys) (x ∷ xs) v b f w =
      from_ok ys xs (suc v) (choose_valued v x y b) (λ i h e. rw (suc-add, ← add-suc) (f (suc i) (omega arith) e))
      (valued_ok v x y b (λ e. rw add-zero at (f 0 (omega arith) e)) w)
