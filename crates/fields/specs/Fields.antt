-- The steps that the reader's answers stand for, and what the reader keeps of a node's fields. Definitions only.
use Rattle.std.specs.Prelude.{ℕ, Bool, not, ◌&&◌, eqb, leb, Result, Ok, Err}
use Rattle.model.specs.Kinds.{input_kind, output_kind}
use Rattle.model.specs.Names.{Name}
use Rattle.model.specs.Record.{Step, got, refused, Reader, guard, code, listed_kind}
use Rattle.calls.specs.Causes.{numbers_of}
use Rattle.calls.specs.declared.refusal.Refusal.{Refusal}

-- the step that a field's reading stands for
unfoldable pub step_of : {A : Type 0} → Result (A × ℕ) Refusal → Step A
step_of (Ok f) = got f.0 f.1
step_of (Err r) = refused (numbers_of r)

-- what was read, changed
unfoldable pub map_step : {A B : Type 0} → (A → B) → Step A → Step B
map_step f (got a next) = got (f a) next
map_step f (refused r) = refused r

-- a name's place for the name
unfoldable pub placed : ℕ → Step Name → Step ℕ
placed i = map_step (λ n. i)

-- there is room for one more of this kind after so many Inputs and Outputs
unfoldable pub room_for : ℕ → ℕ → ℕ → Bool
room_for inputs outputs k = not (eqb k input_kind && leb 64 inputs) && not (eqb k output_kind && leb 64 outputs)

-- the kind byte, after so many Inputs and Outputs
unfoldable pub kind_at : ℕ → ℕ → Reader ℕ
kind_at inputs outputs = guard 6 (room_for inputs outputs) (code listed_kind)
