-- A register's enable and reset by their codes; the walk over a record's registers. Assumes nothing.
use Prim.Native.Nat.{ℕ, zero, suc, ◌+◌, ◌-◌, ◌≤◌, ◌<◌}
use Rattle.std.specs.Prelude.{◌≡◌, List, [], ◌∷◌, ◌++◌, set, replicate, Ok, Err}
use Rattle.std.proofs.Math.Path.{refl, ap}
use Rattle.std.proofs.Common.{sym, ◌∙◌, length-set, get_or-set_other}
use native.Mathlib.Omega.{arith}
use Rattle.std.proofs.lemmas.List.{length-replicate}
use Rattle.facts.specs.Lists.{get_or-replicate}
use Rattle.model.specs.Answers.{Refusal}
use Rattle.model.specs.Record.{got, refused, pure, go_on, ◌>>=◌, number, register, registers_from}
use Rattle.struo_ir.specs.declared.netlist.RegisterCell.{RegisterCell}
use Rattle.struo_ir.specs.declared.registers.Registers.{Registers}
use Rattle.calls.specs.Causes.{numbers_of}
use Rattle.calls.specs.declared.refusal.Refusal as Code
use Rattle.fields.specs.Fields.{map_step}
use Rattle.struo_ir.specs.Decoded.{decoded_register}
use Rattle.struo_ir.specs.Registers.{reset_fields, reset_if, register_reset, register_signal, enable_if, register_at, no_register, registers_to, registers_of, RegistersRead, RegistersSoFar}
use Rattle.struo_ir.specs.RegisterDecoding.{register-decoded}
use Rattle.struo_ir.specs.ListLaws.{map-take-set}

module _ (c : RegisterCell) (s : List ℕ) (i : ℕ) where
  pub reset-none : (r : ℕ) → r ≡ 0 → got c i ≡ reset_if c r s i
  unfolding reset_if pure
  reset-none r e = rw e

  pub reset-some : (r : ℕ) → (r ≡ 0 → ⊥) → reset_fields c r s i ≡ reset_if c r s i
  unfolding reset_if
  reset-some zero h = absurd (h refl)
  reset-some (suc r) h = refl

  pub enable-none : (e : ℕ) → e ≡ 0 → register_reset c s i ≡ enable_if c e s i
  unfolding enable_if
  enable-none e h = rw h

  pub enable-some : (e : ℕ) → (e ≡ 0 → ⊥) → ◌>>=◌ number (register_signal c e) s i ≡ enable_if c e s i
  unfolding enable_if
  enable-some zero h = absurd (h refl)
  enable-some (suc e) h = refl

pub registers-start : (s : List ℕ) (count at : ℕ) → RegistersSoFar s count at (replicate 128 no_register) at 0
unfolding registers_to
registers-start s count at =
    record {
      bound = omega arith;
      size = length-replicate 128 no_register;
      rest = let e : count - 0 ≡ count = omega arith in rw e;
      past = λ k h. get_or-replicate 128 k no_register;
    }

module _ (s : List ℕ) (count at : ℕ) (registers : List RegisterCell) (next i : ℕ) (so : RegistersSoFar s count at registers next i) where
  here-got : (r : RegisterCell) (end : ℕ) → got r end ≡ register_at s next → got (decoded_register s r) end ≡ register s next
  unfolding map_step
  here-got r end e = ap (map_step (decoded_register s)) e ∙ register-decoded s next

  here-refused : (r : Refusal) → refused r ≡ register_at s next → refused r ≡ register s next
  unfolding map_step
  here-refused r e = ap (map_step (decoded_register s)) e ∙ register-decoded s next

  -- one more register
  module _ (r : RegisterCell) (end : ℕ) (l : i < count) (room : count ≤ 128) (e : got r end ≡ register_at s next) where
    stored : registers_to s (set registers i r) (i + 1) ≡ registers_to s registers i ++ (decoded_register s r ∷ [])
    unfolding registers_to
    stored = map-take-set (decoded_register s) registers i r (omega (arith, so.size))

    rest_more : registers_from register (count - (i + 1)) (registers_to s (set registers i r) (i + 1)) s end ≡ registers_from register count [] s at
    unfolding registers_from ◌>>=◌ go_on
    rest_more =
        let d : count - i ≡ suc (count - (i + 1)) = omega arith in
        rw stored (goal d ∙ so.rest)
      where
        goal : count - i ≡ suc (count - (i + 1)) → registers_from register (count - (i + 1)) (registers_to s registers i ++ (decoded_register s r ∷ [])) s end ≡ registers_from register (count - i) (registers_to s registers i) s next
        goal d = rw (d, ← here-got r end e)

    pub registers-more : RegistersSoFar s count at (set registers i r) end (i + 1)
    registers-more =
        record {
          bound = omega arith;
          size = length-set registers i r ∙ so.size;
          rest = rest_more;
          past = λ k h. get_or-set_other registers i k r no_register (λ f. omega arith) ∙ so.past k (omega arith);
        }

  -- a register is refused
  pub registers-refused : (r : Code.Refusal) → i < count → refused (numbers_of r) ≡ register_at s next → RegistersRead s count at (Err r)
  unfolding registers_of registers_from ◌>>=◌ go_on
  registers-refused r l e =
      let d : count - i ≡ suc (count - (i + 1)) = omega arith in
      record { step = goal d ∙ so.rest; whole = λ n after f. absurd cc }
    where
      goal : count - i ≡ suc (count - (i + 1)) → refused (numbers_of r) ≡ registers_from register (count - i) (registers_to s registers i) s next
      goal d = rw (d, ← here-refused _ e)

  -- all registers are read
  pub registers-done : count ≤ i → RegistersRead s count at (Ok (record { count = count; registers = registers }, next))
  unfolding registers_of registers_from pure
  registers-done l =
      let d : count - i ≡ 0 = omega arith in
      let f : i ≡ count = omega (arith, so.bound) in
      record {
        step = ap (λ (n : ℕ). got (registers_to s registers n) next) (sym f) ∙ (goal d ∙ so.rest);
        whole = λ n after g.
            let h : ◌≡◌ {A = Registers × ℕ} (record { count = count; registers = registers }, next) (n, after) = cc in
            let a : count ≡ n.count = ap (λ (p : Registers × ℕ). p.0.count) h in
            let b : registers ≡ n.registers = ap (λ (p : Registers × ℕ). p.0.registers) h in
            (sym a, rw (← b) (record { size = so.size; past = λ k h. so.past k (omega arith) }));
      }
    where
      goal : count - i ≡ 0 → got (registers_to s registers i) next ≡ registers_from register (count - i) (registers_to s registers i) s next
      goal d = rw d
