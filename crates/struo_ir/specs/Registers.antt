-- A register as the reader keeps it: the steps that its fields take. Definitions only.
use Rattle.std.specs.Prelude.{ℕ, zero, suc, ◌-◌, ◌≤◌, ◌≡◌, List, [], map, length, get_or, take, Result, Ok, Err}
use Rattle.model.specs.Netlist as Model
use Rattle.model.specs.Record.{Step, got, refused, Reader, pure, ◌>>=◌, name, number, code_below, numbers, register, registers_from}
use Rattle.calls.specs.Causes.{numbers_of}
use Rattle.calls.specs.declared.refusal.Refusal.{Refusal}
use Rattle.struo_ir.specs.declared.netlist.RegisterCell.{RegisterCell}
use Rattle.struo_ir.specs.declared.registers.Registers.{Registers}
use Rattle.struo_ir.specs.Decoded.{decoded_register}
use Rattle.fields.specs.Fields.{map_step, placed}
use Rattle.struo_ir.specs.Nodes.{three}

-- a register of its name's place, its nets and its edge
unfoldable pub fixed : ℕ → List ℕ → ℕ → RegisterCell
fixed n nets e =
    record { name = n; output = get_or nets 0 0; «data» = get_or nets 1 0; clock = get_or nets 2 0; edge = e; enable = 0; enable_signal = 0; reset = 0; reset_signal = 0; reset_kind = 0; reset_value = 0 }

-- the register with an enable
unfoldable pub enabled : RegisterCell → ℕ → ℕ → RegisterCell
enabled c e n =
    record { name = c.name; output = c.output; «data» = c.«data»; clock = c.clock; edge = c.edge; enable = e; enable_signal = n; reset = c.reset; reset_signal = c.reset_signal; reset_kind = c.reset_kind; reset_value = c.reset_value }

-- the register with a reset
unfoldable pub resettable : RegisterCell → ℕ → ℕ → ℕ → ℕ → RegisterCell
resettable c r n k v =
    record { name = c.name; output = c.output; «data» = c.«data»; clock = c.clock; edge = c.edge; enable = c.enable; enable_signal = c.enable_signal; reset = r; reset_signal = n; reset_kind = k; reset_value = v }

-- a reset from its value on
unfoldable pub reset_value : RegisterCell → ℕ → ℕ → ℕ → Reader RegisterCell
reset_value c r n k = do
  v ← code_below 2
  pure (resettable c r n k v)

-- a reset from its kind on
unfoldable pub reset_kind : RegisterCell → ℕ → ℕ → Reader RegisterCell
reset_kind c r n = ◌>>=◌ (code_below 2) (reset_value c r n)

-- a reset from its signal on
unfoldable pub reset_fields : RegisterCell → ℕ → Reader RegisterCell
reset_fields c r = ◌>>=◌ number (reset_kind c r)

-- the reset by its code: none for 0
unfoldable pub reset_if : RegisterCell → ℕ → Reader RegisterCell
reset_if c zero = pure c
reset_if c (suc r) = reset_fields c (suc r)

-- a register from its reset on
unfoldable pub register_reset : RegisterCell → Reader RegisterCell
register_reset c = ◌>>=◌ (code_below 3) (reset_if c)

-- from the signal of its enable on
unfoldable pub register_signal : RegisterCell → ℕ → ℕ → Reader RegisterCell
register_signal c e n = register_reset (enabled c e n)

-- the enable by its code: none for 0
unfoldable pub enable_if : RegisterCell → ℕ → Reader RegisterCell
enable_if c zero = register_reset c
enable_if c (suc e) = ◌>>=◌ number (register_signal c (suc e))

-- a register from its enable on
unfoldable pub register_enable : RegisterCell → Reader RegisterCell
register_enable c = ◌>>=◌ (code_below 3) (enable_if c)

-- from its edge on, after the place of its name and its nets
unfoldable pub register_edge : ℕ → List ℕ → Reader RegisterCell
register_edge n nets = do
  e ← code_below 2
  register_enable (fixed n nets e)

-- the three nets: output, data, clock
unfoldable pub nets_at : Reader (List ℕ)
nets_at s i = map_step three (numbers 3 s i)

-- the place of the name
unfoldable pub place_at : Reader ℕ
place_at s i = placed i (name s i)

-- from its nets on
unfoldable pub register_nets : ℕ → Reader RegisterCell
register_nets n = ◌>>=◌ nets_at (register_edge n)

-- a register
unfoldable pub register_at : Reader RegisterCell
register_at = ◌>>=◌ place_at register_nets

-- a register of zeros
abbrev pub no_register : RegisterCell
no_register = record { name = 0; output = 0; «data» = 0; clock = 0; edge = 0; enable = 0; enable_signal = 0; reset = 0; reset_signal = 0; reset_kind = 0; reset_value = 0 }

-- the definition's registers among the first i
unfoldable pub registers_to : List ℕ → List RegisterCell → ℕ → List Model.Register
registers_to s registers i = map (decoded_register s) (take i registers)

-- the step of the registers: as many as the count says, decoded
unfoldable pub registers_of : List ℕ → Result (Registers × ℕ) Refusal → Step (List Model.Register)
registers_of s (Ok f) = got (registers_to s f.0.registers f.0.count) f.1
registers_of s (Err r) = refused (numbers_of r)

-- an array of 128 registers, zeros from the count on
pub record RegistersHeld (count : ℕ) (registers : List RegisterCell) : Type 0 where
  pub size : length registers ≡ 128
  pub past : (k : ℕ) → count ≤ k → get_or registers k no_register ≡ no_register

-- what was read after the count: the definition's registers, and zeros past the count
pub record RegistersRead (s : List ℕ) (count at : ℕ) (field : Result (Registers × ℕ) Refusal) : Type 0 where
  pub step : registers_of s field ≡ registers_from register count [] s at
  pub whole : (r : Registers) (next : ℕ) → field ≡ Ok (r, next) → (r.count ≡ count) × RegistersHeld count r.registers

-- the reader's state after i registers: what is left to read gives the whole
pub record RegistersSoFar (s : List ℕ) (count at : ℕ) (registers : List RegisterCell) (next i : ℕ) : Type 0 where
  pub bound : i ≤ count
  pub size : length registers ≡ 128
  pub rest : registers_from register (count - i) (registers_to s registers i) s next ≡ registers_from register count [] s at
  pub past : (k : ℕ) → i ≤ k → get_or registers k no_register ≡ no_register
