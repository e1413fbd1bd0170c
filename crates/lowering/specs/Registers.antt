-- The registers of a decoded design: each one's next-state literal and its variable, in record order. Assumes nothing.
use Rattle.std.specs.Prelude.{◌≡◌, ℕ, ◌+◌, ◌*◌, ◌≤◌, ◌<◌, eqb, get_or}
use Rattle.std.proofs.Math.Path.{refl}
use mathlib.Core.List.{List, [], map}
use Rattle.std.proofs.Math.Option.{Option}
use Rattle.std.proofs.Math.ListN.{take}
use Rattle.words.specs.Layout.{NETS, STATES}
use Rattle.words.specs.Region.{region}
use Rattle.model.specs.Literal.{Literal, node, constant_literal}
use Rattle.model.specs.Aig.{Aig, Built, mux}
use Rattle.model.specs.Netlist.{Enable, Reset}
use Rattle.model.specs.Record.{level_of, bit}
use Rattle.model.specs.Transition.{Lowering, Registers, StateBit, asserted_literal, net_literal, reset_mux, enabled, reset_next, lower_registers}
use Rattle.struo_ir.specs.Decoded.{decoded_enable, decoded_reset, cell_enable, cell_reset, decoded}
use Rattle.struo_ir.specs.declared.netlist.RegisterCell.{RegisterCell}
use Rattle.struo_ir.specs.declared.netlist.Netlist.{Netlist}
use Rattle.aig.specs.Graph.{graph_of}
use Rattle.aig.specs.Made.{Same, outside}
use Rattle.lowering.specs.declared.resets.ResetCell.{ResetCell}
use Rattle.lowering.specs.Gate.{Netted}
use Rattle.lowering.specs.Walk.{Walked}
use Rattle.lowering.specs.Step.{reset_of, reset_mux_by, by_code}

-- ---- the enable and the reset, by their fields

module _ (g : Aig) (nets : List Literal) (r : RegisterCell) (l state : Literal) where
  pub enabled_always : r.enable ≡ 0 → record { aig = g; literal = l } ≡ enabled g nets (cell_enable r) l state
  unfolding enabled cell_enable decoded_enable
  enabled_always e = rw e

  pub enabled_when : 0 < r.enable → mux g (asserted_literal (net_literal nets r.enable_signal) (level_of r.enable)) l state ≡ enabled g nets (cell_enable r) l state
  unfolding enabled cell_enable decoded_enable
  enabled_when h =
      by_code (λ (c : ℕ). mux g (asserted_literal (net_literal nets r.enable_signal) (level_of c)) l state ≡ enabled g nets (decoded_enable c r.enable_signal) l state) r.enable h (λ k. refl)

module _ (g : Aig) (nets : List Literal) (r : ResetCell) (l : Literal) where
  pub reset-never : r.code ≡ 0 → record { aig = g; literal = l } ≡ reset_next (record { aig = g; literal = l }) nets (reset_of r)
  unfolding reset_next decoded_reset
  reset-never e = rw e

  pub reset_when : 0 < r.code → reset_mux_by g nets r l ≡ reset_next (record { aig = g; literal = l }) nets (reset_of r)
  unfolding reset_next reset_mux bit decoded_reset
  reset_when h =
      by_code
      (λ (c : ℕ). mux g (asserted_literal (net_literal nets r.signal) (level_of c)) (constant_literal (eqb r.value 1)) l
      ≡ reset_next (record { aig = g; literal = l }) nets (decoded_reset c r.signal r.kind r.value))
      r.code h (λ k. refl)

-- ---- one register

-- the next bit of a register: the enable's mux, then the reset's
unfoldable pub next_of : Aig → List Literal → Option Enable → ℕ → Option Reset → Literal → Built
next_of g nets e input r state = reset_next (enabled g nets e (net_literal nets input) state) nets r

-- From c nodes in w a register's next literal and variable were made.
pub record Registered (r : RegisterCell) (c : ℕ) (w : List ℕ) (c' : ℕ) (w' : List ℕ) (next variable : ℕ) : Type 0 where
  pub netted : Netted c' w'
  pub same : Same outside w w'
  pub within : c' ≤ c + 6
  pub grows : c ≤ c'
  pub built : record { aig = graph_of c' w'; literal = next }
      ≡ next_of (graph_of c w) (region NETS w) (cell_enable r) r.«data» (cell_reset r) (get_or (region STATES w) r.output 0)
  pub is_variable : variable ≡ node (get_or (region STATES w) r.output 0)
  pub below : next < c' * 2

-- ---- all registers

-- the next literals of states
abbrev pub nexts : List StateBit → List ℕ
nexts states = map (λ (b : StateBit). b.next) states

-- the variables of states
abbrev pub variables : List StateBit → List ℕ
variables states = map (λ (b : StateBit). b.variable) states

-- the words and two lists have what the model's registers have
pub record Held (g : Registers) (i c : ℕ) (w : List ℕ) (next variable : List ℕ) : Type 0 where
  pub graph : graph_of c w ≡ g.aig
  pub next_are : take i next ≡ nexts g.states
  pub variables_are : take i variable ≡ variables g.states

-- the registers before the first
abbrev pub no_states : Lowering → Registers
no_states l = record { aig = l.aig; states = [] }

-- From c₀ nodes in w₀ the first i registers were lowered.
pub record Registering (n : Netlist) (c₀ : ℕ) (w₀ : List ℕ) (i c : ℕ) (w : List ℕ) (next variable : List ℕ) : Type 0 where
  pub netted : Netted c w
  pub same : Same outside w₀ w
  pub within : c ≤ c₀ + 6 * i
  pub grows : c₀ ≤ c
  pub below : (k : ℕ) → get_or next k 0 < c * 2
  pub held : (s : List ℕ) (l : Lowering) (net : ℕ) → Walked l net c₀ w₀ → Held (lower_registers l (no_states l) (take i (decoded s n).registers)) i c w next variable
