-- What one node or register marks, and the walks over them: clocks, and what is read. Assumes nothing.
use Rattle.std.specs.Prelude.{ℕ, zero, suc, ◌+◌, ◌≤◌, ◌<◌, ◌≡◌, refl, Bool, true, false, ◌||◌, List, [], ◌∷◌, length, get_or, take, drop, set, eqb}
use Rattle.std.proofs.Math.Path.{sym}
use Rattle.std.proofs.Common.{ap, ◌∙◌, add-one, drop-cons}
use Rattle.std.proofs.Math.Seq.{drop-length}
use Rattle.std.proofs.Math.Bool.{or-false}
use Rattle.facts.specs.Numbers.{eqb_swap}
use Rattle.model.specs.Lists.{member}
use Rattle.model.specs.Record.{inputs_per_kind}
use Rattle.model.specs.Validate.{enable_numbers, reset_numbers, data_numbers, clocks, nodes_read, registers_read}
use Rattle.struo_ir.specs.declared.netlist.RegisterCell.{RegisterCell}
use Rattle.struo_ir.specs.declared.netlist.Netlist.{Netlist}
use Rattle.struo_ir.specs.Decoded.{decoded_enable, decoded_reset, decoded_register, decoded}
use Rattle.struo_ir.specs.Designs.{Padded}
use Rattle.struo_ir.specs.Nodes.{no_node}
use Rattle.struo_ir.specs.Registers.{no_register}
use Rattle.struo_ir.specs.KindLaws.{numbers_are}
use Rattle.struo_ir.specs.WalkLaws.{no-nodes, no-registers, node-here, register-here}
use Rattle.clock_reads.specs.Marks.{with_marks}
use Rattle.clock_reads.specs.Reads.{signal_numbers, cell_numbers}
use Rattle.clock_reads.specs.MarkLaws.{marks_append}

-- ---- the inputs of a node marked one by one

-- one more of the numbers that are left
pub inputs-next : (ns : List ℕ) (table : List Bool) (i : ℕ) → i < length ns → with_marks (drop (i + 1) ns) (set table (get_or ns i 0) true) ≡ with_marks (drop i ns) table
unfolding with_marks
inputs-next ns table i h = rw (drop-cons ns i 0 h, add-one)

-- none is left
pub inputs-marked : (ns : List ℕ) (table : List Bool) (i : ℕ) → i ≡ length ns → table ≡ with_marks (drop i ns) table
unfolding with_marks
inputs-marked ns table i e = rw (e, drop-length ns)

-- ---- what a register reads as data

-- a signal whose code has none
pub signal-none : (table : List Bool) (c n : ℕ) → c ≡ 0 → table ≡ with_marks (signal_numbers c n) table
unfolding with_marks signal_numbers
signal-none table c n e = rw e

-- a signal that is there
pub signal-some : (table : List Bool) (c n : ℕ) → (c ≡ 0 → ⊥) → set table n true ≡ with_marks (signal_numbers c n) table
unfolding with_marks signal_numbers
signal-some table zero n h = absurd (h refl)
signal-some table (suc c) n h = refl

-- data, then the enable's signal, then the reset's
pub data_marked : (none one two three : List Bool) (r : RegisterCell) → one ≡ set none r.«data» true → two ≡ with_marks (signal_numbers r.enable r.enable_signal) one → three ≡ with_marks (signal_numbers r.reset r.reset_signal) two → three ≡ with_marks (cell_numbers r) none
unfolding with_marks cell_numbers
data_marked none one two three r d e f =
    rw (f, e, d) (sym (marks_append (signal_numbers r.enable r.enable_signal) (signal_numbers r.reset r.reset_signal) (set none r.«data» true)))

-- the enable's signal by the register's fields
enable_are : (c n : ℕ) → enable_numbers (decoded_enable c n) ≡ signal_numbers c n
unfolding enable_numbers decoded_enable signal_numbers
enable_are zero n = refl
enable_are (suc c) n = refl

-- the reset's
reset_are : (c n k v : ℕ) → reset_numbers (decoded_reset c n k v) ≡ signal_numbers c n
unfolding reset_numbers decoded_reset signal_numbers
reset_are zero n k v = refl
reset_are (suc c) n k v = refl

-- all that the register reads as data
data_are : (s : List ℕ) (r : RegisterCell) → data_numbers (decoded_register s r) ≡ cell_numbers r
unfolding data_numbers decoded_register cell_numbers
data_are s r = rw (enable_are r.enable r.enable_signal, reset_are r.reset r.reset_signal r.reset_kind r.reset_value)

-- ---- the walks

module _ (netlist : Netlist) (pad : Padded netlist) (i : ℕ) where
  -- the register in hand clocks by one number
  pub clocks-here : i < netlist.register_count → (s : List ℕ) (k : ℕ) → clocks k (drop i (decoded s netlist).registers) ≡ (member k ((get_or netlist.registers i no_register).clock ∷ []) || clocks k (drop (i + 1) (decoded s netlist).registers))
  unfolding clocks member decoded_register
  clocks-here l s k =
      let n = (get_or netlist.registers i no_register).clock in
      rw (register-here s netlist pad i l) (ap (λ (b : Bool). b || clocks k (drop (i + 1) (decoded s netlist).registers)) (eqb_swap n k ∙ sym (or-false (eqb k n))))

  -- the register in hand reads its data, enable and reset
  pub data_here : i < netlist.register_count → (s : List ℕ) (k : ℕ) → registers_read k (drop i (decoded s netlist).registers) ≡ (member k (cell_numbers (get_or netlist.registers i no_register)) || registers_read k (drop (i + 1) (decoded s netlist).registers))
  unfolding registers_read
  data_here l s k = rw (register-here s netlist pad i l, data_are s (get_or netlist.registers i no_register))

  -- the node in hand reads its input numbers
  pub inputs-here : i < netlist.node_count → (s : List ℕ) (k : ℕ) → nodes_read k (drop i (decoded s netlist).nodes) ≡ (member k (take (inputs_per_kind (get_or netlist.nodes i no_node).kind) ((get_or netlist.nodes i no_node).first ∷ (get_or netlist.nodes i no_node).second ∷ (get_or netlist.nodes i no_node).third ∷ [])) || nodes_read k (drop (i + 1) (decoded s netlist).nodes))
  unfolding nodes_read
  inputs-here l s k = rw (node-here s netlist pad i l, numbers_are s (get_or netlist.nodes i no_node) (pad.nodes_padded.listed i))

module _ (netlist : Netlist) (i : ℕ) where
  -- no register is left to clock
  pub clocks-done : netlist.register_count ≤ i → (s : List ℕ) (k : ℕ) → clocks k (drop i (decoded s netlist).registers) ≡ false
  unfolding clocks
  clocks-done h s k = rw (no-registers s netlist i h)

  -- no register is left to read
  pub data_done : netlist.register_count ≤ i → (s : List ℕ) (k : ℕ) → registers_read k (drop i (decoded s netlist).registers) ≡ false
  unfolding registers_read
  data_done h s k = rw (no-registers s netlist i h)

  -- no node is left
  pub inputs-done : netlist.node_count ≤ i → (s : List ℕ) (k : ℕ) → nodes_read k (drop i (decoded s netlist).nodes) ≡ false
  unfolding nodes_read
  inputs-done h s k = rw (no-nodes s netlist i h)
