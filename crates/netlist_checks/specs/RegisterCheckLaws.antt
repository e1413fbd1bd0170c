-- The checks of a register, 9 to 12, by its fields; the walk over the registers. Assumes nothing.
use Rattle.std.specs.Prelude.{ℕ, zero, suc, ◌+◌, ◌≤◌, ◌<◌, ◌≡◌, refl, Bool, true, false, not, ◌&&◌, List, [], ◌∷◌, ◌++◌, get_or, drop, set, replicate, eqb, ltb}
use Rattle.std.proofs.Common.{sym, ◌∙◌, arith, lt-ltb, le-ltb}
use Rattle.std.proofs.Math.Path.{ap}
use Rattle.std.proofs.Math.Option.{Option, none, some}
use Rattle.std.proofs.Math.Numerals.{add-one}
use Rattle.std.proofs.Math.ListN.{get_elem?, length-set}
use Rattle.std.proofs.lemmas.List.{length-replicate}
use Rattle.model.specs.Answers.{Refusal}
use Rattle.model.specs.Kinds.{register_output_kind}
use Rattle.model.specs.Lists.{member}
use Rattle.model.specs.Names.{member_name}
use Rattle.model.specs.Validate.{◌otherwise◌, refuse_if, all_below, enable_numbers, reset_numbers, register_numbers, is_register_output_at, register_fault, registers_fault}
use Rattle.calls.specs.Faults.{refusal}
use Rattle.fields.specs.FieldLaws.{and_true}
use Rattle.struo_ir.specs.declared.netlist.RegisterCell.{RegisterCell}
use Rattle.struo_ir.specs.declared.netlist.Netlist.{Netlist}
use Rattle.struo_ir.specs.Decoded.{name_at, decoded_enable, decoded_reset, decoded_register, decoded}
use Rattle.struo_ir.specs.Designs.{Padded}
use Rattle.struo_ir.specs.Nodes.{no_node}
use Rattle.struo_ir.specs.Registers.{no_register}
use Rattle.netlist_checks.specs.Seen.{names_before, numbers_before}
use Rattle.netlist_checks.specs.RegisterChecks.{signal_below, RegistersChecked}
use Rattle.struo_ir.specs.KindLaws.{register-output-is}
use Rattle.netlist_checks.specs.SeenLaws.{names_more, numbers_more}
use Rattle.struo_ir.specs.WalkLaws.{no-node, node_at, node-total, register-here, no-registers}

-- ---- the signal of an enable or a reset

pub signal-none : (c n count : ℕ) → c ≡ 0 → true ≡ signal_below c n count
unfolding signal_below
signal-none c n count e = rw e

pub signal-some : (c n count : ℕ) → (c ≡ 0 → ⊥) → ltb n count ≡ signal_below c n count
unfolding signal_below
signal-some zero n count h = absurd (h refl)
signal-some (suc c) n count h = refl

-- ---- the numbers that a register reads

enable-signal : (c n count : ℕ) (xs : List ℕ) → all_below count (enable_numbers (decoded_enable c n) ++ xs) ≡ (signal_below c n count && all_below count xs)
unfolding enable_numbers decoded_enable signal_below all_below
enable-signal zero n count xs = refl
enable-signal (suc c) n count xs = refl

reset-signal : (c n k v count : ℕ) → all_below count (reset_numbers (decoded_reset c n k v)) ≡ signal_below c n count
unfolding reset_numbers decoded_reset signal_below all_below
reset-signal zero n k v count = refl
reset-signal (suc c) n k v count = sym (and_true (ltb n count))

module _ (s : List ℕ) (r : RegisterCell) (count : ℕ) where
  numbers-below : all_below count (register_numbers (decoded_register s r)) ≡ (ltb r.«data» count && (ltb r.clock count && (signal_below r.enable r.enable_signal count && signal_below r.reset r.reset_signal count)))
  unfolding register_numbers decoded_register all_below
  numbers-below = rw (enable-signal r.enable r.enable_signal count (reset_numbers (decoded_reset r.reset r.reset_signal r.reset_kind r.reset_value)), reset-signal r.reset r.reset_signal r.reset_kind r.reset_value count)

  pub data_not-below : count ≤ r.«data» → false ≡ all_below count (register_numbers (decoded_register s r))
  data_not-below h = rw (numbers-below, le-ltb r.«data» count h)

  module _ (d : r.«data» < count) where
    pub clock-not-below : count ≤ r.clock → false ≡ all_below count (register_numbers (decoded_register s r))
    clock-not-below h = rw (numbers-below, lt-ltb r.«data» count d, le-ltb r.clock count h)

    module _ (c : r.clock < count) where
      pub enable-not-below : signal_below r.enable r.enable_signal count ≡ false → false ≡ all_below count (register_numbers (decoded_register s r))
      enable-not-below e = rw (numbers-below, lt-ltb r.«data» count d, lt-ltb r.clock count c, e)

      pub signals_below : signal_below r.enable r.enable_signal count ≡ true → (b : Bool) → b ≡ signal_below r.reset r.reset_signal count → b ≡ all_below count (register_numbers (decoded_register s r))
      signals_below e b f = rw (numbers-below, lt-ltb r.«data» count d, lt-ltb r.clock count c, e, f)

-- ---- the walk

pub registers_unchecked : (s : List ℕ) (netlist : Netlist) → RegistersChecked s netlist (replicate 1024 0) (replicate 1024 0) 0
unfolding names_before numbers_before
registers_unchecked s netlist = record { bound = omega arith; names_size = length-replicate {A = ℕ} 1024 0; outputs_size = length-replicate {A = ℕ} 1024 0; rest = refl }

-- the node of a number is a RegisterOutput by its kind
pub output-outside : (s : List ℕ) (netlist : Netlist) (o : ℕ) → netlist.node_count ≤ o → is_register_output_at (get_elem? (decoded s netlist).nodes o) ≡ false
unfolding is_register_output_at
output-outside s netlist o h = rw (no-node s netlist o h)

pub output-inside : (s : List ℕ) (netlist : Netlist) → Padded netlist → (o : ℕ) → o < netlist.node_count → is_register_output_at (get_elem? (decoded s netlist).nodes o) ≡ eqb (get_or netlist.nodes o no_node).kind register_output_kind
unfolding is_register_output_at
output-inside s netlist pad o h = rw (node_at s netlist pad o h) (register-output-is s (get_or netlist.nodes o no_node) (pad.nodes_padded.listed o))

-- the four checks of a register by their tests
module _ (i : ℕ) (m o t b : Bool) (after : Option Refusal) (f : false ≡ m) (g : o ≡ true) (h : false ≡ t) where
  twelve : false ≡ b → some (refusal 12 0 i) ≡ ((refuse_if 9 0 i m otherwise refuse_if 10 0 i (not o) otherwise refuse_if 11 0 i t otherwise refuse_if 12 0 i (not b)) otherwise after)
  unfolding refusal refuse_if ◌otherwise◌
  twelve e = rw (← f, g, ← h, ← e)

  passed : true ≡ b → after ≡ ((refuse_if 9 0 i m otherwise refuse_if 10 0 i (not o) otherwise refuse_if 11 0 i t otherwise refuse_if 12 0 i (not b)) otherwise after)
  unfolding refuse_if ◌otherwise◌
  passed e = rw (← f, g, ← h, ← e)

module _ (s : List ℕ) (netlist : Netlist) (names outputs : List ℕ) (i : ℕ) (so : RegistersChecked s netlist names outputs i) (pad : Padded netlist) where
  module _ (l : i < netlist.register_count) where
    -- the register in hand, and what is found of it
    cell : RegisterCell
    cell = get_or netlist.registers i no_register

    after : Option Refusal
    after = registers_fault (decoded s netlist).nodes (i + 1) (name_at s cell.name ∷ names_before s names i) (cell.output ∷ numbers_before outputs i) (drop (i + 1) (decoded s netlist).registers)

    whole : (register_fault (decoded s netlist).nodes i (names_before s names i) (numbers_before outputs i) (decoded_register s cell) otherwise after) ≡ registers_fault (decoded s netlist).nodes 0 [] [] (decoded s netlist).registers
    unfolding after cell registers_fault decoded_register
    whole = opened ∙ so.rest
      where
        opened : (register_fault (decoded s netlist).nodes i (names_before s names i) (numbers_before outputs i) (decoded_register s cell) otherwise after) ≡ registers_fault (decoded s netlist).nodes i (names_before s names i) (numbers_before outputs i) (drop i (decoded s netlist).registers)
        opened = rw (register-here s netlist pad i l, add-one i)

    pub name-repeats : true ≡ member_name (name_at s (get_or netlist.registers i no_register).name) (names_before s names i) → some (refusal 9 0 i) ≡ registers_fault (decoded s netlist).nodes 0 [] [] (decoded s netlist).registers
    unfolding cell register_fault decoded_register refusal refuse_if ◌otherwise◌
    name-repeats e = first ∙ whole
      where
        first : some (refusal 9 0 i) ≡ (register_fault (decoded s netlist).nodes i (names_before s names i) (numbers_before outputs i) (decoded_register s cell) otherwise after)
        first = rw (← e)

    module _ (n : false ≡ member_name (name_at s (get_or netlist.registers i no_register).name) (names_before s names i)) where
      pub no_output : is_register_output_at (get_elem? (decoded s netlist).nodes (get_or netlist.registers i no_register).output) ≡ false → some (refusal 10 0 i) ≡ registers_fault (decoded s netlist).nodes 0 [] [] (decoded s netlist).registers
      unfolding cell register_fault decoded_register refusal refuse_if ◌otherwise◌
      no_output e = first ∙ whole
        where
          first : some (refusal 10 0 i) ≡ (register_fault (decoded s netlist).nodes i (names_before s names i) (numbers_before outputs i) (decoded_register s cell) otherwise after)
          first = rw (← n, e)

      module _ (o : is_register_output_at (get_elem? (decoded s netlist).nodes (get_or netlist.registers i no_register).output) ≡ true) where
        pub output-taken : true ≡ member (get_or netlist.registers i no_register).output (numbers_before outputs i) → some (refusal 11 0 i) ≡ registers_fault (decoded s netlist).nodes 0 [] [] (decoded s netlist).registers
        unfolding cell register_fault decoded_register refusal refuse_if ◌otherwise◌
        output-taken e = first ∙ whole
          where
            first : some (refusal 11 0 i) ≡ (register_fault (decoded s netlist).nodes i (names_before s names i) (numbers_before outputs i) (decoded_register s cell) otherwise after)
            first = rw (← n, o, ← e)

        module _ (t : false ≡ member (get_or netlist.registers i no_register).output (numbers_before outputs i)) where
          pub nets_undefined : false ≡ all_below netlist.node_count (register_numbers (decoded_register s (get_or netlist.registers i no_register))) → some (refusal 12 0 i) ≡ registers_fault (decoded s netlist).nodes 0 [] [] (decoded s netlist).registers
          unfolding cell register_fault decoded_register
          nets_undefined e = twelve i _ _ _ _ after n o t (e ∙ ap (λ (k : ℕ). all_below k (register_numbers (decoded_register s (get_or netlist.registers i no_register)))) (sym (node-total s netlist pad))) ∙ whole

          pub register-checked : true ≡ all_below netlist.node_count (register_numbers (decoded_register s (get_or netlist.registers i no_register))) → RegistersChecked s netlist (set names i (get_or netlist.registers i no_register).name) (set outputs i (get_or netlist.registers i no_register).output) (i + 1)
          unfolding cell after register_fault decoded_register
          register-checked e =
              record {
                bound = omega arith;
                names_size = length-set names i (get_or netlist.registers i no_register).name ∙ so.names_size;
                outputs_size = length-set outputs i (get_or netlist.registers i no_register).output ∙ so.outputs_size;
                rest = kept ∙ passed i _ _ _ _ after n o t (e ∙ ap (λ (k : ℕ). all_below k (register_numbers (decoded_register s (get_or netlist.registers i no_register)))) (sym (node-total s netlist pad))) ∙ whole;
              }
            where
              kept : registers_fault (decoded s netlist).nodes (i + 1) (names_before s (set names i (get_or netlist.registers i no_register).name) (i + 1)) (numbers_before (set outputs i (get_or netlist.registers i no_register).output) (i + 1)) (drop (i + 1) (decoded s netlist).registers) ≡ after
              kept = refold
                where
                  refold : registers_fault (decoded s netlist).nodes (i + 1) (names_before s (set names i (get_or netlist.registers i no_register).name) (i + 1)) (numbers_before (set outputs i (get_or netlist.registers i no_register).output) (i + 1)) (drop (i + 1) (decoded s netlist).registers) ≡ registers_fault (decoded s netlist).nodes (i + 1) (name_at s cell.name ∷ names_before s names i) (cell.output ∷ numbers_before outputs i) (drop (i + 1) (decoded s netlist).registers)
                  refold = rw (names_more s names i (get_or netlist.registers i no_register).name (omega (arith, so.names_size, pad.registers_padded.fits)), numbers_more outputs i (get_or netlist.registers i no_register).output (omega (arith, so.outputs_size, pad.registers_padded.fits)))

  pub registers-all-checked : netlist.register_count ≤ i → none ≡ registers_fault (decoded s netlist).nodes 0 [] [] (decoded s netlist).registers
  unfolding registers_fault
  registers-all-checked l = empty ∙ so.rest
    where
      empty : none ≡ registers_fault (decoded s netlist).nodes i (names_before s names i) (numbers_before outputs i) (drop i (decoded s netlist).registers)
      empty = rw (no-registers s netlist i l)
