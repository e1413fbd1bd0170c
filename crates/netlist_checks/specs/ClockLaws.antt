-- The walk of 15 over the registers. Assumes nothing.
use Rattle.std.specs.Prelude.{ℕ, ◌+◌, ◌≤◌, ◌<◌, ◌≡◌, false, List, get_or, drop, eqb}
use Rattle.std.proofs.Common.{sym, ap, ◌∙◌}
use Rattle.std.proofs.Math.Bool.{not}
use Rattle.std.proofs.Math.Option.{none, some}
use Rattle.std.proofs.Math.Numerals.{add-one}
use Rattle.std.proofs.Math.ListN.{get_elem?}
use borrow.Author.Tests.{eq-eqb, ne_eqb}
use Rattle.model.specs.Kinds.{input_kind}
use Rattle.model.specs.Validate.{is_input_at, clock_fault}
use Rattle.calls.specs.Faults.{refusal}
use Rattle.struo_ir.specs.declared.netlist.Netlist.{Netlist}
use Rattle.struo_ir.specs.Decoded.{decoded_register, decoded}
use Rattle.struo_ir.specs.Designs.{Padded}
use Rattle.struo_ir.specs.Nodes.{no_node}
use Rattle.struo_ir.specs.Registers.{no_register}
use Rattle.calls.specs.FaultLaws.{refused_by, passed_by}
use Rattle.struo_ir.specs.KindLaws.{input-is}
use Rattle.struo_ir.specs.WalkLaws.{no-registers, no-node, register-here, node_at}

module _ (s : List ℕ) (netlist : Netlist) (pad : Padded netlist) (i : ℕ) (l : i < netlist.register_count) where
  -- the clock of the register in hand
  clock : ℕ
  clock = (get_or netlist.registers i no_register).clock

  no-clock : is_input_at (get_elem? (decoded s netlist).nodes clock) ≡ false → some (refusal 15 0 i) ≡ clock_fault (decoded s netlist).nodes i (drop i (decoded s netlist).registers)
  unfolding clock clock_fault decoded_register
  no-clock e = rw (register-here s netlist pad i l) (refused_by 15 i _ _ (ap not (sym e)))

  -- the clock is no node
  pub clock_undefined : netlist.node_count ≤ (get_or netlist.registers i no_register).clock → some (refusal 15 0 i) ≡ clock_fault (decoded s netlist).nodes i (drop i (decoded s netlist).registers)
  unfolding clock is_input_at
  clock_undefined h = no-clock (rw (no-node s netlist clock h))

  module _ (h : (get_or netlist.registers i no_register).clock < netlist.node_count) where
    by_kind_byte : is_input_at (get_elem? (decoded s netlist).nodes clock) ≡ eqb (get_or netlist.nodes clock no_node).kind input_kind
    unfolding clock is_input_at
    by_kind_byte = rw (node_at s netlist pad clock h) (input-is s (get_or netlist.nodes clock no_node) (pad.nodes_padded.listed clock))

    -- the clock is another node than an Input
    pub clock_other : ((get_or netlist.nodes (get_or netlist.registers i no_register).clock no_node).kind ≡ input_kind → ⊥) → some (refusal 15 0 i) ≡ clock_fault (decoded s netlist).nodes i (drop i (decoded s netlist).registers)
    unfolding clock
    clock_other f = no-clock (by_kind_byte ∙ ne_eqb _ _ f)

    -- the register is passed
    pub clock-input : (get_or netlist.nodes (get_or netlist.registers i no_register).clock no_node).kind ≡ input_kind → clock_fault (decoded s netlist).nodes (i + 1) (drop (i + 1) (decoded s netlist).registers) ≡ clock_fault (decoded s netlist).nodes i (drop i (decoded s netlist).registers)
    unfolding clock clock_fault decoded_register
    clock-input f = rw (register-here s netlist pad i l, add-one i) (passed_by 15 i _ _ (ap not (sym (by_kind_byte ∙ eq-eqb _ _ f))))

-- no register is left
pub all-clocked : (s : List ℕ) (netlist : Netlist) (i : ℕ) → netlist.register_count ≤ i → none ≡ clock_fault (decoded s netlist).nodes i (drop i (decoded s netlist).registers)
unfolding clock_fault
all-clocked s netlist i h = rw (no-registers s netlist i h)
