-- A late reset by a register's fields, and the walk of 14 over the nodes, by the table of drivers. Assumes nothing.
use Rattle.std.specs.Prelude.{ℕ, zero, suc, ◌+◌, ◌%◌, ◌≤◌, ◌<◌, ◌≡◌, refl, Bool, true, false, ◌&&◌, List, get_or, drop, eqb, leb}
use Rattle.std.proofs.Math.Path.{sym}
use Rattle.std.proofs.Common.{◌∙◌, arith, ne_eqb}
use Rattle.std.proofs.Math.Option.{none, some}
use Rattle.std.proofs.Math.Numerals.{add-one}
use Rattle.model.specs.Kinds.{register_output_kind}
use Rattle.model.specs.Netlist.{is_register_output}
use Rattle.model.specs.Record.{bit}
use Rattle.model.specs.Validate.{driver, late_reset, late_driver, reset_fault}
use Rattle.calls.specs.Faults.{refusal}
use Rattle.struo_ir.specs.declared.netlist.RegisterCell.{RegisterCell}
use Rattle.struo_ir.specs.declared.netlist.Netlist.{Netlist}
use Rattle.struo_ir.specs.Decoded.{decoded_node, decoded_reset, cell_reset, decoded_register, decoded}
use Rattle.struo_ir.specs.Designs.{Padded}
use Rattle.struo_ir.specs.Nodes.{no_node}
use Rattle.struo_ir.specs.Registers.{no_register}
use Rattle.drivers.specs.Drivers.{driver_by, Drivers}
use Rattle.netlist_checks.specs.ResetChecks.{late_cell}
use Rattle.calls.specs.FaultLaws.{refused_by, passed_by}
use Rattle.struo_ir.specs.KindLaws.{register-output-is}
use Rattle.struo_ir.specs.WalkLaws.{no-nodes, node-here}

-- ---- a late reset by a register's fields

pub late_undriven : (driver : ℕ) (r : RegisterCell) (i : ℕ) → driver ≡ 0 → false ≡ late_cell driver r i
unfolding late_cell
late_undriven driver r i e = rw e

-- a driver's reset decides
driven : (driver : ℕ) (r : RegisterCell) (i : ℕ) (b : Bool) → b ≡ late_reset i (cell_reset r) → (driver ≡ 0 → false ≡ b) → b ≡ late_cell driver r i
unfolding late_cell
driven zero r i b e f = sym (f refl)
driven (suc k) r i b e f = e

pub late_unreset : (driver : ℕ) (r : RegisterCell) (i : ℕ) → r.reset ≡ 0 → false ≡ late_cell driver r i
unfolding late_reset cell_reset decoded_reset
late_unreset driver r i e = driven driver r i false (rw e) (λ z. refl)

synchronous : (i c n k v : ℕ) → (k ≡ 1 → ⊥) → false ≡ late_reset i (decoded_reset c n k v)
unfolding late_reset decoded_reset bit
synchronous i zero n k v h = refl
synchronous i (suc c) n k v h = rw (ne_eqb k 1 h)

pub late_synchronous : (driver : ℕ) (r : RegisterCell) (i : ℕ) → (r.reset_kind ≡ 1 → ⊥) → false ≡ late_cell driver r i
unfolding cell_reset
late_synchronous driver r i h = driven driver r i false (synchronous i r.reset r.reset_signal r.reset_kind r.reset_value h) (λ z. refl)

asynchronous : (i c n k v : ℕ) → (c ≡ 0 → ⊥) → k ≡ 1 → leb i n ≡ late_reset i (decoded_reset c n k v)
unfolding late_reset decoded_reset bit
asynchronous i zero n k v h e = absurd (h refl)
asynchronous i (suc c) n k v h e = rw e

pub late_signal : (driver : ℕ) (r : RegisterCell) (i : ℕ) → (driver ≡ 0 → ⊥) → (r.reset ≡ 0 → ⊥) → r.reset_kind ≡ 1 → leb i r.reset_signal ≡ late_cell driver r i
unfolding cell_reset
late_signal driver r i h f e = driven driver r i (leb i r.reset_signal) (asynchronous i r.reset r.reset_signal r.reset_kind r.reset_value f e) (λ z. absurd (h z))

-- ---- the walk

late_by : (s : List ℕ) (registers : List RegisterCell) (d i : ℕ) → d ≤ 128 → late_driver i (driver_by s registers d) ≡ late_cell d (get_or registers ((d + 127) % 128) no_register) i
unfolding late_driver driver_by late_cell cell_reset decoded_register
late_by s registers zero i h = refl
late_by s registers (suc k) i h = let e : (suc k + 127) % 128 ≡ k = omega arith in rw e

module _ (s : List ℕ) (netlist : Netlist) (table : List ℕ) (drivers : Drivers netlist table) (pad : Padded netlist) (i : ℕ) (l : i < netlist.node_count) where
  test : (is_register_output (decoded_node s (get_or netlist.nodes i no_node)) && late_driver i (driver (decoded s netlist).registers i)) ≡ (eqb (get_or netlist.nodes i no_node).kind register_output_kind && late_cell (get_or table i 0) (get_or netlist.registers ((get_or table i 0 + 127) % 128) no_register) i)
  test = rw (register-output-is s (get_or netlist.nodes i no_node) (pad.nodes_padded.listed i), ← drivers.drives s i (omega (arith, pad.nodes_padded.fits)), late_by s netlist.registers (get_or table i 0) i (drivers.small i))

  module _ (k : ℕ) (q : k ≡ (get_or table i 0 + 127) % 128) where
    -- the node's reset is late
    pub late : true ≡ (eqb (get_or netlist.nodes i no_node).kind register_output_kind && late_cell (get_or table i 0) (get_or netlist.registers k no_register) i) → some (refusal 14 0 i) ≡ reset_fault (decoded s netlist).registers i (drop i (decoded s netlist).nodes)
    unfolding reset_fault
    late e = rw (node-here s netlist pad i l) (refused_by 14 i _ _ (rw q at e ∙ sym test))

    -- the node is passed
    pub early : false ≡ (eqb (get_or netlist.nodes i no_node).kind register_output_kind && late_cell (get_or table i 0) (get_or netlist.registers k no_register) i) → reset_fault (decoded s netlist).registers (i + 1) (drop (i + 1) (decoded s netlist).nodes) ≡ reset_fault (decoded s netlist).registers i (drop i (decoded s netlist).nodes)
    unfolding reset_fault
    early e = rw (node-here s netlist pad i l, add-one i) (passed_by 14 i _ _ (rw q at e ∙ sym test))

-- no node is left
pub all-early : (s : List ℕ) (netlist : Netlist) (i : ℕ) → netlist.node_count ≤ i → none ≡ reset_fault (decoded s netlist).registers i (drop i (decoded s netlist).nodes)
unfolding reset_fault
all-early s netlist i h = rw (no-nodes s netlist i h)
