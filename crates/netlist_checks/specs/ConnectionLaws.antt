-- The walk of 13 over the nodes, by the table of drivers. Assumes nothing.
use Rattle.std.specs.Prelude.{ℕ, zero, suc, ◌+◌, ◌≤◌, ◌<◌, ◌≡◌, refl, true, false, ◌&&◌, List, get_or, drop, eqb}
use Rattle.std.proofs.Math.Path.{sym}
use Rattle.std.proofs.Common.{◌∙◌, arith, ne_eqb}
use Rattle.std.proofs.Math.Option.{none, some}
use Rattle.std.proofs.Math.Numerals.{add-one}
use Rattle.model.specs.Kinds.{register_output_kind}
use Rattle.model.specs.Netlist.{is_register_output}
use Rattle.model.specs.Validate.{driver, undriven, connection_fault}
use Rattle.calls.specs.Faults.{refusal}
use Rattle.struo_ir.specs.declared.netlist.RegisterCell.{RegisterCell}
use Rattle.struo_ir.specs.declared.netlist.Netlist.{Netlist}
use Rattle.struo_ir.specs.Decoded.{decoded_node, decoded}
use Rattle.struo_ir.specs.Designs.{Padded}
use Rattle.struo_ir.specs.Nodes.{no_node}
use Rattle.drivers.specs.Drivers.{driver_by, Drivers}
use Rattle.calls.specs.FaultLaws.{refused_by, passed_by}
use Rattle.struo_ir.specs.KindLaws.{register-output-is}
use Rattle.struo_ir.specs.WalkLaws.{no-nodes, node-here}

undriven_by : (s : List ℕ) (registers : List RegisterCell) (d : ℕ) → undriven (driver_by s registers d) ≡ eqb d 0
unfolding undriven driver_by
undriven_by s registers zero = refl
undriven_by s registers (suc k) = sym (ne_eqb (suc k) 0 (λ (g : suc k ≡ 0). omega arith))

module _ (s : List ℕ) (netlist : Netlist) (table : List ℕ) (drivers : Drivers netlist table) (pad : Padded netlist) (i : ℕ) (l : i < netlist.node_count) where
  test : (is_register_output (decoded_node s (get_or netlist.nodes i no_node)) && undriven (driver (decoded s netlist).registers i)) ≡ (eqb (get_or netlist.nodes i no_node).kind register_output_kind && eqb (get_or table i 0) 0)
  test = rw (register-output-is s (get_or netlist.nodes i no_node) (pad.nodes_padded.listed i), ← drivers.drives s i (omega (arith, pad.nodes_padded.fits)), undriven_by s netlist.registers (get_or table i 0))

  -- no register drives the node
  pub unconnected : true ≡ (eqb (get_or netlist.nodes i no_node).kind register_output_kind && eqb (get_or table i 0) 0) → some (refusal 13 0 i) ≡ connection_fault (decoded s netlist).registers i (drop i (decoded s netlist).nodes)
  unfolding connection_fault
  unconnected e = rw (node-here s netlist pad i l) (refused_by 13 i _ _ (e ∙ sym test))

  -- the node is passed
  pub connected : false ≡ (eqb (get_or netlist.nodes i no_node).kind register_output_kind && eqb (get_or table i 0) 0) → connection_fault (decoded s netlist).registers (i + 1) (drop (i + 1) (decoded s netlist).nodes) ≡ connection_fault (decoded s netlist).registers i (drop i (decoded s netlist).nodes)
  unfolding connection_fault
  connected e = rw (node-here s netlist pad i l, add-one i) (passed_by 13 i _ _ (e ∙ sym test))

-- no node is left
pub all-connected : (s : List ℕ) (netlist : Netlist) (i : ℕ) → netlist.node_count ≤ i → none ≡ connection_fault (decoded s netlist).registers i (drop i (decoded s netlist).nodes)
unfolding connection_fault
all-connected s netlist i h = rw (no-nodes s netlist i h)
