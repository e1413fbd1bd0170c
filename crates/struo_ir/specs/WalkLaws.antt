-- The nodes and registers of a decoded netlist, one after the other and by number. Assumes nothing.
use Rattle.std.specs.Prelude.{ℕ, ◌+◌, ◌≤◌, ◌<◌, ◌≡◌, List, [], ◌∷◌, length, get_or, drop}
use Rattle.std.proofs.Math.Option.{none, some}
use Rattle.std.proofs.Common.{arith}
use Rattle.std.proofs.Math.ListN.{get_elem?}
use Rattle.struo_ir.specs.declared.netlist.Netlist.{Netlist}
use Rattle.struo_ir.specs.Decoded.{decoded_node, decoded_register, decoded}
use Rattle.struo_ir.specs.Designs.{Padded}
use Rattle.struo_ir.specs.Nodes.{no_node}
use Rattle.struo_ir.specs.Registers.{no_register}
use Rattle.struo_ir.specs.ListLaws.{drop-map-take, drop-map-all, element, no_element, length-map-take}

module _ (s : List ℕ) (netlist : Netlist) where
  -- no node is left
  pub no-nodes : (i : ℕ) → netlist.node_count ≤ i → drop i (decoded s netlist).nodes ≡ []
  unfolding decoded
  no-nodes i h = drop-map-all (decoded_node s) netlist.nodes netlist.node_count i h

  -- no register is left
  pub no-registers : (i : ℕ) → netlist.register_count ≤ i → drop i (decoded s netlist).registers ≡ []
  unfolding decoded
  no-registers i h = drop-map-all (decoded_register s) netlist.registers netlist.register_count i h

  -- a number past the nodes
  pub no-node : (i : ℕ) → netlist.node_count ≤ i → get_elem? (decoded s netlist).nodes i ≡ none
  unfolding decoded
  no-node i h = no_element (decoded_node s) netlist.nodes netlist.node_count i h

  module _ (pad : Padded netlist) where
    -- the node in hand, and those after it
    pub node-here : (i : ℕ) → i < netlist.node_count → drop i (decoded s netlist).nodes ≡ decoded_node s (get_or netlist.nodes i no_node) ∷ drop (i + 1) (decoded s netlist).nodes
    unfolding decoded
    node-here i l = drop-map-take (decoded_node s) netlist.nodes netlist.node_count i no_node l (omega (arith, pad.nodes_padded.size, pad.nodes_padded.fits))

    -- the register in hand, and those after it
    pub register-here : (i : ℕ) → i < netlist.register_count → drop i (decoded s netlist).registers ≡ decoded_register s (get_or netlist.registers i no_register) ∷ drop (i + 1) (decoded s netlist).registers
    unfolding decoded
    register-here i l = drop-map-take (decoded_register s) netlist.registers netlist.register_count i no_register l (omega (arith, pad.registers_padded.size, pad.registers_padded.fits))

    -- the node of a number
    pub node_at : (i : ℕ) → i < netlist.node_count → get_elem? (decoded s netlist).nodes i ≡ some (decoded_node s (get_or netlist.nodes i no_node))
    unfolding decoded
    node_at i l = element (decoded_node s) netlist.nodes netlist.node_count i no_node l (omega (arith, pad.nodes_padded.size, pad.nodes_padded.fits))

    -- as many nodes as are counted
    pub node-total : length (decoded s netlist).nodes ≡ netlist.node_count
    unfolding decoded
    node-total = length-map-take (decoded_node s) netlist.nodes netlist.node_count (omega (arith, pad.nodes_padded.size, pad.nodes_padded.fits))
