-- What the walk over the nodes keeps. Definitions only.
use Rattle.std.specs.Prelude.{ℕ, ◌≤◌, ◌≡◌, List, [], length, drop}
use Rattle.model.specs.Validate.{nodes_fault}
use Rattle.struo_ir.specs.declared.netlist.Netlist.{Netlist}
use Rattle.struo_ir.specs.Decoded.{decoded}
use Rattle.netlist_checks.specs.Seen.{names_before}

-- the walk after i nodes, with so many ports: what is left to check gives the whole
pub record NodesChecked (s : List ℕ) (netlist : Netlist) (ports : List ℕ) (found i : ℕ) : Type 0 where
  pub bound : i ≤ netlist.node_count
  pub few : found ≤ i
  pub size : length ports ≡ 1024
  pub rest : nodes_fault i (names_before s ports found) (drop i (decoded s netlist).nodes) ≡ nodes_fault 0 [] (decoded s netlist).nodes
