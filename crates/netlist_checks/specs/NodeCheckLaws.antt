-- The checks of a node, 7 and 8, by its fields; the walk over the nodes. Assumes nothing.
use Rattle.std.specs.Prelude.{ℕ, zero, suc, ◌+◌, ◌≤◌, ◌<◌, ◌≡◌, refl, Bool, true, false, not, ◌&&◌, List, [], ◌∷◌, length, get_or, take, drop, set, replicate, ltb}
use Rattle.std.specs.List.{list_all}
use Rattle.std.proofs.Common.{ap, ◌∙◌}
use Rattle.std.proofs.Math.Bool.{cond}
use Rattle.std.proofs.Math.Option.{none, some}
use native.Mathlib.Omega.{arith}
use Rattle.std.proofs.Math.Numerals.{add-one}
use Rattle.std.proofs.Math.ListN.{length-set}
use Rattle.std.proofs.lemmas.List.{length-replicate}
use borrow.Author.Tests.{lt-ltb}
use Rattle.facts.specs.Numbers.{cond_le}
use Rattle.model.specs.Names.{Name, member_name}
use Rattle.model.specs.Record.{inputs_per_kind, has_name}
use Rattle.model.specs.Validate.{◌otherwise◌, refuse_if, all_below, add_name, port_name, repeats, node_fault, nodes_fault}
use Rattle.calls.specs.Faults.{refusal}
use Rattle.fields.specs.FieldLaws.{and_true}
use Rattle.struo_ir.specs.declared.netlist.Node.{Node}
use Rattle.struo_ir.specs.declared.netlist.Netlist.{Netlist}
use Rattle.struo_ir.specs.Decoded.{name_at, decoded_node, decoded}
use Rattle.struo_ir.specs.Designs.{Padded}
use Rattle.struo_ir.specs.Nodes.{no_node}
use Rattle.netlist_checks.specs.Seen.{names_before}
use Rattle.netlist_checks.specs.NodeChecks.{NodesChecked}
use Rattle.struo_ir.specs.KindLaws.{numbers_are, port_is}
use Rattle.netlist_checks.specs.SeenLaws.{names-kept, names_more}
use Rattle.struo_ir.specs.WalkLaws.{no-nodes, node-here}

-- ---- numbers below i

-- the definition's recursion is the library's test of each element
pub each-below : (i : ℕ) (ns : List ℕ) → list_all (λ n. ltb n i) ns ≡ all_below i ns
unfolding all_below
each-below i [] = refl
each-below i (n ∷ ns) = ap (λ (b : Bool). ltb n i && b) (each-below i ns)

-- of three numbers, the third decides where the first two are below
pub below-third : (i c a b d : ℕ) → 3 ≤ c → a < i → b < i → ltb d i ≡ all_below i (take c (a ∷ b ∷ d ∷ []))
unfolding all_below
below-third i zero a b d h l m = absurd (omega arith)
below-third i (suc zero) a b d h l m = absurd (omega arith)
below-third i (suc (suc zero)) a b d h l m = absurd (omega arith)
below-third i (suc (suc (suc zero))) a b d h l m = rw (lt-ltb a i l, lt-ltb b i m) (and_true (ltb d i))
below-third i (suc (suc (suc (suc c)))) a b d h l m = rw (lt-ltb a i l, lt-ltb b i m) (and_true (ltb d i))

-- ---- the walk

repeats_if : (h : Bool) (x : Name) (names : List Name) → repeats names (cond h (some x) none) ≡ cond h (member_name x names) false
unfolding repeats
repeats_if true x names = refl
repeats_if false x names = refl

names_if : (s ports : List ℕ) (found place : ℕ) (h : Bool) → found < length ports → names_before s (set ports found place) (found + cond h 1 0) ≡ add_name (cond h (some (name_at s place)) none) (names_before s ports found)
unfolding add_name
names_if s ports found place true l = names_more s ports found place l
names_if s ports found place false l = let e : found + 0 ≡ found = omega arith in rw e (names-kept s ports found found place (omega arith))

pub nodes_unchecked : (s : List ℕ) (netlist : Netlist) → NodesChecked s netlist (replicate 1024 0) 0 0
unfolding names_before
nodes_unchecked s netlist = record { bound = omega arith; few = omega arith; size = length-replicate {A = ℕ} 1024 0; rest = refl }

module _ (s : List ℕ) (netlist : Netlist) (ports : List ℕ) (found i : ℕ) (so : NodesChecked s netlist ports found i) (pad : Padded netlist) where
  module _ (l : i < netlist.node_count) where
    -- the node in hand
    cell : Node
    cell = get_or netlist.nodes i no_node

    fault : node_fault i (names_before s ports found) (decoded_node s cell) ≡ (refuse_if 7 0 i (not (all_below i (take (inputs_per_kind cell.kind) (cell.first ∷ cell.second ∷ cell.third ∷ [])))) otherwise refuse_if 8 0 i (cond (has_name cell.kind) (member_name (name_at s cell.detail) (names_before s ports found)) false))
    unfolding node_fault cell
    fault = rw (numbers_are s (get_or netlist.nodes i no_node) (pad.nodes_padded.listed i), port_is s (get_or netlist.nodes i no_node) (pad.nodes_padded.listed i), repeats_if (has_name (get_or netlist.nodes i no_node).kind) (name_at s (get_or netlist.nodes i no_node).detail) (names_before s ports found))

    whole : (node_fault i (names_before s ports found) (decoded_node s cell) otherwise nodes_fault (i + 1) (add_name (port_name (decoded_node s cell)) (names_before s ports found)) (drop (i + 1) (decoded s netlist).nodes)) ≡ nodes_fault 0 [] (decoded s netlist).nodes
    unfolding cell nodes_fault
    whole = opened ∙ so.rest
      where
        opened : (node_fault i (names_before s ports found) (decoded_node s cell) otherwise nodes_fault (i + 1) (add_name (port_name (decoded_node s cell)) (names_before s ports found)) (drop (i + 1) (decoded s netlist).nodes)) ≡ nodes_fault i (names_before s ports found) (drop i (decoded s netlist).nodes)
        opened = rw (node-here s netlist pad i l, add-one i)

    pub node_undefined : false ≡ all_below i (take (inputs_per_kind (get_or netlist.nodes i no_node).kind) ((get_or netlist.nodes i no_node).first ∷ (get_or netlist.nodes i no_node).second ∷ (get_or netlist.nodes i no_node).third ∷ [])) → some (refusal 7 0 i) ≡ nodes_fault 0 [] (decoded s netlist).nodes
    unfolding cell refusal refuse_if ◌otherwise◌
    node_undefined e = first ∙ whole
      where
        first : some (refusal 7 0 i) ≡ (node_fault i (names_before s ports found) (decoded_node s cell) otherwise nodes_fault (i + 1) (add_name (port_name (decoded_node s cell)) (names_before s ports found)) (drop (i + 1) (decoded s netlist).nodes))
        first = rw (fault, ← e)

    module _ (e : true ≡ all_below i (take (inputs_per_kind (get_or netlist.nodes i no_node).kind) ((get_or netlist.nodes i no_node).first ∷ (get_or netlist.nodes i no_node).second ∷ (get_or netlist.nodes i no_node).third ∷ []))) where
      pub node_repeated : true ≡ cond (has_name (get_or netlist.nodes i no_node).kind) (member_name (name_at s (get_or netlist.nodes i no_node).detail) (names_before s ports found)) false → some (refusal 8 0 i) ≡ nodes_fault 0 [] (decoded s netlist).nodes
      unfolding cell refusal refuse_if ◌otherwise◌
      node_repeated f = first ∙ whole
        where
          first : some (refusal 8 0 i) ≡ (node_fault i (names_before s ports found) (decoded_node s cell) otherwise nodes_fault (i + 1) (add_name (port_name (decoded_node s cell)) (names_before s ports found)) (drop (i + 1) (decoded s netlist).nodes))
          first = rw (fault, ← e, ← f)

      pub node-checked : false ≡ cond (has_name (get_or netlist.nodes i no_node).kind) (member_name (name_at s (get_or netlist.nodes i no_node).detail) (names_before s ports found)) false → NodesChecked s netlist (set ports found (get_or netlist.nodes i no_node).detail) (found + cond (has_name (get_or netlist.nodes i no_node).kind) 1 0) (i + 1)
      unfolding cell refusal refuse_if ◌otherwise◌
      node-checked f =
          record {
            bound = omega arith;
            few = omega (arith, so.few, cond_le (has_name (get_or netlist.nodes i no_node).kind));
            size = length-set ports found (get_or netlist.nodes i no_node).detail ∙ so.size;
            rest = next ∙ whole;
          }
        where
          next : nodes_fault (i + 1) (names_before s (set ports found (get_or netlist.nodes i no_node).detail) (found + cond (has_name (get_or netlist.nodes i no_node).kind) 1 0)) (drop (i + 1) (decoded s netlist).nodes) ≡ (node_fault i (names_before s ports found) (decoded_node s cell) otherwise nodes_fault (i + 1) (add_name (port_name (decoded_node s cell)) (names_before s ports found)) (drop (i + 1) (decoded s netlist).nodes))
          next = rw (fault, ← e, ← f, port_is s (get_or netlist.nodes i no_node) (pad.nodes_padded.listed i), names_if s ports found (get_or netlist.nodes i no_node).detail (has_name (get_or netlist.nodes i no_node).kind) (omega (arith, so.size, so.few, so.bound, pad.nodes_padded.fits)))

  pub nodes-all-checked : netlist.node_count ≤ i → none ≡ nodes_fault 0 [] (decoded s netlist).nodes
  unfolding nodes_fault
  nodes-all-checked l = empty ∙ so.rest
    where
      empty : none ≡ nodes_fault i (names_before s ports found) (drop i (decoded s netlist).nodes)
      empty = rw (no-nodes s netlist i l)
