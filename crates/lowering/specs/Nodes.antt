-- The walk over all nodes of a decoded design. Assumes nothing.
use Rattle.std.specs.Prelude.{◌≡◌, refl, Bool, true, false, cond, ℕ, suc, ◌+◌, ◌*◌, ◌≤◌, ◌<◌, eqb, get_or, set}
use Rattle.std.proofs.Math.Path.{ap}
use Rattle.std.proofs.Common.{◌∙◌, arith, take-suc, get_or-take, ne_eqb}
use mathlib.Core.List.{List, [], ◌∷◌, ◌++◌}
use Rattle.std.proofs.Math.Numerals.{add-one}
use Rattle.std.proofs.Math.ListN.{length, take, length-take, length-map, get_or-map}
use Rattle.words.specs.Layout.{TABLE, NETS, STATES}
use Rattle.words.specs.Region.{region}
use Rattle.model.specs.Aig.{variable}
use Rattle.model.specs.Kinds.{input_kind, constant_kind, register_output_kind, not_kind, output_kind, and_kind, or_kind, xor_kind, mux_kind, by_kind}
use Rattle.model.specs.Names.{Name}
use Rattle.model.specs.Netlist.{is_register_output, Register, RegisterOutput}
use Rattle.model.specs.Netlist as Model
use Rattle.model.specs.Record.{node_of}
use Rattle.model.specs.Transition.{Lowering, driver_reset, shown, lower_node, lower_nodes, no_nodes}
use Rattle.laws.specs.Record.Kinds.{by_kind_lem}
use Rattle.struo_ir.specs.Decoded.{decoded_node, name_at, decoded}
use Rattle.struo_ir.specs.declared.netlist.Node.{Node}
use Rattle.struo_ir.specs.declared.netlist.Netlist.{Netlist}
use Rattle.drivers.specs.Drivers.{driver_by}
use Rattle.aig.specs.Graph.{graph_of}
use Rattle.aig.specs.Made.{Same, same_refl, same_trans}
use Rattle.lowering.specs.declared.resets.ResetCell.{ResetCell}
use Rattle.lowering.specs.Gate.{gate_by, gate_of_lem, Netted}
use Rattle.lowering.specs.Walk.{Walked, elsewhere}
use Rattle.lowering.specs.Step.{Entered, reset_of, walked-gate, walked-register}
use Rattle.lowering.specs.Driver.{Driven}

-- ---- one node

-- From c nodes in w the walk took one node of the netlist at net `net`.
pub record Taken (node : Node) (n : Netlist) (net c : ℕ) (w : List ℕ) (c' : ℕ) (w' : List ℕ) : Type 0 where
  pub netted : Netted c' w'
  pub same : Same elsewhere w w'
  pub within : c' ≤ c + 4
  pub walked : (s : List ℕ) (l : Lowering) → Walked l net c w → Walked (lower_node (decoded s n).registers l net (decoded_node s node)) (net + 1) c' w'

-- a choice of false or what is false
false_either : (t : Bool) {x : Bool} → x ≡ false → cond t false x ≡ false
false_either true e = refl
false_either false e = e

no_register : (k : ℕ) (n : Name) (v : ℕ) (ins : List ℕ) → (k ≡ register_output_kind → ⊥) → is_register_output (node_of k n v ins) ≡ false
unfolding node_of is_register_output by_kind
no_register k n v ins e =
    by_kind_lem is_register_output k _ _ _ _ _ _ _ _ _ _
    ∙ rw (ne_eqb k register_output_kind e)
    (false_either (eqb k input_kind) (false_either (eqb k constant_kind) (false_either (eqb k not_kind) (false_either (eqb k output_kind)
    (false_either (eqb k and_kind) (false_either (eqb k or_kind) (false_either (eqb k xor_kind) (false_either (eqb k mux_kind) refl))))))))

a-register : (k : ℕ) (n : Name) (v : ℕ) (ins : List ℕ) → k ≡ register_output_kind → node_of k n v ins ≡ RegisterOutput
unfolding node_of by_kind
a-register k n v ins e = rw e

module _ (node : Node) (n : Netlist) (net c c' : ℕ) (w w' : List ℕ) (before : Netted c w) (small : net < TABLE) where
  -- no register output
  pub taken-gate : (node.kind ≡ register_output_kind → ⊥)
      → Entered 3 net c w c' w' (region STATES w) (gate_by (graph_of c w) (region NETS w) node.kind node.detail node.first node.second node.third)
      → Taken node n net c w c' w'
  unfolding decoded_node
  taken-gate h e =
      record {
        netted = e.netted;
        same = e.same;
        within = omega (arith, e.within);
        walked = λ s l at.
            walked-gate (decoded s n).registers l net c c' w w' 3 small before.ready.long at (decoded_node s node)
            (no_register node.kind (name_at s node.detail) node.detail _ h)
            (rw (← (gate_of_lem (graph_of c w) (region NETS w) node.kind (name_at s node.detail) node.detail node.first node.second node.third)) at e);
      }

  -- a register output
  pub taken-register : (reset : ResetCell) (entry : ℕ) → node.kind ≡ register_output_kind → Driven n net entry → ((s : List ℕ) → reset_of reset ≡ driver_reset (driver_by s n.registers entry))
      → Entered 4 net c w c' w' (set (region STATES w) net (variable (graph_of c w)).literal)
      (shown (variable (graph_of c w)).aig (region NETS w) (reset_of reset) (variable (graph_of c w)).literal)
      → Taken node n net c w c' w'
  unfolding decoded_node
  taken-register reset entry h d r e =
      record {
        netted = e.netted;
        same = e.same;
        within = omega (arith, e.within);
        walked = λ s l at.
            rw (a-register node.kind (name_at s node.detail) node.detail (node.first ∷ node.second ∷ node.third ∷ []) h)
            (walked-register (decoded s n).registers l net c c' w w' 4 small before.ready.long at (rw (r s ∙ ap driver_reset (d s)) at e));
      }

-- ---- all nodes

lower_snoc : (rs : List Register) (l : Lowering) (net : ℕ) (ns : List Model.Node) (n : Model.Node)
    → lower_nodes rs l net (ns ++ (n ∷ [])) ≡ lower_node rs (lower_nodes rs l net ns) (net + length ns) n
unfolding lower_nodes
lower_snoc rs l net [] n = ap (λ (k : ℕ). lower_node rs l k n) (omega arith)
lower_snoc rs l net (m ∷ ns) n =
    lower_snoc rs (lower_node rs l net m) (suc net) ns n ∙ ap (λ (k : ℕ). lower_node rs (lower_nodes rs (lower_node rs l net m) (suc net) ns) k n) (omega arith)

-- From c₀ nodes in w₀ the walk took the first i nodes.
pub record Walking (n : Netlist) (c₀ : ℕ) (w₀ : List ℕ) (i c : ℕ) (w : List ℕ) : Type 0 where
  pub netted : Netted c w
  pub same : Same elsewhere w₀ w
  pub within : c ≤ c₀ + 4 * i
  pub walked : (s : List ℕ) → Walked no_nodes 0 c₀ w₀ → Walked (lower_nodes (decoded s n).registers no_nodes 0 (take i (decoded s n).nodes)) i c w

module _ (n : Netlist) (c₀ : ℕ) (w₀ : List ℕ) where
  pub walking_none : Netted c₀ w₀ → Walking n c₀ w₀ 0 c₀ w₀
  unfolding lower_nodes
  walking_none h = record { netted = h; same = same_refl elsewhere w₀; within = omega arith; walked = λ s at. at }

  -- one node more
  pub walking_more : (i c c' : ℕ) (w w' : List ℕ) (d : Node) → i < n.node_count → n.node_count ≤ length n.nodes → Walking n c₀ w₀ i c w → Taken (get_or n.nodes i d) n i c w c' w'
      → Walking n c₀ w₀ (i + 1) c' w'
  unfolding decoded
  walking_more i c c' w w' d h k a t =
      record {
        netted = t.netted;
        same = same_trans a.same t.same;
        within = omega (arith, a.within, t.within);
        walked = λ s at. rw (step s) (t.walked s _ (a.walked s at));
      }
    where
      step : (s : List ℕ) → lower_nodes (decoded s n).registers no_nodes 0 (take (i + 1) (decoded s n).nodes)
          ≡ lower_node (decoded s n).registers (lower_nodes (decoded s n).registers no_nodes 0 (take i (decoded s n).nodes)) i (decoded_node s (get_or n.nodes i d))
      step s =
          let R : List Register = (decoded s n).registers in
          let N : List Model.Node = (decoded s n).nodes in
          let m : i < length N = rw length-map (simp length-take (omega arith)) in
          let p : take (i + 1) N ≡ take i N ++ (decoded_node s (get_or n.nodes i d) ∷ []) =
          rw add-one
          (take-suc N i (decoded_node s d) m
          ∙ ap (λ (x : Model.Node). take i N ++ (x ∷ [])) (get_or-map (decoded_node s) (take n.node_count n.nodes) i d ∙ ap (decoded_node s) (get_or-take n.node_count n.nodes i d h))) in
          let q : 0 + length (take i N) ≡ i = simp length-take (omega arith) in
          ap (λ (x : List Model.Node). lower_nodes R no_nodes 0 x) p
          ∙ lower_snoc R no_nodes 0 (take i N) (decoded_node s (get_or n.nodes i d))
          ∙ ap (λ (j : ℕ). lower_node R (lower_nodes R no_nodes 0 (take i N)) j (decoded_node s (get_or n.nodes i d))) q
