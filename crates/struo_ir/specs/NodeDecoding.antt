-- A node as the reader keeps it stands for the definition's node; the ports among the nodes. Assumes nothing.
use Rattle.std.specs.Prelude.{ℕ, ◌+◌, Bool, cond, ◌||◌, length, eqb}
use Rattle.std.proofs.Math.Path.{◌≡◌, refl, sym, ap}
use Rattle.std.proofs.Common.{◌∙◌, arith, eqb-true}
use Rattle.std.proofs.Math.Bool.{true, false}
use mathlib.Core.List.{List, [], ◌∷◌, ◌++◌}
use Rattle.facts.specs.Bools.{or-both}
use Rattle.model.specs.Kinds.{input_kind, constant_kind, output_kind, by_kind}
use Rattle.model.specs.Names.{Name}
use Rattle.model.specs.Netlist as Model
use Rattle.model.specs.Netlist.{input_name, output_name, ports_from}
use Rattle.model.specs.Record.{got, Reader, pure, go_on, ◌>>=◌, code, guard, room, listed_kind, name, name_if, value_if, code_below, numbers, has_name, has_value, inputs_per_kind, node_of, node}
use Rattle.laws.specs.Record.Ports.{inputs_append, outputs_append}
use Rattle.struo_ir.specs.declared.netlist.Node.{Node}
use Rattle.fields.specs.Fields.{map_step, placed, room_for, kind_at}
use Rattle.struo_ir.specs.Decoded.{name_at, decoded_node}
use Rattle.struo_ir.specs.Nodes.{three, detail_if, detail_at, inputs_at, cell_of, cell_inputs, cell_detail, cell_at}
use Rattle.struo_ir.specs.StepLaws.{bind_map, bind_last, name-at}

-- ---- what a kind has no use for

name_unused : (k : ℕ) (n m : Name) (v : ℕ) (ins : List ℕ) → has_name k ≡ false → node_of k n v ins ≡ node_of k m v ins
unfolding by_kind node_of has_name
name_unused k n m v ins h = let u = or-both (eqb k input_kind) (eqb k output_kind) h in rw (u.0, u.1)

value_unused : (k : ℕ) (n : Name) (v w : ℕ) (ins : List ℕ) → has_value k ≡ false → node_of k n v ins ≡ node_of k n w ins
unfolding by_kind node_of has_value
value_unused k n v w ins h = rw h

named_valueless : (k : ℕ) → has_name k ≡ true → has_value k ≡ false
unfolding has_name has_value
named_valueless k h = go (eqb k constant_kind) refl
  where
    go : (b : Bool) → eqb k constant_kind ≡ b → eqb k constant_kind ≡ false
    go false e = e
    go true e = absurd (let f : k ≡ 1 = eqb-true k 1 e in let g : (eqb 1 input_kind || eqb 1 output_kind) ≡ true = rw f at h in let z : ◌≡◌ {A = ℕ} 0 1 = cc in omega arith)

-- ---- a node

module _ (s : List ℕ) where
  -- from the input numbers on
  from-inputs : (k d : ℕ) (n : Name) (v j : ℕ) → ((ins : List ℕ) → node_of k (name_at s d) d ins ≡ node_of k n v ins) → map_step (decoded_node s) (cell_inputs k d s j) ≡ go_on (λ ins. pure (node_of k n v ins)) s (numbers (inputs_per_kind k) s j)
  unfolding cell_inputs ◌>>=◌ inputs_at pure map_step decoded_node cell_of three node_of
  from-inputs k d n v j e = bind_map (decoded_node s) three (λ ins. pure (cell_of k d ins)) (λ ins. pure (node_of k n v ins)) s (numbers (inputs_per_kind k) s j) (λ ins i h. ap (λ (x : Model.Node). got x i) (e ins))

  -- from the name or value on
  module _ (k : ℕ) where
    rest : Name → ℕ → Reader Model.Node
    rest n v = ◌>>=◌ (numbers (inputs_per_kind k)) (λ ins. pure (node_of k n v ins))

    from_detail : (b v : Bool) (j : ℕ) → has_name k ≡ b → has_value k ≡ v → map_step (decoded_node s) (go_on (cell_inputs k) s (detail_if b v s j)) ≡ go_on (λ n. ◌>>=◌ (value_if v) (rest n)) s (name_if b s j)
    unfolding rest detail_if name_if value_if placed ◌>>=◌ go_on pure
    from_detail true true j e f = absurd (let z : true ≡ false = sym f ∙ named_valueless k e in let y : ◌≡◌ {A = ℕ} 0 1 = cc in omega arith)
    from_detail true false j e f =
        bind_map (decoded_node s) (λ n. j) (cell_inputs k) (λ n. ◌>>=◌ (value_if false) (rest n)) s (name s j)
        (λ n i h. from-inputs k j n 0 i (λ ins. ap (λ (m : Name). node_of k m j ins) (name-at s j n i h) ∙ value_unused k n j 0 ins f))
    from_detail false true j e f =
        bind_last (decoded_node s) (cell_inputs k) (rest []) s (code_below 2 s j)
        (λ v i h. from-inputs k v [] v i (λ ins. name_unused k (name_at s v) [] v ins e))
    from_detail false false j e f = from-inputs k 0 [] 0 j (λ ins. name_unused k (name_at s 0) [] 0 ins e)

  -- the whole node
  pub node-decoded : (ns : List Model.Node) (i : ℕ) → map_step (decoded_node s) (cell_at (length (ports_from input_name 0 ns)) (length (ports_from output_name 0 ns)) s i) ≡ node listed_kind ns s i
  unfolding cell_at node ◌>>=◌ kind_at room_for room cell_detail detail_at rest
  node-decoded ns i =
      bind_last (decoded_node s) cell_detail (λ k. ◌>>=◌ (name_if (has_name k)) (λ n. ◌>>=◌ (value_if (has_value k)) (rest k n))) s (guard 6 (room ns) (code listed_kind) s i)
      (λ k j e. from_detail k (has_name k) (has_value k) j refl refl)

-- ---- the ports among the nodes

pub inputs-more : (s : List ℕ) (ns : List Model.Node) (n : Node) → length (ports_from input_name 0 (ns ++ (decoded_node s n ∷ []))) ≡ length (ports_from input_name 0 ns) + cond (eqb n.kind input_kind) 1 0
unfolding decoded_node
inputs-more s ns n = inputs_append n.kind _ _ _ 0 ns

pub outputs-more : (s : List ℕ) (ns : List Model.Node) (n : Node) → length (ports_from output_name 0 (ns ++ (decoded_node s n ∷ []))) ≡ length (ports_from output_name 0 ns) + cond (eqb n.kind output_kind) 1 0
unfolding decoded_node
outputs-more s ns n = outputs_append n.kind _ _ _ 0 ns
