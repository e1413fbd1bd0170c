-- The walk over a record's nodes: its state at the start, after one more node, at a refusal and at the end. Assumes nothing.
use Prim.Native.Nat.{ℕ, suc, ◌+◌, ◌-◌, ◌≤◌, ◌<◌}
use Rattle.std.specs.Prelude.{◌≡◌, refl, true, cond, List, [], ◌∷◌, ◌++◌, set, replicate, eqb, Ok, Err}
use Rattle.std.proofs.Common.{sym, ◌∙◌, length-set, get_or-set_other}
use Rattle.std.proofs.Math.Path.{ap}
use native.Mathlib.Omega.{arith}
use Rattle.std.proofs.lemmas.List.{length-replicate}
use Rattle.facts.specs.Lists.{get_or-replicate, set_any}
use Rattle.facts.specs.Numbers.{cond_le}
use Rattle.model.specs.Answers.{Refusal}
use Rattle.model.specs.Kinds.{input_kind, output_kind}
use Rattle.model.specs.Netlist.{ports_from}
use Rattle.model.specs.Record.{got, refused, pure, go_on, ◌>>=◌, kinds, listed_kind, node, nodes_from}
use Rattle.model.specs.Lists.{member}
use Rattle.struo_ir.specs.declared.netlist.Node.{Node}
use Rattle.struo_ir.specs.declared.nodes.Nodes.{Nodes}
use Rattle.calls.specs.Causes.{numbers_of}
use Rattle.calls.specs.declared.refusal.Refusal as Code
use Rattle.fields.specs.Fields.{map_step}
use Rattle.struo_ir.specs.Decoded.{decoded_node}
use Rattle.struo_ir.specs.Nodes.{cell_at, no_node, nodes_of, NodesRead, nodes_to, NodesSoFar}
use Rattle.struo_ir.specs.NodeDecoding.{node-decoded, inputs-more, outputs-more}
use Rattle.struo_ir.specs.ListLaws.{map-take-set}
use Rattle.struo_ir.specs.StepLaws.{cell-listed}

pub nodes-start : (s : List ℕ) (count at : ℕ) → NodesSoFar s count at (replicate 1024 no_node) 0 0 at 0
unfolding nodes_to ports_from listed_kind kinds member
nodes-start s count at =
    record {
      bound = omega arith;
      few_inputs = omega arith;
      few_outputs = omega arith;
      size = length-replicate 1024 no_node;
      inputs_are = refl;
      outputs_are = refl;
      rest = let e : count - 0 ≡ count = omega arith in rw e;
      past = λ k h. get_or-replicate 1024 k no_node;
      listed = λ k. rw (get_or-replicate 1024 k no_node);
    }

module _ (s : List ℕ) (count at : ℕ) (nodes : List Node) (inputs outputs next i : ℕ) (so : NodesSoFar s count at nodes inputs outputs next i) where
  -- the node that the definition reads here
  here : map_step (decoded_node s) (cell_at inputs outputs s next) ≡ node listed_kind (nodes_to s nodes i) s next
  here = rw (so.inputs_are, so.outputs_are) (node-decoded s (nodes_to s nodes i) next)

  here-got : (n : Node) (end : ℕ) → got n end ≡ cell_at inputs outputs s next → got (decoded_node s n) end ≡ node listed_kind (nodes_to s nodes i) s next
  unfolding map_step
  here-got n end e = ap (map_step (decoded_node s)) e ∙ here

  here-refused : (r : Refusal) → refused r ≡ cell_at inputs outputs s next → refused r ≡ node listed_kind (nodes_to s nodes i) s next
  unfolding map_step
  here-refused r e = ap (map_step (decoded_node s)) e ∙ here

  -- one more node
  module _ (n : Node) (end : ℕ) (l : i < count) (room : count ≤ 1024) (e : got n end ≡ cell_at inputs outputs s next) where
    stored : nodes_to s (set nodes i n) (i + 1) ≡ nodes_to s nodes i ++ (decoded_node s n ∷ [])
    unfolding nodes_to
    stored = map-take-set (decoded_node s) nodes i n (omega (arith, so.size))

    rest_more : nodes_from listed_kind (count - (i + 1)) (nodes_to s (set nodes i n) (i + 1)) s end ≡ nodes_from listed_kind count [] s at
    unfolding nodes_from ◌>>=◌ go_on
    rest_more =
        let d : count - i ≡ suc (count - (i + 1)) = omega arith in
        rw stored
        (goal d ∙ so.rest)
      where
        goal : count - i ≡ suc (count - (i + 1)) → nodes_from listed_kind (count - (i + 1)) (nodes_to s nodes i ++ (decoded_node s n ∷ [])) s end ≡ nodes_from listed_kind (count - i) (nodes_to s nodes i) s next
        goal d = rw (d, ← here-got n end e)

    pub nodes-more : NodesSoFar s count at (set nodes i n) (inputs + cond (eqb n.kind input_kind) 1 0) (outputs + cond (eqb n.kind output_kind) 1 0) end (i + 1)
    nodes-more =
        record {
          bound = omega arith;
          few_inputs = omega (arith, so.few_inputs, cond_le (eqb n.kind input_kind));
          few_outputs = omega (arith, so.few_outputs, cond_le (eqb n.kind output_kind));
          size = length-set nodes i n ∙ so.size;
          inputs_are = rw (stored, inputs-more s (nodes_to s nodes i) n, ← so.inputs_are);
          outputs_are = rw (stored, outputs-more s (nodes_to s nodes i) n, ← so.outputs_are);
          rest = rest_more;
          past = λ k h. get_or-set_other nodes i k n no_node (λ f. omega arith) ∙ so.past k (omega arith);
          listed = λ k. set_any (λ (m : Node). listed_kind m.kind ≡ true) nodes i k n no_node (so.listed k) (cell-listed inputs outputs s next n end e);
        }

  -- a node is refused
  pub nodes-refused : (r : Code.Refusal) → i < count → refused (numbers_of r) ≡ cell_at inputs outputs s next → NodesRead s count at (Err r)
  unfolding nodes_of nodes_from ◌>>=◌ go_on
  nodes-refused r l e =
      let d : count - i ≡ suc (count - (i + 1)) = omega arith in
      record { step = goal d ∙ so.rest; whole = λ n after f. absurd cc }
    where
      goal : count - i ≡ suc (count - (i + 1)) → refused (numbers_of r) ≡ nodes_from listed_kind (count - i) (nodes_to s nodes i) s next
      goal d = rw (d, ← here-refused _ e)

  -- all nodes are read
  pub nodes-done : count ≤ i → NodesRead s count at (Ok (record { count = count; nodes = nodes }, next))
  unfolding nodes_of nodes_from pure
  nodes-done l =
      let d : count - i ≡ 0 = omega arith in
      let f : i ≡ count = omega (arith, so.bound) in
      record {
        step = ap (λ (n : ℕ). got (nodes_to s nodes n) next) (sym f) ∙ (goal d ∙ so.rest);
        whole = λ n after g.
            let h : ◌≡◌ {A = Nodes × ℕ} (record { count = count; nodes = nodes }, next) (n, after) = cc in
            let a : count ≡ n.count = ap (λ (p : Nodes × ℕ). p.0.count) h in
            let b : nodes ≡ n.nodes = ap (λ (p : Nodes × ℕ). p.0.nodes) h in
            (sym a, rw (← b) (record { size = so.size; past = λ k h. so.past k (omega arith); listed = so.listed }));
      }
    where
      goal : count - i ≡ 0 → got (nodes_to s nodes i) next ≡ nodes_from listed_kind (count - i) (nodes_to s nodes i) s next
      goal d = rw d
