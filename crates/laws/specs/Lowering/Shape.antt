-- The walk over the nodes as lists: nets, ports and state variables stand beside the design's numbers. Assumes nothing.
use Prim.Native.Nat.{ℕ, zero, suc, ◌+◌, ◌<◌}
use native.Mathlib.Omega.{arith}
use Rattle.std.proofs.Math.Path.{◌≡◌, refl, sym, ap}
use Rattle.std.proofs.Common.{◌∙◌, inl, length-append}
use Rattle.std.proofs.Math.Bool.{true}
use mathlib.Core.List.{List, [], ◌∷◌, ◌++◌, map, append_assoc, append-nil}
use Rattle.std.specs.Prelude.{length}
use Rattle.std.proofs.Math.ListN.{get_or, get_elem?}
use Rattle.std.proofs.Math.Seq.{get_or-append_seam}
use Rattle.model.specs.Names.{Place}
use Rattle.model.specs.Netlist.{Node, Input, Constant, RegisterOutput, Not, Output, And, Or, Xor, Mux, Register, input_name, output_name, is_register_output, place_if, ports_from}
use Rattle.model.specs.Validate.{is_register_output_at}
use Rattle.model.specs.Literal.{Literal, FALSE}
use Rattle.model.specs.Lists.{snoc}
use Rattle.model.specs.Aig.{variable}
use Rattle.model.specs.Transition.{Port, Lowering, net_literal, with_net, with_literal, lower_input, lower_output, lower_shown, lower_register_output, lower_node, lower_nodes}
use Rattle.facts.specs.Lists.{In, All, all_append, all_map}
use Rattle.laws.specs.Pairwise.{Pairwise, pairs_append}
use Rattle.laws.specs.Lowering.Lists.{in_map-left, in_map-right}

module _ (rs : List Register) where
  -- ---- nets

  -- a node adds one net
  node-nets : (w : Lowering) (net : ℕ) (n : Node) → (x : Literal) × ((lower_node rs w net n).nets ≡ w.nets ++ (x ∷ []))
  unfolding lower_node lower_input lower_output lower_shown lower_register_output with_net with_literal snoc
  node-nets w net (Input n) = (_, refl)
  node-nets w net (Constant b) = (_, refl)
  node-nets w net RegisterOutput = (_, refl)
  node-nets w net (Not a) = (_, refl)
  node-nets w net (Output n a) = (_, refl)
  node-nets w net (And a b) = (_, refl)
  node-nets w net (Or a b) = (_, refl)
  node-nets w net (Xor a b) = (_, refl)
  node-nets w net (Mux c a b) = (_, refl)

  nets-length : (w : Lowering) (net : ℕ) (n : Node) → length w.nets ≡ net → length (lower_node rs w net n).nets ≡ suc net
  nets-length w net n h = let x = node-nets w net n in rw x.1 (omega (arith, length-append w.nets (x.0 ∷ [])))

  -- the walk keeps the nets so far
  nets_prefix : (w : Lowering) (net : ℕ) (ns : List Node) → (later : List Literal) × ((lower_nodes rs w net ns).nets ≡ w.nets ++ later)
  unfolding lower_nodes
  nets_prefix w net [] = ([], sym (append-nil w.nets))
  nets_prefix w net (n ∷ ns) =
      let x = node-nets w net n in
      let r = nets_prefix (lower_node rs w net n) (suc net) ns in
      (x.0 ∷ r.0, r.1 ∙ ap (λ (l : List Literal). l ++ r.0) x.1 ∙ append_assoc w.nets (x.0 ∷ []) r.0)

  -- ---- ports

  -- a port beside its place
  pub record PortAt (nets : List Literal) (p : Port) (q : Place) : Type 0 where
    pub name : p.name ≡ q.name
    pub literal : p.literal ≡ net_literal nets q.number

  last_net : (w : Lowering) (net : ℕ) (ns : List Node) (v : Lowering) (l : Literal) (F : List Literal) → v.nets ≡ w.nets ++ (l ∷ []) → length w.nets ≡ net
      → F ≡ (lower_nodes rs v (suc net) ns).nets → l ≡ net_literal F net
  unfolding net_literal
  last_net w net ns v l F a b c =
      let r = nets_prefix v (suc net) ns in
      let d : F ≡ w.nets ++ (l ∷ r.0) = c ∙ r.1 ∙ ap (λ (x : List Literal). x ++ r.0) a ∙ append_assoc w.nets (l ∷ []) r.0 in
      sym (get_or-append_seam w.nets l r.0 FALSE) ∙ ap (λ (k : ℕ). get_or (w.nets ++ (l ∷ r.0)) k FALSE) b ∙ ap (λ (f : List Literal). get_or f net FALSE) (sym d)

  -- the outputs of the walk stand beside the design's
  pub outputs_beside : (F : List Literal) (w : Lowering) (net : ℕ) (ns : List Node) (ps : List Place) → length w.nets ≡ net → F ≡ (lower_nodes rs w net ns).nets
      → Pairwise (PortAt F) w.outputs ps → Pairwise (PortAt F) (lower_nodes rs w net ns).outputs (ps ++ ports_from output_name net ns)
  unfolding lower_nodes ports_from place_if output_name lower_node lower_input lower_output lower_shown lower_register_output with_net with_literal snoc
  outputs_beside F w net [] ps h f k = rw (append-nil ps) k
  outputs_beside F w net (Input n ∷ ns) ps h f k = outputs_beside F (lower_node rs w net (Input n)) (suc net) ns ps (nets-length w net (Input n) h) f k
  outputs_beside F w net (Constant b ∷ ns) ps h f k = outputs_beside F (lower_node rs w net (Constant b)) (suc net) ns ps (nets-length w net (Constant b) h) f k
  outputs_beside F w net (RegisterOutput ∷ ns) ps h f k = outputs_beside F (lower_node rs w net RegisterOutput) (suc net) ns ps (nets-length w net RegisterOutput h) f k
  outputs_beside F w net (Not a ∷ ns) ps h f k = outputs_beside F (lower_node rs w net (Not a)) (suc net) ns ps (nets-length w net (Not a) h) f k
  outputs_beside F w net (Output n a ∷ ns) ps h f k =
      let v = lower_node rs w net (Output n a) in
      let q : PortAt F (record { name = n; literal = net_literal w.nets a }) (record { name = n; number = net }) =
      record { name = refl; literal = last_net w net ns v (net_literal w.nets a) F refl h f } in
      let r = outputs_beside F v (suc net) ns (ps ++ (record { name = n; number = net } ∷ [])) (nets-length w net (Output n a) h) f
      (pairs_append (PortAt F) w.outputs ps _ _ k (q, tt)) in
      rw append_assoc at r
  outputs_beside F w net (And a b ∷ ns) ps h f k = outputs_beside F (lower_node rs w net (And a b)) (suc net) ns ps (nets-length w net (And a b) h) f k
  outputs_beside F w net (Or a b ∷ ns) ps h f k = outputs_beside F (lower_node rs w net (Or a b)) (suc net) ns ps (nets-length w net (Or a b) h) f k
  outputs_beside F w net (Xor a b ∷ ns) ps h f k = outputs_beside F (lower_node rs w net (Xor a b)) (suc net) ns ps (nets-length w net (Xor a b) h) f k
  outputs_beside F w net (Mux c a b ∷ ns) ps h f k = outputs_beside F (lower_node rs w net (Mux c a b)) (suc net) ns ps (nets-length w net (Mux c a b) h) f k

  -- and so do the inputs
  pub inputs_beside : (F : List Literal) (w : Lowering) (net : ℕ) (ns : List Node) (ps : List Place) → length w.nets ≡ net → F ≡ (lower_nodes rs w net ns).nets
      → Pairwise (PortAt F) w.inputs ps → Pairwise (PortAt F) (lower_nodes rs w net ns).inputs (ps ++ ports_from input_name net ns)
  unfolding lower_nodes ports_from place_if input_name lower_node lower_input lower_output lower_shown lower_register_output with_net with_literal snoc
  inputs_beside F w net [] ps h f k = rw (append-nil ps) k
  inputs_beside F w net (Input n ∷ ns) ps h f k =
      let v = lower_node rs w net (Input n) in
      let q : PortAt F (record { name = n; literal = (variable w.aig).literal }) (record { name = n; number = net }) =
      record { name = refl; literal = last_net w net ns v (variable w.aig).literal F refl h f } in
      let r = inputs_beside F v (suc net) ns (ps ++ (record { name = n; number = net } ∷ [])) (nets-length w net (Input n) h) f
      (pairs_append (PortAt F) w.inputs ps _ _ k (q, tt)) in
      rw append_assoc at r
  inputs_beside F w net (Constant b ∷ ns) ps h f k = inputs_beside F (lower_node rs w net (Constant b)) (suc net) ns ps (nets-length w net (Constant b) h) f k
  inputs_beside F w net (RegisterOutput ∷ ns) ps h f k = inputs_beside F (lower_node rs w net RegisterOutput) (suc net) ns ps (nets-length w net RegisterOutput h) f k
  inputs_beside F w net (Not a ∷ ns) ps h f k = inputs_beside F (lower_node rs w net (Not a)) (suc net) ns ps (nets-length w net (Not a) h) f k
  inputs_beside F w net (Output n a ∷ ns) ps h f k = inputs_beside F (lower_node rs w net (Output n a)) (suc net) ns ps (nets-length w net (Output n a) h) f k
  inputs_beside F w net (And a b ∷ ns) ps h f k = inputs_beside F (lower_node rs w net (And a b)) (suc net) ns ps (nets-length w net (And a b) h) f k
  inputs_beside F w net (Or a b ∷ ns) ps h f k = inputs_beside F (lower_node rs w net (Or a b)) (suc net) ns ps (nets-length w net (Or a b) h) f k
  inputs_beside F w net (Xor a b ∷ ns) ps h f k = inputs_beside F (lower_node rs w net (Xor a b)) (suc net) ns ps (nets-length w net (Xor a b) h) f k
  inputs_beside F w net (Mux c a b ∷ ns) ps h f k = inputs_beside F (lower_node rs w net (Mux c a b)) (suc net) ns ps (nets-length w net (Mux c a b) h) f k

  -- ---- what stays

  -- the walk keeps the inputs and the state variables so far
  pub record Kept (w v : Lowering) : Type 0 where
    pub more-inputs : List Port
    pub inputs : v.inputs ≡ w.inputs ++ more-inputs
    pub more-states : List (ℕ × Literal)
    pub states : v.state_variables ≡ w.state_variables ++ more-states

  kept_trans : {u v w : Lowering} → Kept u v → Kept v w → Kept u w
  kept_trans {u} a b =
      record {
        more-inputs = a.more-inputs ++ b.more-inputs;
        inputs = b.inputs ∙ ap (λ (l : List Port). l ++ b.more-inputs) a.inputs ∙ append_assoc u.inputs a.more-inputs b.more-inputs;
        more-states = a.more-states ++ b.more-states;
        states = b.states ∙ ap (λ (l : List (ℕ × Literal)). l ++ b.more-states) a.states ∙ append_assoc u.state_variables a.more-states b.more-states;
      }

  node-keeps : (w : Lowering) (net : ℕ) (n : Node) → Kept w (lower_node rs w net n)
  unfolding lower_node lower_input lower_output lower_shown lower_register_output with_net with_literal snoc
  node-keeps w net (Input n) = record { more-inputs = _; inputs = refl; more-states = []; states = sym (append-nil w.state_variables) }
  node-keeps w net (Constant b) = record { more-inputs = []; inputs = sym (append-nil w.inputs); more-states = []; states = sym (append-nil w.state_variables) }
  node-keeps w net RegisterOutput = record { more-inputs = []; inputs = sym (append-nil w.inputs); more-states = _; states = refl }
  node-keeps w net (Not a) = record { more-inputs = []; inputs = sym (append-nil w.inputs); more-states = []; states = sym (append-nil w.state_variables) }
  node-keeps w net (Output n a) = record { more-inputs = []; inputs = sym (append-nil w.inputs); more-states = []; states = sym (append-nil w.state_variables) }
  node-keeps w net (And a b) = record { more-inputs = []; inputs = sym (append-nil w.inputs); more-states = []; states = sym (append-nil w.state_variables) }
  node-keeps w net (Or a b) = record { more-inputs = []; inputs = sym (append-nil w.inputs); more-states = []; states = sym (append-nil w.state_variables) }
  node-keeps w net (Xor a b) = record { more-inputs = []; inputs = sym (append-nil w.inputs); more-states = []; states = sym (append-nil w.state_variables) }
  node-keeps w net (Mux c a b) = record { more-inputs = []; inputs = sym (append-nil w.inputs); more-states = []; states = sym (append-nil w.state_variables) }

  -- the walk keeps the nets, ports and variables made before
  pub walk-keeps : (w : Lowering) (net : ℕ) (ns : List Node) → Kept w (lower_nodes rs w net ns)
  unfolding lower_nodes
  walk-keeps w net [] = record { more-inputs = []; inputs = sym (append-nil w.inputs); more-states = []; states = sym (append-nil w.state_variables) }
  walk-keeps w net (n ∷ ns) = kept_trans (node-keeps w net n) (walk-keeps (lower_node rs w net n) (suc net) ns)

  -- ---- keys of the state variables

  -- the pair's number is below k
  abbrev pub KeyBelow : ℕ → (ℕ × Literal) → Type 0
  KeyBelow k p = p.0 < k

  key_up : (k : ℕ) (ps : List (ℕ × Literal)) → All (KeyBelow k) ps → All (KeyBelow (suc k)) ps
  key_up k ps h = all_map (KeyBelow k) (KeyBelow (suc k)) (λ p i. omega arith) ps h

  -- a node's state variable has the node's number for a key
  pub node-keys : (w : Lowering) (net : ℕ) (n : Node) → All (KeyBelow net) w.state_variables → All (KeyBelow (suc net)) (lower_node rs w net n).state_variables
  unfolding lower_node lower_input lower_output lower_shown lower_register_output with_net with_literal snoc
  node-keys w net (Input n) h = key_up net w.state_variables h
  node-keys w net (Constant b) h = key_up net w.state_variables h
  node-keys w net RegisterOutput h = all_append (KeyBelow (suc net)) w.state_variables _ (key_up net w.state_variables h) (omega arith, tt)
  node-keys w net (Not a) h = key_up net w.state_variables h
  node-keys w net (Output n a) h = key_up net w.state_variables h
  node-keys w net (And a b) h = key_up net w.state_variables h
  node-keys w net (Or a b) h = key_up net w.state_variables h
  node-keys w net (Xor a b) h = key_up net w.state_variables h
  node-keys w net (Mux c a b) h = key_up net w.state_variables h

  -- the keys of a list of state variables
  abbrev keys : List (ℕ × Literal) → List ℕ
  keys ps = map (λ p. p.0) ps

  -- a RegisterOutput's number is a key
  pub register_key : (w : Lowering) (net : ℕ) (ns : List Node) (k : ℕ) → is_register_output_at (get_elem? ns k) ≡ true → In (net + k) (keys (lower_nodes rs w net ns).state_variables)
  unfolding lower_nodes is_register_output_at is_register_output
  register_key w net [] k h = absurd (let z : ◌≡◌ {A = ℕ} 0 1 = cc in omega arith)
  register_key w net (n ∷ ns) (suc k) h =
      let q : net + suc k ≡ suc net + k = omega arith in
      rw q (register_key (lower_node rs w net n) (suc net) ns k h)
  register_key w net (n ∷ ns) zero h =
      let q : net + 0 ≡ net = omega arith in
      let r = walk-keeps (lower_node rs w net n) (suc net) ns in
      rw (q, r.states) (in_map-left (λ (p : ℕ × Literal). p.0) net (lower_node rs w net n).state_variables r.more-states (own n h))
    where
      own : (n : Node) → is_register_output n ≡ true → In net (keys (lower_node rs w net n).state_variables)
      own (Input m) h = absurd (unfold is_register_output in let z : ◌≡◌ {A = ℕ} 0 1 = cc in omega arith)
      own (Constant b) h = absurd (unfold is_register_output in let z : ◌≡◌ {A = ℕ} 0 1 = cc in omega arith)
      own RegisterOutput h = unfold lower_node lower_register_output lower_shown snoc in in_map-right (λ (p : ℕ × Literal). p.0) net w.state_variables _ (inl refl)
      own (Not a) h = absurd (unfold is_register_output in let z : ◌≡◌ {A = ℕ} 0 1 = cc in omega arith)
      own (Output m a) h = absurd (unfold is_register_output in let z : ◌≡◌ {A = ℕ} 0 1 = cc in omega arith)
      own (And a b) h = absurd (unfold is_register_output in let z : ◌≡◌ {A = ℕ} 0 1 = cc in omega arith)
      own (Or a b) h = absurd (unfold is_register_output in let z : ◌≡◌ {A = ℕ} 0 1 = cc in omega arith)
      own (Xor a b) h = absurd (unfold is_register_output in let z : ◌≡◌ {A = ℕ} 0 1 = cc in omega arith)
      own (Mux c a b) h = absurd (unfold is_register_output in let z : ◌≡◌ {A = ℕ} 0 1 = cc in omega arith)
