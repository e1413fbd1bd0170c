-- The walk over the nodes: its nets have the values of the plain run, under an environment that fits. Assumes nothing.
use Rattle.std.specs.Prelude.{ℕ, suc, ◌<◌, ◌≡◌, refl, Bool, cond, length}
use Rattle.std.proofs.Common.{arith, sym, ap₂}
use Rattle.std.proofs.Math.Bool.{true, false, ◌&&◌, ◌||◌, xor}
use mathlib.Core.List.{List, [], ◌∷◌, ◌++◌}
use Rattle.std.proofs.Math.Option.{Option, none, some}
use Rattle.model.specs.Names.{Name}
use Rattle.model.specs.Netlist.{Node, Input, Constant, RegisterOutput, Not, Output, And, Or, Xor, Mux, ActiveLevel, High, Low, Reset, Register}
use Rattle.model.specs.Validate.{Driver, driver}
use Rattle.model.specs.Run.{InputBits, StoredBits, bit_at, asserted, shown_bit, shown as shown-value, node_value, values_from}
use Rattle.model.specs.Literal.{Literal, FALSE, node, inverted, negate, constant_literal}
use Rattle.model.specs.Lists.{snoc}
use Rattle.model.specs.Aig.{Variable, Aig, Built, variable, mux}
use Rattle.model.specs.Transition.{Port, Lowering, asserted_literal, net_literal, driver_reset, with_net, with_literal, lower_input, lower_output, reset_mux, shown, lower_shown, lower_register_output, lower_node, lower_nodes}
use Rattle.laws.specs.Graph.Values.{node-even}
use Rattle.facts.specs.Lists.{All, all_append, all_map}
use Rattle.laws.specs.Lists.{length-snoc}
use Rattle.laws.specs.Pairwise.{Pairwise, pairs-snoc, pairs_get}
use Rattle.laws.specs.Graph.Operations.{Formed, Means, same_graph, variable_means, and_means, or_means, xor_means, mux_means, after, meaning}
use Rattle.laws.specs.Queries.Frame.{Has, Grown, grown, has, has-later, list_later, has-false, has-negate}

-- the stored bit of a driver
unfoldable pub stored_bit : StoredBits → Option Driver → Bool
stored_bit stored none = false
stored_bit stored (some d) = bit_at stored d.number

shown-is : (values : List Bool) (stored : StoredBits) (o : Option Driver) → shown-value values stored o ≡ shown_bit values (stored_bit stored o) (driver_reset o)
unfolding shown-value shown_bit stored_bit driver_reset
shown-is values stored none = refl
shown-is values stored (some d) = refl

module _ (e : ℕ → Bool) where
  -- an asserted signal has its value
  pub asserted-has : (g : Aig) (l : Literal) (x : Bool) (a : ActiveLevel) → Has e g l x → Has e g (asserted_literal l a) (asserted a x)
  unfolding asserted_literal asserted
  asserted-has g l x High h = h
  asserted-has g l x Low h = has-negate e g l x h

  constant-has : (g : Aig) → Formed g → (b : Bool) → Has e g (constant_literal b) b
  unfolding constant_literal negate inverted
  constant-has g w true = has-negate e g FALSE false (has-false e g w)
  constant-has g w false = has-false e g w

  -- a net has its node's value
  pub net_has : (g : Aig) → Formed g → (nets : List Literal) (values : List Bool) → Pairwise (Has e g) nets values → (a : ℕ) → Has e g (net_literal nets a) (bit_at values a)
  unfolding net_literal bit_at
  net_has g w nets values h a = pairs_get (Has e g) nets values FALSE false h (has-false e g w) a

  -- a mux of literals with known values
  pub mux-has : (g : Aig) → Formed g → (c t f : Literal) (x y z : Bool) → Has e g c x → Has e g t y → Has e g f z → Means e g (cond x y z) (mux g c t f)
  mux-has g w c t f x y z p q r =
      meaning e (ap₂ (λ (h : Bool) (k : Bool × Bool). cond h k.0 k.1) p.0 (ap₂ (λ (h k : Bool). (h, k)) q.0 r.0)) (mux_means e g w c t f p.1 q.1 r.1)

  -- the choice of the reset value means the plain run's
  pub reset-mux_means : (g : Aig) → Formed g → (nets : List Literal) (values : List Bool) → Pairwise (Has e g) nets values
      → (r : Reset) (l : Literal) (b : Bool) → Has e g l b
      → Means e g (cond (asserted r.active (bit_at values r.signal)) r.value b) (reset_mux g nets r l)
  unfolding reset_mux
  reset-mux_means g w nets values h r l b p =
      mux-has g w _ _ _ _ _ _ (asserted-has g _ _ r.active (net_has g w nets values h r.signal)) (constant-has g w r.value) p

  shown_means : (g : Aig) → Formed g → (nets : List Literal) (values : List Bool) → Pairwise (Has e g) nets values
      → (o : Option Reset) (l : Literal) (b : Bool) → Has e g l b → Means e g (shown_bit values b o) (shown g nets o l)
  unfolding shown shown_bit
  shown_means g w nets values h none l b p = same_graph e g b l w p.1 p.0
  shown_means g w nets values h (some r) l b p = go r.asynchronous
    where
      go : (a : Bool) → Means e g (cond (a && asserted r.active (bit_at values r.signal)) r.value b) (elim a [ true ↦ reset_mux g nets r l | false ↦ record { aig = g; literal = l } ])
      go true = reset-mux_means g w nets values h r l b p
      go false = same_graph e g b l w p.1 p.0

  module _ (rs : List Register) (inp : InputBits) (stored : StoredBits) where
    -- what a node asks of the environment
    abbrev pub Wants : Aig → ℕ → Node → Type 0
    Wants g net (Input n) = e (length g) ≡ inp n
    Wants g net (Constant b) = Unit {0}
    Wants g net RegisterOutput = e (length g) ≡ stored_bit stored (driver rs net)
    Wants g net (Not a) = Unit {0}
    Wants g net (Output n a) = Unit {0}
    Wants g net (And a b) = Unit {0}
    Wants g net (Or a b) = Unit {0}
    Wants g net (Xor a b) = Unit {0}
    Wants g net (Mux c a b) = Unit {0}

    -- what the nodes ask of the environment: the input bits by name, and the stored bits by register
    abbrev pub Fits : Lowering → ℕ → List Node → Type 0
    Fits w net [] = Unit {0}
    Fits w net (n ∷ ns) = Wants w.aig net n × Fits (lower_node rs w net n) (suc net) ns

    -- a state variable with its register's stored bit
    abbrev pub StateHas : Aig → (ℕ × Literal) → Type 0
    StateHas g p = Has e g p.1 (stored_bit stored (driver rs p.0)) × (e (node p.1) ≡ stored_bit stored (driver rs p.0))

    -- an input variable with its bit
    abbrev pub InputHas : Port → Type 0
    InputHas p = e (node p.literal) ≡ inp p.name

    -- the walk so far, beside the values so far
    pub record WalkMeans (w : Lowering) (values : List Bool) : Type 0 where
      pub formed : Formed w.aig
      pub nets : Pairwise (Has e w.aig) w.nets values
      pub states : All (StateHas w.aig) w.state_variables
      pub inputs : All InputHas w.inputs

    -- what one node adds to the walk
    pub record WalkStep (w v : Lowering) (values : List Bool) : Type 0 where
      pub since : Grown e w.aig v.aig
      pub means : WalkMeans v values

    state-later : {g h : Aig} → Grown e g h → (p : ℕ × Literal) → StateHas g p → StateHas h p
    state-later r p k = (has-later e r p.1 _ k.0, k.1)

    net_step : (w : Lowering) (values : List Bool) (x : Bool) (m : Built) → WalkMeans w values → Means e w.aig x m → WalkStep w (with_net w m) (values ++ (x ∷ []))
    unfolding with_net snoc
    net_step w values x m h k =
        let r = grown e k in
        record {
          since = r;
          means =
              record {
                formed = k.formed;
                nets = pairs-snoc (Has e m.aig) w.nets values m.literal x (list_later e r w.nets values h.nets) (has e k);
                states = all_map (StateHas w.aig) (StateHas m.aig) (state-later r) w.state_variables h.states;
                inputs = h.inputs;
              };
        }

    literal-step : (w : Lowering) (values : List Bool) (x : Bool) (l : Literal) → WalkMeans w values → Has e w.aig l x → WalkStep w (with_literal w l) (values ++ (x ∷ []))
    unfolding with_literal
    literal-step w values x l h p = net_step w values x _ h (same_graph e w.aig x l h.formed p.1 p.0)

    get : (w : Lowering) (values : List Bool) → WalkMeans w values → (a : ℕ) → Has e w.aig (net_literal w.nets a) (bit_at values a)
    get w values h a = net_has w.aig h.formed w.nets values h.nets a

    -- one node
    pub node-step : (w : Lowering) (values : List Bool) (net : ℕ) (n : Node) → WalkMeans w values → Wants w.aig net n
        → WalkStep w (lower_node rs w net n) (values ++ (node_value rs inp stored values net n ∷ []))
    unfolding lower_node lower_input lower_output lower_register_output lower_shown node_value variable snoc with_net with_literal driver
    node-step w values net (Input n) h q =
        let m = meaning e q (variable_means e w.aig h.formed) in
        let s = net_step w values (inp n) _ h m in
        record {
          since = s.since;
          means =
              record {
                formed = s.means.formed;
                nets = s.means.nets;
                states = s.means.states;
                inputs = all_append InputHas w.inputs _ h.inputs (rw (node-even (length w.aig)) q, tt);
              };
        }
    node-step w values net (Constant b) h q = literal-step w values b _ h (constant-has w.aig h.formed b)
    node-step w values net RegisterOutput h q =
        let v = meaning e q (variable_means e w.aig h.formed) in
        let g = variable w.aig in
        let s = shown_means g.aig v.formed w.nets values (list_later e (grown e v) w.nets values h.nets) (driver_reset (driver rs net)) g.literal _ (has e v) in
        let x = shown-is values stored (driver rs net) in
        let s' : Means e g.aig (shown-value values stored (driver rs net)) (shown g.aig w.nets (driver_reset (driver rs net)) g.literal)
        = meaning e (sym x) s in
        let t = net_step w values _ _ h (after e v s') in
        record {
          since = t.since;
          means =
              record {
                formed = t.means.formed;
                nets = t.means.nets;
                states = all_append (StateHas _) w.state_variables _ t.means.states ((has-later e (grown e s) g.literal _ (has e v), rw (node-even (length w.aig)) q), tt);
                inputs = h.inputs;
              };
        }
    node-step w values net (Not a) h q = literal-step w values _ _ h (has-negate e w.aig _ _ (get w values h a))
    node-step w values net (Output n a) h q =
        let s = literal-step w values _ _ h (get w values h a) in
        record { since = s.since; means = record { formed = s.means.formed; nets = s.means.nets; states = s.means.states; inputs = h.inputs } }
    node-step w values net (And a b) h q =
        let x = get w values h a in
        let y = get w values h b in
        net_step w values _ _ h (meaning e (ap₂ ◌&&◌ x.0 y.0) (and_means e w.aig h.formed _ _ x.1 y.1))
    node-step w values net (Or a b) h q =
        let x = get w values h a in
        let y = get w values h b in
        net_step w values _ _ h (meaning e (ap₂ ◌||◌ x.0 y.0) (or_means e w.aig h.formed _ _ x.1 y.1))
    node-step w values net (Xor a b) h q =
        let x = get w values h a in
        let y = get w values h b in
        net_step w values _ _ h (meaning e (ap₂ xor x.0 y.0) (xor_means e w.aig h.formed _ _ x.1 y.1))
    node-step w values net (Mux c a b) h q =
        net_step w values _ _ h (mux-has w.aig h.formed _ _ _ _ _ _ (get w values h c) (get w values h a) (get w values h b))

    -- a register output makes a variable
    pub register-grows : (w : Lowering) (values : List Bool) (net : ℕ) → WalkMeans w values → length w.aig < length (lower_node rs w net RegisterOutput).aig
    unfolding lower_node lower_register_output lower_shown variable
    register-grows w values net h =
        let v = variable_means e w.aig h.formed in
        let g = variable w.aig in
        let s = shown_means g.aig v.formed w.nets values (list_later e (grown e v) w.nets values h.nets) (driver_reset (driver rs net)) g.literal _ (has e v) in
        omega (arith, s.grows, length-snoc w.aig (Variable (length w.aig)))

    -- an Input adds a variable
    pub input-grows : (w : Lowering) (net : ℕ) (n : Name) → length w.aig < length (lower_node rs w net (Input n)).aig
    unfolding lower_node lower_input variable
    input-grows w net n = omega (arith, length-snoc w.aig (Variable (length w.aig)))

    -- all nodes: the nets' literals have the values of the plain run's nodes
    pub walk_means : (w : Lowering) (values : List Bool) (net : ℕ) (ns : List Node) → WalkMeans w values → Fits w net ns
        → WalkMeans (lower_nodes rs w net ns) (values_from rs inp stored net ns values)
    unfolding lower_nodes values_from
    walk_means w values net [] h q = h
    walk_means w values net (n ∷ ns) h q = walk_means (lower_node rs w net n) _ (suc net) ns (node-step w values net n h q.0).means q.1
