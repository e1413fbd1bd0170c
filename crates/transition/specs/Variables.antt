-- Every variable of a design's transition graph is an input's or a state's, for designs that passed validation. Assumes nothing.
use Rattle.std.specs.Prelude.{◌≡◌, ◌⊎◌, Bool, true, false, ◌&&◌, ℕ, zero, suc, ◌*◌, ◌<◌, eqb, get_or}
use Rattle.std.proofs.Math.Path.{refl, ap, sym}
use Rattle.std.proofs.Common.{◌∙◌, arith, eqb-true, eq-eqb}
use Rattle.std.proofs.Math.Logic.{inl, inr}
use mathlib.Core.List.{List, [], ◌∷◌, ◌++◌, map, append_assoc}
use Rattle.std.proofs.Math.Option.{Option, none, some}
use Rattle.std.proofs.Math.ListN.{length}
use Rattle.std.proofs.lemmas.Bool.{eqb-false}
use Rattle.model.specs.Literal.{Literal, FALSE, node, negate}
use Rattle.model.specs.Lists.{snoc, member, lookup, position}
use Rattle.model.specs.Aig.{Node, Constant, Variable, And, Aig, Built, new, variable, is_and, and_found, and_shortcut, and_unless, and, or, xor_shortcut, xor_unless, xor, mux_shortcut, mux_unless, mux}
use Rattle.model.specs.Netlist as Netlist
use Rattle.model.specs.Netlist.{Enable, Reset, Register, Design, is_register_output}
use Rattle.model.specs.Validate.{driver, refuse_if, undriven, validate, nodes_fault, registers_fault, connection_fault}
use Rattle.model.specs.Transition.{Port, StateBit, Lowering, Registers, net_literal, with_net, with_literal, lower_input, lower_output, reset_mux, shown, lower_shown, lower_register_output, lower_node, lower_nodes, no_nodes, enabled, reset_next, with_state, lower_register, lower_registers, system_of, with_registers, from_netlist}
use Rattle.facts.specs.Bools.{or-true}
use Rattle.laws.specs.Graph.Values.{node-even}
use Rattle.facts.specs.Lists.{In, All, in_cases}
use Rattle.laws.specs.Record.Accepted.{otherwise_none, refuse_if-none}
use Rattle.laws.specs.Lowering.Lists.{in_map-left, in_map-right, in_sort, lookup-past, lookup_first}
use Rattle.laws.specs.Lowering.Shape.{walk-keeps, KeyBelow, node-keys}
use Rattle.laws.specs.Lowering.Registers.{driver-output, states-listed}
use Rattle.aig.specs.Graph.{node_of, nodes_of}
use Rattle.laws.specs.Lowering.Fits.{driven}

-- ---- the variables of a graph

-- the names of the variables, in order
unfoldable pub variables_of : List Node → List ℕ
variables_of [] = []
variables_of (Constant ∷ ns) = variables_of ns
variables_of (Variable v ∷ ns) = v ∷ variables_of ns
variables_of (And a b ∷ ns) = variables_of ns

-- a conjunction is none
more-and : (g : Aig) (a b : Literal) → variables_of (snoc g (And a b)) ≡ variables_of g
unfolding variables_of snoc
more-and [] a b = refl
more-and (Constant ∷ ns) a b = more-and ns a b
more-and (Variable v ∷ ns) a b = ap (λ (vs : List ℕ). v ∷ vs) (more-and ns a b)
more-and (And c d ∷ ns) a b = more-and ns a b

more-variable : (g : Aig) (v : ℕ) → variables_of (snoc g (Variable v)) ≡ variables_of g ++ (v ∷ [])
unfolding variables_of snoc
more-variable [] v = refl
more-variable (Constant ∷ ns) v = more-variable ns v
more-variable (Variable u ∷ ns) v = ap (λ (vs : List ℕ). u ∷ vs) (more-variable ns v)
more-variable (And c d ∷ ns) v = more-variable ns v

-- ---- operations make no variable

found_none : (g : Aig) (a b : Literal) (o : Option ℕ) → variables_of (and_found g a b o).aig ≡ variables_of g
unfolding and_found
found_none g a b (some i) = refl
found_none g a b none = more-and g a b

unless_none : (g : Aig) (a b : Literal) (o : Option Literal) → variables_of (and_unless g a b o).aig ≡ variables_of g
unfolding and_unless
unless_none g a b (some l) = refl
unless_none g a b none = found_none g a b (position (is_and a b) g)

and_none : (g : Aig) (a b : Literal) → variables_of (and g a b).aig ≡ variables_of g
unfolding and
and_none g a b = unless_none g _ _ (and_shortcut a b)

or-none : (g : Aig) (a b : Literal) → variables_of (or g a b).aig ≡ variables_of g
unfolding or
or-none g a b = and_none g (negate a) (negate b)

-- two conjunctions and a disjunction
three-none : (g : Aig) (a b c d : Literal) → (let m = and g a b in let k = and m.aig c d in variables_of (or k.aig m.literal k.literal).aig ≡ variables_of g)
three-none g a b c d = or-none _ _ _ ∙ and_none _ c d ∙ and_none g a b

xor_unless_none : (g : Aig) (a b : Literal) (o : Option Literal) → variables_of (xor_unless g a b o).aig ≡ variables_of g
unfolding xor_unless
xor_unless_none g a b (some l) = refl
xor_unless_none g a b none = three-none g a (negate b) (negate a) b

xor-none : (g : Aig) (a b : Literal) → variables_of (xor g a b).aig ≡ variables_of g
unfolding xor
xor-none g a b = xor_unless_none g a b (xor_shortcut a b)

mux_unless_none : (g : Aig) (c a b : Literal) (o : Option Literal) → variables_of (mux_unless g c a b o).aig ≡ variables_of g
unfolding mux_unless
mux_unless_none g c a b (some l) = refl
mux_unless_none g c a b none = three-none g c a (negate c) b

mux-none : (g : Aig) (c a b : Literal) → variables_of (mux g c a b).aig ≡ variables_of g
unfolding mux
mux-none g c a b = mux_unless_none g c a b (mux_shortcut c a b)

shown-none : (g : Aig) (nets : List Literal) (o : Option Reset) (state : Literal) → variables_of (shown g nets o state).aig ≡ variables_of g
unfolding shown reset_mux
shown-none g nets none state = refl
shown-none g nets (some r) state = go r.asynchronous
  where
    one : Bool → Built
    one t = elim t [ true ↦ reset_mux g nets r state | false ↦ record { aig = g; literal = state } ]

    go : (t : Bool) → variables_of (one t).aig ≡ variables_of g
    go true = mux-none g _ _ _
    go false = refl

enabled-none : (g : Aig) (nets : List Literal) (o : Option Enable) (l state : Literal) → variables_of (enabled g nets o l state).aig ≡ variables_of g
unfolding enabled
enabled-none g nets none l state = refl
enabled-none g nets (some e) l state = mux-none g _ _ _

reset-none : (m : Built) (nets : List Literal) (o : Option Reset) → variables_of (reset_next m nets o).aig ≡ variables_of m.aig
unfolding reset_next reset_mux
reset-none m nets none = refl
reset-none m nets (some r) = mux-none m.aig _ _ _

registers-none : (w : Lowering) (g : Registers) (rs : List Register) → variables_of (lower_registers w g rs).aig ≡ variables_of g.aig
unfolding lower_registers lower_register with_state
registers-none w g [] = refl
registers-none w g (r ∷ rs) =
    let s = lookup FALSE w.state_variables r.output in
    registers-none w (lower_register w.nets g r s) rs ∙ reset-none (enabled g.aig w.nets r.enable (net_literal w.nets r.«data») s) w.nets r.reset
    ∙ enabled-none g.aig w.nets r.enable (net_literal w.nets r.«data») s

-- ---- the walk

module _ (rs : List Register) (F : Lowering) where
  -- v is an input's variable, or that of a net that a register drives
  abbrev Claimed : ℕ → Type 0
  Claimed v = In v (map (λ (p : Port). node p.literal) F.inputs) ⊎ ((net : ℕ) × In net (map (λ (r : Register). r.output) rs) × (v ≡ node (lookup FALSE F.state_variables net)))

  input_claimed : (w : Lowering) (net : ℕ) (n : List ℕ) (ns : List Netlist.Node) → F ≡ lower_nodes rs (lower_node rs w net (Netlist.Input n)) (suc net) ns → Claimed (length w.aig)
  unfolding lower_node lower_input variable snoc
  input_claimed w net n ns q =
      let k = length w.aig in
      let r = walk-keeps rs (lower_node rs w net (Netlist.Input n)) (suc net) ns in
      let one : List Port = record { name = n; literal = k * 2 } ∷ [] in
      let x : F.inputs ≡ (w.inputs ++ one) ++ r.more-inputs = ap (λ (l : Lowering). l.inputs) q ∙ r.inputs in
      inl (rw x (in_map-left (λ (p : Port). node p.literal) k (w.inputs ++ one) r.more-inputs (in_map-right (λ (p : Port). node p.literal) k w.inputs one (inl (sym (node-even k))))))

  register_claimed : (w : Lowering) (net : ℕ) (ns : List Netlist.Node) → F ≡ lower_nodes rs (lower_node rs w net Netlist.RegisterOutput) (suc net) ns
      → All (KeyBelow rs net) w.state_variables → undriven (driver rs net) ≡ false → Claimed (length w.aig)
  unfolding lower_node lower_register_output lower_shown variable snoc driver
  register_claimed w net ns q h u =
      let k = length w.aig in
      let r = walk-keeps rs (lower_node rs w net Netlist.RegisterOutput) (suc net) ns in
      let x : F.state_variables ≡ w.state_variables ++ ((net, k * 2) ∷ r.more-states)
      = ap (λ (l : Lowering). l.state_variables) q ∙ r.states ∙ append_assoc w.state_variables ((net, k * 2) ∷ []) r.more-states in
      let y : lookup FALSE F.state_variables net ≡ k * 2
      = ap (λ (l : List (ℕ × Literal)). lookup FALSE l net) x ∙ lookup-past FALSE w.state_variables _ net h ∙ lookup_first FALSE net (k * 2) r.more-states in
      let d = driven (driver rs net) u in
      inr (net, driver-output 0 net rs d.0 d.1, sym (ap node y ∙ node-even k))

  -- an old variable, or the one made
  one_more : (g : Aig) (v : ℕ) → ((u : ℕ) → In u (variables_of g) → Claimed u) → Claimed v → (u : ℕ) → In u (variables_of g ++ (v ∷ [])) → Claimed u
  one_more g v h c u i = go (in_cases u (variables_of g) (v ∷ []) i)
    where
      go : In u (variables_of g) ⊎ In u (v ∷ []) → Claimed u
      go (inl j) = h u j
      go (inr (inl e)) = rw e c
      go (inr (inr j)) = absurd j

  node_claims : (w : Lowering) (net : ℕ) (n : Netlist.Node) (ns : List Netlist.Node) → F ≡ lower_nodes rs (lower_node rs w net n) (suc net) ns
      → All (KeyBelow rs net) w.state_variables → (is_register_output n && undriven (driver rs net)) ≡ false
      → ((u : ℕ) → In u (variables_of w.aig) → Claimed u) → (u : ℕ) → In u (variables_of (lower_node rs w net n).aig) → Claimed u
  unfolding is_register_output lower_node lower_input lower_output lower_shown lower_register_output with_net with_literal variable
  node_claims w net (Netlist.Input n) ns q k c h u i = one_more w.aig (length w.aig) h (input_claimed w net n ns q) u (rw more-variable at i)
  node_claims w net (Netlist.Constant b) ns q k c h u i = h u i
  node_claims w net Netlist.RegisterOutput ns q k c h u i =
      one_more w.aig (length w.aig) h (register_claimed w net ns q k c) u (rw (shown-none, more-variable) at i)
  node_claims w net (Netlist.Not a) ns q k c h u i = h u i
  node_claims w net (Netlist.Output n a) ns q k c h u i = h u i
  node_claims w net (Netlist.And a b) ns q k c h u i = h u (rw and_none at i)
  node_claims w net (Netlist.Or a b) ns q k c h u i = h u (rw or-none at i)
  node_claims w net (Netlist.Xor a b) ns q k c h u i = h u (rw xor-none at i)
  node_claims w net (Netlist.Mux d a b) ns q k c h u i = h u (rw mux-none at i)

  walk_claims : (w : Lowering) (net : ℕ) (ns : List Netlist.Node) → F ≡ lower_nodes rs w net ns → All (KeyBelow rs net) w.state_variables → connection_fault rs net ns ≡ none
      → ((u : ℕ) → In u (variables_of w.aig) → Claimed u) → (u : ℕ) → In u (variables_of F.aig) → Claimed u
  unfolding connection_fault lower_nodes
  walk_claims w net [] q k c h u i = h u (rw q at i)
  walk_claims w net (n ∷ ns) q k c h u i =
      let o = otherwise_none (refuse_if 13 0 net _) _ c in
      walk_claims (lower_node rs w net n) (suc net) ns q (node-keys rs w net n k) o.1 (node_claims w net n ns q k (refuse_if-none 13 0 net _ o.0) h) u i

-- ---- the whole

module _ (d : Design) (v : validate d ≡ none) where
  connected : connection_fault d.registers 0 d.nodes ≡ none
  unfolding validate
  connected =
      let a = otherwise_none (nodes_fault 0 [] d.nodes) _ v in
      let b = otherwise_none (registers_fault d.nodes 0 [] [] d.registers) _ a.1 in
      (otherwise_none (connection_fault d.registers 0 d.nodes) _ b.1).0

  -- each variable is an input's or a state's
  pub variables-listed : (u : ℕ) → In u (variables_of (from_netlist d).aig)
      → In u (map (λ (p : Port). node p.literal) (from_netlist d).inputs) ⊎ In u (map (λ (b : StateBit). b.variable) (from_netlist d).states)
  unfolding from_netlist with_registers system_of no_nodes new variables_of
  variables-listed u i = go (walk_claims d.registers walk no_nodes 0 d.nodes refl tt connected (λ k j. absurd j) u (rw registers-none at i))
    where
      walk : Lowering
      walk = lower_nodes d.registers no_nodes 0 d.nodes

      go : Claimed d.registers walk u → In u (map (λ (p : Port). node p.literal) (from_netlist d).inputs) ⊎ In u (map (λ (b : StateBit). b.variable) (from_netlist d).states)
      go (inl j) = inl (in_sort (λ (p : Port). p.name) (λ (p : Port). node p.literal) u walk.inputs j)
      go (inr (net, j, e)) =
          inr (rw e (in_sort (λ (b : StateBit). b.name) (λ (b : StateBit). b.variable) _ (lower_registers walk (record { aig = walk.aig; states = [] }) d.registers).states
          (states-listed walk (record { aig = walk.aig; states = [] }) d.registers net j)))

-- ---- variables in the words

in_left : (u : ℕ) (xs ys : List ℕ) → In u xs → In u (xs ++ ys)
in_left u [] ys h = absurd h
in_left u (x ∷ xs) ys (inl e) = inl e
in_left u (x ∷ xs) ys (inr h) = inr (in_left u xs ys h)

in_right : (u : ℕ) (xs ys : List ℕ) → In u ys → In u (xs ++ ys)
in_right u [] ys h = h
in_right u (x ∷ xs) ys h = inr (in_right u xs ys h)

found : (u : ℕ) (zs : List ℕ) → In u zs → member u zs ≡ true
unfolding member
found u [] i = absurd i
found u (z ∷ zs) (inl e) = rw (eq-eqb u z e)
found u (z ∷ zs) (inr i) = or-true (eqb u z) (member u zs) (found u zs i)

-- an element of one list passes the test of both
pub in_either : (u : ℕ) (xs ys : List ℕ) → In u xs ⊎ In u ys → member u (xs ++ ys) ≡ true
in_either u xs ys h = found u (xs ++ ys) (go h)
  where
    go : In u xs ⊎ In u ys → In u (xs ++ ys)
    go (inl i) = in_left u xs ys i
    go (inr i) = in_right u xs ys i

still : (g : Aig) (n : Node) (u : ℕ) → In u (variables_of g) → In u (variables_of (snoc g n))
unfolding variables_of snoc
still g Constant u i = go g i
  where
    go : (g : Aig) → In u (variables_of g) → In u (variables_of (g ++ (Constant ∷ [])))
    go [] i = absurd i
    go (Constant ∷ ns) i = go ns i
    go (Variable v ∷ ns) (inl e) = inl e
    go (Variable v ∷ ns) (inr i) = inr (go ns i)
    go (And a b ∷ ns) i = go ns i
still g (Variable v) u i = rw (more-variable g v) (in_left u (variables_of g) (v ∷ []) i)
still g (And a b) u i = rw (more-and g a b) i

-- a node past the first whose larger literal is 0 is a variable
pub words-variable : (n : ℕ) (ls rs : List ℕ) (j : ℕ) → 0 < j → j < n → get_or rs j 0 ≡ 0 → In j (variables_of (nodes_of n ls rs))
unfolding nodes_of
words-variable zero ls rs j p h e = absurd (omega arith)
words-variable (suc n) ls rs j p h e = go (λ l. words-variable n ls rs j p l e) (eqb j n) refl
  where
    here : (g : Aig) (k : ℕ) → 0 < k → In k (variables_of (snoc g (node_of k (get_or ls k 0) 0)))
    here g zero q = absurd (omega arith)
    here g (suc k) q = unfold node_of in rw (more-variable g (suc k)) (in_right (suc k) (variables_of g) (suc k ∷ []) (inl refl))

    go : (j < n → In j (variables_of (nodes_of n ls rs))) → (t : Bool) → eqb j n ≡ t → In j (variables_of (snoc (nodes_of n ls rs) (node_of n (get_or ls n 0) (get_or rs n 0))))
    go f true q = rw (← (eqb-true j n q), e) (here _ j p)
    go f false q = still (nodes_of n ls rs) _ j (f (omega (arith, eqb-false j n q)))
