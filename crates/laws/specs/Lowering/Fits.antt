-- An environment that fits the walk exists, and one that has its bits fits too. Assumes nothing.
use Rattle.std.specs.Prelude.{ℕ, suc, ◌*◌, ◌<◌, ◌≡◌, refl, Bool, ◌&&◌}
use Rattle.std.proofs.Common.{arith, ◌∙◌, inl}
use Rattle.std.proofs.Math.Path.{sym, ap}
use Rattle.std.proofs.Math.Bool.{false}
use mathlib.Core.List.{List, [], ◌∷◌, ◌++◌, map, append_assoc}
use Rattle.std.proofs.Math.Option.{Option, none, some}
use Rattle.std.proofs.Math.ListN.{length}
use Rattle.model.specs.Names.{Name}
use Rattle.model.specs.Netlist.{Node, Input, Constant, RegisterOutput, Not, Output, And, Or, Xor, Mux, Register, is_register_output}
use Rattle.model.specs.Validate.{Driver, driver, refuse_if, undriven, connection_fault}
use Rattle.model.specs.Run.{InputBits, StoredBits}
use Rattle.model.specs.Literal.{Literal, FALSE, node}
use Rattle.model.specs.Lists.{snoc, lookup}
use Rattle.model.specs.Aig.{Aig, new, variable}
use Rattle.model.specs.Transition.{Port, Lowering, lower_input, lower_shown, lower_register_output, lower_node, lower_nodes, no_nodes}
use Rattle.laws.specs.Graph.Values.{node-even}
use Rattle.facts.specs.Lists.{In, All, all_append, all_map}
use Rattle.laws.specs.Graph.Operations.{Formed}
use Rattle.laws.specs.Record.Accepted.{otherwise_none, refuse_if-none}
use Rattle.laws.specs.Lowering.Lists.{in_map-left, in_map-right, lookup-past, lookup_first}
use Rattle.laws.specs.Lowering.Walk.{stored_bit, Wants, Fits, WalkMeans, node-step, register-grows, input-grows}
use Rattle.laws.specs.Lowering.Shape.{walk-keeps, KeyBelow, node-keys}
use Rattle.laws.specs.Lowering.Registers.{driver-output}

-- the variable that a node makes, with its bit
unfoldable pub wanted : List Register → InputBits → StoredBits → Aig → ℕ → Node → List (ℕ × Bool)
wanted rs inp stored g net (Input n) = (length g, inp n) ∷ []
wanted rs inp stored g net (Constant b) = []
wanted rs inp stored g net RegisterOutput = (length g, stored_bit stored (driver rs net)) ∷ []
wanted rs inp stored g net (Not a) = []
wanted rs inp stored g net (Output n a) = []
wanted rs inp stored g net (And a b) = []
wanted rs inp stored g net (Or a b) = []
wanted rs inp stored g net (Xor a b) = []
wanted rs inp stored g net (Mux c a b) = []

-- the variables of a walk with their bits, in the order they are made
unfoldable pub walk_bits : List Register → InputBits → StoredBits → Lowering → ℕ → List Node → List (ℕ × Bool)
walk_bits rs inp stored w net [] = []
walk_bits rs inp stored w net (n ∷ ns) = wanted rs inp stored w.aig net n ++ walk_bits rs inp stored (lower_node rs w net n) (suc net) ns

-- the number of a variable stands below k
abbrev NumberBelow : ℕ → (ℕ × Bool) → Type 0
NumberBelow k p = p.0 < k

new-is-formed : Formed new
unfolding new
new-is-formed = record { order = (tt, tt); grounding = refl }

-- no node: nothing to mean
pub no-nodes_mean : (e : ℕ → Bool) (rs : List Register) (inp : InputBits) (stored : StoredBits) → WalkMeans e rs inp stored no_nodes []
unfolding no_nodes
no-nodes_mean e rs inp stored = record { formed = new-is-formed; nets = tt; states = tt; inputs = tt }

module _ (rs : List Register) (inp : InputBits) (stored : StoredBits) (L : List (ℕ × Bool)) where
  -- the bit of the variable made next
  next_bit : (done : List (ℕ × Bool)) (k : ℕ) (x : Bool) (rest : List (ℕ × Bool)) → L ≡ done ++ ((k, x) ∷ rest) → All (NumberBelow k) done → lookup false L k ≡ x
  next_bit done k x rest q h = ap (λ (l : List (ℕ × Bool)). lookup false l k) q ∙ lookup-past false done ((k, x) ∷ rest) k h ∙ lookup_first false k x rest

  wants_met : (done rest : List (ℕ × Bool)) (g : Aig) (net : ℕ) (n : Node) → L ≡ done ++ (wanted rs inp stored g net n ++ rest) → All (NumberBelow (length g)) done → Wants (lookup false L) rs inp stored g net n
  unfolding wanted
  wants_met done rest g net (Input n) q h = next_bit done (length g) _ rest q h
  wants_met done rest g net (Constant b) q h = tt
  wants_met done rest g net RegisterOutput q h = next_bit done (length g) _ rest q h
  wants_met done rest g net (Not a) q h = tt
  wants_met done rest g net (Output n a) q h = tt
  wants_met done rest g net (And a b) q h = tt
  wants_met done rest g net (Or a b) q h = tt
  wants_met done rest g net (Xor a b) q h = tt
  wants_met done rest g net (Mux c a b) q h = tt

  wanted-below : (w : Lowering) (values : List Bool) (net : ℕ) (n : Node) → WalkMeans (lookup false L) rs inp stored w values
      → All (NumberBelow (length (lower_node rs w net n).aig)) (wanted rs inp stored w.aig net n)
  unfolding wanted
  wanted-below w values net (Input n) h = (input-grows (lookup false L) rs inp stored w net n, tt)
  wanted-below w values net (Constant b) h = tt
  wanted-below w values net RegisterOutput h = (register-grows (lookup false L) rs inp stored w values net h, tt)
  wanted-below w values net (Not a) h = tt
  wanted-below w values net (Output n a) h = tt
  wanted-below w values net (And a b) h = tt
  wanted-below w values net (Or a b) h = tt
  wanted-below w values net (Xor a b) h = tt
  wanted-below w values net (Mux c a b) h = tt

  -- the walk's own bits fit the walk
  pub own-fits : (done : List (ℕ × Bool)) (w : Lowering) (values : List Bool) (net : ℕ) (ns : List Node) → L ≡ done ++ walk_bits rs inp stored w net ns
      → All (NumberBelow (length w.aig)) done → WalkMeans (lookup false L) rs inp stored w values → Fits (lookup false L) rs inp stored w net ns
  unfolding walk_bits
  own-fits done w values net [] q h m = tt
  own-fits done w values net (n ∷ ns) q h m =
      let x = wants_met done _ w.aig net n q h in
      let s = node-step (lookup false L) rs inp stored w values net n m x in
      let more = wanted rs inp stored w.aig net n in
      let v = lower_node rs w net n in
      let old = all_map (NumberBelow (length w.aig)) (NumberBelow (length v.aig)) (λ p i. omega (arith, s.since.grows)) done h in
      (x, own-fits (done ++ more) v _ (suc net) ns (q ∙ sym (append_assoc done more _)) (all_append (NumberBelow (length v.aig)) done more old (wanted-below w values net n m)) s.means)

-- ---- another environment with the same bits

-- a driver that is not missing is there
pub driven : (o : Option Driver) → undriven o ≡ false → (d : Driver) × (o ≡ some d)
unfolding undriven
driven none h = absurd (let z : ◌≡◌ {A = ℕ} 0 1 = cc in omega arith)
driven (some d) h = (d, refl)

module _ (rs : List Register) (inp : InputBits) (stored : StoredBits) (e f : ℕ → Bool) (F : Lowering)
    (inputs_in : (k : ℕ) → In k (map (λ (p : Port). node p.literal) F.inputs) → f k ≡ e k)
    (states-in : (net : ℕ) → In net (map (λ (r : Register). r.output) rs) → f (node (lookup FALSE F.state_variables net)) ≡ e (node (lookup FALSE F.state_variables net))) where
  input-same : (w : Lowering) (net : ℕ) (n : Name) (ns : List Node) → F ≡ lower_nodes rs (lower_node rs w net (Input n)) (suc net) ns → f (length w.aig) ≡ e (length w.aig)
  unfolding lower_node lower_input variable snoc
  input-same w net n ns q =
      let k = length w.aig in
      let r = walk-keeps rs (lower_node rs w net (Input n)) (suc net) ns in
      let one : List Port = record { name = n; literal = k * 2 } ∷ [] in
      let x : F.inputs ≡ (w.inputs ++ one) ++ r.more-inputs = ap (λ (l : Lowering). l.inputs) q ∙ r.inputs in
      inputs_in k (rw x (in_map-left (λ (p : Port). node p.literal) k (w.inputs ++ one) r.more-inputs (in_map-right (λ (p : Port). node p.literal) k w.inputs one (inl (sym (node-even k))))))

  register-same : (w : Lowering) (net : ℕ) (ns : List Node) → F ≡ lower_nodes rs (lower_node rs w net RegisterOutput) (suc net) ns
      → All (KeyBelow rs net) w.state_variables → undriven (driver rs net) ≡ false → f (length w.aig) ≡ e (length w.aig)
  unfolding lower_node lower_register_output lower_shown variable snoc driver
  register-same w net ns q h u =
      let k = length w.aig in
      let r = walk-keeps rs (lower_node rs w net RegisterOutput) (suc net) ns in
      let x : F.state_variables ≡ w.state_variables ++ ((net, k * 2) ∷ r.more-states)
      = ap (λ (l : Lowering). l.state_variables) q ∙ r.states ∙ append_assoc w.state_variables ((net, k * 2) ∷ []) r.more-states in
      let y : lookup FALSE F.state_variables net ≡ k * 2
      = ap (λ (l : List (ℕ × Literal)). lookup FALSE l net) x ∙ lookup-past FALSE w.state_variables _ net h ∙ lookup_first FALSE net (k * 2) r.more-states in
      let z : node (lookup FALSE F.state_variables net) ≡ k = ap node y ∙ node-even k in
      let d = driven (driver rs net) u in
      rw z at (states-in net (driver-output 0 net rs d.0 d.1))

  wants_same : (w : Lowering) (net : ℕ) (n : Node) (ns : List Node) → F ≡ lower_nodes rs (lower_node rs w net n) (suc net) ns
      → All (KeyBelow rs net) w.state_variables → (is_register_output n && undriven (driver rs net)) ≡ false → Wants e rs inp stored w.aig net n → Wants f rs inp stored w.aig net n
  unfolding is_register_output
  wants_same w net (Input n) ns q h u t = input-same w net n ns q ∙ t
  wants_same w net (Constant b) ns q h u t = tt
  wants_same w net RegisterOutput ns q h u t = register-same w net ns q h u ∙ t
  wants_same w net (Not a) ns q h u t = tt
  wants_same w net (Output n a) ns q h u t = tt
  wants_same w net (And a b) ns q h u t = tt
  wants_same w net (Or a b) ns q h u t = tt
  wants_same w net (Xor a b) ns q h u t = tt
  wants_same w net (Mux c a b) ns q h u t = tt

  -- an environment with the same bits of the variables fits too
  pub same-fits : (w : Lowering) (net : ℕ) (ns : List Node) → F ≡ lower_nodes rs w net ns → All (KeyBelow rs net) w.state_variables
      → connection_fault rs net ns ≡ none → Fits e rs inp stored w net ns → Fits f rs inp stored w net ns
  unfolding connection_fault lower_nodes
  same-fits w net [] q h c t = tt
  same-fits w net (n ∷ ns) q h c t =
      let o = otherwise_none (refuse_if 13 0 net _) _ c in (
        wants_same w net n ns q h (refuse_if-none 13 0 net _ o.0) t.0,
        same-fits (lower_node rs w net n) (suc net) ns q (node-keys rs w net n h) o.1 t.1,
      )
