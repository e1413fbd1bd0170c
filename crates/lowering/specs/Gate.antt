-- The literal of one node of a design, by its decoded fields. Definitions, with their tie to the model's. Assumes nothing.
use Rattle.std.specs.Prelude.{◌≡◌, Bool, List, [], ◌∷◌, ℕ, ◌*◌, ◌≤◌, ◌<◌, eqb, get_or}
use Rattle.std.proofs.Math.Path.{refl}
use Rattle.std.proofs.Common.{◌∙◌, arith}
use Rattle.std.proofs.Math.Bool.{true, false, cond}
use borrow.Author.Tests.{ne_eqb}
use Rattle.words.specs.Layout.{NETS, STATES}
use Rattle.words.specs.Region.{region}
use Rattle.model.specs.Kinds.{input_kind, constant_kind, register_output_kind, not_kind, output_kind, and_kind, or_kind, xor_kind, mux_kind, by_kind}
use Rattle.model.specs.Literal.{Literal, FALSE, negate, constant_literal}
use Rattle.model.specs.Aig.{Aig, Built, variable, and, or, xor, mux}
use Rattle.model.specs.Names.{Name}
use Rattle.model.specs.Netlist.{Node, Input, Constant, RegisterOutput, Not, Output, And, Or, Xor, Mux}
use Rattle.model.specs.Record.{node_of}
use Rattle.model.specs.Transition.{net_literal}
use Rattle.laws.specs.Record.Kinds.{by_kind_lem}
use Rattle.aig.specs.Made.{Ready, Made, made_none}
use Rattle.aig.specs.Graph.{graph_of}

-- what a node makes of the graph, from the literals of the nets; a register output its state's variable
unfoldable pub gate_of : Aig → List Literal → Node → Built
gate_of g nets (Input n) = variable g
gate_of g nets (Constant b) = record { aig = g; literal = constant_literal b }
gate_of g nets RegisterOutput = variable g
gate_of g nets (Not a) = record { aig = g; literal = negate (net_literal nets a) }
gate_of g nets (Output n a) = record { aig = g; literal = net_literal nets a }
gate_of g nets (And a b) = and g (net_literal nets a) (net_literal nets b)
gate_of g nets (Or a b) = or g (net_literal nets a) (net_literal nets b)
gate_of g nets (Xor a b) = xor g (net_literal nets a) (net_literal nets b)
gate_of g nets (Mux c a b) = mux g (net_literal nets c) (net_literal nets a) (net_literal nets b)

-- FALSE, which needs no node
abbrev pub no_gate : Aig → Built
no_gate g = record { aig = g; literal = FALSE }

-- the same by the kind of a gate with two or three inputs; FALSE for another kind
unfoldable pub pair_by : Aig → List Literal → ℕ → ℕ → ℕ → ℕ → Built
pair_by g nets k a b c =
    by_kind k (no_gate g) (no_gate g) (no_gate g) (no_gate g) (no_gate g)
    (and g (net_literal nets a) (net_literal nets b))
    (or g (net_literal nets a) (net_literal nets b))
    (xor g (net_literal nets a) (net_literal nets b))
    (mux g (net_literal nets a) (net_literal nets b) (net_literal nets c))
    (no_gate g)

-- the same by the kind of any node, its value and its input numbers
unfoldable pub gate_by : Aig → List Literal → ℕ → ℕ → ℕ → ℕ → ℕ → Built
gate_by g nets k v a b c =
    by_kind k (variable g) (record { aig = g; literal = constant_literal (eqb v 1) }) (variable g)
    (record { aig = g; literal = negate (net_literal nets a) })
    (record { aig = g; literal = net_literal nets a })
    (and g (net_literal nets a) (net_literal nets b))
    (or g (net_literal nets a) (net_literal nets b))
    (xor g (net_literal nets a) (net_literal nets b))
    (mux g (net_literal nets a) (net_literal nets b) (net_literal nets c))
    (no_gate g)

-- the decoded node's gate
pub gate_of_lem : (g : Aig) (nets : List Literal) (k : ℕ) (n : Name) (v a b c : ℕ) → gate_of g nets (node_of k n v (a ∷ b ∷ c ∷ [])) ≡ gate_by g nets k v a b c
unfolding gate_of gate_by node_of constant_literal
gate_of_lem g nets k n v a b c = by_kind_lem (gate_of g nets) k _ _ _ _ _ _ _ _ _ _

-- ---- nets that read alike

-- every number has the same literal in both
pub record Alike (xs ys : List Literal) : Type 0 where
  pub at : (a : ℕ) → net_literal xs a ≡ net_literal ys a

pub gate-alike : (g : Aig) (xs ys : List Literal) (n : Node) → Alike xs ys → gate_of g xs n ≡ gate_of g ys n
unfolding gate_of
gate-alike g xs ys (Input n) e = refl
gate-alike g xs ys (Constant b) e = refl
gate-alike g xs ys RegisterOutput e = refl
gate-alike g xs ys (Not a) e = rw (e.at a)
gate-alike g xs ys (Output n a) e = rw (e.at a)
gate-alike g xs ys (And a b) e = rw (e.at a, e.at b)
gate-alike g xs ys (Or a b) e = rw (e.at a, e.at b)
gate-alike g xs ys (Xor a b) e = rw (e.at a, e.at b)
gate-alike g xs ys (Mux c a b) e = rw (e.at c, e.at a, e.at b)

-- ---- what the code made

-- the words hold a graph of c nodes; the nets' literals and the state variables are of it
pub record Netted (c : ℕ) (w : List ℕ) : Type 0 where
  pub ready : Ready c w
  pub nets : (a : ℕ) → net_literal (region NETS w) a < c * 2
  pub states : (k : ℕ) → get_or (region STATES w) k 0 < c * 2

-- the same work with more room
pub made_more : {k n : ℕ} {w : List ℕ} {n' : ℕ} {w' : List ℕ} {l : ℕ} {m : Built} (k' : ℕ) → k ≤ k' → Made k n w n' w' l m → Made k' n w n' w' l m
made_more k' h d =
    record { built = d.built; ready = d.ready; same = d.same; grows = d.grows; within = omega (arith, d.within); below = d.below }

-- the result said otherwise
pub made_as : {k n : ℕ} {w : List ℕ} {n' : ℕ} {w' : List ℕ} {l : ℕ} {m m' : Built} → m ≡ m' → Made k n w n' w' l m → Made k n w n' w' l m'
made_as e d = record { built = d.built ∙ e; ready = d.ready; same = d.same; grows = d.grows; within = d.within; below = d.below }

-- ---- each kind's choice

module _ (g : Aig) (nets : List Literal) (k a b c : ℕ) where
  pub pair-and : k ≡ and_kind → and g (net_literal nets a) (net_literal nets b) ≡ pair_by g nets k a b c
  unfolding pair_by by_kind
  pair-and e = rw e

  pub pair_or : k ≡ or_kind → or g (net_literal nets a) (net_literal nets b) ≡ pair_by g nets k a b c
  unfolding pair_by by_kind
  pair_or e = rw e

  pub pair-xor : k ≡ xor_kind → xor g (net_literal nets a) (net_literal nets b) ≡ pair_by g nets k a b c
  unfolding pair_by by_kind
  pair-xor e = rw e

  pub pair-mux : k ≡ mux_kind → mux g (net_literal nets a) (net_literal nets b) (net_literal nets c) ≡ pair_by g nets k a b c
  unfolding pair_by by_kind
  pair-mux e = rw e

  pub pair-none : (k ≡ and_kind → ⊥) → (k ≡ or_kind → ⊥) → (k ≡ xor_kind → ⊥) → (k ≡ mux_kind → ⊥) → no_gate g ≡ pair_by g nets k a b c
  unfolding pair_by by_kind
  pair-none p q r s =
      let z = no_gate g in
      rw (ne_eqb k and_kind p, ne_eqb k or_kind q, ne_eqb k xor_kind r, ne_eqb k mux_kind s)
      (either (eqb k input_kind) z _ (either (eqb k constant_kind) z _ (either (eqb k register_output_kind) z _ (either (eqb k not_kind) z _ (either (eqb k output_kind) z _ refl)))))
    where
      either : (t : Bool) (x y : Built) → x ≡ y → x ≡ cond t x y
      either true x y e = refl
      either false x y e = e

module _ (g : Aig) (nets : List Literal) (k v a b c : ℕ) where
  pub gate-input : k ≡ input_kind → variable g ≡ gate_by g nets k v a b c
  unfolding gate_by by_kind
  gate-input e = rw e

  pub gate-constant : k ≡ constant_kind → record { aig = g; literal = constant_literal (eqb v 1) } ≡ gate_by g nets k v a b c
  unfolding gate_by by_kind
  gate-constant e = rw e

  pub gate-register : k ≡ register_output_kind → variable g ≡ gate_by g nets k v a b c
  unfolding gate_by by_kind
  gate-register e = rw e

  pub gate-not : k ≡ not_kind → record { aig = g; literal = negate (net_literal nets a) } ≡ gate_by g nets k v a b c
  unfolding gate_by by_kind
  gate-not e = rw e

  pub gate-output : k ≡ output_kind → record { aig = g; literal = net_literal nets a } ≡ gate_by g nets k v a b c
  unfolding gate_by by_kind
  gate-output e = rw e

  -- the kinds with fewer inputs left out
  pub gate-pair : (k ≡ input_kind → ⊥) → (k ≡ constant_kind → ⊥) → (k ≡ register_output_kind → ⊥) → (k ≡ not_kind → ⊥) → (k ≡ output_kind → ⊥) → pair_by g nets k a b c ≡ gate_by g nets k v a b c
  unfolding gate_by pair_by by_kind
  gate-pair p q r s t = rw (ne_eqb k input_kind p, ne_eqb k constant_kind q, ne_eqb k register_output_kind r, ne_eqb k not_kind s, ne_eqb k output_kind t)

-- a literal that needs no node
pub made-literal : (c : ℕ) (w : List ℕ) (l : ℕ) (m : Built) → Netted c w → l < c * 2 → record { aig = graph_of c w; literal = l } ≡ m → Made 3 c w c w l m
made-literal c w l m n h e = made_none 3 c w l m n.ready h e

-- a constant is a literal of every graph
pub constant-below : (t : Bool) (c : ℕ) → 0 < c → constant_literal t < c * 2
unfolding constant_literal
constant-below true c h = omega arith
constant-below false c h = omega arith
