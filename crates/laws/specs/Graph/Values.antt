-- Values of graphs: nodes in order, and what a literal and its negation evaluate to. Assumes nothing.
use Prim.Native.Nat.{ℕ, zero, suc, ◌+◌, ◌-◌, ◌*◌, ◌/◌, ◌%◌, ◌<◌}
use native.Mathlib.Omega.{arith}
use Rattle.std.proofs.Common.{add-zero, ◌∙◌}
use Rattle.std.proofs.Math.Path.{◌≡◌, refl, sym}
use Rattle.std.specs.Prelude.{Bool, true, not, ◌&&◌, ◌||◌, cond, get_or}
use Rattle.std.proofs.Math.Bool.{false, xor as xor_bool, and-false, and-true, and_self, not-and_self}
use mathlib.Core.List.{List, [], ◌∷◌}
use Rattle.std.proofs.Math.Option.{Option, none, some}
use Rattle.std.proofs.Math.ListN.{length, get_elem?, get_or-append}
use Rattle.std.proofs.Math.Dec.{eqb}
use borrow.Author.Tests.{eqb-true, eqb-false, eq-eqb, ne_eqb}
use Rattle.model.specs.Literal.{node, inverted, negate}
use Rattle.model.specs.Lists.{snoc}
use Rattle.model.specs.Aig.{Node, Constant, Variable, And, and_shortcut, evaluate, aig_node_value, aig_values_from}
use Rattle.laws.specs.Lists.{length-snoc, get_or-snoc-new}
use Rattle.facts.specs.Bools.{by_cond}

-- ---- graphs in order

-- the operands of a node stand before place k
abbrev pub Below : ℕ → Node → Type 0
Below k Constant = Unit {0}
Below k (Variable v) = Unit {0}
Below k (And a b) = (node a < k) × (node b < k)

-- each node's operands stand before it; the first node is at k
abbrev pub InOrder : ℕ → List Node → Type 0
InOrder k [] = Unit {0}
InOrder k (n ∷ ns) = Below k n × InOrder (suc k) ns

-- ---- values

module _ (env : ℕ → Bool) where
  stable : (ns : List Node) (vs : List Bool) (j : ℕ) → j < length vs → get_or (aig_values_from env ns vs) j false ≡ get_or vs j false
  unfolding aig_values_from snoc
  stable [] vs j h = refl
  stable (n ∷ ns) vs j h =
      stable ns (snoc vs (aig_node_value env vs n)) j (omega (arith, length-snoc vs (aig_node_value env vs n))) ∙ get_or-append vs (aig_node_value env vs n ∷ []) false j h

  stable_lit : (ns : List Node) (vs : List Bool) (l : ℕ) → node l < length vs → evaluate (aig_values_from env ns vs) l ≡ evaluate vs l
  unfolding evaluate
  stable_lit ns vs l h = rw (stable ns vs (node l) h)

  stable_node : (ns : List Node) (vs : List Bool) (n : Node) → Below (length vs) n → aig_node_value env (aig_values_from env ns vs) n ≡ aig_node_value env vs n
  unfolding aig_node_value
  stable_node ns vs Constant h = refl
  stable_node ns vs (Variable v) h = refl
  stable_node ns vs (And a b) h = rw (stable_lit ns vs a h.0, stable_lit ns vs b h.1)

  -- the value of a node in the whole graph is what the whole graph's values make of it
  pub at-node : (ns : List Node) (vs : List Bool) (i : ℕ) (n : Node) → InOrder (length vs) ns → get_elem? ns i ≡ some n
      → get_or (aig_values_from env ns vs) (length vs + i) false ≡ aig_node_value env (aig_values_from env ns vs) n
  unfolding aig_values_from
  at-node [] vs i n w e = absurd (let z : ◌≡◌ {A = ℕ} 0 1 = cc in omega arith)
  at-node (m ∷ ns) vs zero n w e =
      let p : m ≡ n = cc in
      let x = aig_node_value env vs m in
      rw (add-zero, ← p)
      (stable ns (snoc vs x) (length vs) (omega (arith, length-snoc vs x)) ∙ get_or-snoc-new vs x false ∙ sym (stable_node (m ∷ ns) vs m w.0))
  at-node (m ∷ ns) vs (suc i) n w e =
      let ws = snoc vs (aig_node_value env vs m) in
      let q : length ws + i ≡ length vs + suc i = omega (arith, length-snoc vs (aig_node_value env vs m)) in
      rw (← q) (at-node ns ws i n (rw length-snoc w.1) e)

  -- the value of one more node at the end
  pub values-snoc : (ns : List Node) (vs : List Bool) (n : Node)
      → aig_values_from env (snoc ns n) vs ≡ snoc (aig_values_from env ns vs) (aig_node_value env (aig_values_from env ns vs) n)
  unfolding aig_values_from snoc
  values-snoc [] vs n = refl
  values-snoc (m ∷ ns) vs n = values-snoc ns (snoc vs (aig_node_value env vs m)) n

  -- a value for each node
  pub length-values : (ns : List Node) (vs : List Bool) → length (aig_values_from env ns vs) ≡ length vs + length ns
  unfolding aig_values_from
  length-values [] vs = omega arith
  length-values (m ∷ ns) vs = omega (arith, length-values ns (snoc vs (aig_node_value env vs m)), length-snoc vs (aig_node_value env vs m))

-- ---- literals

-- the Constant's value is false: all that the and_shortcut cases ask of the values
abbrev pub Grounded : List Bool → Type 0
Grounded vs = get_or vs 0 false ≡ false

-- a negation has the same node
pub node-negate : (l : ℕ) → node (negate l) ≡ node l
unfolding node negate inverted
node-negate l = go (eqb (l % 2) 1) refl
  where
    go : (b : Bool) → eqb (l % 2) 1 ≡ b → cond (eqb (l % 2) 1) (l - 1) (l + 1) / 2 ≡ l / 2
    go true e = rw e (omega (arith, eqb-true (l % 2) 1 e))
    go false e = rw e (omega (arith, eqb-false (l % 2) 1 e))

-- the node of a plain literal
pub node-even : (n : ℕ) → node (n * 2) ≡ n
unfolding node
node-even n = omega arith

-- a negation has the other sign
pub inverted-negate : (l : ℕ) → inverted (negate l) ≡ not (inverted l)
unfolding node negate inverted
inverted-negate l = go (eqb (l % 2) 1) refl
  where
    go : (b : Bool) → eqb (l % 2) 1 ≡ b → eqb (cond (eqb (l % 2) 1) (l - 1) (l + 1) % 2) 1 ≡ not (eqb (l % 2) 1)
    go true e = rw e (ne_eqb ((l - 1) % 2) 1 (omega (arith, eqb-true (l % 2) 1 e)))
    go false e = rw e (eq-eqb ((l + 1) % 2) 1 (omega (arith, eqb-false (l % 2) 1 e)))

xor-false : (a : Bool) → xor_bool a false ≡ a
unfolding xor_bool
xor-false true = refl
xor-false false = refl

xor-not : (a b : Bool) → xor_bool a (not b) ≡ not (xor_bool a b)
unfolding xor_bool
xor-not true true = refl
xor-not true false = refl
xor-not false true = refl
xor-not false false = refl

by_or : {C : Type 0} {s t : Bool} → (s ≡ true → C) → (t ≡ true → C) → s || t ≡ true → C
by_or {s = true} f g e = f refl
by_or {s = false} f g e = g e

module _ (vs : List Bool) where
  -- a negation has the other value
  pub lit_neg : (l : ℕ) → evaluate vs (negate l) ≡ not (evaluate vs l)
  unfolding evaluate
  lit_neg l = rw (node-negate, inverted-negate, xor-not)

  -- FALSE is false
  pub lit_0 : Grounded vs → evaluate vs 0 ≡ false
  unfolding evaluate inverted node xor_bool
  lit_0 g = rw g

  -- TRUE is true
  pub lit_1 : Grounded vs → evaluate vs 1 ≡ true
  unfolding evaluate inverted node xor_bool
  lit_1 g = rw g

  -- what the conjunction of a and b may be, among k nodes
  abbrev pub Conjoined : ℕ → ℕ → ℕ → Option ℕ → Type 0
  Conjoined k a b none = Unit {0}
  Conjoined k a b (some l) = (evaluate vs l ≡ evaluate vs a && evaluate vs b) × (node l < k)

  -- what `and` answers without a node has the conjunction's value
  pub and_shortcut_sound : Grounded vs → (k a b : ℕ) → node a < k → node b < k → Conjoined k a b (and_shortcut a b)
  unfolding and_shortcut node
  and_shortcut_sound g k a b ha hb =
      by_cond (Conjoined k a b) {x = some 0}
      (by_or (λ e. (rw (eqb-true a 0 e, lit_0 g) refl, omega arith)) (λ e. (rw (eqb-true b 0 e, lit_0 g, and-false), omega arith)))
      λ _.
      by_cond (Conjoined k a b)
      {x = some b} (λ e. (rw (eqb-true a 1 e, lit_1 g), hb))
      λ _.
      by_cond (Conjoined k a b) {x = some a}
      (by_or (λ e. (rw (eqb-true b 1 e, lit_1 g, and-true), ha)) (λ e. (rw (eqb-true a b e, and_self), ha)))
      λ _. by_cond (Conjoined k a b) {x = some 0} (λ e. (rw (eqb-true a (negate b) e, lit_neg, lit_0 g, not-and_self), omega arith)) (λ _. tt)

  -- the plain literal of a node has the node's value
  pub lit_even : (i : ℕ) → evaluate vs (i * 2) ≡ get_or vs i false
  unfolding evaluate node inverted
  lit_even i =
      let p : i * 2 / 2 ≡ i = omega arith in
      let q : eqb (i * 2 % 2) 1 ≡ false = ne_eqb (i * 2 % 2) 1 (omega arith) in
      rw (p, q, xor-false)
