-- What the graph's operations mean: each changes no old value, and its literal's value is what its name says. Assumes nothing.
use Prim.Native.Nat.{ℕ, zero, suc, ◌+◌, ◌*◌, ◌≤◌, ◌<◌, min, max}
use Rattle.std.proofs.Common.{arith, add-zero, add-suc, suc-add, ap₂, ◌∙◌}
use Rattle.std.proofs.Math.Nat.{zero-add}
use Rattle.std.specs.Prelude.{◌≡◌, Bool, ◌&&◌, ◌||◌, cond, eqb}
use Rattle.std.proofs.Math.Path.{refl, ap}
use Rattle.std.proofs.Math.Bool.{true, false, not, xor as xor_bool, and_comm}
use Rattle.std.proofs.lemmas.Bool.{false≢true}
use mathlib.Core.List.{List, [], ◌∷◌}
use Rattle.std.proofs.Math.Option.{Option, none, some}
use Rattle.std.proofs.Math.ListN.{length, get_elem?, get_or-append}
use Rattle.std.proofs.Math.Dec.{leb}
use borrow.Author.Tests.{eqb-true, leb-true, leb-false}
use Rattle.model.specs.Literal.{Literal, FALSE, TRUE, node, inverted, negate}
use Rattle.model.specs.Lists.{position, next_place, snoc}
use Rattle.model.specs.Aig.{Node, Constant, Variable, And, Aig, Built, variable, is_and, and_found, and_shortcut, and_unless, and, or, xor_shortcut, xor_unless, xor, mux_shortcut, mux_unless, mux, evaluate, aig_node_value, aig_values_from, aig_node_values}
use Rattle.laws.specs.Lists.{length-snoc, get_or-snoc-new}
use Rattle.laws.specs.Graph.Values.{Below, InOrder, at-node, values-snoc, length-values, Grounded, node-negate, lit_neg, lit_0, lit_1, Conjoined, and_shortcut_sound, lit_even}
use Rattle.facts.specs.Bools.{and_left, and_right, by_cond, xor_self, cond_same}

-- ---- the hash

-- what a search may answer: a place whose element passes the test
abbrev Hit : {A : Type 0} → (A → Bool) → List A → Option ℕ → Type 0
Hit p xs none = Unit {0}
Hit {A} p xs (some i) = (x : A) × (get_elem? xs i ≡ some x) × (p x ≡ true)

hit_next : {A : Type 0} (p : A → Bool) (x : A) (xs : List A) (o : Option ℕ) → Hit p xs o → Hit p (x ∷ xs) (next_place o)
unfolding next_place
hit_next p x xs none h = tt
hit_next p x xs (some i) h = h

position_hits : {A : Type 0} (p : A → Bool) (xs : List A) → Hit p xs (position p xs)
unfolding position
position_hits p [] = tt
position_hits p (x ∷ xs) = by_cond (Hit p (x ∷ xs)) {x = some 0} (λ e. (x, refl, e)) (λ _. hit_next p x xs (position p xs) (position_hits p xs))

is-and_eq : (a b : ℕ) (n : Node) → is_and a b n ≡ true → n ≡ And a b
unfolding is_and
is-and_eq a b Constant e = absurd (false≢true e)
is-and_eq a b (Variable v) e = absurd (false≢true e)
is-and_eq a b (And c d) e = cc (eqb-true a c (and_left (eqb a c) (eqb b d) e), eqb-true b d (and_right (eqb a c) (eqb b d) e))

at_lt : {A : Type 0} (xs : List A) (i : ℕ) (x : A) → get_elem? xs i ≡ some x → i < length xs
at_lt [] i x e = absurd (let z : ◌≡◌ {A = ℕ} 0 1 = cc in omega arith)
at_lt (y ∷ xs) zero x e = omega arith
at_lt (y ∷ xs) (suc i) x e = omega (arith, at_lt xs i x e)

order-snoc : (k : ℕ) (ns : List Node) (n : Node) → InOrder k ns → Below (k + length ns) n → InOrder k (snoc ns n)
unfolding snoc
order-snoc k [] n w h = (rw add-zero at h, tt)
order-snoc k (m ∷ ns) n w h = (w.0, order-snoc (suc k) ns n w.1 (rw (add-suc, ← suc-add) at h))

-- ---- what an operation returns

-- a graph whose node 0 is the constant and whose operands stand before their nodes
pub record Formed (g : Aig) : Type 0 where
  pub order : InOrder 0 g
  pub grounding : get_elem? g 0 ≡ some Constant

-- m has g's nodes with their values, and its literal's value is x
pub record Means (environment : ℕ → Bool) (g : Aig) (x : Bool) (m : Built) : Type 0 where
  pub keeps : (l : Literal) → node l < length g → evaluate (aig_node_values environment m.aig) l ≡ evaluate (aig_node_values environment g) l
  pub value : evaluate (aig_node_values environment m.aig) m.literal ≡ x
  pub formed : Formed m.aig
  pub inside : node m.literal < length m.aig
  pub grows : length g ≤ length m.aig

grounding-snoc : (g : Aig) (n : Node) → get_elem? g 0 ≡ some Constant → get_elem? (snoc g n) 0 ≡ some Constant
unfolding snoc
grounding-snoc [] n e = absurd (let z : ◌≡◌ {A = ℕ} 0 1 = cc in omega arith)
grounding-snoc (m ∷ g) n e = e

formed-snoc : (g : Aig) (n : Node) → Formed g → Below (length g) n → Formed (snoc g n)
formed-snoc g n w h = record { order = order-snoc 0 g n w.order (rw zero-add h); grounding = grounding-snoc g n w.grounding }

module _ (environment : ℕ → Bool) where
  -- what stays the same: no new node
  pub same_graph : (g : Aig) (x : Bool) (l : Literal) → Formed g → node l < length g → evaluate (aig_node_values environment g) l ≡ x
      → Means environment g x (record { aig = g; literal = l })
  same_graph g x l w h e = record { keeps = λ k _. refl; value = e; formed = w; inside = h; grows = omega arith }

  -- node 0 of a formed graph is false
  pub grounded : (g : Aig) → Formed g → Grounded (aig_node_values environment g)
  unfolding aig_node_values aig_node_value
  grounded g w = at-node environment g [] 0 Constant w.order w.grounding

  node_means : (g : Aig) → Formed g → (i a b : ℕ) → get_elem? g i ≡ some (And a b)
      → evaluate (aig_node_values environment g) (i * 2) ≡ evaluate (aig_node_values environment g) a && evaluate (aig_node_values environment g) b
  unfolding aig_node_values aig_node_value
  node_means g w i a b e = lit_even _ i ∙ rw zero-add at (at-node environment g [] i (And a b) w.order e)

  keeps-snoc : (g : Aig) (n : Node) (l : Literal) → node l < length g
      → evaluate (aig_node_values environment (snoc g n)) l ≡ evaluate (aig_node_values environment g) l
  unfolding aig_node_values evaluate snoc
  keeps-snoc g n l h =
      rw (values-snoc environment g [] n)
      (ap (λ (x : Bool). xor_bool x (inverted l)) (get_or-append (aig_values_from environment g []) _ false (node l) (omega (arith, length-values environment g []))))

  value-snoc : (g : Aig) (n : Node) → evaluate (aig_node_values environment (snoc g n)) (length g * 2) ≡ aig_node_value environment (aig_node_values environment g) n
  unfolding aig_node_values
  value-snoc g n =
      let p : length g ≡ length (aig_values_from environment g []) = omega (arith, length-values environment g []) in
      lit_even _ (length g) ∙ rw (values-snoc environment g [] n, p, get_or-snoc-new)

  -- one more node at the end
  snoc_means : (g : Aig) → Formed g → (n : Node) → Below (length g) n
      → Means environment g (aig_node_value environment (aig_node_values environment g) n) (record { aig = snoc g n; literal = length g * 2 })
  unfolding node
  snoc_means g w n h =
      record {
        keeps = keeps-snoc g n;
        value = value-snoc g n;
        formed = formed-snoc g n w h;
        inside = omega (arith, length-snoc g n);
        grows = omega (arith, length-snoc g n);
      }

  -- a new variable has the environment's value
  pub variable_means : (g : Aig) → Formed g → Means environment g (environment (length g)) (variable g)
  unfolding variable aig_node_value
  variable_means g w = snoc_means g w (Variable (length g)) tt

  found_means : (g : Aig) → Formed g → (a b : Literal) → node a < length g → node b < length g → (o : Option ℕ) → Hit (is_and a b) g o
      → Means environment g (evaluate (aig_node_values environment g) a && evaluate (aig_node_values environment g) b) (and_found g a b o)
  unfolding and_found node aig_node_value
  found_means g w a b ha hb (some i) h =
      let e : get_elem? g i ≡ some (And a b) = h.1 ∙ ap some (is-and_eq a b h.0 h.2) in
      same_graph g _ (i * 2) w (omega (arith, at_lt g i (And a b) e)) (node_means g w i a b e)
  found_means g w a b ha hb none h = snoc_means g w (And a b) (ha, hb)

  unless_means : (g : Aig) → Formed g → (a b : Literal) → node a < length g → node b < length g
      → (o : Option Literal) → Conjoined (aig_node_values environment g) (length g) a b o
      → Means environment g (evaluate (aig_node_values environment g) a && evaluate (aig_node_values environment g) b) (and_unless g (min a b) (max a b) o)
  unfolding and_unless
  unless_means g w a b ha hb (some l) h = same_graph g _ l w h.1 h.0
  unless_means g w a b ha hb none h = go (leb a b) refl
    where
      go : (t : Bool) → leb a b ≡ t
          → Means environment g (evaluate (aig_node_values environment g) a && evaluate (aig_node_values environment g) b)
          (and_found g (min a b) (max a b) (position (is_and (min a b) (max a b)) g))
      go true e =
          let p : min a b ≡ a = omega (arith, leb-true a b e) in
          let q : max a b ≡ b = omega (arith, leb-true a b e) in
          rw (p, q) (found_means g w a b ha hb _ (position_hits (is_and a b) g))
      go false e =
          let p : min a b ≡ b = omega (arith, leb-false a b e) in
          let q : max a b ≡ a = omega (arith, leb-false a b e) in
          rw (p, q, and_comm (evaluate (aig_node_values environment g) a)) (found_means g w b a hb ha _ (position_hits (is_and b a) g))

  -- `and` means the conjunction
  pub and_means : (g : Aig) → Formed g → (a b : Literal) → node a < length g → node b < length g
      → Means environment g (evaluate (aig_node_values environment g) a && evaluate (aig_node_values environment g) b) (and g a b)
  unfolding and
  and_means g w a b ha hb =
      unless_means g w a b ha hb (and_shortcut a b) (and_shortcut_sound (aig_node_values environment g) (grounded g w) (length g) a b ha hb)

  -- an operation on the graph that another one returned
  pub after : {g : Aig} {x y : Bool} {m n : Built} → Means environment g x m → Means environment m.aig y n → Means environment g y n
  after h k =
      record {
        keeps = λ l i. k.keeps l (omega (arith, h.grows)) ∙ h.keeps l i;
        value = k.value;
        formed = k.formed;
        inside = k.inside;
        grows = omega (arith, h.grows, k.grows);
      }

  -- the same meaning, said otherwise
  pub meaning : {g : Aig} {x y : Bool} {m : Built} → x ≡ y → Means environment g x m → Means environment g y m
  meaning e h = record { keeps = h.keeps; value = h.value ∙ e; formed = h.formed; inside = h.inside; grows = h.grows }

  or_bool : (a b : Bool) → not (not a && not b) ≡ a || b
  or_bool true b = refl
  or_bool false true = refl
  or_bool false false = refl

  -- `or` means the disjunction
  pub or_means : (g : Aig) → Formed g → (a b : Literal) → node a < length g → node b < length g
      → Means environment g (evaluate (aig_node_values environment g) a || evaluate (aig_node_values environment g) b) (or g a b)
  unfolding or
  or_means g w a b ha hb =
      let h = and_means g w (negate a) (negate b) (rw node-negate ha) (rw node-negate hb) in
      let v = aig_node_values environment g in
      record {
        keeps = h.keeps;
        value = lit_neg _ _ ∙ ap not h.value ∙ rw (lit_neg v a, lit_neg v b) (or_bool (evaluate v a) (evaluate v b));
        formed = h.formed;
        inside = rw node-negate h.inside;
        grows = h.grows;
      }

  -- (a and b) or (c and d), as `xor` and `mux` build it
  or_of_ands_lem : (g : Aig) → Formed g → (a b c d : Literal) → node a < length g → node b < length g → node c < length g → node d < length g
      → (let m = and g a b in let n = and m.aig c d in
      Means environment g
      ((evaluate (aig_node_values environment g) a && evaluate (aig_node_values environment g) b) || (evaluate (aig_node_values environment g) c && evaluate (aig_node_values environment g) d))
      (or n.aig m.literal n.literal))
  or_of_ands_lem g w a b c d ha hb hc hd =
      let h = and_means g w a b ha hb in
      let m = and g a b in
      let k = and_means m.aig h.formed c d (omega (arith, h.grows)) (omega (arith, h.grows)) in
      let n = and m.aig c d in
      let o = or_means n.aig k.formed m.literal n.literal (omega (arith, h.inside, k.grows)) k.inside in
      let left = k.keeps m.literal h.inside ∙ h.value in
      let right = k.value ∙ ap₂ ◌&&◌ (h.keeps c hc) (h.keeps d hd) in
      after h (after k (meaning (ap₂ ◌||◌ left right) o))

  -- what a shortcut may answer, among k nodes whose values are vs: a literal with value x
  abbrev Fits : List Bool → ℕ → Bool → Option Literal → Type 0
  Fits vs k x none = Unit {0}
  Fits vs k x (some l) = (evaluate vs l ≡ x) × (node l < k)

  xor_other : (a : Bool) → xor_bool (not a) a ≡ true
  unfolding xor_bool
  xor_other true = refl
  xor_other false = refl

  xor_by_ands : (a b : Bool) → (a && not b) || (not a && b) ≡ xor_bool a b
  unfolding xor_bool
  xor_by_ands true true = refl
  xor_by_ands true false = refl
  xor_by_ands false true = refl
  xor_by_ands false false = refl

  cond_by_ands : (c t e : Bool) → (c && t) || (not c && e) ≡ cond c t e
  cond_by_ands true true e = refl
  cond_by_ands true false e = refl
  cond_by_ands false t e = refl

  cond-bit : (c : Bool) → cond c true false ≡ c
  cond-bit true = refl
  cond-bit false = refl

  cond-not : (c : Bool) → cond c false true ≡ not c
  cond-not true = refl
  cond-not false = refl

  xor_shortcut_fits : (vs : List Bool) → Grounded vs → (k a b : ℕ) → node a < k → node b < k
      → Fits vs k (xor_bool (evaluate vs a) (evaluate vs b)) (xor_shortcut a b)
  unfolding xor_shortcut node
  xor_shortcut_fits vs v k a b ha hb =
      by_cond (Fits vs k (xor_bool (evaluate vs a) (evaluate vs b))) {x = some FALSE}
      (λ e. (rw (eqb-true a b e, xor_self, lit_0 vs v), omega arith))
      λ _.
      by_cond (Fits vs k (xor_bool (evaluate vs a) (evaluate vs b))) {x = some TRUE}
      (λ e. (rw (eqb-true a (negate b) e, lit_neg vs b, xor_other, lit_1 vs v), omega arith))
      (λ _. tt)

  xor_unless_means : (g : Aig) → Formed g → (a b : Literal) → node a < length g → node b < length g
      → (o : Option Literal) → Fits (aig_node_values environment g) (length g) (xor_bool (evaluate (aig_node_values environment g) a) (evaluate (aig_node_values environment g) b)) o
      → Means environment g (xor_bool (evaluate (aig_node_values environment g) a) (evaluate (aig_node_values environment g) b)) (xor_unless g a b o)
  unfolding xor_unless
  xor_unless_means g w a b ha hb (some l) h = same_graph g _ l w h.1 h.0
  xor_unless_means g w a b ha hb none h =
      let v = aig_node_values environment g in
      meaning (rw (lit_neg v a, lit_neg v b) (xor_by_ands (evaluate v a) (evaluate v b)))
      (or_of_ands_lem g w a (negate b) (negate a) b ha (rw node-negate hb) (rw node-negate ha) hb)

  -- `xor` means the exclusive or
  pub xor_means : (g : Aig) → Formed g → (a b : Literal) → node a < length g → node b < length g
      → Means environment g (xor_bool (evaluate (aig_node_values environment g) a) (evaluate (aig_node_values environment g) b)) (xor g a b)
  unfolding xor
  xor_means g w a b ha hb =
      xor_unless_means g w a b ha hb (xor_shortcut a b) (xor_shortcut_fits (aig_node_values environment g) (grounded g w) (length g) a b ha hb)

  by_and : {C : Type 0} {s t : Bool} → (s ≡ true → t ≡ true → C) → s && t ≡ true → C
  by_and {s = true} f e = f refl e
  by_and {s = false} f e = absurd (false≢true e)

  mux_shortcut_fits : (vs : List Bool) → Grounded vs → (k c t e : ℕ) → node c < k → node t < k → node e < k
      → Fits vs k (cond (evaluate vs c) (evaluate vs t) (evaluate vs e)) (mux_shortcut c t e)
  unfolding mux_shortcut
  mux_shortcut_fits vs v k c t e hc ht he =
      by_cond P {x = some t} (λ q. (rw (eqb-true c 1 q, lit_1 vs v), ht))
      λ _.
      by_cond P {x = some e} (λ q. (rw (eqb-true c 0 q, lit_0 vs v), he))
      λ _.
      by_cond P {x = some t} (λ q. (rw (eqb-true t e q, cond_same), ht))
      λ _.
      by_cond P {x = some c} (by_and (λ q r. (rw (eqb-true t 1 q, eqb-true e 0 r, lit_1 vs v, lit_0 vs v, cond-bit), hc)))
      λ _.
      by_cond P {x = some (negate c)} (by_and (λ q r. (rw (eqb-true t 0 q, eqb-true e 1 r, lit_1 vs v, lit_0 vs v, cond-not) (lit_neg vs c), rw node-negate hc))) (λ _. tt)
    where
      P : Option Literal → Type 0
      P = Fits vs k (cond (evaluate vs c) (evaluate vs t) (evaluate vs e))

  mux_unless_means : (g : Aig) → Formed g → (c t e : Literal) → node c < length g → node t < length g → node e < length g → (o : Option Literal)
      → Fits (aig_node_values environment g) (length g)
      (cond (evaluate (aig_node_values environment g) c) (evaluate (aig_node_values environment g) t) (evaluate (aig_node_values environment g) e)) o
      → Means environment g
      (cond (evaluate (aig_node_values environment g) c) (evaluate (aig_node_values environment g) t) (evaluate (aig_node_values environment g) e))
      (mux_unless g c t e o)
  unfolding mux_unless
  mux_unless_means g w c t e hc ht he (some l) h = same_graph g _ l w h.1 h.0
  mux_unless_means g w c t e hc ht he none h =
      let v = aig_node_values environment g in
      meaning (rw (lit_neg v c) (cond_by_ands (evaluate v c) (evaluate v t) (evaluate v e)))
      (or_of_ands_lem g w c t (negate c) e hc ht (rw node-negate hc) he)

  -- `mux` means the choice
  pub mux_means : (g : Aig) → Formed g → (c t e : Literal) → node c < length g → node t < length g → node e < length g
      → Means environment g
      (cond (evaluate (aig_node_values environment g) c) (evaluate (aig_node_values environment g) t) (evaluate (aig_node_values environment g) e))
      (mux g c t e)
  unfolding mux
  mux_means g w c t e hc ht he =
      mux_unless_means g w c t e hc ht he (mux_shortcut c t e)
      (mux_shortcut_fits (aig_node_values environment g) (grounded g w) (length g) c t e hc ht he)
