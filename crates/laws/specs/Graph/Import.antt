-- A graph imported twice with the same variables gives the same literals and adds no node. Assumes nothing.
use Rattle.std.specs.Prelude.{ℕ, suc, min, max, Bool, length}
use Rattle.std.proofs.Common.{arith, sym, ◌∙◌, eq-eqb}
use Rattle.std.proofs.Math.Path.{◌≡◌, refl}
use Rattle.std.proofs.Math.Bool.{true, false, cond}
use mathlib.Core.List.{List, [], ◌∷◌, ◌++◌, append_assoc, append-nil}
use Rattle.std.proofs.Math.Option.{Option, none, some}
use Rattle.model.specs.Literal.{Literal, FALSE, inverted, negate}
use Rattle.model.specs.Lists.{position, next_place, snoc}
use Rattle.model.specs.Aig.{Node, Constant, Variable, And, Aig, is_and, and_found, and_shortcut, and_unless, and, or, xor_shortcut, xor_unless, xor}
use Rattle.model.specs.Transition.{TransitionSystem}
use Rattle.model.specs.Equivalence.{Import, with_imported, import_node, import_nodes, import_aig, frame_variables, frame_of, import_frame, or_mismatch, any_difference, compare_pairs}

-- ---- places

module _ {A : Type 0} (p : A → Bool) where
  -- one element more in front of what the law says of the rest
  append_step : (x : A) (r t : Option ℕ) (i : ℕ) → ((j : ℕ) → r ≡ some j → t ≡ some j) → cond (p x) (some 0) (next_place r) ≡ some i
      → cond (p x) (some 0) (next_place t) ≡ some i
  unfolding next_place
  append_step x r t i h e = go (p x) r h e
    where
      go : (b : Bool) (o : Option ℕ) → ((j : ℕ) → o ≡ some j → t ≡ some j) → cond b (some 0) (next_place o) ≡ some i → cond b (some 0) (next_place t) ≡ some i
      go true o f q = q
      go false none f q = absurd (let z : ◌≡◌ {A = ℕ} 0 1 = cc in omega arith)
      go false (some j) f q = rw (f j refl) q

  -- a place found in a list is found in a longer one
  position_append : (xs ys : List A) (i : ℕ) → position p xs ≡ some i → position p (xs ++ ys) ≡ some i
  unfolding position
  position_append [] ys i e = absurd (let z : ◌≡◌ {A = ℕ} 0 1 = cc in omega arith)
  position_append (x ∷ xs) ys i e = append_step x (position p xs) (position p (xs ++ ys)) i (λ j q. position_append xs ys j q) e

  seam_step : (x : A) (r t : Option ℕ) (n : ℕ) → (r ≡ none → t ≡ some n) → cond (p x) (some 0) (next_place r) ≡ none
      → cond (p x) (some 0) (next_place t) ≡ some (suc n)
  unfolding next_place
  seam_step x r t n h e = go (p x) r h e
    where
      go : (b : Bool) (o : Option ℕ) → (o ≡ none → t ≡ some n) → cond b (some 0) (next_place o) ≡ none → cond b (some 0) (next_place t) ≡ some (suc n)
      go true o f q = absurd (let z : ◌≡◌ {A = ℕ} 0 1 = cc in omega arith)
      go false none f q = rw (f refl)
      go false (some j) f q = absurd (let z : ◌≡◌ {A = ℕ} 0 1 = cc in omega arith)

  -- an element put behind a list that has no such place is found there
  position_seam : (xs : List A) (y : A) → position p xs ≡ none → p y ≡ true → position p (snoc xs y) ≡ some (length xs)
  unfolding position snoc
  position_seam [] y e h = rw h
  position_seam (x ∷ xs) y e h = seam_step x (position p xs) (position p (snoc xs y)) (length xs) (λ q. position_seam xs y q h) e

-- ---- longer graphs

-- h has g's nodes first
pub record Extends (g h : Aig) : Type 0 where
  pub rest : List Node
  pub is : h ≡ g ++ rest

-- a graph extends itself
pub extends_refl : (g : Aig) → Extends g g
extends_refl g = record { rest = []; is = sym (append-nil g) }

-- extensions follow one another
pub extends_trans : {g h k : Aig} → Extends g h → Extends h k → Extends g k
extends_trans {g} a b = record { rest = a.rest ++ b.rest; is = b.is ∙ rw a.is (append_assoc g a.rest b.rest) }

extends_snoc : (g : Aig) (n : Node) → Extends g (snoc g n)
unfolding snoc
extends_snoc g n = record { rest = n ∷ []; is = refl }

found_extends : (g : Aig) (a b : Literal) (o : Option ℕ) → Extends g (and_found g a b o).aig
unfolding and_found
found_extends g a b (some i) = extends_refl g
found_extends g a b none = extends_snoc g (And a b)

unless_extends : (g : Aig) (a b : Literal) (o : Option Literal) → Extends g (and_unless g a b o).aig
unfolding and_unless
unless_extends g a b (some l) = extends_refl g
unless_extends g a b none = found_extends g a b (position (is_and a b) g)

-- a conjunction extends the graph
pub and_extends : (g : Aig) (a b : Literal) → Extends g (and g a b).aig
unfolding and
and_extends g a b = unless_extends g (min a b) (max a b) (and_shortcut a b)

-- ---- a conjunction again

is-and-self : (a b : Literal) → is_and a b (And a b) ≡ true
unfolding is_and
is-and-self a b = rw (eq-eqb a a refl, eq-eqb b b refl)

found_again : (g h : Aig) (a b : Literal) (o : Option ℕ) → position (is_and a b) g ≡ o → Extends (and_found g a b o).aig h
    → and_found h a b (position (is_and a b) h) ≡ record { aig = h; literal = (and_found g a b o).literal }
unfolding and_found
found_again g h a b (some i) e x = rw (x.is, position_append (is_and a b) g x.rest i e)
found_again g h a b none e x =
    let p = position_append (is_and a b) (snoc g (And a b)) x.rest (length g) (position_seam (is_and a b) g (And a b) e (is-and-self a b)) in
    rw (x.is, p)

unless_again : (g h : Aig) (a b : Literal) (o : Option Literal) → Extends (and_unless g a b o).aig h
    → and_unless h a b o ≡ record { aig = h; literal = (and_unless g a b o).literal }
unfolding and_unless
unless_again g h a b (some l) x = refl
unless_again g h a b none x = found_again g h a b (position (is_and a b) g) refl x

-- a conjunction made in a graph is found in every longer one, with the same literal
and_again : (g h : Aig) (a b : Literal) → Extends (and g a b).aig h → and h a b ≡ record { aig = h; literal = (and g a b).literal }
unfolding and
and_again g h a b x = unless_again g h (min a b) (max a b) (and_shortcut a b) x

-- ---- an import again

module _ (variables : List (ℕ × Literal)) where
  node_extends : (i : Import) (n : Node) → Extends i.aig (import_node variables i n).aig
  unfolding import_node with_imported
  node_extends i Constant = extends_refl i.aig
  node_extends i (Variable v) = extends_refl i.aig
  node_extends i (And a b) = and_extends i.aig _ _

  -- and so do imported nodes
  pub nodes_extend : (i : Import) (ns : List Node) → Extends i.aig (import_nodes variables i ns).aig
  unfolding import_nodes
  nodes_extend i [] = extends_refl i.aig
  nodes_extend i (n ∷ ns) = extends_trans (node_extends i n) (nodes_extend (import_node variables i n) ns)

  node_again : (i : Import) (h : Aig) (n : Node) → Extends (import_node variables i n).aig h
      → import_node variables (record { aig = h; imported = i.imported }) n ≡ record { aig = h; imported = (import_node variables i n).imported }
  unfolding import_node with_imported
  node_again i h Constant x = refl
  node_again i h (Variable v) x = refl
  node_again i h (And a b) x = rw (and_again i.aig h _ _ x)

  nodes_again : (i : Import) (h : Aig) (ns : List Node) → Extends (import_nodes variables i ns).aig h
      → import_nodes variables (record { aig = h; imported = i.imported }) ns ≡ record { aig = h; imported = (import_nodes variables i ns).imported }
  unfolding import_nodes
  nodes_again i h [] x = refl
  nodes_again i h (n ∷ ns) x =
      let y = extends_trans (nodes_extend (import_node variables i n) ns) x in
      rw (node_again i h n y) (nodes_again (import_node variables i n) h ns x)

  -- the second import, into any graph that extends the first one's: the same literals, no new node
  import_again : (source target h : Aig) → Extends (import_aig variables source target).aig h
      → import_aig variables source h ≡ record { aig = h; imported = (import_aig variables source target).imported }
  unfolding import_aig
  import_again source target h x = nodes_again (record { aig = target; imported = [] }) h source x

-- a cycle of a system imported again into the graph that it left: the same cycle
pub frame_again : (system : TransitionSystem) (g : Aig) (inputs states : List Literal)
    → import_frame system (import_frame system g inputs states).aig inputs states ≡ import_frame system g inputs states
unfolding import_frame frame_of
frame_again system g inputs states =
    let v = frame_variables system inputs states in
    let e = import_again v system.aig g (import_aig v system.aig g).aig (extends_refl _) in
    rw e

-- ---- equal literals do not differ

xor_shortcut_self : (l : Literal) → xor_shortcut l l ≡ some FALSE
unfolding xor_shortcut
xor_shortcut_self l = rw (eq-eqb l l refl)

-- a literal against itself is FALSE, and adds no node
xor_self : (g : Aig) (l : Literal) → xor g l l ≡ record { aig = g; literal = FALSE }
unfolding xor xor_unless
xor_self g l = rw (xor_shortcut_self l)

-- FALSE or FALSE is FALSE, and adds no node
pub or-false : (g : Aig) → or g FALSE FALSE ≡ record { aig = g; literal = FALSE }
unfolding or and and_unless and_shortcut negate inverted
or-false g = refl

-- pairs whose two literals are equal
abbrev pub Alike : List (Literal × Literal) → Type 0
Alike [] = Unit {0}
Alike (p ∷ ps) = (p.0 ≡ p.1) × Alike ps

alike_same : (g : Aig) (ps : List (Literal × Literal)) → Alike ps → any_difference (record { aig = g; literal = FALSE }) ps ≡ record { aig = g; literal = FALSE }
unfolding any_difference or_mismatch
alike_same g [] h = refl
alike_same g (p ∷ ps) h = rw (h.0, xor_self g p.1, or-false g) (alike_same g ps h.1)

-- such pairs show no mismatch, and comparing them adds no node
pub compare_alike : (g : Aig) (ps : List (Literal × Literal)) → Alike ps → compare_pairs g ps ≡ record { aig = g; literal = FALSE }
unfolding compare_pairs
compare_alike g ps h = alike_same g ps h
