-- The import of a graph that lies in the words into the proof graph, node by node. Assumes nothing.
use Rattle.std.specs.Prelude.{◌≡◌, Bool, true, false, ◌&&◌, cond, eqb, set}
use Rattle.std.proofs.Math.Path.{refl, ap, ap₂, sym}
use Rattle.std.proofs.Common.{◌∙◌, get_or-take, get_or-set_other, get_or-set_same, take-suc-set, eqb-true, ne_eqb}
use mathlib.Core.List.{List, [], ◌∷◌}
use Prim.Native.Nat.{ℕ, zero, suc, ◌+◌, ◌*◌, ◌≤◌, ◌<◌}
use native.Mathlib.Omega.{arith}
use Rattle.std.proofs.Math.Numerals.{add-one}
use Rattle.std.proofs.Math.ListN.{length, get_or, take}
use Rattle.std.proofs.lemmas.List.{set-get_or}
use Rattle.std.proofs.lemmas.Bool.{eqb-false}
use Rattle.facts.specs.Bools.{and_both}
use Rattle.words.specs.Layout.{SMALL, MOST-NODES, GRAPH-LHS, GRAPH-RHS, AND-NEXT, GOLD-LHS, GATE-LHS, GATE-RHS, IMPORTED, AND-HEADS}
use Rattle.words.specs.Region.{region, apart, stored, stores, length-region}
use Rattle.model.specs.Literal.{Literal, FALSE, node, inverted, negate}
use Rattle.model.specs.Lists.{snoc, lookup}
use Rattle.model.specs.Aig.{Node, Aig, Built, and}
use Rattle.model.specs.Equivalence.{Import, remap_literal, with_imported, import_node, import_nodes, import_aig}
use Rattle.aig.specs.Graph.{node_of, node_at, nodes_of, graph_at, graph_of, Ordered}
use Rattle.aig.specs.Made.{Ready, Same, Made, outside, same_refl, same_trans, ready-stored, graph-stored}
use Rattle.aig.specs.Shortcut.{negate-below}
use Rattle.aig.specs.Side.{side-above, side_under}

-- ---- the sides

-- the region at b is neither of the proof graph's four nor that of the imported literals
abbrev pub beyond : ℕ → Bool
beyond b = outside b && apart b IMPORTED

module _ (b : ℕ) (lo : GOLD-LHS ≤ b) (hi : b ≤ GATE-RHS) where
  -- it lies beyond what an import writes
  pub side-beyond : beyond b ≡ true
  side-beyond =
      all _ _ _ _ _ (side-above b lo hi GRAPH-LHS (omega arith) (omega arith)) (side-above b lo hi GRAPH-RHS (omega arith) (omega arith)) (side-above b lo hi AND-NEXT (omega arith) (omega arith))
      (side_under b lo hi AND-HEADS (omega arith)) (side_under b lo hi IMPORTED (omega arith))
    where
      all : (p q r s t : Bool) → p ≡ true → q ≡ true → r ≡ true → s ≡ true → t ≡ true → ((p && (q && (r && s))) && t) ≡ true
      all p q r s t a b c d e = rw (a, b, c, d, e)

-- a change of the graph alone leaves the regions beyond
pub same-beyond : {w w' : List ℕ} → Same outside w w' → Same beyond w w'
same-beyond f = record { at = λ b e. f.at b (and_both (outside b) (apart b IMPORTED) e).0 }

-- ---- one node

-- The literal of node i in the target, of which g is the graph so far: a variable's stands there already.
unfoldable pub imported_at : Aig → List ℕ → ℕ → ℕ → ℕ → Built
imported_at g imported i lhs zero = record { aig = g; literal = get_or imported i 0 }
imported_at g imported i lhs (suc rhs) = and g (remap_literal imported lhs) (remap_literal imported (suc rhs))

-- how many of the first n nodes are conjunctions
unfoldable pub conjunctions : ℕ → List ℕ → ℕ
conjunctions zero rs = 0
conjunctions (suc n) rs = cond (eqb (get_or rs n 0) 0) (conjunctions n rs) (suc (conjunctions n rs))

-- From c nodes in w the import of node i of the graph at b made c' nodes in w'.
pub record Stepped (b i c : ℕ) (w : List ℕ) (c' : ℕ) (w' : List ℕ) : Type 0 where
  pub ready : Ready c' w'
  pub same : Same beyond w w'
  pub grows : c ≤ c'
  pub within : c' + conjunctions i (region (b + SMALL) w) ≤ c + conjunctions (suc i) (region (b + SMALL) w)
  pub below : get_or (region IMPORTED w') i 0 < c' * 2
  pub stores_one : region IMPORTED w' ≡ set (region IMPORTED w) i (get_or (region IMPORTED w') i 0)
  pub built : record { aig = graph_of c' w'; literal = get_or (region IMPORTED w') i 0 }
      ≡ imported_at (graph_of c w) (region IMPORTED w) i (get_or (region b w) i 0) (get_or (region (b + SMALL) w) i 0)

-- the literals so far are of the target's nodes
pub record Inside (i c : ℕ) (w : List ℕ) : Type 0 where
  pub at : (j : ℕ) → j < i → get_or (region IMPORTED w) j 0 < c * 2

halved : (l i : ℕ) → l < i * 2 → node l < i
unfolding node
halved l i h = omega arith

remap_below : (imported : List ℕ) (l c : ℕ) → get_or imported (node l) 0 < c * 2 → remap_literal imported l < c * 2
unfolding remap_literal
remap_below imported l c h = go (inverted l)
  where
    go : (t : Bool) → cond t (negate (get_or imported (node l) 0)) (get_or imported (node l) 0) < c * 2
    go true = negate-below (get_or imported (node l) 0) c h
    go false = h

-- a literal of an earlier node is remapped to one of the target
pub remap_inside : (i c : ℕ) (w : List ℕ) (l : ℕ) → Inside i c w → l < i * 2 → remap_literal (region IMPORTED w) l < c * 2
remap_inside i c w l o h = remap_below (region IMPORTED w) l c (o.at (node l) (halved l i h))

-- What the import of node i asks: room and order for a conjunction, a literal of the target for a variable.
pub record Importable (b i c : ℕ) (w : List ℕ) : Type 0 where
  pub low : GOLD-LHS ≤ b
  pub high : b ≤ GATE-LHS
  pub ready : Ready c w
  pub small : i < MOST-NODES
  pub room : 0 < get_or (region (b + SMALL) w) i 0 → c + 1 ≤ MOST-NODES
  pub order : 0 < get_or (region (b + SMALL) w) i 0 → (get_or (region b w) i 0 < i * 2) × (get_or (region (b + SMALL) w) i 0 < i * 2)
  pub given : get_or (region (b + SMALL) w) i 0 ≡ 0 → get_or (region IMPORTED w) i 0 < c * 2
  pub inside : Inside i c w

conjunctions-variable : (i : ℕ) (rs : List ℕ) → get_or rs i 0 ≡ 0 → conjunctions (suc i) rs ≡ conjunctions i rs
unfolding conjunctions
conjunctions-variable i rs e = rw e

conjunctions-and : (i : ℕ) (rs : List ℕ) → 0 < get_or rs i 0 → conjunctions (suc i) rs ≡ suc (conjunctions i rs)
unfolding conjunctions
conjunctions-and i rs h = rw (ne_eqb (get_or rs i 0) 0 (λ e. omega arith))

conjunctions_grow : (n : ℕ) (rs : List ℕ) → conjunctions n rs ≤ conjunctions (suc n) rs
conjunctions_grow n rs = go (get_or rs n 0) refl
  where
    go : (x : ℕ) → get_or rs n 0 ≡ x → conjunctions n rs ≤ conjunctions (suc n) rs
    go zero e = omega (arith, conjunctions-variable n rs e)
    go (suc x) e = omega (arith, conjunctions-and n rs (rw e (omega arith)))

pub conjunctions_mono : (m n : ℕ) (rs : List ℕ) → m ≤ n → conjunctions m rs ≤ conjunctions n rs
conjunctions_mono m zero rs h = let e : m ≡ 0 = omega arith in rw e (omega arith)
conjunctions_mono m (suc n) rs h = go (λ k. conjunctions_mono m n rs k) (eqb m (suc n)) refl
  where
    go : (m ≤ n → conjunctions m rs ≤ conjunctions n rs) → (t : Bool) → eqb m (suc n) ≡ t → conjunctions m rs ≤ conjunctions (suc n) rs
    go f true e = rw (eqb-true m (suc n) e) (omega arith)
    go f false e = omega (arith, f (omega (arith, eqb-false m (suc n) e)), conjunctions_grow n rs)

-- a store into the imported literals leaves the regions beyond
pub same-imported : (w : List ℕ) (i v : ℕ) → Same beyond w (stored IMPORTED w i v)
same-imported w i v = record { at = λ b e. let q = (and_both (outside b) (apart b IMPORTED) e).1 in simp (stores, q) }

module _ (b i c : ℕ) (w : List ℕ) (able : Importable b i c w) where
  -- a variable
  pub stepped-variable : get_or (region (b + SMALL) w) i 0 ≡ 0 → Stepped b i c w c w
  unfolding imported_at
  stepped-variable e =
      record {
        ready = able.ready;
        same = same_refl beyond w;
        grows = omega arith;
        within = omega (arith, conjunctions-variable i (region (b + SMALL) w) e);
        below = able.given e;
        stores_one = sym (set-get_or (region IMPORTED w) i 0);
        built = rw e;
      }

  -- a conjunction
  pub stepped-and : (c' : ℕ) (w' : List ℕ) (l : ℕ) → 0 < get_or (region (b + SMALL) w) i 0
      → Made 1 c w c' w' l (and (graph_of c w) (remap_literal (region IMPORTED w) (get_or (region b w) i 0)) (remap_literal (region IMPORTED w) (get_or (region (b + SMALL) w) i 0)))
      → Stepped b i c w c' (stored IMPORTED w' i l)
  unfolding imported_at
  stepped-and c' w' l h made =
      let kept : region IMPORTED w' ≡ region IMPORTED w = made.same.at IMPORTED refl in
      let long : length (region IMPORTED w) ≡ SMALL = length-region IMPORTED w (omega (arith, able.ready.long)) in
      let one : get_or (region IMPORTED (stored IMPORTED w' i l)) i 0 ≡ l =
      simp stores (rw kept (get_or-set_same (region IMPORTED w) i l 0 (omega (arith, able.small)))) in
      record {
        ready = ready-stored IMPORTED c' w' i l refl made.ready;
        same = same_trans (same-beyond made.same) (same-imported w' i l);
        grows = made.grows;
        within = omega (arith, conjunctions-and i (region (b + SMALL) w) h, made.within);
        below = rw one made.below;
        stores_one = rw one (simp stores (rw kept));
        built = rw (one, graph-stored IMPORTED c' w' i l refl) (made.built ∙ conj (get_or (region (b + SMALL) w) i 0) h);
      }
    where
      conj : (r : ℕ) → 0 < r → and (graph_of c w) (remap_literal (region IMPORTED w) (get_or (region b w) i 0)) (remap_literal (region IMPORTED w) r)
          ≡ imported_at (graph_of c w) (region IMPORTED w) i (get_or (region b w) i 0) r
      conj zero h = absurd (omega arith)
      conj (suc r) h = refl

-- ---- one node after another

import_snoc : (vs : List (ℕ × Literal)) (s : Import) (ns : List Node) (n : Node) → import_nodes vs s (snoc ns n) ≡ import_node vs (import_nodes vs s ns) n
unfolding import_nodes snoc
import_snoc vs s [] n = refl
import_snoc vs s (m ∷ ns) n = import_snoc vs (import_node vs s m) ns n

-- the literals that the words give to the first n nodes' variables are those of the list
pub record Given (vs : List (ℕ × Literal)) (n : ℕ) (rs imported : List ℕ) : Type 0 where
  pub at : (i : ℕ) → i < n → 0 < i → get_or rs i 0 ≡ 0 → lookup FALSE vs i ≡ get_or imported i 0

-- From c₀ nodes in w₀ the import of the first i nodes of the graph at b made c nodes in w.
pub record Importing (b n c₀ : ℕ) (w₀ : List ℕ) (i c : ℕ) (w : List ℕ) : Type 0 where
  pub ready : Ready c w
  pub same : Same beyond w₀ w
  pub grows : c₀ ≤ c
  pub within : c ≤ c₀ + conjunctions i (region (b + SMALL) w₀)
  pub inside : Inside i c w
  pub later : (j : ℕ) → i ≤ j → get_or (region IMPORTED w) j 0 ≡ get_or (region IMPORTED w₀) j 0
  pub is : (vs : List (ℕ × Literal)) → Given vs n (region (b + SMALL) w₀) (region IMPORTED w₀)
      → record { aig = graph_of c w; imported = take i (region IMPORTED w) } ≡ import_nodes vs (record { aig = graph_of c₀ w₀; imported = [] }) (graph_at b i w₀)

-- a literal of the first i nodes needs only their literals
pub remap_take : (i : ℕ) (imported : List ℕ) (l : ℕ) → l < i * 2 → remap_literal (take i imported) l ≡ remap_literal imported l
unfolding remap_literal
remap_take i imported l h = rw (get_or-take i imported (node l) 0 (halved l i h))

-- one node of the model's import, by what stands in the words
import_one : (vs : List (ℕ × Literal)) (g : Aig) (imported : List ℕ) (i lhs rhs : ℕ) → 0 < i → (0 < rhs → (lhs < i * 2) × (rhs < i * 2))
    → (rhs ≡ 0 → lookup FALSE vs i ≡ get_or imported i 0)
    → import_node vs (record { aig = g; imported = take i imported }) (node_of i lhs rhs)
    ≡ with_imported (record { aig = g; imported = take i imported }) (imported_at g imported i lhs rhs)
unfolding import_node node_of imported_at
import_one vs g imported zero lhs rhs h o e = absurd (omega arith)
import_one vs g imported (suc i) lhs zero h o e = rw (e refl)
import_one vs g imported (suc i) lhs (suc rhs) h o e =
    rw (remap_take (suc i) imported lhs (o (omega arith)).0, remap_take (suc i) imported (suc rhs) (o (omega arith)).1)

nodes-suc : (b i : ℕ) (w : List ℕ) → graph_at b (i + 1) w ≡ snoc (graph_at b i w) (node_at (region b w) (region (b + SMALL) w) i)
unfolding graph_at nodes_of
nodes-suc b i w = rw add-one

module _ (b n c₀ : ℕ) (w₀ : List ℕ) (low : GOLD-LHS ≤ b) (high : b ≤ GATE-LHS) (o : Ordered n (region b w₀) (region (b + SMALL) w₀)) (small : n ≤ MOST-NODES) where
  -- the source's words stay
  pub source_lhs : (w : List ℕ) → Same beyond w₀ w → region b w ≡ region b w₀
  source_lhs w s = s.at b (side-beyond b low (omega arith))

  pub source_rhs : (w : List ℕ) → Same beyond w₀ w → region (b + SMALL) w ≡ region (b + SMALL) w₀
  source_rhs w s = s.at (b + SMALL) (side-beyond (b + SMALL) (omega arith) (omega arith))

  -- what the next node's import asks
  pub importable : (i c : ℕ) (w : List ℕ) → 0 < i → i < n → c₀ + conjunctions n (region (b + SMALL) w₀) ≤ MOST-NODES
      → ((j : ℕ) → j < n → 0 < j → get_or (region (b + SMALL) w₀) j 0 ≡ 0 → get_or (region IMPORTED w₀) j 0 < c₀ * 2)
      → Importing b n c₀ w₀ i c w → Importable b i c w
  importable i c w h k room given s =
      let p = source_lhs w s.same in
      let q = source_rhs w s.same in
      record {
        low = low;
        high = high;
        ready = s.ready;
        small = omega arith;
        room = rw q (λ x. omega (arith, conjunctions-and i (region (b + SMALL) w₀) x, conjunctions_mono (suc i) n (region (b + SMALL) w₀) (omega arith), s.within));
        order = rw (p, q) (o.at i k);
        given = rw q (λ x. rw (s.later i (omega arith)) (omega (arith, given i k h x, s.grows)));
        inside = s.inside;
      }

  module _ (i c c' : ℕ) (w w' : List ℕ) (h : 0 < i) (k : i < n) (s : Importing b n c₀ w₀ i c w) (t : Stepped b i c w c' w') where
    next-take : take (i + 1) (region IMPORTED w') ≡ snoc (take i (region IMPORTED w)) (get_or (region IMPORTED w') i 0)
    unfolding snoc
    next-take =
        ap (λ (xs : List ℕ). take (i + 1) xs) t.stores_one
        ∙ rw add-one (take-suc-set (region IMPORTED w) i (get_or (region IMPORTED w') i 0) (omega (arith, length-region IMPORTED w (omega (arith, s.ready.long)))))

    next-is : (vs : List (ℕ × Literal)) → Given vs n (region (b + SMALL) w₀) (region IMPORTED w₀)
        → record { aig = graph_of c' w'; imported = take (i + 1) (region IMPORTED w') } ≡ import_nodes vs (record { aig = graph_of c₀ w₀; imported = [] }) (graph_at b (i + 1) w₀)
    unfolding with_imported
    next-is vs g =
        let start : Import = record { aig = graph_of c₀ w₀; imported = [] } in
        let so_far : Import = record { aig = graph_of c w; imported = take i (region IMPORTED w) } in
        let source : Node = node_at (region b w₀) (region (b + SMALL) w₀) i in
        let built : record { aig = graph_of c' w'; literal = get_or (region IMPORTED w') i 0 }
        ≡ imported_at (graph_of c w) (region IMPORTED w) i (get_or (region b w₀) i 0) (get_or (region (b + SMALL) w₀) i 0) =
        rw (source_lhs w s.same, source_rhs w s.same) at t.built in
        ap (λ (xs : List ℕ). record { aig = graph_of c' w'; imported = xs }) next-take
        ∙ ap (λ (m : Built). with_imported so_far m) built
        ∙ sym (import_one vs (graph_of c w) (region IMPORTED w) i _ _ h (o.at i k) (λ x. g.at i k h x ∙ sym (s.later i (omega arith))))
        ∙ ap (λ (x : Import). import_node vs x source) (s.is vs g)
        ∙ sym (import_snoc vs start (graph_at b i w₀) source)
        ∙ ap (λ (x : Aig). import_nodes vs start x) (sym (nodes-suc b i w₀))

    others : (j : ℕ) → (j ≡ i → ⊥) → get_or (region IMPORTED w') j 0 ≡ get_or (region IMPORTED w) j 0
    others j m =
        ap (λ (xs : List ℕ). get_or xs j 0) t.stores_one ∙ get_or-set_other (region IMPORTED w) i j (get_or (region IMPORTED w') i 0) 0 m

    next-inside : Inside (i + 1) c' w'
    next-inside = record { at = λ j m. go j m (eqb j i) refl }
      where
        go : (j : ℕ) → j < i + 1 → (x : Bool) → eqb j i ≡ x → get_or (region IMPORTED w') j 0 < c' * 2
        go j m true e = rw (eqb-true j i e) t.below
        go j m false e = rw (others j (eqb-false j i e)) (omega (arith, s.inside.at j (omega (arith, eqb-false j i e)), t.grows))

    -- one node more
    pub importing_more : Importing b n c₀ w₀ (i + 1) c' w'
    importing_more =
        record {
          ready = t.ready;
          same = same_trans s.same t.same;
          grows = omega (arith, s.grows, t.grows);
          within = rw add-one (omega (arith, s.within, rw (source_rhs w s.same) at t.within));
          inside = next-inside;
          later = λ j m. others j (λ e. omega arith) ∙ s.later j (omega arith);
          is = next-is;
        }

  -- node 0 is the constant
  pub importing_first : Ready c₀ w₀ → Importing b n c₀ w₀ 1 c₀ (stored IMPORTED w₀ 0 0)
  unfolding graph_at nodes_of node_of snoc import_nodes import_node with_imported
  importing_first r =
      let long : length (region IMPORTED w₀) ≡ SMALL = length-region IMPORTED w₀ (omega (arith, r.long)) in
      let zero-at : get_or (region IMPORTED (stored IMPORTED w₀ 0 0)) 0 0 ≡ 0 = simp stores (get_or-set_same (region IMPORTED w₀) 0 0 0 (omega arith)) in
      let first : take 1 (region IMPORTED (stored IMPORTED w₀ 0 0)) ≡ 0 ∷ [] = simp stores (take-suc-set (region IMPORTED w₀) 0 0 (omega arith)) in
      record {
        ready = ready-stored IMPORTED c₀ w₀ 0 0 refl r;
        same = same-imported w₀ 0 0;
        grows = omega arith;
        within = omega arith;
        inside = record { at = λ j m. let e : j ≡ 0 = omega arith in rw (e, zero-at) (omega (arith, r.positive)) };
        later = λ j m. simp stores (get_or-set_other (region IMPORTED w₀) 0 j 0 0 (λ e. omega arith));
        is = λ vs g. ap₂ (λ (x : Aig) (xs : List ℕ). record { aig = x; imported = xs }) (graph-stored IMPORTED c₀ w₀ 0 0 refl) first;
      }

-- What the import of a graph asks: a side's graph in order, room for its conjunctions, and literals of the target for its variables.
pub record Sourced (b n c : ℕ) (w : List ℕ) : Type 0 where
  pub low : GOLD-LHS ≤ b
  pub high : b ≤ GATE-LHS
  pub ready : Ready c w
  pub some : 0 < n
  pub small : n ≤ MOST-NODES
  pub ordered : Ordered n (region b w) (region (b + SMALL) w)
  pub room : c + conjunctions n (region (b + SMALL) w) ≤ MOST-NODES
  pub given : (j : ℕ) → j < n → 0 < j → get_or (region (b + SMALL) w) j 0 ≡ 0 → get_or (region IMPORTED w) j 0 < c * 2

-- the whole import is the model's
pub imported-is : (b n c₀ : ℕ) (w₀ : List ℕ) (c : ℕ) (w : List ℕ) → Importing b n c₀ w₀ n c w → (vs : List (ℕ × Literal)) → Given vs n (region (b + SMALL) w₀) (region IMPORTED w₀)
    → record { aig = graph_of c w; imported = take n (region IMPORTED w) } ≡ import_aig vs (graph_at b n w₀) (graph_of c₀ w₀)
unfolding import_aig
imported-is b n c₀ w₀ c w s vs g = s.is vs g
