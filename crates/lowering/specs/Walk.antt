-- The walk over the nodes in lent words: the graph, the literal of each net, and each register output's state variable. Assumes nothing.
use Rattle.std.specs.Prelude.{◌≡◌, Bool, ◌&&◌, cond, ℕ, ◌+◌, ◌≤◌, ◌<◌, length, set}
use Rattle.std.proofs.Math.Path.{refl, sym}
use Rattle.std.proofs.Common.{ap, ◌∙◌, arith, get_or-set_same}
use Rattle.std.proofs.Math.Bool.{true, false}
use mathlib.Core.List.{List, [], ◌∷◌, ◌++◌}
use Rattle.std.proofs.Math.Dec.{eqb, ltb}
use Rattle.std.proofs.Math.ListN.{get_or, length-append, get_or-append, get_or-eq_default}
use Rattle.std.proofs.Math.Seq.{get_or-set_other, get_or-append_seam}
use borrow.Author.Tests.{eqb-true, eqb-false, ne_eqb, ltb-true, ltb-false}
use Rattle.words.specs.Layout.{NETS, STATES}
use Rattle.words.specs.Region.{region, apart}
use Rattle.model.specs.Literal.{Literal, FALSE}
use Rattle.model.specs.Lists.{snoc, lookup}
use Rattle.model.specs.Transition.{Lowering, net_literal}
use Rattle.aig.specs.Graph.{graph_of}
use Rattle.aig.specs.Made.{outside}
use Rattle.lowering.specs.Gate.{Alike}

-- ---- what the words hold after some nodes

-- the region at b is none that the walk writes: the proof graph's four, the nets, the state variables
abbrev pub elsewhere : ℕ → Bool
elsewhere b = outside b && (apart b NETS && apart b STATES)

-- the words hold the walk's graph, nets and state variables; the next net is `net`
pub record Walked (l : Lowering) (net c : ℕ) (w : List ℕ) : Type 0 where
  pub graph : graph_of c w ≡ l.aig
  pub nets : Alike (region NETS w) l.nets
  pub count : length l.nets ≡ net
  pub states : (k : ℕ) → get_or (region STATES w) k 0 ≡ lookup FALSE l.state_variables k
  pub fresh : (k : ℕ) → net ≤ k → (z : ℕ) → lookup z l.state_variables k ≡ z

-- ---- one net more

module _ (xs nets : List ℕ) (net l : ℕ) (alike : Alike xs nets) (count : length nets ≡ net) (room : net < length xs) where
  pub alike-more : Alike (set xs net l) (snoc nets l)
  unfolding net_literal snoc
  alike-more = record { at = λ a. go a (eqb a net) refl (ltb a net) refl }
    where
      go : (a : ℕ) (t : Bool) → eqb a net ≡ t → (u : Bool) → ltb a net ≡ u → get_or (set xs net l) a 0 ≡ get_or (nets ++ (l ∷ [])) a 0
      go a true e u f =
          rw (eqb-true a net e) (get_or-set_same xs net l 0 room ∙ sym (ap (λ (k : ℕ). get_or (nets ++ (l ∷ [])) k 0) (sym count) ∙ get_or-append_seam nets l [] 0))
      go a false e true f =
          get_or-set_other xs net a l 0 (eqb-false a net e) ∙ alike.at a ∙ sym (get_or-append nets (l ∷ []) 0 a (omega (arith, ltb-true a net f)))
      go a false e false f =
          let k : net < a = omega (arith, ltb-false a net f, eqb-false a net e) in
          get_or-set_other xs net a l 0 (eqb-false a net e) ∙ alike.at a ∙ get_or-eq_default nets 0 (omega arith)
          ∙ sym (get_or-eq_default (nets ++ (l ∷ [])) 0 (omega (arith, length-append nets (l ∷ []))))

pub length_more : (nets : List ℕ) (l net : ℕ) → length nets ≡ net → length (snoc nets l) ≡ net + 1
unfolding snoc
length_more nets l net e = simp length-append (omega arith)

-- ---- state variables

lookup_append : (z : ℕ) (xs ys : List (ℕ × Literal)) (k : ℕ) → lookup z (xs ++ ys) k ≡ lookup (lookup z ys k) xs k
unfolding lookup
lookup_append z [] ys k = refl
lookup_append z (x ∷ xs) ys k = rw (lookup_append z xs ys k)

lookup-snoc : (z : ℕ) (xs : List (ℕ × Literal)) (net l k : ℕ) → lookup z (snoc xs (net, l)) k ≡ lookup (cond (eqb net k) l z) xs k
unfolding snoc lookup
lookup-snoc z xs net l k = lookup_append z xs ((net, l) ∷ []) k

module _ (xs : List ℕ) (sv : List (ℕ × Literal)) (net l : ℕ) (states : (k : ℕ) → get_or xs k 0 ≡ lookup FALSE sv k)
    (fresh : (k : ℕ) → net ≤ k → (z : ℕ) → lookup z sv k ≡ z) (room : net < length xs) where
  pub states-more : (k : ℕ) → get_or (set xs net l) k 0 ≡ lookup FALSE (snoc sv (net, l)) k
  states-more k = go (eqb net k) refl
    where
      go : (t : Bool) → eqb net k ≡ t → get_or (set xs net l) k 0 ≡ lookup FALSE (snoc sv (net, l)) k
      go true e =
          rw (lookup-snoc FALSE sv net l k, e, ← (eqb-true net k e)) (get_or-set_same xs net l 0 room ∙ sym (fresh net (omega arith) l))
      go false e =
          rw (lookup-snoc FALSE sv net l k, e) (get_or-set_other xs net k l 0 (λ x. eqb-false net k e (sym x)) ∙ states k)

  pub fresh-more : (k : ℕ) → net + 1 ≤ k → (z : ℕ) → lookup z (snoc sv (net, l)) k ≡ z
  fresh-more k h z = rw (lookup-snoc z sv net l k, ne_eqb net k (λ e. omega arith)) (fresh k (omega arith) z)
