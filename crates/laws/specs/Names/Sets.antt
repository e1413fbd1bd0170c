-- Equal sorted names mean equal sets of names: what 18 and 19 compare. Assumes nothing.
use Rattle.std.specs.Prelude.{ℕ, suc, ◌<◌, ◌⊎◌, Bool, ◌&&◌, ◌||◌, eqb, ltb}
use Rattle.std.proofs.Math.Path.{◌≡◌, refl, subst}
use Rattle.std.proofs.Common.{sym, ap₂, ◌∙◌, inl, inr, arith, ltb-true, eqb-true, lt-ltb, le-ltb, eq-eqb}
use Rattle.std.proofs.Math.Bool.{true, false}
use mathlib.Core.List.{List, [], ◌∷◌, map}
use Rattle.std.proofs.Math.Option.{Option, none, some}
use Rattle.model.specs.Names.{Name, Place, same_name, before, member_name, names_of}
use Rattle.facts.specs.Bools.{and_both, both_ways, or_cases, or-true}
use Rattle.laws.specs.Names.Order.{same_eq, same_refl, Above, Increasing, Distinct}
use Rattle.model.specs.Netlist.{Node, Input, Constant, RegisterOutput, Not, Output, And, Or, Xor, Mux, Design, input_name, output_name, place_if, ports_from}
use Rattle.model.specs.Validate.{refuse_if, add_name, port_name, repeats, node_fault, nodes_fault, validate}
use Rattle.laws.specs.Record.Accepted.{otherwise_none, refuse_if-none}

-- ---- byte order

-- one byte is below another, or they are equal and the rest is before
abbrev Less : ℕ → ℕ → Name → Name → Type 0
Less x y xs ys = (x < y) ⊎ ((x ≡ y) × (before xs ys ≡ true))

before_cons : (x y : ℕ) (xs ys : Name) → before (x ∷ xs) (y ∷ ys) ≡ true → Less x y xs ys
unfolding before
before_cons x y xs ys h = go (or_cases (ltb x y) _ h)
  where
    go : (ltb x y ≡ true) ⊎ ((eqb x y && before xs ys) ≡ true) → (x < y) ⊎ ((x ≡ y) × (before xs ys ≡ true))
    go (inl k) = inl (ltb-true x y k)
    go (inr k) = let b = and_both (eqb x y) (before xs ys) k in inr (eqb-true x y b.0, b.1)

cons_before : (x y : ℕ) (xs ys : Name) → Less x y xs ys → before (x ∷ xs) (y ∷ ys) ≡ true
unfolding before
cons_before x y xs ys (inl h) = rw (lt-ltb x y h)
cons_before x y xs ys (inr h) = rw (le-ltb x y (omega (arith, h.0)), eq-eqb x y h.0) h.1

less_join : (x y z : ℕ) (xs ys zs : Name) → (before xs ys ≡ true → before ys zs ≡ true → before xs zs ≡ true) → Less x y xs ys → Less y z ys zs → Less x z xs zs
less_join x y z xs ys zs f (inl p) (inl q) = inl (omega arith)
less_join x y z xs ys zs f (inl p) (inr q) = inl (omega (arith, q.0))
less_join x y z xs ys zs f (inr p) (inl q) = inl (omega (arith, p.0))
less_join x y z xs ys zs f (inr p) (inr q) = inr (p.0 ∙ q.0, f p.1 q.1)

-- no name is before itself
pub before_irreflexive : (x : Name) → before x x ≡ false
unfolding before
before_irreflexive [] = refl
before_irreflexive (x ∷ xs) = rw (le-ltb x x (omega arith), eq-eqb x x refl) (before_irreflexive xs)

-- the order goes on
pub before_trans : (x y z : Name) → before x y ≡ true → before y z ≡ true → before x z ≡ true
unfolding before
before_trans [] [] z h k = k
before_trans [] (y ∷ ys) [] h k = absurd (let z : ◌≡◌ {A = ℕ} 0 1 = cc in omega arith)
before_trans [] (y ∷ ys) (z ∷ zs) h k = refl
before_trans (x ∷ xs) [] z h k = absurd (let z : ◌≡◌ {A = ℕ} 0 1 = cc in omega arith)
before_trans (x ∷ xs) (y ∷ ys) [] h k = absurd (let z : ◌≡◌ {A = ℕ} 0 1 = cc in omega arith)
before_trans (x ∷ xs) (y ∷ ys) (z ∷ zs) h k = cons_before x z xs zs (less_join x y z xs ys zs (before_trans xs ys zs) (before_cons x y xs ys h) (before_cons y z ys zs k))

-- ---- increasing names are determined by their set

-- the first name stands before every later one
above-member : (x : Name) (ps : List Place) → Above x ps → Increasing ps → (y : Name) → member_name y (names_of ps) ≡ true → before x y ≡ true
unfolding member_name names_of
above-member x [] a i y m = absurd (let z : ◌≡◌ {A = ℕ} 0 1 = cc in omega arith)
above-member x (p ∷ ps) a i y m = go (above-member p.name ps i.0 i.1 y) (or_cases (same_name y p.name) _ m)
  where
    go : (member_name y (names_of ps) ≡ true → before p.name y ≡ true) → (same_name y p.name ≡ true) ⊎ (member_name y (map (λ q. q.name) ps) ≡ true) → before x y ≡ true
    go f (inl e) = subst (λ (n : Name). before x n ≡ true) (sym (same_eq y p.name e)) a
    go f (inr e) = before_trans x p.name y a (f e)

-- the two lists have the same set of names
unfoldable pub SameSet : List Place → List Place → Type 0
SameSet ps qs = (x : Name) → member_name x (names_of ps) ≡ member_name x (names_of qs)

-- the first names are equal
first-same : (p q : Place) (ps qs : List Place) → Increasing (p ∷ ps) → Increasing (q ∷ qs) → SameSet (p ∷ ps) (q ∷ qs) → p.name ≡ q.name
unfolding SameSet member_name names_of
first-same p q ps qs i j s = one (or_cases (same_name p.name q.name) _ (sym (s p.name) ∙ rw (same_refl p.name))) (or_cases (same_name q.name p.name) _ (s q.name ∙ rw (same_refl q.name)))
  where
    one : (same_name p.name q.name ≡ true) ⊎ (member_name p.name (names_of qs) ≡ true) → (same_name q.name p.name ≡ true) ⊎ (member_name q.name (names_of ps) ≡ true) → p.name ≡ q.name
    one (inl e) f = same_eq p.name q.name e
    one (inr e) (inl f) = sym (same_eq q.name p.name f)
    one (inr e) (inr f) =
        let a = above-member q.name qs j.0 j.1 p.name e in
        let b = above-member p.name ps i.0 i.1 q.name f in
        let c = before_trans p.name q.name p.name b a in
        let d = before_irreflexive p.name in
        absurd (let z : ◌≡◌ {A = ℕ} 0 1 = cc in omega arith)

-- the rest of one list is within the rest of the other
rest-within : (p q : Place) (ps qs : List Place) → Increasing (p ∷ ps) → p.name ≡ q.name → SameSet (p ∷ ps) (q ∷ qs) → (x : Name) → member_name x (names_of ps) ≡ true → member_name x (names_of qs) ≡ true
unfolding SameSet member_name names_of
rest-within p q ps qs i e s x m = go (or_cases (same_name x q.name) _ (sym (s x) ∙ or-true (same_name x p.name) _ m))
  where
    go : (same_name x q.name ≡ true) ⊎ (member_name x (map (λ r. r.name) qs) ≡ true) → member_name x (map (λ r. r.name) qs) ≡ true
    go (inl f) =
        let a = above-member p.name ps i.0 i.1 x m in
        let b : p.name ≡ x = e ∙ sym (same_eq x q.name f) in
        let c : before x x ≡ true = subst (λ (n : Name). before n x ≡ true) b a in
        let d = before_irreflexive x in
        absurd (let z : ◌≡◌ {A = ℕ} 0 1 = cc in omega arith)
    go (inr f) = f

swap_set : (ps qs : List Place) → SameSet ps qs → SameSet qs ps
unfolding SameSet
swap_set ps qs s x = sym (s x)

rest-same : (p q : Place) (ps qs : List Place) → Increasing (p ∷ ps) → Increasing (q ∷ qs) → SameSet (p ∷ ps) (q ∷ qs) → SameSet ps qs
unfolding SameSet
rest-same p q ps qs i j s x =
    let e = first-same p q ps qs i j s in
    both_ways _ _ (rest-within p q ps qs i e s x) (rest-within q p qs ps j (sym e) (swap_set (p ∷ ps) (q ∷ qs) s) x)

-- increasing names with the same set are the same
pub increasing_unique : (ps qs : List Place) → Increasing ps → Increasing qs → SameSet ps qs → names_of ps ≡ names_of qs
unfolding names_of SameSet member_name
increasing_unique [] [] i j s = refl
increasing_unique [] (q ∷ qs) i j s = absurd (let e : false ≡ true = s q.name ∙ rw (same_refl q.name) in let z : ◌≡◌ {A = ℕ} 0 1 = cc in omega arith)
increasing_unique (p ∷ ps) [] i j s = absurd (let e : false ≡ true = sym (s p.name) ∙ rw (same_refl p.name) in let z : ◌≡◌ {A = ℕ} 0 1 = cc in omega arith)
increasing_unique (p ∷ ps) (q ∷ qs) i j s = ap₂ ◌∷◌ (first-same p q ps qs i j s) (increasing_unique ps qs i.1 j.1 (rest-same p q ps qs i j s))

-- ---- an accepted design's ports have distinct names

member-add : (x : Name) (r : Option Name) (names : List Name) → member_name x names ≡ true → member_name x (add_name r names) ≡ true
unfolding add_name member_name
member-add x none names h = h
member-add x (some y) names h = or-true (same_name x y) (member_name x names) h

-- the first node's name is new, and the others are checked after it
node-new : (i : ℕ) (names : List Name) (n : Node) (ns : List Node) → nodes_fault i names (n ∷ ns) ≡ none → (repeats names (port_name n) ≡ false) × (nodes_fault (suc i) (add_name (port_name n) names) ns ≡ none)
unfolding nodes_fault node_fault
node-new i names n ns h =
    let o = otherwise_none (node_fault i names n) _ h in
    (refuse_if-none 8 0 i _ (otherwise_none (refuse_if 7 0 i _) _ o.0).1, o.1)

module _ (named : Node → Option Name) (sub : (n : Node) (x : Name) → named n ≡ some x → port_name n ≡ some x) where
  ports-new-at : (i : ℕ) (x y : Name) (names : List Name) (ps : List Place) → member_name x names ≡ true → member_name y names ≡ false → member_name x (names_of ps) ≡ false → member_name x (names_of (record { name = y; number = i } ∷ ps)) ≡ false
  unfolding member_name names_of
  ports-new-at i x y names ps h k m = go (same_name x y) refl
    where
      go : (b : Bool) → same_name x y ≡ b → (b || member_name x (map (λ p. p.name) ps)) ≡ false
      go true e =
          let f : member_name y names ≡ true = subst (λ (n : Name). member_name n names ≡ true) (same_eq x y e) h in
          absurd (let z : ◌≡◌ {A = ℕ} 0 1 = cc in omega arith)
      go false e = m

  ports-new : (i : ℕ) (names : List Name) (ns : List Node) → nodes_fault i names ns ≡ none → (x : Name) → member_name x names ≡ true → member_name x (names_of (ports_from named i ns)) ≡ false
  unfolding ports_from place_if repeats
  ports-new i names [] h x m = empty x
    where
      empty : (x : Name) → member_name x (names_of []) ≡ false
      empty x = unfold member_name names_of in refl
  ports-new i names (n ∷ ns) h x m =
      let o = node-new i names n ns h in
      go o.0 (ports-new (suc i) (add_name (port_name n) names) ns o.1 x (member-add x (port_name n) names m)) (named n) refl
    where
      go : repeats names (port_name n) ≡ false → member_name x (names_of (ports_from named (suc i) ns)) ≡ false → (r : Option Name) → named n ≡ r → member_name x (names_of (place_if i r (ports_from named (suc i) ns))) ≡ false
      go k rest none e = rest
      go k rest (some y) e = ports-new-at i x y names (ports_from named (suc i) ns) m (rw (sub n y e) at k) rest

  ports-distinct : (i : ℕ) (names : List Name) (ns : List Node) → nodes_fault i names ns ≡ none → Distinct (ports_from named i ns)
  unfolding ports_from place_if add_name member_name
  ports-distinct i names [] h = tt
  ports-distinct i names (n ∷ ns) h =
      let o = node-new i names n ns h in
      go (ports-new (suc i) (add_name (port_name n) names) ns o.1) (ports-distinct (suc i) (add_name (port_name n) names) ns o.1) (named n) refl
    where
      go : ((x : Name) → member_name x (add_name (port_name n) names) ≡ true → member_name x (names_of (ports_from named (suc i) ns)) ≡ false) → Distinct (ports_from named (suc i) ns) → (r : Option Name) → named n ≡ r → Distinct (place_if i r (ports_from named (suc i) ns))
      go new d none e = d
      go new d (some y) e = (new y (rw (sub n y e, same_refl y)), d)

input_port : (n : Node) (x : Name) → input_name n ≡ some x → port_name n ≡ some x
unfolding input_name port_name
input_port (Input n) x h = h
input_port (Constant b) x h = h
input_port RegisterOutput x h = h
input_port (Not a) x h = h
input_port (Output n a) x h = absurd (let z : ◌≡◌ {A = ℕ} 0 1 = cc in omega arith)
input_port (And a b) x h = h
input_port (Or a b) x h = h
input_port (Xor a b) x h = h
input_port (Mux c a b) x h = h

output_port : (n : Node) (x : Name) → output_name n ≡ some x → port_name n ≡ some x
unfolding output_name port_name
output_port (Input n) x h = absurd (let z : ◌≡◌ {A = ℕ} 0 1 = cc in omega arith)
output_port (Constant b) x h = h
output_port RegisterOutput x h = h
output_port (Not a) x h = h
output_port (Output n a) x h = h
output_port (And a b) x h = h
output_port (Or a b) x h = h
output_port (Xor a b) x h = h
output_port (Mux c a b) x h = h

module _ (d : Design) (h : validate d ≡ none) where
  nodes_fine : nodes_fault 0 [] d.nodes ≡ none
  unfolding validate
  nodes_fine = (otherwise_none (nodes_fault 0 [] d.nodes) _ h).0

  -- an accepted design's inputs have distinct names
  pub inputs-distinct : Distinct (ports_from input_name 0 d.nodes)
  inputs-distinct = ports-distinct input_name input_port 0 [] d.nodes nodes_fine

  -- and so have its outputs
  pub outputs-distinct : Distinct (ports_from output_name 0 d.nodes)
  outputs-distinct = ports-distinct output_name output_port 0 [] d.nodes nodes_fine
