-- How many nodes the operations of the graph add. Assumes nothing.
use Rattle.std.specs.Prelude.{ℕ, suc, ◌+◌, ◌≤◌, min, max, ◌≡◌, refl, Bool, true, false, ◌||◌, cond, List, [], ◌∷◌, length, eqb}
use Rattle.std.proofs.Common.{arith, ap}
use Rattle.std.proofs.Math.Option.{Option, none, some}
use Rattle.model.specs.Literal.{Literal, FALSE, TRUE, inverted, negate}
use Rattle.model.specs.Lists.{snoc, position}
use Rattle.model.specs.Aig.{Node, Constant, Variable, And, Aig, is_and, and_found, and_shortcut, and_unless, and, or, xor_shortcut, xor_unless, xor, mux_shortcut, mux_unless, mux}
use Rattle.laws.specs.Lists.{length-snoc}

-- the number of conjunctions among nodes
unfoldable pub ands : List Node → ℕ
ands [] = 0
ands (Constant ∷ ns) = ands ns
ands (Variable v ∷ ns) = ands ns
ands (And a b ∷ ns) = suc (ands ns)

-- ---- the operations

ands-and : (g : Aig) (a b : Literal) → ands (snoc g (And a b)) ≡ suc (ands g)
unfolding ands snoc
ands-and [] a b = refl
ands-and (Constant ∷ g) a b = ands-and g a b
ands-and (Variable v ∷ g) a b = ands-and g a b
ands-and (And c d ∷ g) a b = ap suc (ands-and g a b)

-- a variable is no conjunction
pub ands-variable : (g : Aig) (v : ℕ) → ands (snoc g (Variable v)) ≡ ands g
unfolding ands snoc
ands-variable [] v = refl
ands-variable (Constant ∷ g) v = ands-variable g v
ands-variable (Variable w ∷ g) v = ands-variable g v
ands-variable (And c d ∷ g) v = ap suc (ands-variable g v)

-- h has at most k nodes more than g, and at most k conjunctions more
pub record Within (k : ℕ) (g h : Aig) : Type 0 where
  pub nodes : length h ≤ length g + k
  pub conjunctions : ands h ≤ ands g + k

within-refl : (k : ℕ) (g : Aig) → Within k g g
within-refl k g = record { nodes = omega arith; conjunctions = omega arith }

found_within : (g : Aig) (a b : Literal) (o : Option ℕ) → Within 1 g (and_found g a b o).aig
unfolding and_found
found_within g a b (some i) = within-refl 1 g
found_within g a b none = record { nodes = omega (arith, length-snoc g (And a b)); conjunctions = omega (arith, ands-and g a b) }

unless_within : (g : Aig) (a b : Literal) (o : Option Literal) → Within 1 g (and_unless g a b o).aig
unfolding and_unless
unless_within g a b (some l) = within-refl 1 g
unless_within g a b none = found_within g a b (position (is_and a b) g)

-- `and` adds at most one node
pub and-within : (g : Aig) (a b : Literal) → Within 1 g (and g a b).aig
unfolding and
and-within g a b = unless_within g (min a b) (max a b) (and_shortcut a b)

-- and so does `or`
pub or-within : (g : Aig) (a b : Literal) → Within 1 g (or g a b).aig
unfolding or
or-within g a b = and-within g (negate a) (negate b)

within_trans : (j k n : ℕ) {g h i : Aig} → j + k ≤ n → Within j g h → Within k h i → Within n g i
within_trans j k n e a b = record { nodes = omega (arith, a.nodes, b.nodes); conjunctions = omega (arith, a.conjunctions, b.conjunctions) }

three : (g : Aig) (a b c d : Literal) → (let m = and g a b in let n = and m.aig c d in Within 3 g (or n.aig m.literal n.literal).aig)
three g a b c d =
    let m = and g a b in
    let n = and m.aig c d in
    within_trans 1 2 3 (omega arith) (and-within g a b) (within_trans 1 1 2 (omega arith) (and-within m.aig c d) (or-within n.aig m.literal n.literal))

xor_unless_within : (g : Aig) (a b : Literal) (o : Option Literal) → Within 3 g (xor_unless g a b o).aig
unfolding xor_unless
xor_unless_within g a b (some l) = within-refl 3 g
xor_unless_within g a b none = three g a (negate b) (negate a) b

-- `xor` adds at most three
pub xor-within : (g : Aig) (a b : Literal) → Within 3 g (xor g a b).aig
unfolding xor
xor-within g a b = xor_unless_within g a b (xor_shortcut a b)

mux_unless_within : (g : Aig) (c t e : Literal) (o : Option Literal) → Within 3 g (mux_unless g c t e o).aig
unfolding mux_unless
mux_unless_within g c t e (some l) = within-refl 3 g
mux_unless_within g c t e none = three g c t (negate c) e

-- and so does `mux`
pub mux-within : (g : Aig) (c t e : Literal) → Within 3 g (mux g c t e).aig
unfolding mux
mux-within g c t e = mux_unless_within g c t e (mux_shortcut c t e)

-- a shortcut that answers
abbrev IsSome : Option Literal → Type 0
IsSome none = ⊥
IsSome (some l) = Unit {0}

cond-some : (t : Bool) (x y : Option Literal) → IsSome x → IsSome y → IsSome (cond t x y)
cond-some true x y h k = h
cond-some false x y h k = k

some_same : (g : Aig) (a b : Literal) (o : Option Literal) → IsSome o → (and_unless g a b o).aig ≡ g
unfolding and_unless
some_same g a b none h = absurd h
some_same g a b (some l) h = refl

and-true-left : (g : Aig) (b : Literal) → (and g TRUE b).aig ≡ g
unfolding and and_shortcut
and-true-left g b = some_same g (min TRUE b) (max TRUE b) (and_shortcut TRUE b) (cond-some (eqb b FALSE) (some FALSE) (some b) tt tt)

and-true-right : (g : Aig) (a : Literal) → (and g a TRUE).aig ≡ g
unfolding and and_shortcut
and-true-right g a =
    some_same g (min a TRUE) (max a TRUE) (and_shortcut a TRUE)
    (cond-some (eqb a FALSE || false) (some FALSE) _ tt (cond-some (eqb a TRUE) (some TRUE) (some a) tt tt))

-- or with FALSE adds no node
pub or_left : (g : Aig) (b : Literal) → (or g FALSE b).aig ≡ g
unfolding or negate inverted
or_left g b = and-true-left g (negate b)

-- an or with FALSE adds none
pub or_right : (g : Aig) (a : Literal) → (or g a FALSE).aig ≡ g
unfolding or negate inverted
or_right g a = and-true-right g (negate a)
