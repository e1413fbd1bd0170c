-- The other side's literal of a state as an Option of the program, what stands at a match, and literals by what is known at their places. Assumes nothing.
use Rattle.std.specs.Prelude.{◌≡◌, refl, Bool, true, false, List, ℕ, zero, suc, ◌+◌, ◌-◌, ◌≤◌, ◌<◌, get_or, Option, Some, None, IfSome}
use Rattle.std.proofs.Common.{subst, sym, ap, ◌∙◌, arith, add-one}
use Rattle.std.proofs.Math.Option as Place
use Rattle.literals.specs.declared.Literal.{Literal}
use Rattle.model.specs.Aig.{Aig, Built, variable}
use Rattle.model.specs.Equivalence.{LiteralList, with_built}
use Rattle.lowering.specs.Firsts.{Below}
use Rattle.unrolling.specs.Matching.{at_match, gate_built, shared_match, gate_by}
use Rattle.unrolling.specs.Variables.{grown}

-- the number of the literal, if there is one
abbrev pub literal_of : Option Literal → Place.Option ℕ
literal_of None = Place.none
literal_of (Some l) = Place.some l.0

-- the literal of a gate state: gold's, or a new variable
unfoldable pub gate_of : Place.Option ℕ → Aig → Built
gate_of Place.none g = variable g
gate_of (Place.some l) g = record { aig = g; literal = l }

-- by a match
pub gate-at : (m : ℕ) (ls : List ℕ) (g : Aig) → gate_of (at_match m ls) g ≡ gate_built m ls g
unfolding gate_of at_match gate_built
gate-at zero ls g = refl
gate-at (suc m) ls g = refl

-- a match that is none
pub at-none : (m : ℕ) (ls : List ℕ) → m ≡ 0 → Place.none ≡ at_match m ls
unfolding at_match
at-none m ls e = rw e

-- a match
pub at-some : (m : ℕ) (ls : List ℕ) → 0 < m → Place.some (get_or ls (m - 1) 0) ≡ at_match m ls
unfolding at_match
at-some zero ls h = absurd (omega arith)
at-some (suc m) ls h = let e : suc m - 1 ≡ m = omega arith in rw e

-- the literal at each place, if there is one
abbrev pub Places : Type 0
Places = ℕ → Place.Option ℕ

-- what is there is below k
abbrev pub Under : ℕ → Place.Option ℕ → Type 0
Under k Place.none = Unit {0}
Under k (Place.some l) = l < k

pub under : (k m : ℕ) (ls : List ℕ) → Below k m ls → Under k (at_match m ls)
unfolding at_match
under k zero ls b = tt
under k (suc m) ls b = b.at m (omega arith)

-- where it counts too
pub under_shared : (k : ℕ) (share : Bool) (m : ℕ) (ls : List ℕ) → Below k m ls → Under k (at_match (shared_match share m) ls)
unfolding shared_match at_match
under_shared k true m ls b = under k m ls b
under_shared k false m ls b = tt

-- At each of the first n places f is what a function gives there, and below k.
pub record Gives (post : ℕ → Option Literal → Type 0) (k n : ℕ) (f : Places) : Type 0 where
  pub is : (i : ℕ) (o : Option Literal) → i < n → post i o → literal_of o ≡ f i
  pub below : (i : ℕ) → i < n → Under k (f i)

-- so it is below all that is not less than k
pub some-under : (k j : ℕ) (o : Option Literal) (p : Place.Option ℕ) → k ≤ j → literal_of o ≡ p → Under k p → IfSome o (λ l. l.0 < j)
some-under k j o p h e u = go o (subst (Under k) (sym e) u)
  where
    go : (q : Option Literal) → Under k (literal_of q) → IfSome q (λ l. l.0 < j)
    go None v = tt
    go (Some l) v = omega (arith, h, v)

-- ---- literals one after another

-- n literals: those known at their places, or new variables
unfoldable pub listed_by : ℕ → Places → LiteralList → LiteralList
listed_by zero f v = v
listed_by (suc n) f v = let u = listed_by n f v in with_built u.literals (gate_of (f n) u.aig)

pub listed-suc : (n : ℕ) (f : Places) (v : LiteralList) → listed_by (n + 1) f v ≡ (let u = listed_by n f v in with_built u.literals (gate_of (f n) u.aig))
unfolding listed_by
listed-suc n f v = rw add-one

-- all of them new
pub all-new : (n : ℕ) (v : LiteralList) → listed_by n (λ i. Place.none) v ≡ grown n v
unfolding listed_by grown gate_of
all-new zero v = refl
all-new (suc n) v = ap (λ (u : LiteralList). with_built u.literals (variable u.aig)) (all-new n v)

-- those of gate's states, by their matches
pub by_matches : (n : ℕ) (share : Bool) (ms ls : List ℕ) (v : LiteralList)
    → listed_by n (λ i. at_match (shared_match share (get_or ms i 0)) ls) v ≡ gate_by n share ms ls v
unfolding listed_by gate_by
by_matches zero share ms ls v = refl
by_matches (suc n) share ms ls v =
    let m = shared_match share (get_or ms n 0) in
    ap (λ (u : LiteralList). with_built u.literals (gate_of (at_match m ls) u.aig)) (by_matches n share ms ls v)
    ∙ ap (λ (b : Built). with_built (gate_by n share ms ls v).literals b) (gate-at m ls (gate_by n share ms ls v).aig)
