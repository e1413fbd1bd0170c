-- Literals and their values under an assignment: of a negation, of an unassigned literal, after one is assigned. Assumes nothing.
use Rattle.std.specs.Prelude.{ℕ, ◌%◌, ◌<◌, ◌≡◌, refl, ◌≢◌, Bool, true, false, not, length, get_or, eqb}
use Rattle.std.proofs.Common.{arith, sym, ap, ◌∙◌, get_or-set_same, get_or-set_other, eqb-true}
use Rattle.std.proofs.lemmas.Bool.{false≢true, eqb-false}
use Rattle.std.proofs.Math.Bool.{not-not}
use Rattle.std.proofs.Math.Option.{Option}
use Rattle.model.specs.Literal.{Literal, node, inverted, negate}
use Rattle.laws.specs.Graph.Values.{node-negate, inverted-negate}
use Rattle.model.specs.Sat.{Value, False, Unassigned, True, Assignment, literal_value, value, making_true, assign}

-- ---- literals

-- a literal is its node and its sign
lit_eq : (k l : ℕ) → node k ≡ node l → inverted k ≡ inverted l → k ≡ l
unfolding node inverted
lit_eq k l e i = go (eqb (k % 2) 1) (eqb (l % 2) 1) refl refl
  where
    go : (a b : Bool) → eqb (k % 2) 1 ≡ a → eqb (l % 2) 1 ≡ b → k ≡ l
    go true true p q = omega (arith, eqb-true (k % 2) 1 p, eqb-true (l % 2) 1 q)
    go true false p q = absurd (false≢true (sym q ∙ sym i ∙ p))
    go false true p q = absurd (false≢true (sym p ∙ i ∙ q))
    go false false p q = omega (arith, eqb-false (k % 2) 1 p, eqb-false (l % 2) 1 q)

-- a negation undone
pub negate-negate : (k : Literal) → negate (negate k) ≡ k
negate-negate k =
    lit_eq (negate (negate k)) k (node-negate (negate k) ∙ node-negate k) (inverted-negate (negate k) ∙ ap not (inverted-negate k) ∙ not-not (inverted k))

-- ---- values

-- no value is both
pub clash : (v : Value) → v ≡ True → v ≡ False → ⊥
clash v p q = let z : ◌≡◌ {A = ℕ} 0 1 = cc in omega arith

flip_true : (i : Bool) (v : Value) → literal_value i v ≡ True → literal_value (not i) v ≡ False
unfolding literal_value
flip_true true False e = refl
flip_true true Unassigned e = cc
flip_true true True e = cc
flip_true false False e = cc
flip_true false Unassigned e = cc
flip_true false True e = refl

-- the negation of a true literal is false
pub negate-false : (t : Assignment) (k : Literal) → value t k ≡ True → value t (negate k) ≡ False
unfolding value
negate-false t k e = rw (node-negate k, inverted-negate k) (flip_true (inverted k) (get_or t.assignments (node k) Unassigned) e)

flip_false : (i : Bool) (v : Value) → literal_value i v ≡ False → literal_value (not i) v ≡ True
unfolding literal_value
flip_false true False e = cc
flip_false true Unassigned e = cc
flip_false true True e = refl
flip_false false False e = refl
flip_false false Unassigned e = cc
flip_false false True e = cc

-- the negation of a false literal is true
pub negate-true : (t : Assignment) (k : Literal) → value t k ≡ False → value t (negate k) ≡ True
unfolding value
negate-true t k e = rw (node-negate k, inverted-negate k) (flip_false (inverted k) (get_or t.assignments (node k) Unassigned) e)

-- a literal is unassigned exactly where its variable is
pub literal-unset : (i : Bool) (v : Value) → v ≡ Unassigned → literal_value i v ≡ Unassigned
unfolding literal_value
literal-unset i v e = rw e

-- and the other way round
pub unset-literal : (i : Bool) (v : Value) → literal_value i v ≡ Unassigned → v ≡ Unassigned
unfolding literal_value
unset-literal true False e = cc
unset-literal true Unassigned e = refl
unset-literal true True e = cc
unset-literal false False e = cc
unset-literal false Unassigned e = refl
unset-literal false True e = cc

-- an unassigned literal and a true one have two variables
pub unset-apart : (t : Assignment) (l k : ℕ) → value t l ≡ Unassigned → value t k ≡ True → node k ≢ node l
unfolding value literal_value
unset-apart t l k p q e =
    let u : get_or t.assignments (node k) Unassigned ≡ Unassigned = rw e (unset-literal (inverted l) (get_or t.assignments (node l) Unassigned) p) in
    let z : Unassigned ≡ True = rw u at q in
    let y : ◌≡◌ {A = ℕ} 0 1 = cc in
    omega arith

-- ---- after a literal is assigned

back : (i : Bool) → literal_value i (making_true i) ≡ True
unfolding literal_value making_true
back true = refl
back false = refl

back_only : (i j : Bool) → literal_value j (making_true i) ≡ True → j ≡ i
unfolding literal_value making_true
back_only true true e = refl
back_only true false e = absurd (let z : ◌≡◌ {A = ℕ} 0 1 = cc in omega arith)
back_only false true e = absurd (let z : ◌≡◌ {A = ℕ} 0 1 = cc in omega arith)
back_only false false e = refl

-- it is true
pub value-new : (t : Assignment) (l : ℕ) (r : Option ℕ) → node l < length t.assignments → value (assign t l r) l ≡ True
unfolding value assign
value-new t l r h = rw (get_or-set_same t.assignments (node l) (making_true (inverted l)) Unassigned h) (back (inverted l))

-- other variables keep their values
pub value-old : (t : Assignment) (l k : ℕ) (r : Option ℕ) → node k ≢ node l → value (assign t l r) k ≡ value t k
unfolding value assign
value-old t l k r h = rw (get_or-set_other t.assignments (node l) (node k) (making_true (inverted l)) Unassigned h)

-- no other literal of its variable is true
pub value_only : (t : Assignment) (l k : ℕ) (r : Option ℕ) → node l < length t.assignments → node k ≡ node l → value (assign t l r) k ≡ True → k ≡ l
unfolding value assign
value_only t l k r h e q =
    lit_eq k l e (back_only (inverted l) (inverted k) (rw (e, get_or-set_same t.assignments (node l) (making_true (inverted l)) Unassigned h) at q))
