-- Clauses under values of the variables: a clause is true where one of its literals is, in whatever order they stand. Assumes nothing.
use Prim.Native.Nat.{ℕ, zero, suc, ◌+◌, ◌<◌, compare, Ordering}
use native.Mathlib.Omega.{arith}
use Rattle.std.specs.Prelude.{◌≡◌, Bool, not, ◌||◌, get_or, set}
use Rattle.std.proofs.Math.Path.{refl}
use Rattle.std.proofs.Common.{sym, ap, ◌∙◌}
use Rattle.std.proofs.Math.Bool.{true, false, or_self_left}
use Rattle.std.proofs.lemmas.Bool.{false≢true}
use mathlib.Core.List.{List, [], ◌∷◌}
use Rattle.std.proofs.Math.ListN.{length}
use Rattle.std.proofs.Math.Dec.{compare_is_eq}
use borrow.Author.Tests.{eqb-true}
use Rattle.model.specs.Literal.{Literal, negate}
use Rattle.model.specs.Lists.{snoc}
use Rattle.model.specs.Aig.{evaluate}
use Rattle.model.specs.Sat.{Clause, empty_clause, insert_literal, sort_literals}
use Rattle.laws.specs.Graph.Values.{lit_neg}
use Rattle.laws.specs.Terms.{literal_count}
use Rattle.facts.specs.Bools.{or_swap, or-true}

-- the literals of the clause with a number
abbrev pub lits : List Clause → ℕ → List Literal
lits cs id = (get_or cs id empty_clause).literals

-- some literal of the clause is true
unfoldable pub clause_value : List Bool → List Literal → Bool
clause_value vs [] = false
clause_value vs (l ∷ ls) = evaluate vs l || clause_value vs ls

-- every clause is true
abbrev pub Satisfied : List Bool → List Clause → Type 0
Satisfied vs cs = (id : ℕ) → id < length cs → clause_value vs (lits cs id) ≡ true

-- a literal and its negation are not both true
pub not-both : (vs : List Bool) (l : Literal) → evaluate vs l ≡ true → evaluate vs (negate l) ≡ true → ⊥
not-both vs l p q = false≢true (ap not (sym p) ∙ sym (lit_neg vs l) ∙ q)

-- a literal that is false has a true negation
pub negate-holds : (vs : List Bool) (l : Literal) → evaluate vs l ≡ false → evaluate vs (negate l) ≡ true
negate-holds vs l p = lit_neg vs l ∙ ap not p

module _ (vs : List Bool) where
  -- a true literal makes the clause true
  pub literal-true-at : (ls : List Literal) (i : ℕ) → i < length ls → evaluate vs (get_or ls i 0) ≡ true → clause_value vs ls ≡ true
  unfolding clause_value
  literal-true-at [] i h e = absurd (omega arith)
  literal-true-at (l ∷ ls) zero h e = rw e
  literal-true-at (l ∷ ls) (suc i) h e = or-true (evaluate vs l) (clause_value vs ls) (literal-true-at ls i (omega arith) e)

  -- a true clause has a true literal
  pub true-literal : (ls : List Literal) → clause_value vs ls ≡ true → (i : ℕ) × (i < length ls) × (evaluate vs (get_or ls i 0) ≡ true)
  unfolding clause_value
  true-literal [] e = absurd (false≢true e)
  true-literal (l ∷ ls) e = go (evaluate vs l) refl (true-literal ls)
    where
      go : (b : Bool) → evaluate vs l ≡ b → (clause_value vs ls ≡ true → (i : ℕ) × (i < length ls) × (evaluate vs (get_or ls i 0) ≡ true))
          → (i : ℕ) × (i < length (l ∷ ls)) × (evaluate vs (get_or (l ∷ ls) i 0) ≡ true)
      go true q f = (0, omega arith, q)
      go false q f = let r = f (rw q at e) in (suc r.0, omega (arith, r.1), r.2)

  -- one more literal keeps a clause true
  pub snoc-value : (ls : List Literal) (l : Literal) → clause_value vs ls ≡ true → clause_value vs (snoc ls l) ≡ true
  unfolding clause_value snoc
  snoc-value [] l e = absurd (false≢true e)
  snoc-value (k ∷ ls) l e = go (evaluate vs k) refl (snoc-value ls l)
    where
      go : (b : Bool) → evaluate vs k ≡ b → (clause_value vs ls ≡ true → clause_value vs (snoc ls l) ≡ true) → evaluate vs k || clause_value vs (snoc ls l) ≡ true
      go true q f = rw q
      go false q f = rw q (f (rw q at e))

  -- a true literal at the end makes it true
  pub snoc-true : (ls : List Literal) (l : Literal) → evaluate vs l ≡ true → clause_value vs (snoc ls l) ≡ true
  unfolding clause_value snoc
  snoc-true [] l e = rw e
  snoc-true (k ∷ ls) l e = or-true (evaluate vs k) (clause_value vs (snoc ls l)) (snoc-true ls l e)

  insert_value : (x : ℕ) (ys : List ℕ) → clause_value vs (insert_literal x ys) ≡ evaluate vs x || clause_value vs ys
  unfolding clause_value insert_literal
  insert_value x [] = refl
  insert_value x (y ∷ ys) = go (compare x y) refl (insert_value x ys)
    where
      go : (o : Ordering) → compare x y ≡ o → clause_value vs (insert_literal x ys) ≡ evaluate vs x || clause_value vs ys
          → clause_value vs (insert_literal x (y ∷ ys)) ≡ evaluate vs x || (evaluate vs y || clause_value vs ys)
      go Ordering.lt e ih = rw (e, insert_literal)
      go Ordering.eq e ih = rw (e, insert_literal, ← eqb-true x y (ap compare_is_eq e)) (sym (or_self_left (evaluate vs x) (clause_value vs ys)))
      go Ordering.gt e ih = rw (e, insert_literal, ih) (or_swap (evaluate vs y) (evaluate vs x) (clause_value vs ys))

  -- sorting keeps the clause's value
  pub sort-value : (ls : List ℕ) → clause_value vs (sort_literals ls) ≡ clause_value vs ls
  unfolding clause_value sort_literals
  sort-value [] = refl
  sort-value (l ∷ ls) = insert_value l (sort_literals ls) ∙ rw (sort-value ls)

-- ---- the number of literals

-- one clause more adds its literals
pub count-snoc : (cs : List Clause) (c : Clause) → literal_count (snoc cs c) ≡ literal_count cs + length c.literals
unfolding literal_count snoc
count-snoc [] c = omega arith
count-snoc (d ∷ cs) c = omega (arith, count-snoc cs c)

-- a clause whose literals stay changes no count
pub count_set : (cs : List Clause) (id : ℕ) (c : Clause) → c.literals ≡ lits cs id → literal_count (set cs id c) ≡ literal_count cs
unfolding literal_count
count_set [] id c e = refl
count_set (d ∷ cs) zero c e = omega (arith, ap length e)
count_set (d ∷ cs) (suc id) c e = omega (arith, count_set cs id c e)
