-- The clauses of a conjunction in the order in which they are written, which is the sorted one. Assumes nothing.
use Rattle.std.specs.Prelude.{◌≡◌, refl, true, List, [], ◌∷◌, ℕ, zero, suc, ◌<◌, ◌≤◌}
use Rattle.std.proofs.Common.{ap, ◌∙◌, arith, ne_eqb}
use Rattle.std.proofs.Math.Option.{some}
use Rattle.model.specs.Literal.{node}
use Rattle.model.specs.Sat as Sat
use Rattle.model.specs.Sat.{Solver}
use Rattle.laws.specs.Search.Sorting.{insert_first, insert_later}
use Rattle.clauses.specs.State.{clean}

-- two literals, the larger one first
sort-two : (a b : ℕ) → a < b → Sat.sort_literals (b ∷ a ∷ []) ≡ a ∷ b ∷ []
unfolding Sat.sort_literals Sat.insert_literal
sort-two a b h = insert_later b a [] h

-- three, the largest one first
sort-three : (a b c : ℕ) → a < b → b < c → Sat.sort_literals (c ∷ a ∷ b ∷ []) ≡ a ∷ b ∷ c ∷ []
unfolding Sat.sort_literals Sat.insert_literal
sort-three a b c h k = rw (insert_first a b [] h) (insert_later c a (b ∷ []) (omega arith) ∙ ap (λ (r : List ℕ). a ∷ r) (insert_later c b [] k))

-- a literal of a variable is no constant
kept : (l : ℕ) (ls ks : List ℕ) → 2 ≤ l → Sat.clause_literals ls ≡ some ks → Sat.clause_literals (l ∷ ls) ≡ some (l ∷ ks)
unfolding Sat.clause_literals
kept zero ls ks h e = absurd (omega arith)
kept (suc zero) ls ks h e = absurd (omega arith)
kept (suc (suc l)) ls ks h e = rw (e, Sat.clause_literals)

kept-none : Sat.clause_literals [] ≡ some []
unfolding Sat.clause_literals
kept-none = refl

-- the clauses of two and of three literals
pub two-clause : (s : Solver) (a b : ℕ) → 2 ≤ a → a < b → Sat.add_aig_clause s (b ∷ a ∷ []) ≡ Sat.add_sorted s (a ∷ b ∷ [])
unfolding Sat.add_aig_clause Sat.add_some Sat.add_clause
two-clause s a b h k = rw (kept b (a ∷ []) (a ∷ []) (omega arith) (kept a [] [] h kept-none), sort-two a b k)

pub three-clause : (s : Solver) (a b c : ℕ) → 2 ≤ a → a < b → b < c → Sat.add_aig_clause s (c ∷ a ∷ b ∷ []) ≡ Sat.add_sorted s (a ∷ b ∷ c ∷ [])
unfolding Sat.add_aig_clause Sat.add_some Sat.add_clause
three-clause s a b c h k l = rw (kept c (a ∷ b ∷ []) (a ∷ b ∷ []) (omega arith) (kept a (b ∷ []) (b ∷ []) h (kept b [] [] (omega arith) kept-none)), sort-three a b c k l)

-- of one
pub one-clause : (s : Solver) (a : ℕ) → 2 ≤ a → Sat.add_aig_clause s (a ∷ []) ≡ Sat.add_sorted s (a ∷ [])
unfolding Sat.add_aig_clause Sat.add_some Sat.add_clause Sat.sort_literals Sat.insert_literal
one-clause s a h = rw (kept a [] [] h kept-none)

-- literals of ascending variables are a clause
pub clean-one : (a : ℕ) → clean (a ∷ []) ≡ true
unfolding clean Sat.tautological
clean-one a = refl

pub clean-two : (a b : ℕ) → node a < node b → clean (a ∷ b ∷ []) ≡ true
unfolding clean Sat.tautological
clean-two a b h = rw (ne_eqb (node a) (node b) (λ e. omega arith))

pub clean-three : (a b c : ℕ) → node a < node b → node b < node c → clean (a ∷ b ∷ c ∷ []) ≡ true
unfolding clean Sat.tautological
clean-three a b c h k = rw (ne_eqb (node a) (node b) (λ e. omega arith), ne_eqb (node b) (node c) (λ e. omega arith))
