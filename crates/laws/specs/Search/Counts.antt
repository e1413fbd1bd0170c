-- How many clauses and literals the encoding has: at most 3 clauses and 7 literals a node, and one an assumption. Assumes nothing.
use Prim.Native.Nat.{ℕ, zero, suc, ◌+◌, ◌*◌, ◌≤◌, compare, Ordering}
use Rattle.std.proofs.Common.{arith}
use Rattle.std.specs.Prelude.{◌≡◌, refl, Bool, true, false, List, [], ◌∷◌, length, drop}
use Rattle.std.proofs.Math.Option.{Option, none, some}
use Rattle.model.specs.Literal.{Literal, negate}
use Rattle.model.specs.Aig.{Node, Constant, Variable, And, Aig}
use Rattle.model.specs.Sat.{Clause, Solver, insert_literal, sort_literals, tautological, second_place, add_unless, add_sorted, add_clause, new, clause_literals, add_some, add_aig_clause, add_node, add_nodes, add_assumptions, encode}
use Rattle.laws.specs.Lists.{length-snoc}
use Rattle.laws.specs.Terms.{literal_count}
use Rattle.laws.specs.Search.Clauses.{count-snoc}

-- u has at most k clauses and m literals more than s
record More (k m : ℕ) (s u : Solver) : Type 0 where
  pub clauses_more : length u.clauses ≤ length s.clauses + k
  pub literals_more : literal_count u.clauses ≤ literal_count s.clauses + m

insert_shorter : (x : Literal) (ys : List Literal) → length (insert_literal x ys) ≤ suc (length ys)
unfolding insert_literal
insert_shorter x [] = omega arith
insert_shorter x (y ∷ ys) = go (compare x y) refl (insert_shorter x ys)
  where
    go : (o : Ordering) → compare x y ≡ o → length (insert_literal x ys) ≤ suc (length ys) → length (insert_literal x (y ∷ ys)) ≤ suc (suc (length ys))
    go Ordering.lt e ih = rw (e, insert_literal) (omega arith)
    go Ordering.eq e ih = rw (e, insert_literal) (omega arith)
    go Ordering.gt e ih = rw (e, insert_literal) (omega (arith, ih))

sort_shorter : (xs : List Literal) → length (sort_literals xs) ≤ length xs
unfolding sort_literals
sort_shorter [] = omega arith
sort_shorter (x ∷ xs) = omega (arith, insert_shorter x (sort_literals xs), sort_shorter xs)

unless_more : (s : Solver) (x : Literal) (xs : List Literal) (b : Bool) → More 1 (length (x ∷ xs)) s (add_unless s x xs b)
unfolding add_unless
unless_more s x xs true = record { clauses_more = omega arith; literals_more = omega arith }
unless_more s x xs false =
    let c : Clause = record { literals = x ∷ xs; watched = (0, second_place xs) } in
    record { clauses_more = omega (arith, length-snoc s.clauses c); literals_more = omega (arith, count-snoc s.clauses c) }

sorted_more : (s : Solver) (ls : List Literal) → More 1 (length ls) s (add_sorted s ls)
unfolding add_sorted
sorted_more s [] = record { clauses_more = omega arith; literals_more = omega arith }
sorted_more s (x ∷ xs) = unless_more s x xs (tautological x xs)

-- no more literals stay than there were
abbrev Fewer : ℕ → Option (List Literal) → Type 0
Fewer k none = Unit {0}
Fewer k (some ks) = length ks ≤ k

fewer : (ls : List Literal) → Fewer (length ls) (clause_literals ls)
unfolding clause_literals
fewer [] = omega arith
fewer (zero ∷ ls) = less (clause_literals ls) (fewer ls)
  where
    less : (o : Option (List Literal)) → Fewer (length ls) o → Fewer (suc (length ls)) o
    less none h = tt
    less (some ks) h = omega arith
fewer (suc zero ∷ ls) = tt
fewer (suc (suc l) ∷ ls) = go (clause_literals ls) refl (fewer ls)
  where
    go : (o : Option (List Literal)) → clause_literals ls ≡ o → Fewer (length ls) o → Fewer (suc (length ls)) (clause_literals (suc (suc l) ∷ ls))
    go none e h = rw e tt
    go (some ks) e h = rw e (omega arith)

some_more : (s : Solver) (k : ℕ) (o : Option (List Literal)) → Fewer k o → More 1 k s (add_some s o)
unfolding add_some add_clause
some_more s k none h = record { clauses_more = omega arith; literals_more = omega arith }
some_more s k (some ls) h =
    let x = sorted_more s (sort_literals ls) in
    record { clauses_more = x.clauses_more; literals_more = omega (arith, x.literals_more, sort_shorter ls) }

clause-more : (s : Solver) (ls : List Literal) → More 1 (length ls) s (add_aig_clause s ls)
unfolding add_aig_clause
clause-more s ls = some_more s (length ls) (clause_literals ls) (fewer ls)

node-more : (s : Solver) (o : Literal) (n : Node) → More 3 7 s (add_node s o n)
unfolding add_node
node-more s o Constant = record { clauses_more = omega arith; literals_more = omega arith }
node-more s o (Variable v) = record { clauses_more = omega arith; literals_more = omega arith }
node-more s o (And a b) =
    let u = add_aig_clause s (negate o ∷ a ∷ []) in
    let v = add_aig_clause u (negate o ∷ b ∷ []) in
    let x = clause-more s (negate o ∷ a ∷ []) in
    let y = clause-more u (negate o ∷ b ∷ []) in
    let z = clause-more v (o ∷ negate a ∷ negate b ∷ []) in
    record { clauses_more = omega (arith, x.clauses_more, y.clauses_more, z.clauses_more); literals_more = omega (arith, x.literals_more, y.literals_more, z.literals_more) }

nodes-more : (s : Solver) (i : ℕ) (ns : List Node) → More (3 * length ns) (7 * length ns) s (add_nodes s i ns)
unfolding add_nodes
nodes-more s i [] = record { clauses_more = omega arith; literals_more = omega arith }
nodes-more s i (n ∷ ns) =
    let x = node-more s (i * 2) n in
    let y = nodes-more (add_node s (i * 2) n) (suc i) ns in
    record { clauses_more = omega (arith, x.clauses_more, y.clauses_more); literals_more = omega (arith, x.literals_more, y.literals_more) }

assumptions-more : (s : Solver) (ls : List Literal) → More (length ls) (length ls) s (add_assumptions s ls)
unfolding add_assumptions
assumptions-more s [] = record { clauses_more = omega arith; literals_more = omega arith }
assumptions-more s (l ∷ ls) =
    let x = clause-more s (l ∷ []) in
    let y = assumptions-more (add_aig_clause s (l ∷ [])) ls in
    record { clauses_more = omega (arith, x.clauses_more, y.clauses_more); literals_more = omega (arith, x.literals_more, y.literals_more) }

drop-one : {A : Type 0} (xs : List A) → length (drop 1 xs) ≤ length xs
drop-one [] = omega arith
drop-one (x ∷ xs) = omega arith

-- the encoding of a graph and its assumptions
pub encode-counts : (g : Aig) (ls : List Literal)
    → (length (encode g ls).clauses ≤ 3 * length g + length ls) × (literal_count (encode g ls).clauses ≤ 7 * length g + length ls)
unfolding encode new literal_count
encode-counts g ls =
    let s = add_nodes (new (length g)) 1 (drop 1 g) in
    let x = nodes-more (new (length g)) 1 (drop 1 g) in
    let y = assumptions-more s ls in
    let z = drop-one g in
    (omega (arith, x.clauses_more, y.clauses_more, z), omega (arith, x.literals_more, y.literals_more, z))
