-- Adding clauses learns nothing; an assumption FALSE makes `solve` answer no model, with no learned literal. Assumes nothing.
use Rattle.std.specs.Prelude.{ℕ, zero, suc, ◌≡◌, refl, Bool, true, false, List, [], ◌∷◌, ◌++◌, length, drop, ◌*◌}
use Rattle.std.proofs.Common.{◌∙◌}
use Rattle.std.proofs.Math.Option.{Option, none, some}
use Rattle.model.specs.Literal.{Literal, FALSE}
use Rattle.model.specs.Aig.{Node, Constant, Variable, And, Aig}
use Rattle.model.specs.Sat.{Solver, add_unless, add_sorted, sort_literals, add_clause, tautological, clause_literals, add_some, add_aig_clause, add_node, add_nodes, add_assumptions, Answer, no_model, answered, search_rounds, start_unless, start, new, encode, solve}

-- t was made from s by adding clauses: nothing was learned, and what was inconsistent is so still
pub record Added (s t : Solver) : Type 0 where
  pub learned : t.learned ≡ s.learned
  pub inconsistent : s.inconsistent ≡ true → t.inconsistent ≡ true

added_refl : (s : Solver) → Added s s
added_refl s = record { learned = refl; inconsistent = λ e. e }

added_trans : {s t u : Solver} → Added s t → Added t u → Added s u
added_trans a b = record { learned = b.learned ∙ a.learned; inconsistent = λ e. b.inconsistent (a.inconsistent e) }

unless_added : (s : Solver) (x : Literal) (xs : List Literal) (t : Bool) → Added s (add_unless s x xs t)
unfolding add_unless
unless_added s x xs true = added_refl s
unless_added s x xs false = record { learned = refl; inconsistent = λ e. e }

-- a clause added learns nothing
pub sorted_added : (s : Solver) (ls : List Literal) → Added s (add_sorted s ls)
unfolding add_sorted
sorted_added s [] = record { learned = refl; inconsistent = λ e. refl }
sorted_added s (x ∷ xs) = unless_added s x xs (tautological x xs)

some_added : (s : Solver) (o : Option (List Literal)) → Added s (add_some s o)
unfolding add_some add_clause
some_added s none = added_refl s
some_added s (some ls) = sorted_added s (sort_literals ls)

clause_added : (s : Solver) (ls : List Literal) → Added s (add_aig_clause s ls)
unfolding add_aig_clause
clause_added s ls = some_added s (clause_literals ls)

node_added : (s : Solver) (l : Literal) (n : Node) → Added s (add_node s l n)
unfolding add_node
node_added s l Constant = added_refl s
node_added s l (Variable v) = added_refl s
node_added s l (And a b) = added_trans (added_trans (clause_added s _) (clause_added _ _)) (clause_added _ _)

nodes_added : (s : Solver) (i : ℕ) (ns : List Node) → Added s (add_nodes s i ns)
unfolding add_nodes
nodes_added s i [] = added_refl s
nodes_added s i (n ∷ ns) = added_trans (node_added s _ n) (nodes_added (add_node s (i * 2) n) (suc i) ns)

assumptions_added : (s : Solver) (ls : List Literal) → Added s (add_assumptions s ls)
unfolding add_assumptions
assumptions_added s [] = added_refl s
assumptions_added s (l ∷ ls) = added_trans (clause_added s _) (assumptions_added (add_aig_clause s (l ∷ [])) ls)

-- FALSE after other assumptions
false-inconsistent : (s : Solver) (ls ks : List Literal) → (add_assumptions s (ls ++ (FALSE ∷ ks))).inconsistent ≡ true
unfolding add_assumptions add_aig_clause clause_literals add_some add_clause sort_literals add_sorted
false-inconsistent s [] ks = (assumptions_added _ ks).inconsistent refl
false-inconsistent s (l ∷ ls) ks = false-inconsistent (add_aig_clause s (l ∷ [])) ls ks

-- an answer stays
pub search_answered : (limit n : ℕ) (a : Answer) → search_rounds limit n (answered a) ≡ a
unfolding search_rounds
search_answered limit zero a = refl
search_answered limit (suc n) a = refl

start-inconsistent : (s : Solver) → s.inconsistent ≡ true → s.learned ≡ 0 → start s ≡ answered (no_model 0)
unfolding start start_unless
start-inconsistent s e h = rw (e, h)

-- the encoding learned nothing
pub encode-learned : (g : Aig) (ls : List Literal) → (encode g ls).learned ≡ 0
unfolding encode new
encode-learned g ls = (added_trans (nodes_added (new (length g)) 1 (drop 1 g)) (assumptions_added _ ls)).learned

encode-inconsistent : (g : Aig) (ls ks : List Literal) → (encode g (ls ++ (FALSE ∷ ks))).inconsistent ≡ true
unfolding encode
encode-inconsistent g ls ks = false-inconsistent _ ls ks

-- no model, and no learned literal, whatever the limit and the graph
pub solve-false : (limit : ℕ) (g : Aig) (ls ks : List Literal) → solve limit g (ls ++ (FALSE ∷ ks)) ≡ no_model 0
unfolding solve
solve-false limit g ls ks =
    rw (start-inconsistent (encode g (ls ++ (FALSE ∷ ks))) (encode-inconsistent g ls ks) (encode-learned g (ls ++ (FALSE ∷ ks))))
    (search_answered limit _ (no_model 0))
