-- Closed theorems on graphs: the operations' answers without a node, nodes that are shared, the graphs of the four queries, and the queries that a check asks, each by computation.
use Rattle.std.specs.Prelude.{ℕ, ◌≡◌, refl, Bool, true, false, List, [], ◌∷◌, map}
use Rattle.std.proofs.Math.Option.{none, some}
use Rattle.model.specs.Netlist.{Input, RegisterOutput, Not, Output, And, Or, Xor, Low, Design}
use Rattle.model.specs.Literal.{Literal}
use Rattle.model.specs.Aig.{Constant, Variable, Aig, Built, and, or, xor, mux}
use Rattle.model.specs.Aig as Graph
use Rattle.model.specs.Run.{initial_bits}
use Rattle.model.specs.Sat.{out_of_fuel}
use Rattle.model.specs.Equivalence.{Problem, Verdict, Equivalent, NotEquivalent, Inconclusive, GaveUp, OutOfFuel, Outcome, decided, after_query0, after_query1, after_query2, after_query3, after_query4, base_counterexample, base_preserves_named_state, induction_closes, largest_learned, proved_through}
use Rattle.model.specs.Check.{problem_of, check_designs, accepted_check, verdict_answer, check_answer}
use Rattle.model.specs.Cases.{a, b, e, h, p, q, y, clk, rst, design, sync, reg, reset0, toggle, holding, conjunction, asking, numbers}
use Rattle.model.specs.Cases as Cases

-- ---- operations

-- variables with literals 2 and 4, and their conjunction, with literal 6
unfoldable pub small : Aig
small = Constant ∷ Variable 1 ∷ Variable 2 ∷ Graph.And 2 4 ∷ []

-- the small graph with nodes more, and a literal
unfoldable pub with : List Graph.Node → Literal → Built
with nodes l = record { aig = Constant ∷ Variable 1 ∷ Variable 2 ∷ Graph.And 2 4 ∷ nodes; literal = l }

-- with a constant, with itself and with its negation; the node that is there, in either order; a new node, the smaller literal first
ands : and small 0 4 ∷ and small 4 0 ∷ and small 1 4 ∷ and small 4 1 ∷ and small 5 5 ∷ and small 4 5 ∷ and small 2 4 ∷ and small 4 2 ∷ and small 5 2 ∷ []
    ≡ with [] 0 ∷ with [] 0 ∷ with [] 4 ∷ with [] 4 ∷ with [] 5 ∷ with [] 0 ∷ with [] 6 ∷ with [] 6 ∷ with (Graph.And 2 5 ∷ []) 8 ∷ []
unfolding small with Graph.all
ands = refl

ors : or small 0 4 ∷ or small 1 4 ∷ or small 3 5 ∷ or small 2 4 ∷ [] ≡ with [] 4 ∷ with [] 1 ∷ with [] 7 ∷ with (Graph.And 3 5 ∷ []) 9 ∷ []
unfolding small with Graph.all
ors = refl

xors : xor small 4 4 ∷ xor small 4 5 ∷ xor small 0 4 ∷ xor small 4 2 ∷ [] ≡ with [] 0 ∷ with [] 1 ∷ with [] 4 ∷ with (Graph.And 3 4 ∷ Graph.And 2 5 ∷ Graph.And 9 11 ∷ []) 13 ∷ []
unfolding small with Graph.all
xors = refl

muxes : mux small 1 2 4 ∷ mux small 0 2 4 ∷ mux small 2 4 4 ∷ mux small 4 1 0 ∷ mux small 4 0 1 ∷ mux small 2 4 5 ∷ mux small 3 1 4 ∷ []
    ≡ with [] 2 ∷ with [] 4 ∷ with [] 4 ∷ with [] 4 ∷ with [] 5 ∷ with (Graph.And 3 5 ∷ Graph.And 7 9 ∷ []) 11 ∷ with (Graph.And 2 7 ∷ []) 9 ∷ []
unfolding small with Graph.all
muxes = refl

-- ---- queries

-- p takes e and q takes p; y is e And q, a is p
unfoldable pub left : Design
left =
    design (Input clk ∷ Input rst ∷ Input e ∷ RegisterOutput ∷ RegisterOutput ∷ And 2 4 ∷ Output y 5 ∷ Output a 3 ∷ [])
    (reset0 p 3 2 ∷ reset0 q 4 3 ∷ [])

-- ports in another order; q takes e, h takes q Xor h and is asynchronously reset while rst is 0; y is q Xor h, a is h
unfoldable pub right : Design
right =
    design (Input rst ∷ Input e ∷ Input clk ∷ RegisterOutput ∷ RegisterOutput ∷ Xor 3 4 ∷ Output a 4 ∷ Output y 5 ∷ [])
    (reg q 3 1 (sync 0 false) ∷ reg h 4 5 (some (record { signal = 0; active = Low; asynchronous = true; value = false })) ∷ [])

-- both from their initial states
unfoldable pub problem : Problem
problem = problem_of left right (initial_bits left) (initial_bits right)

-- outputs in cycles 0 to 2
query_1 : base_counterexample problem 2 ≡ record { aig = Constant ∷ Variable 1 ∷ Variable 2 ∷ Variable 3 ∷ Graph.And 4 7 ∷ Variable 5 ∷ Variable 6 ∷ Variable 7 ∷ Graph.And 12 15 ∷ Graph.And 8 15 ∷ Graph.And 8 14 ∷ Variable 11 ∷ Variable 12 ∷ Variable 13 ∷ Graph.And 18 24 ∷ Graph.And 24 27 ∷ Graph.And 16 27 ∷ Graph.And 20 26 ∷ Graph.And 16 35 ∷ Graph.And 17 34 ∷ Graph.And 37 39 ∷ Graph.And 26 41 ∷ Graph.And 28 40 ∷ Graph.And 29 41 ∷ Graph.And 45 47 ∷ Graph.And 40 48 ∷ Graph.And 9 50 ∷ []; assumptions = 53 ∷ []; comparisons = record { inputs = 2 ∷ 4 ∷ 6 ∷ []; outputs = (0, 0) ∷ (0, 0) ∷ []; mismatch = 0 } ∷ record { inputs = 10 ∷ 12 ∷ 14 ∷ []; outputs = (8, 0) ∷ (0, 8) ∷ []; mismatch = 8 } ∷ record { inputs = 22 ∷ 24 ∷ 26 ∷ []; outputs = (16, 34) ∷ (28, 41) ∷ []; mismatch = 51 } ∷ [] }
unfolding left right problem Cases.all
query_1 = refl

-- the states of q in cycles 0 to 2
query_2 : base_preserves_named_state problem 2 ≡ record { aig = Constant ∷ Variable 1 ∷ Variable 2 ∷ Variable 3 ∷ Graph.And 4 7 ∷ Variable 5 ∷ Variable 6 ∷ Variable 7 ∷ Graph.And 12 15 ∷ Graph.And 8 15 ∷ Graph.And 8 14 ∷ Graph.And 17 18 ∷ Graph.And 16 19 ∷ Graph.And 23 25 ∷ Graph.And 9 26 ∷ Variable 15 ∷ Variable 16 ∷ Variable 17 ∷ Graph.And 18 32 ∷ Graph.And 32 35 ∷ Graph.And 16 35 ∷ Graph.And 20 34 ∷ Graph.And 16 43 ∷ Graph.And 17 42 ∷ Graph.And 45 47 ∷ Graph.And 34 49 ∷ []; assumptions = 29 ∷ []; comparisons = [] }
unfolding left right problem Cases.all
query_2 = refl

-- outputs and q in cycles 0 and 1, from states in which q is shared
query_3 : induction_closes problem true 1 ≡ record { aig = Constant ∷ Variable 1 ∷ Variable 2 ∷ Variable 3 ∷ Variable 4 ∷ Variable 5 ∷ Variable 6 ∷ Graph.And 4 10 ∷ Graph.And 10 13 ∷ Graph.And 2 13 ∷ Graph.And 6 12 ∷ Graph.And 4 21 ∷ Graph.And 5 20 ∷ Graph.And 23 25 ∷ Graph.And 12 27 ∷ Graph.And 2 21 ∷ Graph.And 3 20 ∷ Graph.And 31 33 ∷ Graph.And 14 26 ∷ Graph.And 15 27 ∷ Graph.And 37 39 ∷ Graph.And 34 40 ∷ Variable 22 ∷ Variable 23 ∷ Variable 24 ∷ Graph.And 18 46 ∷ Graph.And 46 49 ∷ Graph.And 16 49 ∷ Graph.And 28 48 ∷ Graph.And 16 57 ∷ Graph.And 17 56 ∷ Graph.And 59 61 ∷ Graph.And 48 63 ∷ Graph.And 50 62 ∷ Graph.And 51 63 ∷ Graph.And 67 69 ∷ Graph.And 62 70 ∷ Graph.And 17 18 ∷ Graph.And 16 19 ∷ Graph.And 75 77 ∷ Graph.And 72 78 ∷ []; assumptions = 42 ∷ 81 ∷ []; comparisons = [] }
unfolding left right problem Cases.all
query_3 = refl

-- outputs alone, from states that share nothing
query_4 : induction_closes problem false 1 ≡ record { aig = Constant ∷ Variable 1 ∷ Variable 2 ∷ Variable 3 ∷ Variable 4 ∷ Variable 5 ∷ Variable 6 ∷ Variable 7 ∷ Graph.And 4 12 ∷ Graph.And 12 15 ∷ Graph.And 2 15 ∷ Graph.And 6 14 ∷ Graph.And 8 23 ∷ Graph.And 9 22 ∷ Graph.And 25 27 ∷ Graph.And 14 29 ∷ Graph.And 2 23 ∷ Graph.And 3 22 ∷ Graph.And 33 35 ∷ Graph.And 16 28 ∷ Graph.And 17 29 ∷ Graph.And 39 41 ∷ Graph.And 36 42 ∷ Variable 23 ∷ Variable 24 ∷ Variable 25 ∷ Graph.And 20 48 ∷ Graph.And 48 51 ∷ Graph.And 18 51 ∷ Graph.And 30 50 ∷ Graph.And 18 59 ∷ Graph.And 19 58 ∷ Graph.And 61 63 ∷ Graph.And 50 65 ∷ Graph.And 52 64 ∷ Graph.And 53 65 ∷ Graph.And 69 71 ∷ Graph.And 64 72 ∷ []; assumptions = 44 ∷ 75 ∷ []; comparisons = [] }
unfolding left right problem Cases.all
query_4 = refl

-- ---- the queries that a check asks

-- a check of two designs from their initial states, to depth 1, in the mode of the earliest cycle or without it
unfoldable pub outcome_by : Bool → ℕ → Design → Design → Outcome
outcome_by earliest limit gold gate = check_designs (record { depth = 1; limit = limit; earliest = earliest }) gold gate (initial_bits gold) (initial_bits gate)

-- in the mode, under the largest limit, to a depth
unfoldable pub earliest_to : ℕ → Design → Design → Outcome
earliest_to D gold gate = check_designs (record { depth = D; limit = 262144; earliest = true }) gold gate (initial_bits gold) (initial_bits gate)

-- without it
unfoldable pub outcome : ℕ → Design → Design → Outcome
outcome = outcome_by false

-- query 3 has no model, after a conflict that learned one literal
asked_to_query_3 : (outcome 262144 (toggle q) (toggle p)).asked
    ≡ asking 1 1 0 ∷ asking 1 2 0 ∷ asking 1 3 1 ∷ []
unfolding outcome_by outcome Cases.all
asked_to_query_3 = refl

-- queries 3 and 4 have models
asked_to_query_4 : (outcome 262144 conjunction holding).asked
    ≡ asking 1 1 0 ∷ asking 1 2 0 ∷ asking 1 3 0 ∷ asking 1 4 0 ∷ []
unfolding outcome_by outcome Cases.all
asked_to_query_4 = refl

-- the largest total, and the first that has it: of none, of one, of equal ones, of the first and of the last
largest : map largest_learned ([] ∷ (asking 1 0 0 ∷ []) ∷ (asking 1 1 0 ∷ asking 1 2 5 ∷ asking 1 3 5 ∷ asking 2 1 2 ∷ []) ∷ (asking 1 1 3 ∷ asking 1 2 2 ∷ []) ∷ (asking 1 1 0 ∷ asking 2 1 4 ∷ []) ∷ [])
    ≡ asking 0 0 0 ∷ asking 1 0 0 ∷ asking 1 2 5 ∷ asking 1 1 3 ∷ asking 2 1 4 ∷ []
unfolding Cases.all
largest = refl

-- under a limit of 0 the first literal is one too many: query 3 gives up, and the first query asked learned as much, nothing
gives_up : check_answer (accepted_check (outcome 0 (toggle q) (toggle p))) ≡ numbers 0 0 0 3 1 0 3 (asking 1 1 0) true 1
unfolding outcome_by outcome Cases.all
gives_up = refl

-- y = a Xor b
unfoldable pub exclusive : Design
exclusive = design (Input a ∷ Input b ∷ Xor 0 1 ∷ Output y 2 ∷ []) []

-- the same by Or and And
unfoldable pub gated : Design
gated = design (Input a ∷ Input b ∷ Or 0 1 ∷ And 0 1 ∷ Not 3 ∷ And 2 4 ∷ Output y 5 ∷ []) []

-- query 1 learns 16 literals; under a smaller limit its total is the one before the clause that would pass it
limited : map (λ limit. check_answer (accepted_check (outcome limit exclusive gated))) (262144 ∷ 12 ∷ 5 ∷ 3 ∷ [])
    ≡ numbers 0 0 0 0 1 0 0 (asking 1 1 16) false 0 ∷ map (λ total. numbers 0 0 0 3 1 0 1 (asking 1 1 total) false 0) (11 ∷ 4 ∷ 0 ∷ [])
unfolding outcome_by outcome exclusive gated Cases.all
limited = refl

-- in the mode of the earliest cycle query 0 is asked first, and once: at depth 1 alone
asked-earliest : (outcome_by true 262144 (toggle q) (toggle p)).asked ∷ (outcome_by true 262144 conjunction holding).asked ∷ (earliest_to 2 conjunction holding).asked ∷ []
    ≡ (asking 1 0 0 ∷ asking 1 1 0 ∷ asking 1 2 0 ∷ asking 1 3 1 ∷ [])
    ∷ (asking 1 0 0 ∷ asking 1 1 0 ∷ asking 1 2 0 ∷ asking 1 3 0 ∷ asking 1 4 0 ∷ [])
    ∷ (asking 1 0 0 ∷ asking 1 1 0 ∷ asking 1 2 0 ∷ asking 1 3 0 ∷ asking 1 4 0 ∷ asking 2 1 0 ∷ asking 2 2 0 ∷ asking 2 3 0 ∷ asking 2 4 0 ∷ [])
    ∷ []
unfolding outcome_by earliest_to Cases.all
asked-earliest = refl

-- a check to depth 0, which is refused, would ask nothing
asked_to_depth_0 : earliest_to 0 (toggle q) (toggle p) ≡ record { verdict = Inconclusive 0; asked = [] }
unfolding earliest_to Cases.all
asked_to_depth_0 = refl

-- query 0 learns 5 literals, query 1 after it 16: a give-up in query 0 has proved nothing, one in query 1 of depth 1 cycle 0
limited-earliest : map (λ limit. check_answer (accepted_check (outcome_by true limit exclusive gated))) (262144 ∷ 12 ∷ 5 ∷ 3 ∷ 0 ∷ [])
    ≡ numbers 0 0 0 0 1 0 0 (asking 1 1 16) false 0
    ∷ numbers 0 0 0 3 1 0 1 (asking 1 1 11) true 0
    ∷ numbers 0 0 0 3 1 0 1 (asking 1 0 5) true 0
    ∷ numbers 0 0 0 3 1 0 0 (asking 1 0 3) false 0
    ∷ numbers 0 0 0 3 1 0 0 (asking 1 0 0) false 0
    ∷ []
unfolding outcome_by exclusive gated Cases.all
limited-earliest = refl

-- what a give-up has proved: nothing where its query alone was asked, whatever its number; after others, the depth before it in query 1, be it 0, and its own depth after query 1
proved : proved_through (GaveUp 1 1) (asking 1 1 0 ∷ []) ∷ proved_through (GaveUp 1 0) (asking 1 0 0 ∷ []) ∷ proved_through (GaveUp 1 1) [] ∷ []
    ≡ none ∷ none ∷ none ∷ []
unfolding Cases.all
proved = refl

proved-after : map (λ (v : Verdict). proved_through v (asking 1 0 0 ∷ asking 1 1 0 ∷ [])) (GaveUp 1 1 ∷ GaveUp 1 2 ∷ GaveUp 1 3 ∷ GaveUp 1 4 ∷ GaveUp 6 1 ∷ GaveUp 6 2 ∷ [])
    ≡ map (λ c. some c) (0 ∷ 1 ∷ 1 ∷ 1 ∷ 5 ∷ 6 ∷ [])
unfolding Cases.all
proved-after = refl

-- it is told of a give-up alone
proved_otherwise : map (λ (v : Verdict). proved_through v (asking 1 1 0 ∷ asking 1 2 0 ∷ [])) (Equivalent 2 ∷ NotEquivalent 2 2 [] ∷ Inconclusive 2 ∷ OutOfFuel ∷ [])
    ≡ none ∷ none ∷ none ∷ none ∷ []
unfolding Cases.all
proved_otherwise = refl

-- a search without an end, which none is, would stand among the queries asked with its depth, number and total
out_of_fuel_lem : (p : Problem) → after_query1 9 p 5 [] [] (out_of_fuel 7) ∷ after_query2 9 p 5 [] (out_of_fuel 7) ∷ after_query3 9 p 5 [] (out_of_fuel 7) ∷ after_query4 5 [] (out_of_fuel 7) ∷ []
    ≡ map (λ q. decided OutOfFuel (record { depth = 5; query = q; learned = 7 } ∷ [])) (1 ∷ 2 ∷ 3 ∷ 4 ∷ [])
unfolding Cases.all
out_of_fuel_lem p = refl

out_of_fuel_0 : after_query0 [] (out_of_fuel 7) ≡ decided OutOfFuel (asking 1 0 7 ∷ [])
unfolding Cases.all
out_of_fuel_0 = refl

-- and would be answered with a status of its own
no_end : verdict_answer OutOfFuel (asking 2 3 9) (some 6) ≡ numbers 0 0 0 4 0 0 0 (asking 2 3 9) true 6
unfolding Cases.all
no_end = refl
