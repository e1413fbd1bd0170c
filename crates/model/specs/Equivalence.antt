-- The four queries of equivalence.rs, and the loop over depths, before which query 0 may ask of cycle 0 alone. Definitions only.
use Rattle.std.specs.Prelude.{ℕ, zero, suc, ◌-◌, Bool, true, false, cond, List, [], ◌∷◌, ◌++◌, map, get_or, take, drop, ltb}
use Rattle.std.proofs.Math.Bool.{xor as xorBool}
use Rattle.std.proofs.Math.Option.{Option, none, some}
use Rattle.model.specs.Answers.{Asked}
use Rattle.model.specs.Literal.{Literal, FALSE, node, inverted, negate, constant_literal}
use Rattle.model.specs.Lists.{snoc, position, zip, lookup, concat}
use Rattle.model.specs.Aig.{Node, Constant, Variable, And, Aig, Built, new, variable, and, or, xor, evaluate}
use Rattle.model.specs.Aig as Graph
use Rattle.model.specs.Sat.{Answer, model, no_model, gave_up, out_of_fuel, solve}
use Rattle.model.specs.Sat as Solving
use Rattle.model.specs.Names.{Name, same_name}
use Rattle.model.specs.Names as Names
use Rattle.model.specs.Transition.{Port, StateBit, TransitionSystem}

-- two systems with the same input and output names, and the bits that each side's states start with
pub record Problem : Type 0 where
  pub gold : TransitionSystem
  pub gate : TransitionSystem
  pub gold_start : List Bool
  pub gate_start : List Bool

-- ---- import of a system's graph

-- a literal of the source, by the literals of its nodes
unfoldable pub remap_literal : List Literal → Literal → Literal
remap_literal imported l = let m = get_or imported (node l) FALSE in cond (inverted l) (negate m) m

-- the target graph and the literals of the source's nodes so far
pub record Import : Type 0 where
  pub aig : Aig
  pub imported : List Literal

-- the literal of one node more
unfoldable pub with_imported : Import → Built → Import
with_imported i m = record { aig = m.aig; imported = snoc i.imported m.literal }

-- one node of the source
unfoldable pub import_node : List (ℕ × Literal) → Import → Node → Import
import_node variables i Constant = with_imported i (record { aig = i.aig; literal = FALSE })
import_node variables i (Variable v) = with_imported i (record { aig = i.aig; literal = lookup FALSE variables v })
import_node variables i (And lhs rhs) = with_imported i (and i.aig (remap_literal i.imported lhs) (remap_literal i.imported rhs))

-- the nodes of the source in order
unfoldable pub import_nodes : List (ℕ × Literal) → Import → List Node → Import
import_nodes variables i [] = i
import_nodes variables i (n ∷ ns) = import_nodes variables (import_node variables i n) ns

-- the source's graph in the target, with the literals that its variables have there
unfoldable pub import_aig : List (ℕ × Literal) → Aig → Aig → Import
import_aig variables source target = import_nodes variables (record { aig = target; imported = [] }) source

-- one cycle of a system in the proof graph: its outputs and its next states
pub record Frame : Type 0 where
  pub aig : Aig
  pub outputs : List Literal
  pub next : List Literal

-- the literals of a system's variables in a cycle; in a run their bits
unfoldable pub frame_variables : {A : Type 0} → TransitionSystem → List A → List A → List (ℕ × A)
frame_variables system inputs states =
    zip (map (λ (p : Port). node p.literal) system.inputs) inputs ++ zip (map (λ (s : StateBit). s.variable) system.states) states

-- outputs and next states by the import
unfoldable pub frame_of : TransitionSystem → Import → Frame
frame_of system i =
    record {
      aig = i.aig;
      outputs = map (λ (p : Port). remap_literal i.imported p.literal) system.outputs;
      next = map (λ (s : StateBit). remap_literal i.imported s.next) system.states;
    }

-- one cycle of a system, from the literals of its inputs and states
unfoldable pub import_frame : TransitionSystem → Aig → List Literal → List Literal → Frame
import_frame system g inputs states = frame_of system (import_aig (frame_variables system inputs states) system.aig g)

-- ---- new variables

-- a graph and literals of it
pub record LiteralList : Type 0 where
  pub aig : Aig
  pub literals : List Literal

-- one literal more
unfoldable pub with_built : List Literal → Built → LiteralList
with_built ls m = record { aig = m.aig; literals = snoc ls m.literal }

-- a new variable for each element of a list, after the literals so far
unfoldable pub new_variables : {A : Type 0} → LiteralList → List A → LiteralList
new_variables v [] = v
new_variables v (x ∷ xs) = new_variables (with_built v.literals (variable v.aig)) xs

-- the inputs of a cycle: a new variable for each, in byte order of names
unfoldable pub proof_inputs : Aig → TransitionSystem → LiteralList
proof_inputs g system = new_variables (record { aig = g; literals = [] }) system.inputs

-- ---- comparisons

-- what stands at the place of the state with this name: a literal, or a bit in a run
unfoldable pub state_literal : {A : Type 0} → Name → List StateBit → List A → Option A
state_literal n [] ls = none
state_literal n (s ∷ ss) [] = none
state_literal n (s ∷ ss) (l ∷ ls) = let r = state_literal n ss ls in cond (same_name n s.name) (some l) r

-- a pair in front, if both sides have the name
unfoldable pub cons_pair : {A : Type 0} → A → Option A → List (A × A) → List (A × A)
cons_pair l none ps = ps
cons_pair l (some k) ps = (l, k) ∷ ps

-- the literals of states named alike, in byte order of names; in a run their bits
unfoldable pub named_pairs : {A : Type 0} → List StateBit → List A → List StateBit → List A → List (A × A)
named_pairs [] ls gate ks = []
named_pairs (s ∷ ss) [] gate ks = []
named_pairs (s ∷ ss) (l ∷ ls) gate ks = cons_pair l (state_literal s.name gate ks) (named_pairs ss ls gate ks)

-- mismatch or differs
unfoldable pub or_mismatch : Literal → Built → Built
or_mismatch mismatch differs = or differs.aig mismatch differs.literal

-- the mismatch so far, or a difference in one of the pairs
unfoldable pub any_difference : Built → List (Literal × Literal) → Built
any_difference m [] = m
any_difference m (p ∷ ps) = any_difference (or_mismatch m.literal (xor m.aig p.0 p.1)) ps

-- whether a pair differs
unfoldable pub compare_pairs : Aig → List (Literal × Literal) → Built
compare_pairs g ps = any_difference (record { aig = g; literal = FALSE }) ps

-- whether states named alike differ
unfoldable pub compare_named_state : Problem → Aig → List Literal → List Literal → Built
compare_named_state p g gold_state gate_state = compare_pairs g (named_pairs p.gold.states gold_state p.gate.states gate_state)

-- a cycle: its inputs, the pairs of outputs, and whether one of them differs
pub record FrameComparison : Type 0 where
  pub inputs : List Literal
  pub outputs : List (Literal × Literal)
  pub mismatch : Literal

-- whether outputs differ; both sides' outputs are in byte order of the same names
unfoldable pub compare_outputs : Aig → List Literal → List Literal → Built
compare_outputs g gold gate = compare_pairs g (zip gold gate)

-- ---- one cycle of both sides

-- the graph after a cycle, with the next states and the comparison of its outputs
pub record Cycle : Type 0 where
  pub aig : Aig
  pub gold_next : List Literal
  pub gate_next : List Literal
  pub comparison : FrameComparison

-- both sides' frames without the comparison
pub record Frames : Type 0 where
  pub inputs : List Literal
  pub gold : Frame
  pub gate : Frame

-- inputs, gold's import, gate's import
unfoldable pub import_frames : Problem → Aig → List Literal → List Literal → Frames
import_frames p g gold_state gate_state =
    let i = proof_inputs g p.gold in
    let gold = import_frame p.gold i.aig i.literals gold_state in
    let gate = import_frame p.gate gold.aig i.literals gate_state in
    record { inputs = i.literals; gold = gold; gate = gate }

-- both frames with the comparison of their outputs
unfoldable pub cycle_of : Frames → Built → Cycle
cycle_of f m =
    record {
      aig = m.aig;
      gold_next = f.gold.next;
      gate_next = f.gate.next;
      comparison = record { inputs = f.inputs; outputs = zip f.gold.outputs f.gate.outputs; mismatch = m.literal };
    }

-- inputs, gold's import, gate's import, and the outputs compared
unfoldable pub compared_cycle : Problem → Aig → List Literal → List Literal → Cycle
compared_cycle p g gold_state gate_state =
    let f = import_frames p g gold_state gate_state in
    cycle_of f (compare_outputs f.gate.aig f.gold.outputs f.gate.outputs)

-- ---- the queries

-- a graph and its assumptions, with what query 1 reads its trace from
pub record Query : Type 0 where
  pub aig : Aig
  pub assumptions : List Literal
  pub comparisons : List FrameComparison

-- query 1 and 2 after some cycles
pub record Base : Type 0 where
  pub aig : Aig
  pub gold_state : List Literal
  pub gate_state : List Literal
  pub comparisons : List FrameComparison
  pub any_mismatch : Literal

-- query 1 and 2 before cycle 0: the start bits
unfoldable pub base_start : Problem → Base
base_start p =
    record {
      aig = new;
      gold_state = map constant_literal p.gold_start;
      gate_state = map constant_literal p.gate_start;
      comparisons = [];
      any_mismatch = FALSE;
    }

-- a base whose mismatch is the only assumption
unfoldable pub base_query : Base → Query
base_query b = record { aig = b.aig; assumptions = b.any_mismatch ∷ []; comparisons = b.comparisons }

-- a base after a compared cycle and the or of its mismatch
unfoldable pub counterexample_next : Base → Cycle → Built → Base
counterexample_next b c m =
    record {
      aig = m.aig;
      gold_state = c.gold_next;
      gate_state = c.gate_next;
      comparisons = snoc b.comparisons c.comparison;
      any_mismatch = m.literal;
    }

-- the or of the cycle's mismatch
unfoldable pub counterexample_compared : Base → Cycle → Base
counterexample_compared b c = counterexample_next b c (or c.aig b.any_mismatch c.comparison.mismatch)

-- one cycle of query 1
unfoldable pub counterexample_cycle : Problem → Base → Base
counterexample_cycle p b = counterexample_compared b (compared_cycle p b.aig b.gold_state b.gate_state)

-- this many cycles of query 1
unfoldable pub counterexample_cycles : Problem → ℕ → Base → Base
counterexample_cycles p zero b = b
counterexample_cycles p (suc n) b = counterexample_cycles p n (counterexample_cycle p b)

-- query 1: outputs differ in a cycle from 0 to depth, from the start bits
unfoldable pub base_counterexample : Problem → ℕ → Query
base_counterexample p depth = base_query (counterexample_cycles p (suc depth) (base_start p))

-- a base after both sides' frames
unfoldable pub named_state_next : Base → Literal → Frames → Base
named_state_next b mismatch f =
    record { aig = f.gate.aig; gold_state = f.gold.next; gate_state = f.gate.next; comparisons = []; any_mismatch = mismatch }

-- both sides' frames, after the or of the states' mismatch
unfoldable pub named_state_compared : Problem → Base → Built → Base
named_state_compared p b m = named_state_next b m.literal (import_frames p m.aig b.gold_state b.gate_state)

-- one cycle of query 2: the states compared, then the frames
unfoldable pub named_state_cycle : Problem → Base → Base
named_state_cycle p b =
    named_state_compared p b (or_mismatch b.any_mismatch (compare_named_state p b.aig b.gold_state b.gate_state))

-- this many cycles of query 2
unfoldable pub named_state_cycles : Problem → ℕ → Base → Base
named_state_cycles p zero b = b
named_state_cycles p (suc n) b = named_state_cycles p n (named_state_cycle p b)

-- query 2: states named alike differ in a cycle from 0 to depth, from the start bits
unfoldable pub base_preserves_named_state : Problem → ℕ → Query
base_preserves_named_state p depth = base_query (named_state_cycles p (suc depth) (base_start p))

-- query 3 and 4 after some cycles
pub record Induction : Type 0 where
  pub aig : Aig
  pub gold_state : List Literal
  pub gate_state : List Literal
  pub assumptions : List Literal

-- the literal of a gate state: gold's where it is shared, else a new variable
unfoldable pub gate_variable : LiteralList → Option Literal → LiteralList
gate_variable v (some l) = record { aig = v.aig; literals = snoc v.literals l }
gate_variable v none = with_built v.literals (variable v.aig)

-- the literal of gold's state with this name, where named states are shared
unfoldable pub matched : {A : Type 0} → Bool → Name → List StateBit → List A → Option A
matched true n gold ls = state_literal n gold ls
matched false n gold ls = none

-- the gate states in order, after the literals so far
unfoldable pub gate_variables : Bool → List StateBit → List Literal → LiteralList → List StateBit → LiteralList
gate_variables share gold ls v [] = v
gate_variables share gold ls v (s ∷ ss) = gate_variables share gold ls (gate_variable v (matched share s.name gold ls)) ss

-- the free states of both sides: gold's by name, then gate's by name
unfoldable pub free_product_state : Problem → Bool → Induction
free_product_state p share =
    let gold = new_variables (record { aig = new; literals = [] }) p.gold.states in
    let gate = gate_variables share p.gold.states gold.literals (record { aig = gold.aig; literals = [] }) p.gate.states in
    record { aig = gate.aig; gold_state = gold.literals; gate_state = gate.literals; assumptions = [] }

-- the mismatch of a cycle: of its outputs, joined to that of its named states where these are included
unfoldable pub cycle_mismatch : Problem → Bool → Induction → Cycle → Built
cycle_mismatch p true b c =
    or_mismatch c.comparison.mismatch (compare_named_state p c.aig b.gold_state b.gate_state)
cycle_mismatch p false b c = record { aig = c.aig; literal = c.comparison.mismatch }

-- the sign of a cycle's mismatch: assumed in the last cycle, its negation in the others
unfoldable pub assumed : Bool → Literal → Literal
assumed true l = l
assumed false l = negate l

-- an induction after a cycle
unfoldable pub induction_next : Bool → Induction → Cycle → Built → Induction
induction_next last b c m =
    record { aig = m.aig; gold_state = c.gold_next; gate_state = c.gate_next; assumptions = snoc b.assumptions (assumed last m.literal) }

-- the mismatch of a compared cycle assumed
unfoldable pub induction_compared : Problem → Bool → Bool → Induction → Cycle → Induction
induction_compared p include last b c = induction_next last b c (cycle_mismatch p include b c)

-- one cycle of query 3 (named states included) or 4
unfoldable pub induction_cycle : Problem → Bool → Bool → Induction → Induction
induction_cycle p include last b = induction_compared p include last b (compared_cycle p b.aig b.gold_state b.gate_state)

-- this many cycles, then the last one
unfoldable pub induction_cycles : Problem → Bool → ℕ → Induction → Induction
induction_cycles p include zero b = induction_cycle p include true b
induction_cycles p include (suc n) b = induction_cycles p include n (induction_cycle p include false b)

-- an induction's graph and assumptions
unfoldable pub induction_query : Induction → Query
induction_query b = record { aig = b.aig; assumptions = b.assumptions; comparisons = [] }

-- query 3 (named states included) and 4: after depth equal cycles from free states, cycle depth differs
unfoldable pub induction_closes : Problem → Bool → ℕ → Query
induction_closes p include depth = induction_query (induction_cycles p include depth (free_product_state p include))

-- the answer of a query, under a limit of learned literals
unfoldable pub ask : ℕ → Query → Answer
ask limit q = solve limit q.aig q.assumptions

-- ---- the trace of query 1

-- a bit as a byte
unfoldable pub byte : Bool → ℕ
byte true = 1
byte false = 0

-- the first cycle whose mismatch the model asserts
unfoldable pub first_mismatch : List Bool → List FrameComparison → ℕ
first_mismatch values cs = elim (position (λ (c : FrameComparison). evaluate values c.mismatch) cs) [ none ↦ 0 | some i ↦ i ]

-- the inputs of a cycle as bytes
unfoldable pub input_bytes : List Bool → FrameComparison → List ℕ
input_bytes values c = map (λ l. byte (evaluate values l)) c.inputs

-- a byte for each output of a cycle: 1 where it differs
unfoldable pub mark_bytes : List Bool → FrameComparison → List ℕ
mark_bytes values c = map (λ (p : Literal × Literal). byte (xorBool (evaluate values p.0) (evaluate values p.1))) c.outputs

-- the marks of the first comparison of a list
unfoldable pub first_marks : List Bool → List FrameComparison → List ℕ
first_marks values [] = []
first_marks values (c ∷ cs) = mark_bytes values c

-- the inputs of cycles 0 to m, then the marks of cycle m
unfoldable pub trace_bytes : List Bool → List FrameComparison → ℕ → List ℕ
trace_bytes values cs m = concat (map (input_bytes values) (take (suc m) cs)) ++ first_marks values (drop m cs)

-- ---- the loop over depths

-- with the depth, and for NotEquivalent the first mismatch and the trace, for GaveUp the query; OutOfFuel never comes
pub data Verdict : Type 0 where
  Equivalent : ℕ → Verdict
  NotEquivalent : ℕ → ℕ → List ℕ → Verdict
  Inconclusive : ℕ → Verdict
  GaveUp : ℕ → ℕ → Verdict
  OutOfFuel : Verdict

-- the verdict, and the queries in the order they were asked
pub record Outcome : Type 0 where
  pub verdict : Verdict
  pub asked : List Asked

-- the loop without a verdict so far, or with one
pub data Proving : Type 0 where
  undecided : List Asked → Proving
  decided : Verdict → List Asked → Proving

-- the queries asked, with one more
unfoldable pub asked_too : List Asked → ℕ → ℕ → ℕ → List Asked
asked_too earlier depth query learned = snoc earlier (record { depth = depth; query = query; learned = learned })

-- a counterexample as a verdict
unfoldable pub not_equivalent_at : ℕ → List Bool → List FrameComparison → Verdict
not_equivalent_at depth values cs = let m = first_mismatch values cs in NotEquivalent depth m (trace_bytes values cs m)

-- after query 4
unfoldable pub after_query4 : ℕ → List Asked → Answer → Proving
after_query4 d earlier (model values n) = undecided (asked_too earlier d 4 n)
after_query4 d earlier (no_model n) = decided (Equivalent d) (asked_too earlier d 4 n)
after_query4 d earlier (gave_up n) = decided (GaveUp d 4) (asked_too earlier d 4 n)
after_query4 d earlier (out_of_fuel n) = decided OutOfFuel (asked_too earlier d 4 n)

-- query 4
unfoldable pub query4 : ℕ → Problem → ℕ → List Asked → Proving
query4 limit p d earlier = after_query4 d earlier (ask limit (induction_closes p false d))

-- after query 3
unfoldable pub after_query3 : ℕ → Problem → ℕ → List Asked → Answer → Proving
after_query3 limit p d earlier (model values n) = query4 limit p d (asked_too earlier d 3 n)
after_query3 limit p d earlier (no_model n) = decided (Equivalent d) (asked_too earlier d 3 n)
after_query3 limit p d earlier (gave_up n) = decided (GaveUp d 3) (asked_too earlier d 3 n)
after_query3 limit p d earlier (out_of_fuel n) = decided OutOfFuel (asked_too earlier d 3 n)

-- after query 2: query 3 only where named states are preserved
unfoldable pub after_query2 : ℕ → Problem → ℕ → List Asked → Answer → Proving
after_query2 limit p d earlier (model values n) = query4 limit p d (asked_too earlier d 2 n)
after_query2 limit p d earlier (no_model n) = after_query3 limit p d (asked_too earlier d 2 n) (ask limit (induction_closes p true d))
after_query2 limit p d earlier (gave_up n) = decided (GaveUp d 2) (asked_too earlier d 2 n)
after_query2 limit p d earlier (out_of_fuel n) = decided OutOfFuel (asked_too earlier d 2 n)

-- after query 1
unfoldable pub after_query1 : ℕ → Problem → ℕ → List Asked → List FrameComparison → Answer → Proving
after_query1 limit p d earlier cs (model values n) = decided (not_equivalent_at d values cs) (asked_too earlier d 1 n)
after_query1 limit p d earlier cs (no_model n) = after_query2 limit p d (asked_too earlier d 1 n) (ask limit (base_preserves_named_state p d))
after_query1 limit p d earlier cs (gave_up n) = decided (GaveUp d 1) (asked_too earlier d 1 n)
after_query1 limit p d earlier cs (out_of_fuel n) = decided OutOfFuel (asked_too earlier d 1 n)

-- query 1, given its graph
unfoldable pub query1 : ℕ → Problem → ℕ → List Asked → Query → Proving
query1 limit p d earlier q = after_query1 limit p d earlier q.comparisons (ask limit q)

-- the queries of one depth
unfoldable pub at_depth : ℕ → Problem → ℕ → List Asked → Proving
at_depth limit p d earlier = query1 limit p d earlier (base_counterexample p d)

-- this many depths after depth d
unfoldable pub depths : ℕ → Problem → ℕ → ℕ → Proving → Outcome
depths limit p zero d (undecided earlier) = record { verdict = Inconclusive d; asked = earlier }
depths limit p zero d (decided v earlier) = record { verdict = v; asked = earlier }
depths limit p (suc n) d (undecided earlier) = depths limit p n (suc d) (at_depth limit p (suc d) earlier)
depths limit p (suc n) d (decided v earlier) = record { verdict = v; asked = earlier }

-- after query 0, which is of depth 1: a no leaves all to query 1
unfoldable pub after_query0 : List FrameComparison → Answer → Proving
after_query0 cs (model values n) = decided (not_equivalent_at 1 values cs) (asked_too [] 1 0 n)
after_query0 cs (no_model n) = undecided (asked_too [] 1 0 n)
after_query0 cs (gave_up n) = decided (GaveUp 1 0) (asked_too [] 1 0 n)
after_query0 cs (out_of_fuel n) = decided OutOfFuel (asked_too [] 1 0 n)

-- query 0, given its graph
unfoldable pub query0 : ℕ → Query → Proving
query0 limit q = after_query0 q.comparisons (ask limit q)

-- before query 1 of depth 1: nothing, or in the mode of the earliest cycle query 0, built as query 1 with depth 0; a check to depth 0 has no depth 1
unfoldable pub before_query1 : Bool → ℕ → Problem → ℕ → Proving
before_query1 false limit p max_depth = undecided []
before_query1 true limit p zero = undecided []
before_query1 true limit p (suc n) = query0 limit (base_counterexample p 0)

-- depths 1 to max_depth, in the mode of the earliest cycle or without it
unfoldable pub prove_sequential_equivalence : Bool → ℕ → Problem → ℕ → Outcome
prove_sequential_equivalence earliest limit p max_depth = depths limit p max_depth 0 (before_query1 earliest limit p max_depth)

-- the query with the larger total, the first where they are equal
unfoldable pub larger_learned : Asked → Asked → Asked
larger_learned a b = cond (ltb a.learned b.learned) b a

-- the query with the largest total among one and those after it
unfoldable pub largest_from : Asked → List Asked → Asked
largest_from a [] = a
largest_from a (b ∷ bs) = largest_from (larger_learned a b) bs

-- the query with the largest total of all that were asked, the earliest where they are equal; where none was, nothing
unfoldable pub largest_learned : List Asked → Asked
largest_learned [] = record { depth = 0; query = 0; learned = 0 }
largest_learned (a ∷ rest) = largest_from a rest

-- through which cycle the outputs are proved equal by the queries asked, of which the last, query q of depth d, gave up: through d where it comes after query 1, which said no, else through d - 1; through none where no other was asked
unfoldable pub proved_before : ℕ → ℕ → List Asked → Option ℕ
proved_before d q [] = none
proved_before d q (a ∷ []) = none
proved_before d q (a ∷ b ∷ rest) = some (cond (ltb 1 q) d (d - 1))

-- what is told of it: a cycle for GaveUp alone
unfoldable pub proved_through : Verdict → List Asked → Option ℕ
proved_through (Equivalent d) asked = none
proved_through (NotEquivalent d m bytes) asked = none
proved_through (Inconclusive d) asked = none
proved_through (GaveUp d q) asked = proved_before d q asked
proved_through OutOfFuel asked = none

-- naming this in an `unfolding` line opens the definitions of this file and those it uses
unfoldable pub all : Unit {0}
unfolding remap_literal with_imported import_node import_nodes import_aig frame_variables frame_of import_frame with_built new_variables proof_inputs state_literal cons_pair named_pairs or_mismatch any_difference compare_pairs compare_named_state compare_outputs import_frames cycle_of compared_cycle base_start base_query counterexample_next counterexample_compared counterexample_cycle counterexample_cycles base_counterexample named_state_next named_state_compared named_state_cycle named_state_cycles base_preserves_named_state gate_variable matched gate_variables free_product_state cycle_mismatch assumed induction_next induction_compared induction_cycle induction_cycles induction_query induction_closes ask byte first_mismatch input_bytes mark_bytes first_marks trace_bytes asked_too not_equivalent_at after_query4 query4 after_query3 after_query2 after_query1 query1 at_depth depths after_query0 query0 before_query1 prove_sequential_equivalence larger_learned largest_from largest_learned proved_before proved_through Solving.all Graph.all Names.all xorBool
all = tt
