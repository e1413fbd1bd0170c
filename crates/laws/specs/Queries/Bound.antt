-- How many nodes a query's graph has: at most (depth + 1) × F + R, with the specification's F. Assumes nothing.
use Prim.Native.Nat.{ℕ, zero, suc, ◌+◌, ◌*◌, ◌≤◌}
use native.Mathlib.Omega.{arith}
use Rattle.std.proofs.Common.{zero-add, mul-suc, mul-le-mul_left, ap, ◌∙◌}
use Rattle.std.proofs.Math.Nat.{suc-mul}
use Rattle.std.specs.Prelude.{◌≡◌, Bool, length}
use Rattle.std.proofs.Math.Bool.{true, false}
use mathlib.Core.List.{List, [], ◌∷◌}
use Rattle.std.proofs.Math.Option.{Option, none, some}
use Rattle.std.proofs.lemmas.List.{length-map}
use Rattle.model.specs.Literal.{Literal, FALSE, constant_literal}
use Rattle.model.specs.Lists.{snoc, zip, lookup}
use Rattle.model.specs.Aig.{Node, Constant, Variable, And, Aig, Built, new, variable, or, xor, mux}
use Rattle.model.specs.Netlist.{Node as Node', Input, Constant as Constant', RegisterOutput, Not, Output, And as And', Or, Xor, Mux, Enable, Reset, Register, Design}
use Rattle.model.specs.Transition.{StateBit, TransitionSystem, Lowering, asserted_literal, net_literal, driver_reset, with_net, with_literal, lower_input, lower_output, reset_mux, shown, lower_shown, lower_register_output, lower_node, lower_nodes, no_nodes, enabled, reset_next, Registers, with_state, lower_register, lower_registers, system_of, with_registers, from_netlist}
use Rattle.model.specs.Validate.{driver}
use Rattle.model.specs.Run.{StoredBits}
use Rattle.model.specs.Equivalence.{Problem, remap_literal, Import, with_imported, import_node, import_nodes, import_aig, frame_variables, frame_of, import_frame, LiteralList, with_built, new_variables, proof_inputs, state_literal, cons_pair, named_pairs, or_mismatch, any_difference, compare_pairs, compare_named_state, compare_outputs, Cycle, import_frames, cycle_of, compared_cycle, Base, base_start, base_query, counterexample_next, counterexample_compared, counterexample_cycle, counterexample_cycles, base_counterexample, named_state_next, named_state_compared, named_state_cycle, named_state_cycles, base_preserves_named_state, Induction, gate_variable, matched, gate_variables, free_product_state, cycle_mismatch, induction_next, induction_compared, induction_cycle, induction_cycles, induction_query, induction_closes}
use Rattle.model.specs.Check.{problem_of}
use Rattle.laws.specs.Lists.{length-snoc}
use Rattle.laws.specs.Graph.Size.{ands, ands-variable, and-within, or-within, xor-within, mux-within, or_left, or_right}
use Rattle.laws.specs.Queries.Bits.{variables-length}
use Rattle.laws.specs.Names.Sorting.{sort-length}

-- ---- comparisons

difference_nodes : (m : Built) (ps : List (Literal × Literal)) → length (any_difference m ps).aig ≤ length m.aig + 4 * length ps
unfolding any_difference or_mismatch
difference_nodes m [] = omega arith
difference_nodes m (p ∷ ps) =
    let x = xor m.aig p.0 p.1 in
    let o = or x.aig m.literal x.literal in
    omega (arith, (xor-within m.aig p.0 p.1).nodes, (or-within x.aig m.literal x.literal).nodes, difference_nodes o ps)

-- the pairs compared, and their mismatch joined to another: four nodes for a pair
compare-or-nodes : (g : Aig) (l : Literal) (ps : List (Literal × Literal)) → length (or_mismatch l (compare_pairs g ps)).aig ≤ length g + 4 * length ps
unfolding or_mismatch compare_pairs any_difference
compare-or-nodes g l [] = rw (or_right g l) (omega arith)
compare-or-nodes g l (p ∷ ps) =
    let x = xor g p.0 p.1 in
    let o = or x.aig FALSE x.literal in
    let c = any_difference o ps in
    omega (arith, (xor-within g p.0 p.1).nodes, ap length (or_left x.aig x.literal), difference_nodes o ps, (or-within c.aig l c.literal).nodes)

compare-nodes : (g : Aig) (ps : List (Literal × Literal)) → length (compare_pairs g ps).aig ≤ length g + 4 * length ps
unfolding compare_pairs
compare-nodes g ps = difference_nodes (record { aig = g; literal = FALSE }) ps

zip_length : {A B : Type 0} (xs : List A) (ys : List B) → length (zip xs ys) ≤ length xs
unfolding zip
zip_length [] ys = omega arith
zip_length (x ∷ xs) [] = omega arith
zip_length (x ∷ xs) (y ∷ ys) = omega (arith, zip_length xs ys)

cons_length : {A : Type 0} (x : A) (o : Option A) (ps : List (A × A)) → length (cons_pair x o ps) ≤ suc (length ps)
unfolding cons_pair
cons_length x none ps = omega arith
cons_length x (some y) ps = omega arith

named-length : (ss : List StateBit) (ls : List Literal) (ts : List StateBit) (ks : List Literal) → length (named_pairs ss ls ts ks) ≤ length ss
unfolding named_pairs
named-length [] ls ts ks = omega arith
named-length (s ∷ ss) [] ts ks = omega arith
named-length (s ∷ ss) (l ∷ ls) ts ks = omega (arith, cons_length l (state_literal s.name ts ks) (named_pairs ss ls ts ks), named-length ss ls ts ks)

-- ---- imports

import_node-nodes : (variables : List (ℕ × Literal)) (i : Import) (n : Node) → length (import_node variables i n).aig ≤ length i.aig + ands (n ∷ [])
unfolding import_node with_imported ands
import_node-nodes variables i Constant = omega arith
import_node-nodes variables i (Variable v) = omega arith
import_node-nodes variables i (And a b) = omega (arith, (and-within i.aig (remap_literal i.imported a) (remap_literal i.imported b)).nodes)

ands_cons : (n : Node) (ns : List Node) → ands (n ∷ ns) ≡ ands (n ∷ []) + ands ns
unfolding ands
ands_cons Constant ns = omega arith
ands_cons (Variable v) ns = omega arith
ands_cons (And a b) ns = omega arith

import_nodes-nodes : (variables : List (ℕ × Literal)) (i : Import) (ns : List Node) → length (import_nodes variables i ns).aig ≤ length i.aig + ands ns
unfolding import_nodes
import_nodes-nodes variables i [] = omega arith
import_nodes-nodes variables i (n ∷ ns) =
    omega (arith, ands_cons n ns, import_node-nodes variables i n, import_nodes-nodes variables (import_node variables i n) ns)

frame-nodes : (system : TransitionSystem) (g : Aig) (inputs states : List Literal) → length (import_frame system g inputs states).aig ≤ length g + ands system.aig
unfolding import_frame frame_of import_aig
frame-nodes system g inputs states = import_nodes-nodes (frame_variables system inputs states) (record { aig = g; imported = [] }) system.aig

frame-outputs : (system : TransitionSystem) (g : Aig) (inputs states : List Literal) → length (import_frame system g inputs states).outputs ≡ length system.outputs
unfolding import_frame frame_of
frame-outputs system g inputs states = length-map system.outputs _

-- ---- cycles

module _ (p : Problem) where
  -- the nodes that a cycle adds at most
  abbrev pub cycle_nodes : ℕ
  cycle_nodes = length p.gold.inputs + ands p.gold.aig + ands p.gate.aig + 4 * length p.gold.outputs + 4 * length p.gold.states

  frames_nodes : (g : Aig) (ls ks : List Literal)
      → length (import_frames p g ls ks).gate.aig ≤ length g + length p.gold.inputs + ands p.gold.aig + ands p.gate.aig
  unfolding import_frames proof_inputs
  frames_nodes g ls ks =
      let i = new_variables (record { aig = g; literals = [] }) p.gold.inputs in
      let gold = import_frame p.gold i.aig i.literals ls in
      omega (arith, variables-length (record { aig = g; literals = [] }) p.gold.inputs, frame-nodes p.gold i.aig i.literals ls, frame-nodes p.gate gold.aig i.literals ks)

  outputs-length : (g : Aig) (ls ks : List Literal)
      → length (zip (import_frames p g ls ks).gold.outputs (import_frames p g ls ks).gate.outputs) ≤ length p.gold.outputs
  unfolding import_frames
  outputs-length g ls ks =
      let i = proof_inputs g p.gold in
      let gold = import_frame p.gold i.aig i.literals ls in
      let gate = import_frame p.gate gold.aig i.literals ks in
      omega (arith, zip_length gold.outputs gate.outputs, frame-outputs p.gold i.aig i.literals ls)

  compared_nodes : (g : Aig) (ls ks : List Literal)
      → length (compared_cycle p g ls ks).aig ≤ length g + length p.gold.inputs + ands p.gold.aig + ands p.gate.aig + 4 * length p.gold.outputs
  unfolding compared_cycle cycle_of compare_outputs
  compared_nodes g ls ks =
      let f = import_frames p g ls ks in
      omega (arith, frames_nodes g ls ks, outputs-length g ls ks, compare-nodes f.gate.aig (zip f.gold.outputs f.gate.outputs))

  states-nodes : (g : Aig) (l : Literal) (ls ks : List Literal)
      → length (or_mismatch l (compare_named_state p g ls ks)).aig ≤ length g + 4 * length p.gold.states
  unfolding compare_named_state
  states-nodes g l ls ks =
      omega (arith, compare-or-nodes g l (named_pairs p.gold.states ls p.gate.states ks), named-length p.gold.states ls p.gate.states ks)

  cycle_1 : (b : Base) → length (counterexample_cycle p b).aig ≤ length b.aig + cycle_nodes
  unfolding counterexample_cycle counterexample_compared counterexample_next compared_cycle cycle_of compare_outputs or_mismatch
  cycle_1 b =
      let f = import_frames p b.aig b.gold_state b.gate_state in
      omega (arith, frames_nodes b.aig b.gold_state b.gate_state, outputs-length b.aig b.gold_state b.gate_state, compare-or-nodes f.gate.aig b.any_mismatch (zip f.gold.outputs f.gate.outputs))

  cycle_2 : (b : Base) → length (named_state_cycle p b).aig ≤ length b.aig + cycle_nodes
  unfolding named_state_cycle named_state_compared named_state_next
  cycle_2 b =
      let m = or_mismatch b.any_mismatch (compare_named_state p b.aig b.gold_state b.gate_state) in
      omega (arith, states-nodes b.aig b.any_mismatch b.gold_state b.gate_state, frames_nodes m.aig b.gold_state b.gate_state)

  mismatch-nodes : (include : Bool) (b : Induction) (c : Cycle) → length (cycle_mismatch p include b c).aig ≤ length c.aig + 4 * length p.gold.states
  unfolding cycle_mismatch
  mismatch-nodes true b c = states-nodes c.aig c.comparison.mismatch b.gold_state b.gate_state
  mismatch-nodes false b c = omega arith

  cycle_3 : (include last : Bool) (b : Induction) → length (induction_cycle p include last b).aig ≤ length b.aig + cycle_nodes
  unfolding induction_cycle induction_compared induction_next
  cycle_3 include last b =
      let c = compared_cycle p b.aig b.gold_state b.gate_state in
      omega (arith, compared_nodes b.aig b.gold_state b.gate_state, mismatch-nodes include b c)

  cycles_1 : (n : ℕ) (b : Base) → length (counterexample_cycles p n b).aig ≤ length b.aig + n * cycle_nodes
  unfolding counterexample_cycles
  cycles_1 zero b = omega arith
  cycles_1 (suc n) b = omega (arith, cycle_1 b, cycles_1 n (counterexample_cycle p b), suc-mul n cycle_nodes)

  cycles_2 : (n : ℕ) (b : Base) → length (named_state_cycles p n b).aig ≤ length b.aig + n * cycle_nodes
  unfolding named_state_cycles
  cycles_2 zero b = omega arith
  cycles_2 (suc n) b = omega (arith, cycle_2 b, cycles_2 n (named_state_cycle p b), suc-mul n cycle_nodes)

  cycles_3 : (include : Bool) (n : ℕ) (b : Induction) → length (induction_cycles p include n b).aig ≤ length b.aig + suc n * cycle_nodes
  unfolding induction_cycles
  cycles_3 include zero b = omega (arith, cycle_3 include true b, suc-mul 0 cycle_nodes)
  cycles_3 include (suc n) b = omega (arith, cycle_3 include false b, cycles_3 include n (induction_cycle p include false b), suc-mul (suc n) cycle_nodes)

  gate-nodes : (v : LiteralList) (o : Option Literal) → length (gate_variable v o).aig ≤ suc (length v.aig)
  unfolding gate_variable with_built variable
  gate-nodes v none = omega (arith, length-snoc v.aig (Variable (length v.aig)))
  gate-nodes v (some l) = omega arith

  gates-nodes : (share : Bool) (S : List StateBit) (L : List Literal) (v : LiteralList) (ss : List StateBit) → length (gate_variables share S L v ss).aig ≤ length v.aig + length ss
  unfolding gate_variables
  gates-nodes share S L v [] = omega arith
  gates-nodes share S L v (s ∷ ss) =
      let o = matched share s.name S L in
      omega (arith, gate-nodes v o, gates-nodes share S L (gate_variable v o) ss)

  free-nodes : (include : Bool) → length (free_product_state p include).aig ≤ 1 + length p.gold.states + length p.gate.states
  unfolding free_product_state new
  free-nodes include =
      let v : LiteralList = record { aig = new; literals = [] } in
      let gold = new_variables v p.gold.states in
      omega (arith, variables-length v p.gold.states, gates-nodes include p.gold.states gold.literals (record { aig = gold.aig; literals = [] }) p.gate.states)

  -- ---- the queries, for systems

  query_1_nodes : (depth : ℕ) → length (base_counterexample p depth).aig ≤ 1 + suc depth * cycle_nodes
  unfolding base_counterexample base_query base_start new
  query_1_nodes depth = cycles_1 (suc depth) (base_start p)

  query_2_nodes : (depth : ℕ) → length (base_preserves_named_state p depth).aig ≤ 1 + suc depth * cycle_nodes
  unfolding base_preserves_named_state base_query base_start new
  query_2_nodes depth = cycles_2 (suc depth) (base_start p)

  query_3_nodes : (include : Bool) (depth : ℕ)
      → length (induction_closes p include depth).aig ≤ 1 + length p.gold.states + length p.gate.states + suc depth * cycle_nodes
  unfolding induction_closes induction_query
  query_3_nodes include depth = omega (arith, cycles_3 include depth (free_product_state p include), free-nodes include)

-- ---- the transition system of a design

shown-ands : (g : Aig) (nets : List Literal) (o : Option Reset) (state : Literal) → ands (shown g nets o state).aig ≤ ands g + 3
unfolding shown reset_mux
shown-ands g nets none state = omega arith
shown-ands g nets (some r) state = asynchronously r.asynchronous
  where
    asynchronously : (t : Bool)
        → ands (elim t as (λ _. Built) [ true ↦ mux g (asserted_literal (net_literal nets r.signal) r.active) (constant_literal r.value) state | false ↦ record { aig = g; literal = state } ]).aig
        ≤ ands g + 3
    asynchronously true = (mux-within g _ _ _).conjunctions
    asynchronously false = omega arith

node-ands : (rs : List Register) (w : Lowering) (net : ℕ) (n : Node') → ands (lower_node rs w net n).aig ≤ ands w.aig + 3
unfolding lower_node lower_input lower_output with_literal with_net lower_register_output lower_shown variable
node-ands rs w net (Input n) = omega (arith, ands-variable w.aig (length w.aig))
node-ands rs w net (Constant' b) = omega arith
node-ands rs w net RegisterOutput =
    omega (arith, ands-variable w.aig (length w.aig), shown-ands (snoc w.aig (Variable (length w.aig))) w.nets (driver_reset (driver rs net)) (length w.aig * 2))
node-ands rs w net (Not a) = omega arith
node-ands rs w net (Output n a) = omega arith
node-ands rs w net (And' a b) = omega (arith, (and-within w.aig (net_literal w.nets a) (net_literal w.nets b)).conjunctions)
node-ands rs w net (Or a b) = omega (arith, (or-within w.aig (net_literal w.nets a) (net_literal w.nets b)).conjunctions)
node-ands rs w net (Xor a b) = omega (arith, (xor-within w.aig (net_literal w.nets a) (net_literal w.nets b)).conjunctions)
node-ands rs w net (Mux c a b) = omega (arith, (mux-within w.aig (net_literal w.nets c) (net_literal w.nets a) (net_literal w.nets b)).conjunctions)

nodes-ands : (rs : List Register) (w : Lowering) (net : ℕ) (ns : List Node') → ands (lower_nodes rs w net ns).aig ≤ ands w.aig + 3 * length ns
unfolding lower_nodes
nodes-ands rs w net [] = omega arith
nodes-ands rs w net (n ∷ ns) = omega (arith, node-ands rs w net n, nodes-ands rs (lower_node rs w net n) (suc net) ns)

enabled-ands : (g : Aig) (nets : List Literal) (o : Option Enable) (l state : Literal) → ands (enabled g nets o l state).aig ≤ ands g + 3
unfolding enabled
enabled-ands g nets none l state = omega arith
enabled-ands g nets (some e) l state = (mux-within g _ _ _).conjunctions

reset-ands : (m : Built) (nets : List Literal) (o : Option Reset) → ands (reset_next m nets o).aig ≤ ands m.aig + 3
unfolding reset_next reset_mux
reset-ands m nets none = omega arith
reset-ands m nets (some r) = (mux-within m.aig _ _ _).conjunctions

register-ands : (nets : List Literal) (g : Registers) (r : Register) (state : Literal) → ands (lower_register nets g r state).aig ≤ ands g.aig + 6
unfolding lower_register with_state
register-ands nets g r state =
    let m = enabled g.aig nets r.enable (net_literal nets r.«data») state in
    omega (arith, enabled-ands g.aig nets r.enable (net_literal nets r.«data») state, reset-ands m nets r.reset)

registers-ands : (w : Lowering) (g : Registers) (rs : List Register) → ands (lower_registers w g rs).aig ≤ ands g.aig + 6 * length rs
unfolding lower_registers
registers-ands w g [] = omega arith
registers-ands w g (r ∷ rs) =
    let h = lower_register w.nets g r (lookup FALSE w.state_variables r.output) in
    omega (arith, register-ands w.nets g r (lookup FALSE w.state_variables r.output), registers-ands w h rs)

-- a design's graph has at most three conjunctions for a node and six for a register
pub system-ands : (d : Design) → ands (from_netlist d).aig ≤ 3 * length d.nodes + 6 * length d.registers
unfolding from_netlist with_registers system_of no_nodes new ands
system-ands d =
    let w = lower_nodes d.registers no_nodes 0 d.nodes in
    omega (arith, nodes-ands d.registers no_nodes 0 d.nodes, registers-ands w (record { aig = w.aig; states = [] }) d.registers)

register-length : (nets : List Literal) (g : Registers) (r : Register) (state : Literal) → length (lower_register nets g r state).states ≡ suc (length g.states)
unfolding lower_register with_state
register-length nets g r state = length-snoc g.states _

registers-length : (w : Lowering) (g : Registers) (rs : List Register) → length (lower_registers w g rs).states ≡ length g.states + length rs
unfolding lower_registers
registers-length w g [] = omega arith
registers-length w g (r ∷ rs) =
    let h = lower_register w.nets g r (lookup FALSE w.state_variables r.output) in
    omega (arith, registers-length w h rs, register-length w.nets g r (lookup FALSE w.state_variables r.output))

-- a state for each register
pub states-length : (d : Design) → length (from_netlist d).states ≡ length d.registers
unfolding from_netlist with_registers system_of
states-length d = sort-length (λ (s : StateBit). s.name) _ ∙ registers-length _ (record { aig = _; states = [] }) d.registers
    ∙ zero-add (length d.registers)

-- ---- the queries, for designs

module _ (gold gate : Design) where
  -- the specification's F, with I and O of gold, and N and R of both sides
  abbrev pub frame_bound : ℕ
  frame_bound =
      length (from_netlist gold).inputs + 3 * (length gold.nodes + length gate.nodes)
      + 10 * (length gold.registers + length gate.registers)
      + 4 * length (from_netlist gold).outputs
      + 1

  -- (depth + 1) × F + R
  abbrev pub node_bound : ℕ → ℕ
  node_bound depth = suc depth * frame_bound + (length gold.registers + length gate.registers)

  module _ (s t : StoredBits) where
    cycle-fits : suc (cycle_nodes (problem_of gold gate s t)) ≤ frame_bound
    unfolding problem_of
    cycle-fits = omega (arith, system-ands gold, system-ands gate, states-length gold)

    cycles_fit : (depth : ℕ) → suc depth + suc depth * cycle_nodes (problem_of gold gate s t) ≤ suc depth * frame_bound
    cycles_fit depth =
        let c = cycle_nodes (problem_of gold gate s t) in
        omega (arith, mul-suc (suc depth) c, mul-le-mul_left {m = suc c} {n = frame_bound} (suc depth) cycle-fits)

    -- the nodes of query 1
    pub query_1_bound : (depth : ℕ) → length (base_counterexample (problem_of gold gate s t) depth).aig ≤ node_bound depth
    query_1_bound depth = omega (arith, cycles_fit depth, query_1_nodes (problem_of gold gate s t) depth)

    -- of query 2
    pub query_2_bound : (depth : ℕ) → length (base_preserves_named_state (problem_of gold gate s t) depth).aig ≤ node_bound depth
    query_2_bound depth = omega (arith, cycles_fit depth, query_2_nodes (problem_of gold gate s t) depth)

    -- of queries 3 and 4
    pub query_3_4_bound : (include : Bool) (depth : ℕ)
        → length (induction_closes (problem_of gold gate s t) include depth).aig ≤ node_bound depth
    unfolding problem_of
    query_3_4_bound include depth =
        omega (arith, cycles_fit depth, query_3_nodes (problem_of gold gate s t) include depth, states-length gold, states-length gate)
