-- The plain run of a transition system on bits: what the graphs of the queries are about. Definitions only. Assumes nothing.
use Rattle.std.specs.Prelude.{Bool, true, false, not, ◌||◌, List, [], ◌∷◌, map}
use Rattle.std.specs.Bool.{xor as xorBool}
use Rattle.model.specs.Lists.{zip, lookup}
use Rattle.model.specs.Aig.{evaluate, aig_node_values}
use Rattle.model.specs.Transition.{Port, StateBit, TransitionSystem}
use Rattle.model.specs.Equivalence.{named_pairs, frame_variables}

-- the values of a system's nodes in a cycle
unfoldable pub cycle_values : TransitionSystem → List Bool → List Bool → List Bool
cycle_values system inputs states = aig_node_values (lookup false (frame_variables system inputs states)) system.aig

-- a system's outputs in a cycle, from its input and state bits
unfoldable pub system_outputs : TransitionSystem → List Bool → List Bool → List Bool
system_outputs system inputs states = map (λ (p : Port). evaluate (cycle_values system inputs states) p.literal) system.outputs

-- a system's next states
unfoldable pub system_next : TransitionSystem → List Bool → List Bool → List Bool
system_next system inputs states = map (λ (s : StateBit). evaluate (cycle_values system inputs states) s.next) system.states

-- whether a pair of bits differs
unfoldable pub pairs_differ : List (Bool × Bool) → Bool
pairs_differ [] = false
pairs_differ (p ∷ ps) = xorBool p.0 p.1 || pairs_differ ps

-- whether the outputs of two systems differ in a cycle
unfoldable pub system_outputs_differ : TransitionSystem → TransitionSystem → List Bool → List Bool → List Bool → Bool
system_outputs_differ gold gate row a b = pairs_differ (zip (system_outputs gold row a) (system_outputs gate row b))

-- whether states named alike differ
unfoldable pub system_states_differ : TransitionSystem → TransitionSystem → List Bool → List Bool → Bool
system_states_differ gold gate a b = pairs_differ (named_pairs gold.states a gate.states b)

-- query 1: whether outputs differ in a cycle of an input sequence, from state bits a and b
unfoldable pub outputs_differ_within : TransitionSystem → TransitionSystem → List Bool → List Bool → List (List Bool) → Bool
outputs_differ_within gold gate a b [] = false
outputs_differ_within gold gate a b (row ∷ rows) =
    system_outputs_differ gold gate row a b || outputs_differ_within gold gate (system_next gold row a) (system_next gate row b) rows

-- query 2: whether states named alike differ at the start of a cycle
unfoldable pub states_differ_within : TransitionSystem → TransitionSystem → List Bool → List Bool → List (List Bool) → Bool
states_differ_within gold gate a b [] = false
states_differ_within gold gate a b (row ∷ rows) =
    system_states_differ gold gate a b || states_differ_within gold gate (system_next gold row a) (system_next gate row b) rows

-- query 3 (named states included) and 4: whether a cycle differs
unfoldable pub cycle_differs : Bool → TransitionSystem → TransitionSystem → List Bool → List Bool → List Bool → Bool
cycle_differs true gold gate row a b = system_outputs_differ gold gate row a b || system_states_differ gold gate a b
cycle_differs false gold gate row a b = system_outputs_differ gold gate row a b

-- query 3 and 4: for each cycle that it does not differ, and for the last one that it does
unfoldable pub assumption_bits : Bool → TransitionSystem → TransitionSystem → List Bool → List Bool → List (List Bool) → List Bool → List Bool
assumption_bits include gold gate a b [] last = cycle_differs include gold gate last a b ∷ []
assumption_bits include gold gate a b (row ∷ rows) last =
    not (cycle_differs include gold gate row a b) ∷ assumption_bits include gold gate (system_next gold row a) (system_next gate row b) rows last
