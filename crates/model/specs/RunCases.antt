-- Closed theorems on runs and transition systems: enables and resets at both levels, asynchronous resets, each by computation.
use Rattle.std.specs.Prelude.{◌≡◌, refl, Bool, true, false, cond, List, [], ◌∷◌, ◌++◌, map, get_or}
use Rattle.std.proofs.Math.Option.{some}
use Rattle.model.specs.Names.{same_name, rank}
use Rattle.model.specs.Netlist.{Input, RegisterOutput, Not, Output, Rising, ActiveLevel, High, Low, Design, inputs}
use Rattle.model.specs.Run.{InputSequence, initial_bits, outputs_at}
use Rattle.model.specs.Transition.{TransitionSystem, from_netlist}
use Rattle.model.specs.Literal.{Literal}
use Rattle.model.specs.Aig.{Node, Constant, Variable, And}
use Rattle.model.specs.Cases.{a, e, q, y, clk, rst, design, sync, toggling, toggle, unreset}
use Rattle.model.specs.Cases as Cases

-- where names stand among the Inputs; one that is not there stands behind them
ranks : map (λ n. rank n (inputs (toggle q))) (clk ∷ rst ∷ a ∷ []) ≡ 0 ∷ 1 ∷ 2 ∷ []
unfolding Cases.all
ranks = refl

-- every input is 0 in every cycle
unfoldable pub zeros : InputSequence
zeros c n = false

-- the toggle's outputs in cycles 0 to 3, from its initial bits and from 1
toggle-run : map (outputs_at (toggle q) (initial_bits (toggle q)) zeros) (0 ∷ 1 ∷ 2 ∷ 3 ∷ []) ≡ (false ∷ []) ∷ (true ∷ []) ∷ (false ∷ []) ∷ (true ∷ []) ∷ []
unfolding Cases.all zeros
toggle-run = refl

toggle-run-from_1 : map (outputs_at (toggle q) (true ∷ []) zeros) (0 ∷ 1 ∷ 2 ∷ 3 ∷ []) ≡ (true ∷ []) ∷ (false ∷ []) ∷ (true ∷ []) ∷ (false ∷ []) ∷ []
unfolding Cases.all zeros
toggle-run-from_1 = refl

-- ---- enables and resets

-- a register that takes Not of what it shows, where e enables it; rst resets it to 1; y reads it
unfoldable pub controlled : ActiveLevel → ActiveLevel → Bool → Design
controlled enable reset asynchronous =
    design (Input clk ∷ Input rst ∷ Input e ∷ RegisterOutput ∷ Not 3 ∷ Output y 3 ∷ [])
    (record {
      name = q;
      output = 3;
      «data» = 4;
      clock = 0;
      edge = Rising;
      enable = some (record { signal = 2; active = enable });
      reset = some (record { signal = 1; active = reset; asynchronous = asynchronous; value = true });
    } ∷ [])

-- e and rst have these bits, cycle after cycle, and clk is 0
unfoldable pub driven : List Bool → List Bool → InputSequence
driven es rs c n = cond (same_name n e) (get_or es c false) (cond (same_name n rst) (get_or rs c false) false)

-- y in cycles 0 to 7, from the stored bit 0: e is 1 in cycles 1, 2, 5 and 6, rst in cycles 3 to 5
unfoldable pub shown_by : Design → List (List Bool)
shown_by d =
    map (outputs_at d (false ∷ []) (driven (false ∷ true ∷ true ∷ false ∷ false ∷ true ∷ true ∷ false ∷ []) (false ∷ false ∷ false ∷ true ∷ true ∷ true ∷ false ∷ false ∷ [])))
    (0 ∷ 1 ∷ 2 ∷ 3 ∷ 4 ∷ 5 ∷ 6 ∷ 7 ∷ [])

-- a bit for each cycle
unfoldable pub eight : Bool → Bool → Bool → Bool → Bool → Bool → Bool → Bool → List (List Bool)
eight a b c d e f g h = map (λ x. x ∷ []) (a ∷ b ∷ c ∷ d ∷ e ∷ f ∷ g ∷ h ∷ [])

-- naming this opens what the cases use
unfoldable pub all : Unit {0}
unfolding controlled driven shown_by eight Cases.all
all = tt

-- held in cycle 0, taken in 1 and 2, reset in 3 to 5 whatever e says, taken in 6
both_high : shown_by (controlled High High false) ≡ eight false false true false true true true false
unfolding all
both_high = refl

-- taken in cycles 0, 3, 4 and 7
enable-low : shown_by (controlled Low High false) ≡ eight false true true true true true true true
unfolding all
enable-low = refl

-- reset in cycles 0 to 2, 6 and 7
reset-low : shown_by (controlled High Low false) ≡ eight false true true true true true false true
unfolding all
reset-low = refl

both-low : shown_by (controlled Low Low false) ≡ eight false true true true false true true true
unfolding all
both-low = refl

-- an asynchronous reset shows its value in the cycles in which it is asserted
asynchronous-high : shown_by (controlled High High true) ≡ eight false false true true true true true false
unfolding all
asynchronous-high = refl

asynchronous-low : shown_by (controlled High Low true) ≡ eight true true true true true true true true
unfolding all
asynchronous-low = refl

-- the initial bit is the reset's value, and 0 without a reset
initial_bits_lem : initial_bits (controlled High Low false) ++ initial_bits (toggling q (sync 1 false)) ++ initial_bits unreset ≡ true ∷ false ∷ false ∷ []
unfolding all
initial_bits_lem = refl

-- ---- the same designs as transition systems

-- the system of such a design: its conjunctions after clk, rst, e and the state, the literal that y shows, and the next state's
unfoldable pub system : List Node → Literal → Literal → TransitionSystem
system conjunctions output next =
    record {
      aig = Constant ∷ Variable 1 ∷ Variable 2 ∷ Variable 3 ∷ Variable 4 ∷ conjunctions;
      inputs = record { name = clk; literal = 2 } ∷ record { name = e; literal = 6 } ∷ record { name = rst; literal = 4 } ∷ [];
      states = record { name = q; next = next; variable = 4 } ∷ [];
      outputs = record { name = y; literal = output } ∷ [];
    }

-- the enable's mux, then the reset's
system-high : from_netlist (controlled High High false) ≡ system (And 6 9 ∷ And 7 8 ∷ And 11 13 ∷ And 5 15 ∷ And 5 17 ∷ []) 8 19
unfolding all system
system-high = refl

system-low : from_netlist (controlled Low Low false) ≡ system (And 7 9 ∷ And 6 8 ∷ And 11 13 ∷ And 4 15 ∷ And 4 17 ∷ []) 8 19
unfolding all system
system-low = refl

-- before them, what an asynchronous reset shows
system-asynchronous-high : from_netlist (controlled High High true) ≡ system (And 5 8 ∷ And 5 11 ∷ And 6 12 ∷ And 7 8 ∷ And 15 17 ∷ And 5 19 ∷ And 5 21 ∷ []) 13 23
unfolding all system
system-asynchronous-high = refl

system-asynchronous-low : from_netlist (controlled Low Low true) ≡ system (And 4 8 ∷ And 4 11 ∷ And 7 12 ∷ And 6 8 ∷ And 15 17 ∷ And 4 19 ∷ And 4 21 ∷ []) 13 23
unfolding all system
system-asynchronous-low = refl
