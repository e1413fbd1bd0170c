-- Closed theorems on pairs beside the cases of `Cases`: refusals of each side's record, 18 to 25 with side and place, replays, each by computation.
use Rattle.std.specs.Prelude.{ℕ, ◌≡◌, refl, Bool, true, false, [], ◌∷◌, ◌++◌, drop, replicate}
use Rattle.std.proofs.Math.Option.{Option, none, some}
use Rattle.model.specs.Answers.{Refusal, ReplayAnswer}
use Rattle.model.specs.Options.{to_depth}
use Rattle.model.specs.Names.{Name}
use Rattle.model.specs.Netlist.{Input, RegisterOutput, Not, Output, Edge, Rising, Falling, Reset, Register, Design}
use Rattle.model.specs.Encode.{record_of}
use Rattle.model.specs.Run.{initial_bits}
use Rattle.model.specs.Pair.{Lent, proof_nodes, check_fault, check_refusal}
use Rattle.model.specs.Replay.{replay, step, steps_replay}
use Rattle.model.specs.Cases.{a, b, h, p, q, y, clk, rst, design, sync, wire, wire_reading, inverter, toggle, unreset, constant, row, holding, refusal}
use Rattle.model.specs.Cases as Cases

-- memory that is enough for these
unfoldable pub lent : Lent
lent = record { trace = 4096; words = 8388608; scores = 65536 }

-- refusal n on gate's side at a place
unfoldable pub refusal_of_gate : ℕ → ℕ → Refusal
refusal_of_gate n place = record { number = n; side = 1; place = place }

-- the first refusal of a check to depth 1
unfoldable pub refusal_of : Design → Design → Option Refusal
refusal_of gold gate = check_refusal (record_of gold) (record_of gate) (to_depth 1) lent

-- a refused replay
unfoldable pub refuses : Refusal → ReplayAnswer
refuses r = record { refusal = r; yes = false }

-- an accepted replay with its yes or no
unfoldable pub answers : Bool → ReplayAnswer
answers v = record { refusal = refusal 0 0; yes = v }

-- naming this opens what the cases use
unfoldable pub all : Unit {0}
unfolding lent refusal_of_gate refusal_of refuses answers Cases.all
all = tt

-- ---- one record refused

-- a register that holds its bit, on this clock node and edge, with this reset
unfoldable pub holds : Name → ℕ → ℕ → Edge → Option Reset → Register
holds n output clock edge reset = record { name = n; output = output; «data» = output; clock = clock; edge = edge; enable = none; reset = reset }

-- gate's record: its number and place, on side 1
gate-refused : check_refusal wire (record_of (wire_reading 1)) (to_depth 1) lent ≡ some (refusal_of_gate 7 1)
unfolding all
gate-refused = refl

gate-refused-replay : replay wire (record_of (wire_reading 1)) 0 (0 ∷ 0 ∷ []) ≡ refuses (refusal_of_gate 7 1)
unfolding all
gate-refused-replay = refl

-- gold's record is read first, and before the depth is judged
gold_first_lem : check_refusal (9 ∷ drop 1 wire) (record_of (wire_reading 1)) (to_depth 0) lent ≡ some (refusal 2 0)
unfolding all
gold_first_lem = refl

gate-before-depth : check_refusal wire [] (to_depth 0) lent ≡ some (refusal_of_gate 1 0)
unfolding all
gate-before-depth = refl

-- a register whose design shows its clock at y
unfoldable pub clock_shown : Design
clock_shown = design (Input clk ∷ Input rst ∷ RegisterOutput ∷ Output y 0 ∷ []) (holds q 2 0 Rising (sync 1 false) ∷ [])

-- 30 of gold comes before 1 of gate, and 30 of gate before 16
clock-read-gold : check_refusal (record_of clock_shown) [] (to_depth 0) lent ≡ some (refusal 30 0)
unfolding all clock_shown holds
clock-read-gold = refl

clock-read-gate : check_refusal (record_of (toggle q)) (record_of clock_shown) (to_depth 0) lent ≡ some (refusal_of_gate 30 0)
unfolding all clock_shown holds
clock-read-gate = refl

clock-read-replay : replay (record_of (toggle q)) (record_of clock_shown) 65 [] ≡ refuses (refusal_of_gate 30 0)
unfolding all clock_shown holds
clock-read-replay = refl

gold-refused-replay : replay (record_of (wire_reading 1)) [] 0 (0 ∷ 0 ∷ []) ≡ refuses (refusal 7 1)
unfolding all
gold-refused-replay = refl

-- ---- 18 and 19

-- inputs and outputs with these names; each output reads node 0
unfoldable pub ports : Name → Name → Name → Name → Design
ports i j k l = design (Input i ∷ Input j ∷ Output k 0 ∷ Output l 0 ∷ []) []

-- the order in the record is of no account
ports_in_any_order : refusal_of (ports a b p q) (ports b a q p) ≡ none
unfolding all ports
ports_in_any_order = refl

inputs-differ : refusal_of (ports a b p q) (ports a h p y) ≡ some (refusal 18 0)
unfolding all ports
inputs-differ = refl

inputs-differ-replay : replay (record_of (ports a b p q)) (record_of (ports a h p q)) 0 (0 ∷ 0 ∷ 0 ∷ 0 ∷ []) ≡ refuses (refusal 18 0)
unfolding all ports
inputs-differ-replay = refl

outputs-differ : refusal_of (ports a b p q) (ports b a p y) ≡ some (refusal 19 0)
unfolding all ports
outputs-differ = refl

outputs-differ-replay : replay (record_of (ports a b p q)) (record_of (ports a b p y)) 0 (0 ∷ 0 ∷ 0 ∷ 0 ∷ []) ≡ refuses (refusal 19 0)
unfolding all ports
outputs-differ-replay = refl

-- one name more is another set
input-more : refusal_of (wire_reading 0) (design (Input a ∷ Input b ∷ Output y 0 ∷ []) []) ≡ some (refusal 18 0)
unfolding all
input-more = refl

output-more : refusal_of (design (Input a ∷ Output p 0 ∷ Output y 0 ∷ []) []) (design (Input a ∷ Output p 0 ∷ []) []) ≡ some (refusal 19 0)
unfolding all
output-more = refl

-- ---- 20 and 21

-- two holding registers, q and then p, on these clock nodes, 0 or 5, and edges; y reads q
unfoldable pub clocked : ℕ → Edge → ℕ → Edge → Design
clocked c e d f =
    design (Input clk ∷ Input rst ∷ RegisterOutput ∷ RegisterOutput ∷ Output y 2 ∷ Input a ∷ [])
    (holds q 2 c e (sync 1 false) ∷ holds p 3 d f (sync 1 false) ∷ [])

-- a holding register without reset, on this clock node; y reads that node
unfoldable pub clocked_reading : ℕ → ℕ → Design
clocked_reading c k = design (Input clk ∷ Input rst ∷ RegisterOutput ∷ Output y k ∷ []) (holds q 2 c Rising none ∷ [])

one_falling_domain : refusal_of (clocked 0 Falling 0 Falling) (clocked 0 Falling 0 Falling) ≡ none
unfolding all clocked holds
one_falling_domain = refl

two_edges : refusal_of (clocked 0 Rising 0 Falling) (clocked 0 Rising 0 Rising) ≡ some (refusal 20 0)
unfolding all clocked holds
two_edges = refl

two-clocks : refusal_of (clocked 0 Falling 5 Falling) (clocked 0 Rising 5 Rising) ≡ some (refusal 20 0)
unfolding all clocked holds
two-clocks = refl

-- the third register alone is on another edge
third-edge : refusal_of (design (Input clk ∷ Input rst ∷ RegisterOutput ∷ RegisterOutput ∷ RegisterOutput ∷ Output y 2 ∷ Input a ∷ [])
    (holds q 2 0 Rising (sync 1 false) ∷ holds p 3 0 Rising (sync 1 false) ∷ holds h 4 0 Falling (sync 1 false) ∷ []))
    (clocked 0 Rising 0 Rising)
    ≡ some (refusal 20 0)
unfolding all clocked holds
third-edge = refl

two_edges_gate : refusal_of (clocked 0 Rising 0 Rising) (clocked 0 Falling 0 Rising) ≡ some (refusal_of_gate 20 0)
unfolding all clocked holds
two_edges_gate = refl

two-clocks-gate : refusal_of (clocked 0 Falling 0 Falling) (clocked 0 Falling 5 Falling) ≡ some (refusal_of_gate 20 0)
unfolding all clocked holds
two-clocks-gate = refl

two_edges_gate-replay : replay (record_of (clocked 0 Rising 0 Rising)) (record_of (clocked 0 Falling 0 Rising)) 0 (0 ∷ 0 ∷ 0 ∷ 0 ∷ []) ≡ refuses (refusal_of_gate 20 0)
unfolding all clocked holds
two_edges_gate-replay = refl

edges_differ : refusal_of (clocked 0 Rising 0 Rising) (clocked 0 Falling 0 Falling) ≡ some (refusal 21 0)
unfolding all clocked holds
edges_differ = refl

clocks-differ : refusal_of (clocked 0 Falling 0 Falling) (clocked 5 Falling 5 Falling) ≡ some (refusal 21 0)
unfolding all clocked holds
clocks-differ = refl

-- each side reads the other side's clock, which is none of its own
other_side-clock : refusal_of (clocked_reading 0 1) (clocked_reading 1 0) ≡ some (refusal 21 0)
unfolding all clocked_reading holds
other_side-clock = refl

edges_differ-replay : replay (record_of (clocked 0 Falling 0 Falling)) (record_of (clocked 0 Rising 0 Rising)) 0 (0 ∷ 0 ∷ 0 ∷ 0 ∷ []) ≡ refuses (refusal 21 0)
unfolding all clocked holds
edges_differ-replay = refl

-- only gate has registers
domain_of_gate_alone : refusal_of constant (toggle q) ≡ some (refusal 21 0)
unfolding all
domain_of_gate_alone = refl

-- ---- 22

-- three holding registers, in the record's order y, q, p, with these resets
unfoldable pub starting : Option Reset → Option Reset → Option Reset → Design
starting r s t =
    design (Input clk ∷ Input rst ∷ RegisterOutput ∷ RegisterOutput ∷ RegisterOutput ∷ Output y 2 ∷ [])
    (holds y 2 0 Rising r ∷ holds q 3 0 Rising s ∷ holds p 4 0 Rising t ∷ [])

-- the first by name, with its number in the record
no-reset_by_name : refusal_of (starting none none (sync 1 true)) (starting none none none) ≡ some (refusal 22 1)
unfolding all starting holds
no-reset_by_name = refl

no-reset-gate : refusal_of (starting (sync 1 true) (sync 1 true) (sync 1 true)) (starting none none (sync 1 true)) ≡ some (refusal_of_gate 22 1)
unfolding all starting holds
no-reset-gate = refl

no-reset-gate-last : refusal_of (toggle q) (design (Input clk ∷ Input rst ∷ RegisterOutput ∷ RegisterOutput ∷ Output y 2 ∷ []) (holds q 2 0 Rising (sync 1 true) ∷ holds p 3 0 Rising none ∷ []))
    ≡ some (refusal_of_gate 22 1)
unfolding all holds
no-reset-gate-last = refl

no-reset-gate-replay : replay (record_of (toggle q)) (record_of unreset) 0 (0 ∷ 0 ∷ 0 ∷ []) ≡ refuses (refusal_of_gate 22 0)
unfolding all
no-reset-gate-replay = refl

-- ---- 23

-- inputs a and b, n nodes Not, and the output y
unfoldable pub sized : ℕ → Design
sized n = design (Input a ∷ Input b ∷ (replicate n (Not 0) ++ (Output y 0 ∷ []))) []

-- to depth 50 with 426 nodes: 51 × 1,285 is 65,535
just_small : check_fault (sized 200) (sized 220) (to_depth 50) lent ≡ none
unfolding all sized
just_small = refl

-- to depth 63 with 339 nodes: 64 × 1,024 is one more
just_large : check_fault (sized 200) (sized 133) (to_depth 63) lent ≡ some (refusal 23 0)
unfolding all sized
just_large = refl

-- 23 comes before 24
large_before-memory : check_fault (sized 200) (sized 133) (to_depth 63) (record { trace = 0; words = 0; scores = 0 }) ≡ some (refusal 23 0)
unfolding all sized
large_before-memory = refl

-- 3 inputs, 12 nodes, 3 registers and 1 output: 3 × 74 + 3
nodes_of_a-pair : proof_nodes row holding 2 ≡ 225
unfolding all
nodes_of_a-pair = refl

-- depth 64 is allowed
toggles : check_refusal (record_of (toggle q)) (record_of (toggle p)) (to_depth 64) lent ≡ none
unfolding all
toggles = refl

-- ---- 24

just_enough : check_refusal wire wire (to_depth 1) (record { trace = 3; words = 8388608; scores = 65536 }) ≡ none
unfolding all
just_enough = refl

short_trace : check_refusal wire wire (to_depth 1) (record { trace = 2; words = 8388608; scores = 65536 }) ≡ some (refusal 24 0)
unfolding all
short_trace = refl

short_words : check_refusal wire wire (to_depth 1) (record { trace = 3; words = 8388607; scores = 65536 }) ≡ some (refusal 24 0)
unfolding all
short_words = refl

short_scores : check_refusal wire wire (to_depth 1) (record { trace = 3; words = 8388608; scores = 65535 }) ≡ some (refusal 24 0)
unfolding all
short_scores = refl

-- ---- 25

claim-cut : replay wire (record_of inverter) 1 (0 ∷ 1 ∷ []) ≡ refuses (refusal 25 0)
unfolding all
claim-cut = refl

claim-long : replay wire (record_of inverter) 0 (0 ∷ 1 ∷ 0 ∷ []) ≡ refuses (refusal 25 0)
unfolding all
claim-long = refl

claim-byte : replay wire (record_of inverter) 0 (0 ∷ 2 ∷ []) ≡ refuses (refusal 25 0)
unfolding all
claim-byte = refl

-- cycle 65 is refused, and cycle 64 is not
claim_late : replay wire (record_of inverter) 65 (replicate 67 0) ≡ refuses (refusal 25 0)
unfolding all
claim_late = refl

claim-last : replay wire (record_of inverter) 64 (replicate 66 0) ≡ answers false
unfolding all
claim-last = refl

-- ---- replays

-- in cycle 1 the claim comes too late: cycle 0 differs already
too_late : replay wire (record_of inverter) 1 (0 ∷ 0 ∷ 1 ∷ []) ≡ answers false
unfolding all
too_late = refl

row-replay : replay (record_of row) (record_of holding) 2 (0 ∷ 1 ∷ 0 ∷ 0 ∷ 0 ∷ 0 ∷ 0 ∷ 0 ∷ 0 ∷ 1 ∷ []) ≡ answers true
unfolding all
row-replay = refl

row_steps : steps_replay row holding (initial_bits row) (initial_bits holding) 2 (0 ∷ 1 ∷ 0 ∷ 0 ∷ 0 ∷ 0 ∷ 0 ∷ 0 ∷ 0 ∷ 1 ∷ []) ≡ true
unfolding all
row_steps = refl

-- past the claimed cycle a step changes nothing, and its answer is no
past-claim : step row holding 2 (0 ∷ 1 ∷ 0 ∷ 0 ∷ 0 ∷ 0 ∷ 0 ∷ 0 ∷ 0 ∷ 1 ∷ []) (record { cycle = 3; agreed = true; gold = true ∷ true ∷ []; gate = false ∷ [] })
    ≡ record { position = record { cycle = 3; agreed = true; gold = true ∷ true ∷ []; gate = false ∷ [] }; yes = false }
unfolding all
past-claim = refl
