-- The cases of the specification that are proved, as one table over bytes, with one theorem, by computation.
use Rattle.std.specs.Prelude.{ℕ, ◌≡◌, refl, Bool, true, false, List, [], ◌∷◌, ◌++◌, map, length, drop, replicate, Float}
use Rattle.std.proofs.Math.Option.{Option, none, some}
use Rattle.model.specs.Answers.{Refusal, ReplayAnswer, Asked, CheckAnswer}
use Rattle.model.specs.Options.{Options, to_depth}
use Rattle.model.specs.Names.{Name}
use Rattle.model.specs.Netlist.{Node, Input, Constant, RegisterOutput, Not, Output, And, Rising, High, Reset, Register, Design}
use Rattle.model.specs.Encode.{record_of}
use Rattle.model.specs.Encode as Encode
use Rattle.model.specs.Validate.{read}
use Rattle.model.specs.Replay.{replay}
use Rattle.model.specs.Replay as Replay
use Rattle.model.specs.Check.{CheckOutcome, check_outcome, check_answer, trace_after, check_result, lent_of, check}
use Rattle.model.specs.Check as Check

-- ---- designs

-- names
abbrev pub a : Name
a = 97 ∷ []

abbrev pub b : Name
b = 98 ∷ []

abbrev pub e : Name
e = 101 ∷ []

abbrev pub h : Name
h = 104 ∷ []

abbrev pub p : Name
p = 112 ∷ []

abbrev pub q : Name
q = 113 ∷ []

abbrev pub y : Name
y = 121 ∷ []

abbrev pub clk : Name
clk = 99 ∷ 108 ∷ 107 ∷ []

abbrev pub rst : Name
rst = 114 ∷ 115 ∷ 116 ∷ []

-- a design named g
unfoldable pub design : List Node → List Register → Design
design ns rs = record { name = 103 ∷ []; nodes = ns; registers = rs }

-- a synchronous reset, active high, from a signal to a value
unfoldable pub sync : ℕ → Bool → Option Reset
sync n v = some (record { signal = n; active = High; asynchronous = false; value = v })

-- a register with this output and data, clocked by node 0, rising, without enable
unfoldable pub reg : Name → ℕ → ℕ → Option Reset → Register
reg n output input reset = record { name = n; output = output; «data» = input; clock = 0; edge = Rising; enable = none; reset = reset }

-- a register with reset 0, from node 1
unfoldable pub reset0 : Name → ℕ → ℕ → Register
reset0 n output input = reg n output input (sync 1 false)

-- the wire, y = a, as the specification writes it
unfoldable pub wire : List ℕ
wire = 0x01 ∷ 0x00 ∷ 0x00 ∷ 0x00 ∷ 0x13 ∷ 0x01 ∷ 0x67 ∷ 0x00 ∷ 0x02 ∷ 0x00 ∷ 0x01 ∷ 0x61 ∷ 0x11 ∷ 0x01 ∷ 0x79 ∷ 0x00 ∷ 0x00 ∷ 0x00 ∷ 0x00 ∷ []

-- input a and an output y that reads a node
unfoldable pub wire_reading : ℕ → Design
wire_reading n = design (Input a ∷ Output y n ∷ []) []

-- the wire with a Not before y
unfoldable pub inverter : Design
inverter = design (Input a ∷ Not 0 ∷ Output y 1 ∷ []) []

-- input a, and an output y that is 0
unfoldable pub grounded : Design
grounded = design (Input a ∷ Constant false ∷ Output y 1 ∷ []) []

-- a register that takes Not of its own output, with this reset; y reads it
unfoldable pub toggling : Name → Option Reset → Design
toggling n reset = design (Input clk ∷ Input rst ∷ RegisterOutput ∷ Not 2 ∷ Output y 2 ∷ []) (reg n 2 3 reset ∷ [])

-- the toggle, reset 0
unfoldable pub toggle : Name → Design
toggle n = toggling n (sync 1 false)

-- the toggle without reset
unfoldable pub unreset : Design
unreset = toggling q none

-- the toggle's ports without a register, y = 0
unfoldable pub constant : Design
constant = design (Input clk ∷ Input rst ∷ Constant false ∷ Output y 2 ∷ []) []

-- two registers in a row after e; y is the second
unfoldable pub row : Design
row =
    design (Input clk ∷ Input rst ∷ Input e ∷ RegisterOutput ∷ RegisterOutput ∷ Output y 4 ∷ [])
    (reset0 p 3 2 ∷ reset0 q 4 3 ∷ [])

-- y = 0 beside a holding register
unfoldable pub holding : Design
holding = design (Input clk ∷ Input rst ∷ Input e ∷ RegisterOutput ∷ Constant false ∷ Output y 4 ∷ []) (reset0 h 3 3 ∷ [])

-- y = a And b; a holds, b takes e
unfoldable pub conjunction : Design
conjunction =
    design (Input clk ∷ Input rst ∷ Input e ∷ RegisterOutput ∷ RegisterOutput ∷ And 3 4 ∷ Output y 5 ∷ [])
    (reset0 a 3 3 ∷ reset0 b 4 2 ∷ [])

-- no outputs, no registers
unfoldable pub lone : Design
lone = design (Input a ∷ []) []

-- ---- calls

-- the three calls; a check's words and scores are given by their lengths
pub data Call : Type 0 where
  to_read : (bytes : List ℕ) → Call
  to_check : (gold gate : List ℕ) (options : Options) (trace : List ℕ) (words scores : ℕ) → Call
  to_replay : (gold gate : List ℕ) (cycle : ℕ) (claim : List ℕ) → Call

-- what they answer; a check also leaves a trace
pub data Reply : Type 0 where
  from_read : Refusal → Reply
  from_check : CheckAnswer → List ℕ → Reply
  from_replay : ReplayAnswer → Reply

-- the answer and the trace of a check's outcome
unfoldable pub reply_of : CheckOutcome → List ℕ → Reply
reply_of outcome trace = from_check (check_answer outcome) (trace_after outcome trace)

-- what a call answers
unfoldable pub run : Call → Reply
run (to_read s) = from_read (read s)
run (to_check gold gate options trace words scores) =
    reply_of (check_outcome gold gate options (record { trace = length trace; words = words; scores = scores })) trace
run (to_replay gold gate cycle claim) = from_replay (replay gold gate cycle claim)

-- for words and scores of these lengths, that is what the call check answers, and its trace
check-run : (gold gate : List ℕ) (options : Options) (trace words : List ℕ) (scores : List Float)
    → run (to_check gold gate options trace (length words) (length scores))
    ≡ from_check (check gold gate options trace words scores).answer (check gold gate options trace words scores).trace
unfolding run reply_of check check_result lent_of
check-run gold gate options trace words scores = refl

-- ---- the table

-- refusal n of gold's record, or of the pair, at a place
unfoldable pub refusal : ℕ → ℕ → Refusal
refusal n place = record { number = n; side = 0; place = place }

-- a check under options, with n bytes of trace, each 7, and just enough words and scores
unfoldable pub checking_under : List ℕ → List ℕ → Options → ℕ → Call
checking_under gold gate options n = to_check gold gate options (replicate n 7) 8388608 65536

-- to depth D, under the largest limit
unfoldable pub checking : List ℕ → List ℕ → ℕ → ℕ → Call
checking gold gate D n = checking_under gold gate (to_depth D) n

-- to depth 1, under a limit
unfoldable pub limiting : List ℕ → List ℕ → ℕ → ℕ → Call
limiting gold gate limit n = checking_under gold gate (record { depth = 1; limit = limit; earliest = false }) n

-- in the mode of the earliest cycle, to a depth, under a limit
unfoldable pub seeking_earliest : List ℕ → List ℕ → ℕ → ℕ → ℕ → Call
seeking_earliest gold gate D limit n = checking_under gold gate (record { depth = D; limit = limit; earliest = true }) n

-- a query by its depth, its number and its total
unfoldable pub asking : ℕ → ℕ → ℕ → Asked
asking depth query learned = record { depth = depth; query = query; learned = learned }

-- an answer by its twelve numbers
unfoldable pub numbers : (number side place status depth mismatch query : ℕ) (most : Asked) (equal : Bool) (through : ℕ) → CheckAnswer
numbers number side place status depth mismatch query most equal through =
    record {
      number = number;
      side = side;
      place = place;
      status = status;
      depth = depth;
      mismatch = mismatch;
      query = query;
      learned = most.learned;
      learned_depth = most.depth;
      learned_query = most.query;
      equal = equal;
      through = through;
    }

-- status, depth, mismatch, the query that learned most, and the first bytes of a trace that has n more, each 7
unfoldable pub saying : ℕ → ℕ → ℕ → Asked → List ℕ → ℕ → Reply
saying status depth mismatch most bytes n = from_check (numbers 0 0 0 status depth mismatch 0 most false 0) (bytes ++ replicate n 7)

-- a refusal by its number, at place 0, with the n bytes of trace as they were
unfoldable pub refusing : ℕ → ℕ → Reply
refusing number n = from_check (numbers number 0 0 0 0 0 0 (asking 0 0 0) false 0) (replicate n 7)

-- a give-up at depth 1 in a query, the query that learned most, and what is proved, with the n bytes of trace as they were
unfoldable pub giving_up : ℕ → Asked → Bool → ℕ → ℕ → Reply
giving_up query most equal through n = from_check (numbers 0 0 0 3 1 0 query most equal through) (replicate n 7)

-- an accepted replay's yes or no
unfoldable pub replaying : Bool → Reply
replaying v = from_replay (record { refusal = refusal 0 0; yes = v })

-- a call and what it answers
pub record Case : Type 0 where
  pub call : Call
  pub reply : Reply

-- a row of the table
infix 5 ◌gives◌
unfoldable pub ◌gives◌ : Call → Reply → Case
call gives reply = record { call = call; reply = reply }

-- the cases in the specification's order
unfoldable pub table : List Case
table =
    (checking wire (record_of inverter) 1 4 gives saying 1 1 0 (asking 1 1 0) (0 ∷ 1 ∷ []) 2)
    ∷ (to_replay wire (record_of inverter) 0 (0 ∷ 1 ∷ []) gives replaying true)
    ∷ (to_replay wire (record_of inverter) 0 (0 ∷ 0 ∷ []) gives replaying false)
    ∷ (to_read [] gives from_read (refusal 1 0))
    ∷ (to_read (9 ∷ drop 1 wire) gives from_read (refusal 2 0))
    ∷ (to_read (record_of (wire_reading 1)) gives from_read (refusal 7 1))
    ∷ (checking (record_of (toggle q)) (record_of (toggle p)) 1 5 gives saying 0 1 0 (asking 1 3 1) [] 5)
    ∷ (checking (record_of row) (record_of holding) 1 7 gives saying 2 1 0 (asking 1 1 0) [] 7)
    ∷ (checking (record_of row) (record_of holding) 2 11 gives saying 1 2 2 (asking 1 1 0) (0 ∷ 1 ∷ 0 ∷ 0 ∷ 0 ∷ 0 ∷ 0 ∷ 0 ∷ 0 ∷ 1 ∷ []) 1)
    ∷ (checking (record_of conjunction) (record_of holding) 1 7 gives saying 2 1 0 (asking 1 1 0) [] 7)
    ∷ (checking wire wire 0 66 gives refusing 16 66)
    ∷ (checking wire wire 65 67 gives refusing 17 67)
    ∷ (checking (record_of (toggle q)) (record_of constant) 1 5 gives refusing 21 5)
    ∷ (checking (record_of unreset) (record_of (toggle q)) 1 5 gives refusing 22 5)
    ∷ (checking (record_of lone) (record_of lone) 1 2 gives saying 0 1 0 (asking 1 1 0) [] 2)
    ∷ (limiting (record_of (toggle q)) (record_of (toggle p)) 1 5 gives saying 0 1 0 (asking 1 3 1) [] 5)
    ∷ (limiting (record_of (toggle q)) (record_of (toggle p)) 0 5 gives giving_up 3 (asking 1 1 0) true 1 5)
    ∷ (limiting (record_of (toggle q)) (record_of (toggle p)) 262145 5 gives refusing 36 5)
    ∷ (limiting (record_of (toggle q)) (record_of (toggle p)) 4294967301 5 gives refusing 36 5)
    ∷ (limiting (record_of (toggle q)) wire 262145 5 gives refusing 36 5)
    ∷ (limiting (record_of (toggle q)) wire 262144 5 gives refusing 18 5)
    ∷ (checking_under wire wire (record { depth = 65; limit = 262145; earliest = false }) 67 gives refusing 17 67)
    ∷ (checking_under wire wire (record { depth = 0; limit = 262145; earliest = false }) 66 gives refusing 16 66)
    ∷ (checking wire (record_of grounded) 1 4 gives saying 1 1 1 (asking 1 1 0) (0 ∷ 1 ∷ 1 ∷ []) 1)
    ∷ (seeking_earliest wire (record_of grounded) 1 262144 4 gives saying 1 1 0 (asking 1 0 0) (1 ∷ 1 ∷ []) 2)
    ∷ (seeking_earliest wire (record_of inverter) 1 0 4 gives saying 1 1 0 (asking 1 0 0) (0 ∷ 1 ∷ []) 2)
    ∷ (seeking_earliest (record_of (toggle q)) (record_of (toggle p)) 1 1 5 gives saying 0 1 0 (asking 1 3 1) [] 5)
    ∷ (seeking_earliest (record_of (toggle q)) (record_of (toggle p)) 1 0 5 gives giving_up 3 (asking 1 0 0) true 1 5)
    ∷ (seeking_earliest (record_of row) (record_of holding) 1 0 7 gives saying 2 1 0 (asking 1 0 0) [] 7)
    ∷ (seeking_earliest (record_of row) (record_of holding) 2 0 11 gives saying 1 2 2 (asking 1 0 0) (0 ∷ 1 ∷ 0 ∷ 0 ∷ 0 ∷ 0 ∷ 0 ∷ 0 ∷ 0 ∷ 1 ∷ []) 1)
    ∷ (seeking_earliest wire wire 0 262145 66 gives refusing 16 66)
    ∷ (seeking_earliest wire wire 1 262145 66 gives refusing 36 66)
    ∷ []

-- naming this opens the definitions of this file and those it uses
unfoldable pub all : Unit {0}
unfolding design sync reg reset0 wire wire_reading inverter grounded toggling toggle unreset constant row holding conjunction lone reply_of run refusal checking_under checking limiting seeking_earliest asking numbers saying refusing giving_up replaying ◌gives◌ table Encode.all Replay.all Check.all
all = tt

-- the specification's bytes of the wire are the record of its design
wire-bytes : record_of (wire_reading 0) ≡ wire
unfolding all
wire-bytes = refl

-- each call answers what the specification says
cases : map (λ (c : Case). run c.call) table ≡ map (λ (c : Case). c.reply) table
unfolding all
cases = refl

-- the largest limit of learned literals, without the mode, whatever the depth
limit : to_depth 3 ≡ record { depth = 3; limit = 262144; earliest = false }
unfolding all
limit = refl
