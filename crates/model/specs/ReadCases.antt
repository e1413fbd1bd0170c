-- Closed theorems on records beside the cases of `Cases`: refusals 1 to 15 and 30, each by computation.
use Rattle.std.specs.Prelude.{ℕ, zero, suc, ◌*◌, ◌/◌, ◌≡◌, refl, Bool, true, false, List, [], ◌∷◌, ◌++◌, map, length, replicate}
use Rattle.std.proofs.Math.Option.{Option, none, some}
use Rattle.model.specs.Netlist.{Node, Input, Constant, RegisterOutput, Not, Output, And, Or, Xor, Mux, Rising, Falling, High, Low, Enable, Reset, Register, Design, input_numbers}
use Rattle.model.specs.Answers.{Refusal}
use Rattle.model.specs.Names.{Name}
use Rattle.model.specs.Encode.{sized, record_of}
use Rattle.model.specs.Record.{got, big_endian, number, name_byte, name, kinds, inputs_per_kind, node_of, parsed, length_fits}
use Rattle.model.specs.Validate.{read, read_record}
use Rattle.model.specs.Cases.{a, e, p, q, y, clk, rst, design, sync, reg, wire, wire_reading, refusal}
use Rattle.model.specs.Cases as Cases

-- an asynchronous reset, active high, from a signal to a value
unfoldable pub async : ℕ → Bool → Option Reset
async n v = some (record { signal = n; active = High; asynchronous = true; value = v })

-- naming this opens what the cases use
unfoldable pub all : Unit {0}
unfolding async Cases.all
all = tt

-- ---- records accepted

wire-accepted : read_record wire ≡ parsed (wire_reading 0)
unfolding all
wire-accepted = refl

-- every kind of node, and registers with every code
unfoldable pub full : Design
full =
    design
    (Input clk ∷ Input rst ∷ Input e ∷ RegisterOutput ∷ RegisterOutput ∷ Constant true ∷ Constant false ∷ Not 3 ∷ And 2 3 ∷ Or 4 5 ∷ Xor 6 7 ∷ Mux 8 9 10 ∷ Output y 11 ∷ Input a ∷ [])
    (record {
      name = q;
      output = 4;
      «data» = 11;
      clock = 0;
      edge = Falling;
      enable = some (record { signal = 2; active = Low });
      reset = some (record { signal = 1; active = High; asynchronous = true; value = false });
    } ∷ record {
      name = p;
      output = 3;
      «data» = 10;
      clock = 13;
      edge = Rising;
      enable = some (record { signal = 8; active = High });
      reset = some (record { signal = 7; active = Low; asynchronous = false; value = true });
    } ∷ [])

-- its bytes
unfoldable pub full_bytes : List ℕ
full_bytes =
    sized
    ((1 ∷ 103 ∷ 0 ∷ 14 ∷ [])
    ++ (0x00 ∷ 3 ∷ 99 ∷ 108 ∷ 107 ∷ 0x00 ∷ 3 ∷ 114 ∷ 115 ∷ 116 ∷ 0x00 ∷ 1 ∷ 101 ∷ 0x02 ∷ 0x02 ∷ 0x01 ∷ 1 ∷ 0x01 ∷ 0 ∷ [])
    ++ (0x10 ∷ 0 ∷ 3 ∷ 0x20 ∷ 0 ∷ 2 ∷ 0 ∷ 3 ∷ 0x21 ∷ 0 ∷ 4 ∷ 0 ∷ 5 ∷ 0x22 ∷ 0 ∷ 6 ∷ 0 ∷ 7 ∷ 0x30 ∷ 0 ∷ 8 ∷ 0 ∷ 9 ∷ 0 ∷ 10 ∷ 0x11 ∷ 1 ∷ 121 ∷ 0 ∷ 11 ∷ 0x00 ∷ 1 ∷ 97 ∷ [])
    ++ (0 ∷ 2 ∷ 1 ∷ 113 ∷ 0 ∷ 4 ∷ 0 ∷ 11 ∷ 0 ∷ 0 ∷ 1 ∷ 2 ∷ 0 ∷ 2 ∷ 1 ∷ 0 ∷ 1 ∷ 1 ∷ 0 ∷ [])
    ++ (1 ∷ 112 ∷ 0 ∷ 3 ∷ 0 ∷ 10 ∷ 0 ∷ 13 ∷ 0 ∷ 1 ∷ 0 ∷ 8 ∷ 2 ∷ 0 ∷ 7 ∷ 0 ∷ 1 ∷ []))

full-bytes : record_of full ≡ full_bytes
unfolding all full full_bytes
full-bytes = refl

full-accepted : read_record full_bytes ≡ parsed full
unfolding all full full_bytes
full-accepted = refl

-- ---- the input counts

-- of each listed kind
counts : map inputs_per_kind kinds ≡ 0 ∷ 0 ∷ 0 ∷ 1 ∷ 1 ∷ 2 ∷ 2 ∷ 2 ∷ 3 ∷ []
unfolding all
counts = refl

-- the high four bits, whatever the low four are
counts_bits : map inputs_per_kind (0x0f ∷ 0x1f ∷ 0x2f ∷ 0x3f ∷ 0x40 ∷ 0xff ∷ []) ≡ 0 ∷ 1 ∷ 2 ∷ 3 ∷ 4 ∷ 15 ∷ []
unfolding all
counts_bits = refl

-- as many as a node of the kind has inputs
counts-nodes : map inputs_per_kind kinds ≡ map (λ k. length (input_numbers (node_of k [] 0 []))) kinds
unfolding all
counts-nodes = refl

-- ---- fields

-- big-endian, from an offset on
two-byte-number : number (9 ∷ 1 ∷ 2 ∷ []) 1 ≡ got 258 3
unfolding all
two-byte-number = refl

four_byte-number : big_endian 0 (1 ∷ 2 ∷ 3 ∷ 4 ∷ []) ≡ 16909060
unfolding all
four_byte-number = refl

-- 65,535 bytes are allowed, and one more is not
longest : length_fits (1 ∷ 0 ∷ 0 ∷ 255 ∷ 255 ∷ replicate 65530 0) ≡ true
unfolding all
longest = refl

too_long : length_fits (1 ∷ 0 ∷ 1 ∷ 0 ∷ 0 ∷ replicate 65531 0) ≡ false
unfolding all
too_long = refl

-- the bytes of a name are 33 to 126
name-bytes : map name_byte (32 ∷ 33 ∷ 126 ∷ 127 ∷ []) ≡ false ∷ true ∷ true ∷ false ∷ []
unfolding all
name-bytes = refl

-- a name of 32 bytes, after its length
longest_name : name (32 ∷ replicate 32 97) 0 ≡ got (replicate 32 97) 33
unfolding all
longest_name = refl

-- ---- refusals 1 to 6

four_bytes : read (1 ∷ 0 ∷ 0 ∷ 4 ∷ []) ≡ refusal 1 0
unfolding all
four_bytes = refl

wrong_length : read (wire ++ (0 ∷ [])) ≡ refusal 1 0
unfolding all
wrong_length = refl

five_bytes : read (sized []) ≡ refusal 3 5
unfolding all
five_bytes = refl

-- the name's bytes are cut at their first byte, a number at its first byte
cut-name : read (sized (2 ∷ 103 ∷ [])) ≡ refusal 3 6
unfolding all
cut-name = refl

cut-count : read (sized (1 ∷ 103 ∷ 0 ∷ [])) ≡ refusal 3 7
unfolding all
cut-count = refl

left_over : read (sized (1 ∷ 103 ∷ 0 ∷ 0 ∷ 0 ∷ 0 ∷ 7 ∷ 7 ∷ [])) ≡ refusal 3 11
unfolding all
left_over = refl

-- kinds that are not listed, whatever their high four bits say
unfoldable pub unlisted : List ℕ
unlisted = 0x03 ∷ 0x0f ∷ 0x12 ∷ 0x1f ∷ 0x23 ∷ 0x2f ∷ 0x31 ∷ 0x40 ∷ 0xf0 ∷ 0xff ∷ []

-- each is refused at its byte: at the end of the record, in the middle of its numbers, and with as many numbers as it would have
unlisted-cut : map (λ k. read (sized (1 ∷ 103 ∷ 0 ∷ 1 ∷ k ∷ []))) unlisted ≡ replicate 10 (refusal 4 9)
unfolding all unlisted
unlisted-cut = refl

unlisted_short : map (λ k. read (sized (1 ∷ 103 ∷ 0 ∷ 1 ∷ k ∷ 0 ∷ []))) unlisted ≡ replicate 10 (refusal 4 9)
unfolding all unlisted
unlisted_short = refl

unlisted-whole : map (λ k. read (sized ((1 ∷ 103 ∷ 0 ∷ 2 ∷ 0 ∷ 1 ∷ 97 ∷ k ∷ replicate (2 * (k / 16)) 0) ++ (0 ∷ 0 ∷ [])))) unlisted ≡ replicate 10 (refusal 4 12)
unfolding all unlisted
unlisted-whole = refl

constant-two : read (sized (1 ∷ 103 ∷ 0 ∷ 1 ∷ 0x01 ∷ 2 ∷ [])) ≡ refusal 4 10
unfolding all
constant-two = refl

no_name : read (sized (0 ∷ [])) ≡ refusal 5 5
unfolding all
no_name = refl

long-name : read (sized (33 ∷ [])) ≡ refusal 5 5
unfolding all
long-name = refl

-- the place is the first byte of the name, whichever byte is bad
space_in_name : read (sized (3 ∷ 103 ∷ 103 ∷ 32 ∷ [])) ≡ refusal 5 6
unfolding all
space_in_name = refl

many_nodes : read (sized (1 ∷ 103 ∷ 4 ∷ 1 ∷ [])) ≡ refusal 6 7
unfolding all
many_nodes = refl

-- 1,024 nodes are allowed: the first one's kind byte is missing
most-nodes : read (sized (1 ∷ 103 ∷ 4 ∷ 0 ∷ [])) ≡ refusal 3 9
unfolding all
most-nodes = refl

-- and 128 registers: the first one's name is missing
most-registers : read (sized (1 ∷ 103 ∷ 0 ∷ 0 ∷ 0 ∷ 128 ∷ [])) ≡ refusal 3 11
unfolding all
most-registers = refl

many_registers : read (sized (1 ∷ 103 ∷ 0 ∷ 0 ∷ 0 ∷ 129 ∷ [])) ≡ refusal 6 9
unfolding all
many_registers = refl

-- n Inputs named a, and the 65th found at its kind byte
unfoldable pub inputs_named_a : ℕ → List ℕ
inputs_named_a zero = []
inputs_named_a (suc n) = 0 ∷ 1 ∷ 97 ∷ inputs_named_a n

input_65 : read (sized (1 ∷ 103 ∷ 0 ∷ 65 ∷ (inputs_named_a 64 ++ (0 ∷ [])))) ≡ refusal 6 201
unfolding all inputs_named_a
input_65 = refl

-- n Outputs named a, and the 65th
unfoldable pub outputs_named_a : ℕ → List ℕ
outputs_named_a zero = []
outputs_named_a (suc n) = 0x11 ∷ 1 ∷ 97 ∷ 0 ∷ 0 ∷ outputs_named_a n

output_65 : read (sized (1 ∷ 103 ∷ 0 ∷ 66 ∷ 0 ∷ 1 ∷ 97 ∷ (outputs_named_a 64 ++ (0x11 ∷ [])))) ≡ refusal 6 332
unfolding all outputs_named_a
output_65 = refl

-- a record without nodes whose one register, named q, has these bytes after its three numbers
unfoldable pub ended : List ℕ → List ℕ
ended codes = sized (1 ∷ 103 ∷ 0 ∷ 0 ∷ 0 ∷ 1 ∷ 1 ∷ 113 ∷ 0 ∷ 0 ∷ 0 ∷ 0 ∷ 0 ∷ 0 ∷ codes)

-- each code one above its highest: edge, enable, reset, reset kind, reset value
codes : map (λ bytes. read (ended bytes)) ((2 ∷ []) ∷ (0 ∷ 3 ∷ []) ∷ (0 ∷ 2 ∷ 0 ∷ 0 ∷ 3 ∷ []) ∷ (1 ∷ 0 ∷ 2 ∷ 0 ∷ 0 ∷ 2 ∷ []) ∷ (1 ∷ 0 ∷ 2 ∷ 0 ∷ 0 ∷ 1 ∷ 2 ∷ []) ∷ [])
    ≡ refusal 4 19 ∷ refusal 4 20 ∷ refusal 4 23 ∷ refusal 4 24 ∷ refusal 4 25 ∷ []
unfolding all ended
codes = refl

-- ---- refusals 7 to 15

duplicate_port : read (record_of (design (Input a ∷ Output a 0 ∷ []) [])) ≡ refusal 8 1
unfolding all
duplicate_port = refl

-- clk, rst, and two register outputs
unfoldable pub base : List Node
base = Input clk ∷ Input rst ∷ RegisterOutput ∷ RegisterOutput ∷ []

duplicate_register : read (record_of (design base (reg q 2 2 none ∷ reg q 3 3 none ∷ []))) ≡ refusal 9 1
unfolding all base
duplicate_register = refl

no-register-output : read (record_of (design base (reg p 2 2 none ∷ reg q 1 3 none ∷ []))) ≡ refusal 10 1
unfolding all base
no-register-output = refl

two_drivers : read (record_of (design base (reg p 2 2 none ∷ reg q 2 3 none ∷ []))) ≡ refusal 11 1
unfolding all base
two_drivers = refl

register_net : read (record_of (design base (reg p 2 2 none ∷ reg q 3 4 none ∷ []))) ≡ refusal 12 1
unfolding all base
register_net = refl

reset_net : read (record_of (design base (reg p 2 2 (sync 4 true) ∷ reg q 3 3 none ∷ []))) ≡ refusal 12 0
unfolding all base
reset_net = refl

-- each input number of each kind is looked at: node 2 with one number that is its own
late_inputs : map (λ n. read (record_of (design (Input a ∷ Input e ∷ n ∷ []) []))) (Not 2 ∷ Output y 2 ∷ And 2 1 ∷ And 1 2 ∷ Or 2 1 ∷ Or 1 2 ∷ Xor 2 1 ∷ Xor 1 2 ∷ Mux 2 1 0 ∷ Mux 0 2 1 ∷ Mux 0 1 2 ∷ []) ≡ replicate 11 (refusal 7 2)
unfolding all
late_inputs = refl

-- the clock's number and the enable's too
clock-number : read (record_of (design base (record { name = p; output = 2; «data» = 2; clock = 4; edge = Rising; enable = none; reset = none } ∷ reg q 3 3 none ∷ []))) ≡ refusal 12 0
unfolding all base
clock-number = refl

enable_net : read (record_of (design base (reg p 2 2 none ∷ record { name = q; output = 3; «data» = 3; clock = 0; edge = Rising; enable = some (record { signal = 4; active = Low }); reset = none } ∷ [])))
    ≡ refusal 12 1
unfolding all base
enable_net = refl

-- of two faults of one register the lower number, of two registers the first
first_fault_lem : read (record_of (design base (reg p 2 2 none ∷ reg p 1 9 none ∷ reg q 9 9 none ∷ []))) ≡ refusal 9 1
unfolding all base
first_fault_lem = refl

-- of two faults of one node the lower number, and nodes before registers
node-first : read (record_of (design (Input a ∷ Output a 1 ∷ []) (reg q 0 0 none ∷ []))) ≡ refusal 7 1
unfolding all
node-first = refl

unconnected : read (record_of (design base (reg p 3 3 none ∷ []))) ≡ refusal 13 2
unfolding all base
unconnected = refl

late_reset_lem : read (record_of (design base (reg p 2 2 (async 1 false) ∷ reg q 3 3 (async 3 false) ∷ []))) ≡ refusal 14 3
unfolding all base
late_reset_lem = refl

-- from a node behind it too
later-reset : read (record_of (design base (reg p 2 2 (async 3 false) ∷ reg q 3 3 none ∷ []))) ≡ refusal 14 2
unfolding all base
later-reset = refl

-- an asynchronous reset from the node before is in time
early-reset : read_record (record_of (design base (reg p 2 2 (async 1 false) ∷ reg q 3 3 (async 2 true) ∷ []))) ≡ parsed (design base (reg p 2 2 (async 1 false) ∷ reg q 3 3 (async 2 true) ∷ []))
unfolding all base
early-reset = refl

-- 13 comes before 14, and 14 before 15
unconnected_first : read (record_of (design base (reg p 3 3 (async 3 false) ∷ []))) ≡ refusal 13 2
unfolding all base
unconnected_first = refl

reset-before-clock : read (record_of (design (Constant false ∷ Input rst ∷ RegisterOutput ∷ []) (reg q 2 2 (async 2 false) ∷ []))) ≡ refusal 14 2
unfolding all
reset-before-clock = refl

-- the clock, node 0, is no Input here
clock_net : read (record_of (design (Constant false ∷ Input rst ∷ RegisterOutput ∷ []) (reg q 2 2 none ∷ []))) ≡ refusal 15 0
unfolding all
clock_net = refl

-- ---- 30

-- what read answers where node 3 stands behind the clock, another Input and a register's output
unfoldable pub reads_at3 : Node → Refusal
reads_at3 n = read (record_of (design (Input clk ∷ Input e ∷ RegisterOutput ∷ n ∷ []) (reg q 2 2 none ∷ [])))

-- each input number of each kind is a reading, an Output's too
clock-read_by_node : map reads_at3 (Not 0 ∷ Output y 0 ∷ And 0 1 ∷ And 1 0 ∷ Or 0 1 ∷ Or 1 0 ∷ Xor 0 1 ∷ Xor 1 0 ∷ Mux 0 1 2 ∷ Mux 1 0 2 ∷ Mux 1 2 0 ∷ []) ≡ replicate 11 (refusal 30 0)
unfolding all reads_at3
clock-read_by_node = refl

-- another Input may be read
other_input-read : map reads_at3 (Not 1 ∷ Output y 1 ∷ And 1 2 ∷ Or 1 2 ∷ Xor 1 2 ∷ Mux 1 2 1 ∷ Input a ∷ []) ≡ replicate 7 (refusal 0 0)
unfolding all reads_at3
other_input-read = refl

-- what read answers of register q, which drives node 2, beside p on node 3, which holds its bit
unfoldable pub reads_by : ℕ → Option Enable → Option Reset → Refusal
reads_by input enable reset =
    read (record_of (design base (record { name = q; output = 2; «data» = input; clock = 0; edge = Rising; enable = enable; reset = reset } ∷ reg p 3 3 none ∷ [])))

-- a register's data, enable and reset of either kind are readings; its clock is none
clock-read_by_register : reads_by 0 none none ∷ reads_by 2 (some (record { signal = 0; active = High })) none ∷ reads_by 2 (some (record { signal = 0; active = Low })) none ∷ reads_by 2 none (sync 0 false) ∷ reads_by 2 none (async 0 false) ∷ reads_by 2 (some (record { signal = 1; active = High })) (async 1 false) ∷ []
    ≡ replicate 5 (refusal 30 0) ++ (refusal 0 0 ∷ [])
unfolding all base reads_by
clock-read_by_register = refl

-- a register on a clock of this number, which holds its bit
unfoldable pub on : Name → ℕ → ℕ → Register
on n output clock = record { name = n; output = output; «data» = output; clock = clock; edge = Rising; enable = none; reset = none }

-- what read answers where the first register is clocked by node 1 and the second by node 0, and then this node
unfoldable pub reads_clocks : Node → Refusal
reads_clocks n = read (record_of (design (Input e ∷ Input clk ∷ RegisterOutput ∷ RegisterOutput ∷ n ∷ []) (on p 2 1 ∷ on q 3 0 ∷ [])))

-- the lowest clock that is read, whichever register it clocks and whatever reads it first
lowest-clock : map reads_clocks (And 1 0 ∷ Not 0 ∷ Not 1 ∷ Not 2 ∷ []) ≡ refusal 30 0 ∷ refusal 30 0 ∷ refusal 30 1 ∷ refusal 0 0 ∷ []
unfolding all reads_clocks on
lowest-clock = refl

-- an Input that clocks no register may be read, whatever its name; without registers every Input
no-clock-read : read (record_of (design (Input a ∷ Input clk ∷ RegisterOutput ∷ Output y 1 ∷ []) (on q 2 0 ∷ []))) ∷ read (record_of (design (Input clk ∷ Output y 0 ∷ []) [])) ∷ [] ≡ replicate 2 (refusal 0 0)
unfolding all on
no-clock-read = refl

-- 15 comes before 30, of a later register too
clock_net_first : read (record_of (design (Input clk ∷ Constant false ∷ RegisterOutput ∷ RegisterOutput ∷ Output y 0 ∷ []) (on p 2 0 ∷ on q 3 1 ∷ []))) ≡ refusal 15 1
unfolding all on
clock_net_first = refl
