-- The checks of one design, refusals 7 to 15 and 30, in order. Definitions only.
use Rattle.std.specs.Prelude.{ℕ, suc, Bool, true, false, not, cond, ◌&&◌, ◌||◌, List, [], ◌∷◌, ◌++◌, length, eqb, leb, ltb}
use Rattle.std.proofs.Math.Option.{Option, none, some}
use Rattle.std.proofs.Math.ListN.{get_elem?}
use Rattle.model.specs.Answers.{Refusal, accepted}
use Rattle.model.specs.Answers as Answers
use Rattle.model.specs.Names.{Name, member_name}
use Rattle.model.specs.Lists.{member}
use Rattle.model.specs.Names as Names
use Rattle.model.specs.Netlist.{Node, Input, Constant, RegisterOutput, Not, Output, And, Or, Xor, Mux, Enable, Reset, Register, Design, input_name, is_register_output, input_numbers}
use Rattle.model.specs.Netlist as Netlist
use Rattle.model.specs.Record.{Read, parsed, refused_record, parse}
use Rattle.model.specs.Record as Record

infixr 20 ◌otherwise◌
-- the first of two checks that refuses
unfoldable pub ◌otherwise◌ : Option Refusal → Option Refusal → Option Refusal
(some r) otherwise next = some r
none otherwise next = next

-- refusal n on a side at a place, if the fault is there
unfoldable pub refuse_if : ℕ → ℕ → ℕ → Bool → Option Refusal
refuse_if n side place true = some (record { number = n; side = side; place = place })
refuse_if n side place false = none

-- every number is below k
unfoldable pub all_below : ℕ → List ℕ → Bool
all_below k [] = true
all_below k (a ∷ xs) = let rest = all_below k xs in ltb a k && rest

-- a name in front of the others, if there is one
unfoldable pub add_name : Option Name → List Name → List Name
add_name none names = names
add_name (some n) names = n ∷ names

-- the name of an Input or Output node
unfoldable pub port_name : Node → Option Name
port_name (Input n) = some n
port_name (Constant b) = none
port_name RegisterOutput = none
port_name (Not a) = none
port_name (Output n a) = some n
port_name (And a b) = none
port_name (Or a b) = none
port_name (Xor a b) = none
port_name (Mux c a b) = none

-- the name, if there is one, is among the earlier ones
unfoldable pub repeats : List Name → Option Name → Bool
repeats names none = false
repeats names (some n) = member_name n names

-- node i after ports with these names: 7 an input number not below i, 8 a port name a second time
unfoldable pub node_fault : ℕ → List Name → Node → Option Refusal
node_fault i names n =
    refuse_if 7 0 i (not (all_below i (input_numbers n)))
    otherwise refuse_if 8 0 i (repeats names (port_name n))

-- the nodes from number i on
unfoldable pub nodes_fault : ℕ → List Name → List Node → Option Refusal
nodes_fault i names [] = none
nodes_fault i names (n ∷ ns) = let rest = nodes_fault (suc i) (add_name (port_name n) names) ns in node_fault i names n otherwise rest

-- the node of a number is a RegisterOutput
unfoldable pub is_register_output_at : Option Node → Bool
is_register_output_at none = false
is_register_output_at (some n) = is_register_output n

-- there is an Input name
unfoldable pub is_input : Option Name → Bool
is_input none = false
is_input (some n) = true

-- the node of a number is an Input
unfoldable pub is_input_at : Option Node → Bool
is_input_at none = false
is_input_at (some n) = is_input (input_name n)

-- the signal of an enable, if there is one
unfoldable pub enable_numbers : Option Enable → List ℕ
enable_numbers none = []
enable_numbers (some e) = e.signal ∷ []

-- the signal of a reset, if there is one
unfoldable pub reset_numbers : Option Reset → List ℕ
reset_numbers none = []
reset_numbers (some r) = r.signal ∷ []

-- the numbers that a register reads: data, clock, enable, reset
unfoldable pub register_numbers : Register → List ℕ
register_numbers r = r.«data» ∷ r.clock ∷ (enable_numbers r.enable ++ reset_numbers r.reset)

-- register i after those with these names and outputs: 9 a name a second time, 10 no RegisterOutput,
-- 11 an output a second time, 12 a number not below the node count
unfoldable pub register_fault : List Node → ℕ → List Name → List ℕ → Register → Option Refusal
register_fault nodes i names taken r =
    refuse_if 9 0 i (member_name r.name names)
    otherwise refuse_if 10 0 i (not (is_register_output_at (get_elem? nodes r.output)))
    otherwise refuse_if 11 0 i (member r.output taken)
    otherwise refuse_if 12 0 i (not (all_below (length nodes) (register_numbers r)))

-- the registers from number i on
unfoldable pub registers_fault : List Node → ℕ → List Name → List ℕ → List Register → Option Refusal
registers_fault nodes i names taken [] = none
registers_fault nodes i names taken (r ∷ rs) =
    let rest = registers_fault nodes (suc i) (r.name ∷ names) (r.output ∷ taken) rs in
    register_fault nodes i names taken r otherwise rest

-- a register that drives a net, with its number
pub record Driver : Type 0 where
  pub number : ℕ
  pub register : Register

-- the first register with that output among those from number k on
unfoldable pub driver_from : ℕ → ℕ → List Register → Option Driver
driver_from k net [] = none
driver_from k net (r ∷ rs) =
    let rest = driver_from (suc k) net rs in
    cond (eqb r.output net) (some (record { number = k; register = r })) rest

-- the register that drives a net
unfoldable pub driver : List Register → ℕ → Option Driver
driver rs net = driver_from 0 net rs

-- no register drives the node
unfoldable pub undriven : Option Driver → Bool
undriven none = true
undriven (some d) = false

-- 13: the lowest RegisterOutput from number i on that has no register
unfoldable pub connection_fault : List Register → ℕ → List Node → Option Refusal
connection_fault rs i [] = none
connection_fault rs i (n ∷ ns) =
    let rest = connection_fault rs (suc i) ns in
    refuse_if 13 0 i (is_register_output n && undriven (driver rs i)) otherwise rest

-- an asynchronous reset whose signal is not below node i
unfoldable pub late_reset : ℕ → Option Reset → Bool
late_reset i none = false
late_reset i (some r) = r.asynchronous && leb i r.signal

-- the same of the register that drives node i
unfoldable pub late_driver : ℕ → Option Driver → Bool
late_driver i none = false
late_driver i (some d) = late_reset i d.register.reset

-- 14: the lowest RegisterOutput from number i on with such a reset
unfoldable pub reset_fault : List Register → ℕ → List Node → Option Refusal
reset_fault rs i [] = none
reset_fault rs i (n ∷ ns) =
    let rest = reset_fault rs (suc i) ns in
    refuse_if 14 0 i (is_register_output n && late_driver i (driver rs i)) otherwise rest

-- 15: the first register from number i on whose clock is not an Input
unfoldable pub clock_fault : List Node → ℕ → List Register → Option Refusal
clock_fault nodes i [] = none
clock_fault nodes i (r ∷ rs) =
    let rest = clock_fault nodes (suc i) rs in
    refuse_if 15 0 i (not (is_input_at (get_elem? nodes r.clock))) otherwise rest

-- node k clocks one of the registers
unfoldable pub clocks : ℕ → List Register → Bool
clocks k [] = false
clocks k (r ∷ rs) = let rest = clocks k rs in eqb r.clock k || rest

-- one of the nodes reads node k
unfoldable pub nodes_read : ℕ → List Node → Bool
nodes_read k [] = false
nodes_read k (n ∷ ns) = let rest = nodes_read k ns in member k (input_numbers n) || rest

-- the numbers that a register reads as data: data, enable, reset; its clock is none of them
unfoldable pub data_numbers : Register → List ℕ
data_numbers r = r.«data» ∷ (enable_numbers r.enable ++ reset_numbers r.reset)

-- the data, enable or reset of one of the registers reads node k
unfoldable pub registers_read : ℕ → List Register → Bool
registers_read k [] = false
registers_read k (r ∷ rs) = let rest = registers_read k rs in member k (data_numbers r) || rest

-- node k clocks a register and is read
unfoldable pub clock_read : Design → ℕ → Bool
clock_read d k = clocks k d.registers && (nodes_read k d.nodes || registers_read k d.registers)

-- 30: the lowest node from number i on that clocks a register and is read; after 15 it is an Input
unfoldable pub clock_read_fault : Design → ℕ → List Node → Option Refusal
clock_read_fault d i [] = none
clock_read_fault d i (n ∷ ns) = let rest = clock_read_fault d (suc i) ns in refuse_if 30 0 i (clock_read d i) otherwise rest

-- the first refusal of 7 to 15 and 30
unfoldable pub validate : Design → Option Refusal
validate d =
    nodes_fault 0 [] d.nodes
    otherwise registers_fault d.nodes 0 [] [] d.registers
    otherwise connection_fault d.registers 0 d.nodes
    otherwise reset_fault d.registers 0 d.nodes
    otherwise clock_fault d.nodes 0 d.registers
    otherwise clock_read_fault d 0 d.nodes

-- a design, or the refusal of its checks
unfoldable pub judged : Design → Option Refusal → Read
judged d none = parsed d
judged d (some r) = refused_record r

-- a parsed design with its checks
unfoldable pub validated : Read → Read
validated (parsed d) = judged d (validate d)
validated (refused_record r) = refused_record r

-- the design of a record that is accepted, or the first refusal of 1 to 15 and 30
unfoldable pub read_record : List ℕ → Read
read_record s = validated (parse s)

-- the answer for a record
unfoldable pub answer_of : Read → Refusal
answer_of (parsed d) = accepted
answer_of (refused_record r) = r

-- the call read
unfoldable pub read : List ℕ → Refusal
read s = answer_of (read_record s)

-- naming this opens them all
unfoldable pub all : Unit {0}
unfolding ◌otherwise◌ refuse_if all_below add_name port_name repeats node_fault nodes_fault is_register_output_at is_input is_input_at enable_numbers reset_numbers register_numbers register_fault registers_fault driver_from driver undriven connection_fault late_reset late_driver reset_fault clock_fault clocks nodes_read data_numbers registers_read clock_read clock_read_fault validate judged validated read_record answer_of read Names.all Netlist.all Record.all Answers.all
all = tt
