-- The record: from its bytes to a design, or the first refusal of 1 to 6. Fields are read in file order. Definitions only.
use Rattle.std.specs.Prelude.{ℕ, zero, suc, ◌+◌, ◌*◌, ◌/◌, Bool, true, false, not, cond, ◌&&◌, ◌||◌, List, [], ◌∷◌, ◌++◌, length, get_or, take, drop, eqb, leb, ltb}
use Rattle.std.proofs.Math.Option.{Option, none, some}
use Rattle.model.specs.Answers.{Refusal}
use Rattle.model.specs.Lists.{member}
use Rattle.model.specs.Lists as Lists
use Rattle.model.specs.Kinds.{input_kind, constant_kind, register_output_kind, not_kind, output_kind, and_kind, or_kind, xor_kind, mux_kind, by_kind}
use Rattle.model.specs.Names.{Name}
use Rattle.model.specs.Names as Names
use Rattle.model.specs.Netlist as Netlist
use Rattle.model.specs.Netlist.{Node, Input, Constant, RegisterOutput, Not, Output, And, Or, Xor, Mux, Edge, Rising, Falling, ActiveLevel, High, Low, Enable, Reset, Register, Design, input_name, output_name, ports_from}

-- a reader's step: the value read and the offset of the next field, or a refusal
pub data Step (A : Type 0) : Type 0 where
  got : A → ℕ → Step A
  refused : Refusal → Step A

-- a reader of the record's bytes, from an offset on
abbrev pub Reader : Type 0 → Type 0
Reader A = List ℕ → ℕ → Step A

-- refusal n of this record at a place
unfoldable pub refuse : {A : Type 0} → ℕ → ℕ → Step A
refuse n place = refused (record { number = n; side = 0; place = place })

-- nothing is read
unfoldable pub pure : {A : Type 0} → A → Reader A
pure a s i = got a i

-- a reader goes on where the step before it ended
unfoldable pub go_on : {A B : Type 0} → (A → Reader B) → List ℕ → Step A → Step B
go_on f s (got a i) = f a s i
go_on f s (refused r) = refused r

-- p, then the reader that f makes of what p read
unfoldable pub ◌>>=◌ : {A B : Type 0} → Reader A → (A → Reader B) → Reader B
◌>>=◌ p f s i = go_on f s (p s i)

-- what was read must pass a test: else refusal n, at the first byte of the field
unfoldable pub tested : {A : Type 0} → ℕ → (A → Bool) → ℕ → Step A → Step A
tested n ok i (got a j) = cond (ok a) (got a j) (refuse n i)
tested n ok i (refused r) = refused r

-- p, with its field tested
unfoldable pub guard : {A : Type 0} → ℕ → (A → Bool) → Reader A → Reader A
guard n ok p s i = tested n ok i (p s i)

-- the k bytes of a field; 3 where it runs past the end
unfoldable pub bytes : ℕ → Reader (List ℕ)
bytes k s i = cond (leb (i + k) (length s)) (got (take k (drop i s)) (i + k)) (refuse 3 i)

-- a number in big-endian bytes
unfoldable pub big_endian : ℕ → List ℕ → ℕ
big_endian n [] = n
big_endian n (b ∷ bs) = big_endian (n * 256 + b) bs

-- a field of one byte
unfoldable pub byte : Reader ℕ
byte s i = cond (leb (i + 1) (length s)) (got (get_or s i 0) (i + 1)) (refuse 3 i)

-- a 2-byte number
unfoldable pub number : Reader ℕ
number s i = cond (leb (i + 2) (length s)) (got (get_or s i 0 * 256 + get_or s (i + 1) 0) (i + 2)) (refuse 3 i)

-- a byte with listed values; 4 where it has another one
unfoldable pub code : (ℕ → Bool) → Reader ℕ
code listed = guard 4 listed byte

-- a byte with the listed values 0 to n - 1
unfoldable pub code_below : ℕ → Reader ℕ
code_below n = code (λ b. ltb b n)

-- a byte that a name can have
unfoldable pub name_byte : ℕ → Bool
name_byte b = leb 33 b && leb b 126

-- every byte is one that a name can have
unfoldable pub name_bytes : List ℕ → Bool
name_bytes [] = true
name_bytes (b ∷ bs) = let rest = name_bytes bs in name_byte b && rest

-- a name: a length byte from 1 to 32, then that many bytes; else 5
unfoldable pub name : Reader Name
name = do
  n ← guard 5 (λ n. leb 1 n && leb n 32) byte
  guard 5 name_bytes (bytes n)

-- the kind bytes of version 1
unfoldable pub kinds : List ℕ
kinds = input_kind ∷ constant_kind ∷ register_output_kind ∷ not_kind ∷ output_kind ∷ and_kind ∷ or_kind ∷ xor_kind ∷ mux_kind ∷ []

-- the test of listed kinds
unfoldable pub listed_kind : ℕ → Bool
listed_kind k = member k kinds

-- the number of inputs of a listed kind: the high four bits of its byte
unfoldable pub inputs_per_kind : ℕ → ℕ
inputs_per_kind k = k / 16

-- the kinds with a name
unfoldable pub has_name : ℕ → Bool
has_name k = eqb k input_kind || eqb k output_kind

-- the kind with a value byte
unfoldable pub has_value : ℕ → Bool
has_value k = eqb k constant_kind

-- the name, where the kind has one
unfoldable pub name_if : Bool → Reader Name
name_if true = name
name_if false = pure []

-- the value byte, 0 or 1, where the kind has one
unfoldable pub value_if : Bool → Reader ℕ
value_if true = code_below 2
value_if false = pure 0

-- k 2-byte numbers
unfoldable pub numbers : ℕ → Reader (List ℕ)
numbers zero = pure []
numbers (suc k) = do
  n ← number
  ns ← numbers k
  pure (n ∷ ns)

-- a node of a kind from its name, value and input numbers; a byte that is no kind, which is refused before, gives the constant 0
unfoldable pub node_of : ℕ → Name → ℕ → List ℕ → Node
node_of k n v ins =
    let a = get_or ins 0 0 in
    let b = get_or ins 1 0 in
    let c = get_or ins 2 0 in
    by_kind k (Input n) (Constant (eqb v 1)) RegisterOutput (Not a) (Output n a) (And a b) (Or a b) (Xor a b) (Mux a b c) (Constant false)

-- among the nodes so far there is room for one more of this kind: at most 64 Inputs and 64 Outputs
unfoldable pub room : List Node → ℕ → Bool
room nodes k =
    not (eqb k input_kind && leb 64 (length (ports_from input_name 0 nodes)))
    && not (eqb k output_kind && leb 64 (length (ports_from output_name 0 nodes)))

-- a node, after the nodes so far: kind byte, name or value, input numbers
unfoldable pub node : (ℕ → Bool) → List Node → Reader Node
node listed nodes = do
  k ← guard 6 (room nodes) (code listed)
  n ← name_if (has_name k)
  v ← value_if (has_value k)
  ins ← numbers (inputs_per_kind k)
  pure (node_of k n v ins)

-- k more nodes after those so far
unfoldable pub nodes_from : (ℕ → Bool) → ℕ → List Node → Reader (List Node)
nodes_from listed zero nodes = pure nodes
nodes_from listed (suc k) nodes = do
  n ← node listed nodes
  nodes_from listed k (nodes ++ (n ∷ []))

-- the nodes: a count of at most 1,024, else 6; then each node
unfoldable pub nodes : (ℕ → Bool) → Reader (List Node)
nodes listed = do
  n ← guard 6 (λ n. leb n 1024) number
  nodes_from listed n []

-- edge codes: 0 rising, 1 falling
unfoldable pub edge_of : ℕ → Edge
edge_of b = cond (eqb b 0) Rising Falling

-- level codes: 1 active high, 2 active low
unfoldable pub level_of : ℕ → ActiveLevel
level_of b = cond (eqb b 1) High Low

-- a byte 0 or 1 as a bit
unfoldable pub bit : ℕ → Bool
bit b = eqb b 1

-- the enable after its code: its signal, unless the code is 0
unfoldable pub enable_for : ℕ → Reader (Option Enable)
enable_for zero = pure none
enable_for (suc c) = do
  signal ← number
  pure (some (record { signal = signal; active = level_of (suc c) }))

-- the reset after its code: its signal, kind and value, unless the code is 0
unfoldable pub reset_for : ℕ → Reader (Option Reset)
reset_for zero = pure none
reset_for (suc c) = do
  signal ← number
  kind ← code_below 2
  value ← code_below 2
  pure (some (record { signal = signal; active = level_of (suc c); asynchronous = bit kind; value = bit value }))

-- a register: name; output, data, clock; edge; enable; reset
unfoldable pub register : Reader Register
register = do
  n ← name
  output ← number
  input ← number
  clock ← number
  edge ← code_below 2
  e ← code_below 3
  enable ← enable_for e
  r ← code_below 3
  reset ← reset_for r
  pure (record { name = n; output = output; «data» = input; clock = clock; edge = edge_of edge; enable = enable; reset = reset })

-- k more registers after those so far
unfoldable pub registers_from : Reader Register → ℕ → List Register → Reader (List Register)
registers_from one zero rs = pure rs
registers_from one (suc k) rs = do
  r ← one
  registers_from one k (rs ++ (r ∷ []))

-- the registers: a count of at most 128, else 6; then each register
unfoldable pub registers : Reader Register → Reader (List Register)
registers one = do
  n ← guard 6 (λ n. leb n 128) number
  registers_from one n []

-- no byte is left; else 3 at the first one
unfoldable pub end : Reader (Unit {0})
end s i = cond (leb (length s) i) (got tt i) (refuse 3 i)

-- version 1 after the length: design name, nodes, registers
unfoldable pub version1 : Reader Design
version1 = do
  n ← name
  ns ← nodes listed_kind
  rs ← registers register
  e ← end
  pure (record { name = n; nodes = ns; registers = rs })

-- the reader that the version byte asks for
unfoldable pub version_of : ℕ → Option (Reader Design)
version_of v = cond (eqb v 1) (some version1) none

-- what reading a record gives
pub data Read : Type 0 where
  parsed : Design → Read
  refused_record : Refusal → Read

-- 5 to 65,535 bytes, and the 4-byte length field says how many
unfoldable pub length_fits : List ℕ → Bool
length_fits s = leb 5 (length s) && leb (length s) 65535 && eqb (big_endian 0 (take 4 (drop 1 s))) (length s)

-- the outcome of the last field
unfoldable pub finished : Step Design → Read
finished (got d i) = parsed d
finished (refused r) = refused_record r

-- the fields from offset 5 on; 2 where the version is not known
unfoldable pub parse_fields : List ℕ → Option (Reader Design) → Read
parse_fields s none = finished (refuse 2 0)
parse_fields s (some p) = finished (p s 5)

-- 1 where the length does not fit
unfoldable pub parse_sized : List ℕ → Bool → Read
parse_sized s false = finished (refuse 1 0)
parse_sized s true = parse_fields s (version_of (get_or s 0 0))

-- the design that the bytes of a record say, or the first refusal of 1 to 6
unfoldable pub parse : List ℕ → Read
parse s = parse_sized s (length_fits s)

-- naming this opens them all
unfoldable pub all : Unit {0}
unfolding refuse pure go_on ◌>>=◌ tested guard bytes big_endian byte number code code_below name_byte name_bytes name kinds listed_kind inputs_per_kind has_name has_value name_if value_if numbers by_kind node_of room node nodes_from nodes edge_of level_of bit enable_for reset_for register registers_from registers end version1 version_of length_fits finished parse_fields parse_sized parse Lists.all Names.all Netlist.all
all = tt
