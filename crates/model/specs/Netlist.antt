-- A design as the record has it: nodes in order, then registers; its ports and registers by name. Definitions only.
use Rattle.std.specs.Prelude.{ℕ, suc, Bool, true, false, List, [], ◌∷◌, length}
use Rattle.std.proofs.Math.Option.{Option, none, some}
use Rattle.model.specs.Names.{Name, Place, sort}

-- a node with the numbers of its input nodes; node i drives net i; Mux has condition, then, else
pub data Node : Type 0 where
  Input : Name → Node
  Constant : Bool → Node
  RegisterOutput : Node
  Not : ℕ → Node
  Output : Name → ℕ → Node
  And Or Xor : ℕ → ℕ → Node
  Mux : ℕ → ℕ → ℕ → Node

-- the active clock edge
pub data Edge : Type 0 where
  Rising Falling : Edge

-- the level at which a control signal is asserted
pub data ActiveLevel : Type 0 where
  High Low : ActiveLevel

-- the enable of a register
pub record Enable : Type 0 where
  pub signal : ℕ
  pub active : ActiveLevel

-- the reset of a register
pub record Reset : Type 0 where
  pub signal : ℕ
  pub active : ActiveLevel
  pub asynchronous : Bool
  pub value : Bool

-- a one-bit register: its name, its RegisterOutput node, and the nodes that it reads
pub record Register : Type 0 where
  pub name : Name
  pub output : ℕ
  pub «data» : ℕ
  pub clock : ℕ
  pub edge : Edge
  pub enable : Option Enable
  pub reset : Option Reset

-- a design
pub record Design : Type 0 where
  pub name : Name
  pub nodes : List Node
  pub registers : List Register

-- the name of an Input node
unfoldable pub input_name : Node → Option Name
input_name (Input n) = some n
input_name (Constant b) = none
input_name RegisterOutput = none
input_name (Not a) = none
input_name (Output n a) = none
input_name (And a b) = none
input_name (Or a b) = none
input_name (Xor a b) = none
input_name (Mux c a b) = none

-- the name of an Output node
unfoldable pub output_name : Node → Option Name
output_name (Input n) = none
output_name (Constant b) = none
output_name RegisterOutput = none
output_name (Not a) = none
output_name (Output n a) = some n
output_name (And a b) = none
output_name (Or a b) = none
output_name (Xor a b) = none
output_name (Mux c a b) = none

-- the node is a RegisterOutput
unfoldable pub is_register_output : Node → Bool
is_register_output (Input n) = false
is_register_output (Constant b) = false
is_register_output RegisterOutput = true
is_register_output (Not a) = false
is_register_output (Output n a) = false
is_register_output (And a b) = false
is_register_output (Or a b) = false
is_register_output (Xor a b) = false
is_register_output (Mux c a b) = false

-- the input numbers of a node, in record order
unfoldable pub input_numbers : Node → List ℕ
input_numbers (Input n) = []
input_numbers (Constant b) = []
input_numbers RegisterOutput = []
input_numbers (Not a) = a ∷ []
input_numbers (Output n a) = a ∷ []
input_numbers (And a b) = a ∷ b ∷ []
input_numbers (Or a b) = a ∷ b ∷ []
input_numbers (Xor a b) = a ∷ b ∷ []
input_numbers (Mux c a b) = c ∷ a ∷ b ∷ []

-- one more place in front, if the node has a name
unfoldable pub place_if : ℕ → Option Name → List Place → List Place
place_if i none ps = ps
place_if i (some n) ps = record { name = n; number = i } ∷ ps

-- the places of the nodes that a test names, numbered from i
unfoldable pub ports_from : (Node → Option Name) → ℕ → List Node → List Place
ports_from named i [] = []
ports_from named i (n ∷ ns) = place_if i (named n) (ports_from named (suc i) ns)

-- the places of registers, numbered from i
unfoldable pub register_places : ℕ → List Register → List Place
register_places i [] = []
register_places i (r ∷ rs) = record { name = r.name; number = i } ∷ register_places (suc i) rs

-- the Inputs of a design in byte order of names, each with its node number
unfoldable pub inputs : Design → List Place
inputs d = sort (ports_from input_name 0 d.nodes)

-- the Outputs of a design in byte order of names, each with its node number
unfoldable pub outputs : Design → List Place
outputs d = sort (ports_from output_name 0 d.nodes)

-- the registers of a design in byte order of names, each with its register number
unfoldable pub registers_by_name : Design → List Place
registers_by_name d = sort (register_places 0 d.registers)

-- how many Inputs a design has
unfoldable pub input_count : Design → ℕ
input_count d = length (inputs d)

-- how many Outputs a design has
unfoldable pub output_count : Design → ℕ
output_count d = length (outputs d)

-- how many nodes a design has
unfoldable pub node_count : Design → ℕ
node_count d = length d.nodes

-- how many registers a design has
unfoldable pub register_count : Design → ℕ
register_count d = length d.registers

-- naming this opens them all
unfoldable pub all : Unit {0}
unfolding input_name output_name is_register_output input_numbers place_if ports_from register_places inputs outputs registers_by_name input_count output_count node_count register_count
all = tt
