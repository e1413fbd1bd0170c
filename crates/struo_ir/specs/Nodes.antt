-- A node as the reader keeps it: the steps that its fields take. Definitions only.
use Rattle.std.specs.Prelude.{ℕ, ◌-◌, ◌≤◌, ◌≡◌, Bool, true, false, List, [], ◌∷◌, ◌++◌, map, length, get_or, take, Result, Ok, Err}
use Rattle.model.specs.Record.{Step, got, refused, Reader, pure, ◌>>=◌, name, code_below, numbers, has_name, has_value, inputs_per_kind, listed_kind, nodes_from}
use Rattle.calls.specs.Causes.{numbers_of}
use Rattle.calls.specs.declared.refusal.Refusal.{Refusal}
use Rattle.struo_ir.specs.declared.netlist.Node.{Node}
use Rattle.struo_ir.specs.declared.nodes.Nodes.{Nodes}
use Rattle.model.specs.Netlist as Model
use Rattle.model.specs.Netlist.{input_name, output_name, ports_from}
use Rattle.struo_ir.specs.Decoded.{decoded_node}
use Rattle.fields.specs.Fields.{map_step, placed, kind_at}

-- three numbers, 0 where the list has fewer
unfoldable pub three : List ℕ → List ℕ
three ns = get_or ns 0 0 ∷ get_or ns 1 0 ∷ get_or ns 2 0 ∷ []

-- the place of the name, or the value, or 0
unfoldable pub detail_if : Bool → Bool → Reader ℕ
detail_if true valued s i = placed i (name s i)
detail_if false true s i = code_below 2 s i
detail_if false false s i = got 0 i

-- the same by the kind
unfoldable pub detail_at : ℕ → Reader ℕ
detail_at k = detail_if (has_name k) (has_value k)

-- the input numbers of a kind, three of them
unfoldable pub inputs_at : ℕ → Reader (List ℕ)
inputs_at k s i = map_step three (numbers (inputs_per_kind k) s i)

-- after i of so many numbers: those at hand, with what is left to read, give them all; 0 for each that is not read
pub record NumbersSoFar (s : List ℕ) (left at : ℕ) (ns : List ℕ) (next i : ℕ) : Type 0 where
  pub bound : i ≤ left
  pub size : length ns ≡ 3
  pub rest : map_step (λ ms. three (take i ns ++ ms)) (numbers (left - i) s next) ≡ map_step three (numbers left s at)
  pub past : (k : ℕ) → i ≤ k → get_or ns k 0 ≡ 0

-- a node of its fields
unfoldable pub cell_of : ℕ → ℕ → List ℕ → Node
cell_of k d ins = record { kind = k; detail = d; first = get_or ins 0 0; second = get_or ins 1 0; third = get_or ins 2 0 }

-- a node from its input numbers on
unfoldable pub cell_inputs : ℕ → ℕ → Reader Node
cell_inputs k d = do
  ins ← inputs_at k
  pure (cell_of k d ins)

-- a node from its name or value on
unfoldable pub cell_detail : ℕ → Reader Node
cell_detail k = ◌>>=◌ (detail_at k) (cell_inputs k)

-- a node, after so many Inputs and Outputs
unfoldable pub cell_at : ℕ → ℕ → Reader Node
cell_at inputs outputs = ◌>>=◌ (kind_at inputs outputs) cell_detail

-- a node of zeros
abbrev pub no_node : Node
no_node = record { kind = 0; detail = 0; first = 0; second = 0; third = 0 }

-- the definition's nodes among the first i
unfoldable pub nodes_to : List ℕ → List Node → ℕ → List Model.Node
nodes_to s nodes i = map (decoded_node s) (take i nodes)

-- the step of the nodes: as many as the count says, decoded
unfoldable pub nodes_of : List ℕ → Result (Nodes × ℕ) Refusal → Step (List Model.Node)
nodes_of s (Ok f) = got (nodes_to s f.0.nodes f.0.count) f.1
nodes_of s (Err r) = refused (numbers_of r)

-- an array of 1,024 nodes of listed kinds, zeros from the count on
pub record NodesHeld (count : ℕ) (nodes : List Node) : Type 0 where
  pub size : length nodes ≡ 1024
  pub past : (k : ℕ) → count ≤ k → get_or nodes k no_node ≡ no_node
  pub listed : (k : ℕ) → listed_kind (get_or nodes k no_node).kind ≡ true

-- what was read after the count: the definition's nodes, of listed kinds, and zeros past the count
pub record NodesRead (s : List ℕ) (count at : ℕ) (field : Result (Nodes × ℕ) Refusal) : Type 0 where
  pub step : nodes_of s field ≡ nodes_from listed_kind count [] s at
  pub whole : (n : Nodes) (next : ℕ) → field ≡ Ok (n, next) → (n.count ≡ count) × NodesHeld count n.nodes

-- the reader's state after i nodes: what is left to read gives the whole, and the ports are counted
pub record NodesSoFar (s : List ℕ) (count at : ℕ) (nodes : List Node) (inputs outputs next i : ℕ) : Type 0 where
  pub bound : i ≤ count
  pub few_inputs : inputs ≤ i
  pub few_outputs : outputs ≤ i
  pub size : length nodes ≡ 1024
  pub inputs_are : inputs ≡ length (ports_from input_name 0 (nodes_to s nodes i))
  pub outputs_are : outputs ≡ length (ports_from output_name 0 (nodes_to s nodes i))
  pub rest : nodes_from listed_kind (count - i) (nodes_to s nodes i) s next ≡ nodes_from listed_kind count [] s at
  pub past : (k : ℕ) → i ≤ k → get_or nodes k no_node ≡ no_node
  pub listed : (k : ℕ) → listed_kind (get_or nodes k no_node).kind ≡ true
