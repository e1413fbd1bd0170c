-- What the tables of a run hold, and the value of a node by its kind byte. Definitions only.
use Rattle.std.specs.Prelude.{ℕ, zero, suc, ◌+◌, ◌-◌, ◌<◌, ◌≡◌, Bool, false, cond, not, ◌&&◌, ◌||◌, List, ◌++◌, eqb, length, get_or, replicate}
use Rattle.std.specs.Bool.{xor}
use Rattle.model.specs.Kinds.{input_kind, by_kind}
use Rattle.model.specs.Names.{Place, rank}
use Rattle.model.specs.Run.{InputBits, StoredBits, bit_at, shown_bit, enabled_bit, reset_bit}
use Rattle.model.specs.Replay.{claim_bit}
use Rattle.struo_ir.specs.Decoded.{name_at, cell_enable, cell_reset}
use Rattle.struo_ir.specs.Nodes.{no_node}
use Rattle.struo_ir.specs.declared.netlist.Node.{Node}
use Rattle.struo_ir.specs.declared.netlist.RegisterCell.{RegisterCell}
use Rattle.struo_ir.specs.declared.netlist.Netlist.{Netlist}

-- the next stored bit of a register, given its fields
unfoldable pub next_of : List Bool → Bool → RegisterCell → Bool
next_of values stored r = reset_bit values (enabled_bit values stored (bit_at values r.«data») (cell_enable r)) (cell_reset r)

-- the value of a node by its kind byte, from its detail, the input bit of its name, what its register shows, and the values of its inputs
unfoldable pub value_of : ℕ → ℕ → Bool → Bool → Bool → Bool → Bool → Bool
value_of kind detail input shown a b c = by_kind kind input (eqb detail 1) shown (not a) a (a && b) (a || b) (xor a b) (cond a b c) false

-- the value of a node from the values of the nodes before it
unfoldable pub node_by : List Bool → Node → Bool → Bool → Bool
node_by values n input shown =
    value_of n.kind n.detail input shown (bit_at values n.first) (bit_at values n.second) (bit_at values n.third)

-- what the register of a number shows, the number given plus one, from its fields; false for 0, where there is no register
unfoldable pub shown_by : List Bool → StoredBits → ℕ → RegisterCell → Bool
shown_by values stored zero r = false
shown_by values stored (suc k) r = shown_bit values (bit_at stored k) (cell_reset r)

-- the rank of an Input's name among the inputs; 0 for another node
unfoldable pub input_rank : List ℕ → List Place → Node → ℕ
input_rank s ins n = cond (eqb n.kind input_kind) (rank (name_at s n.detail) ins) 0

-- a table has the rank of each node
abbrev pub Ranked : List ℕ → List Place → Netlist → List ℕ → Type 0
Ranked s ins n ranks = (k : ℕ) → k < n.node_count → get_or ranks k 0 ≡ input_rank s ins (get_or n.nodes k no_node)

-- the input bits that a row of the claim gives by the ranks of names
unfoldable pub row_inputs : List ℕ → ℕ → List Place → InputBits
row_inputs claim at ins n = claim_bit claim (at + rank n ins)

-- a row of n bits: the bits given, and false past them
unfoldable pub padded : ℕ → List Bool → List Bool
padded n bits = bits ++ replicate (n - length bits) false
