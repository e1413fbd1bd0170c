-- What a reading stands for: the definition's outcome, the design by its decoded netlist. Definitions only.
use Rattle.std.specs.Prelude.{ℕ, ◌≡◌, List, Result, Ok, Err}
use Rattle.model.specs.Netlist as Model
use Rattle.model.specs.Record.{Reader, pure, ◌>>=◌, nodes, registers, register, listed_kind, end, Read, parsed, refused_record, finished}
use Rattle.struo_ir.specs.declared.netlist.Netlist.{Netlist}
use Rattle.calls.specs.Faults.{refusal}
use Rattle.calls.specs.Causes.{numbers_of}
use Rattle.calls.specs.declared.refusal.Refusal.{Refusal}
use Rattle.struo_ir.specs.declared.nodes.Nodes.{Nodes}
use Rattle.struo_ir.specs.declared.registers.Registers.{Registers}
use Rattle.struo_ir.specs.Decoded.{name_at, decoded}
use Rattle.struo_ir.specs.Designs.{Padded, NodesPadded, RegistersPadded}
use Rattle.struo_ir.specs.Nodes.{nodes_of}
use Rattle.struo_ir.specs.Registers.{registers_of}

-- refusal n of a record at a place
unfoldable pub refused_at : ℕ → ℕ → Read
refused_at n place = refused_record (refusal n 0 place)

-- the outcome of what was read: the design of the netlist, or the refusal
unfoldable pub outcome_of : List ℕ → Result Netlist Refusal → Read
outcome_of s (Ok n) = parsed (decoded s n)
outcome_of s (Err r) = refused_record (numbers_of r)

-- a netlist that was read is within the limits, with zeros past its counts
unfoldable pub PaddedWhere : Result Netlist Refusal → Type 0
PaddedWhere (Ok n) = Padded n
PaddedWhere (Err r) = Unit {0}

-- the nodes with their count, as the definition reads them
pub record NodesCounted (s : List ℕ) (at : ℕ) (field : Result (Nodes × ℕ) Refusal) : Type 0 where
  pub step : nodes_of s field ≡ nodes listed_kind s at
  pub whole : (n : Nodes) (next : ℕ) → field ≡ Ok (n, next) → NodesPadded n.count n.nodes

-- the registers with their count, as the definition reads them
pub record RegistersCounted (s : List ℕ) (at : ℕ) (field : Result (Registers × ℕ) Refusal) : Type 0 where
  pub step : registers_of s field ≡ registers register s at
  pub whole : (r : Registers) (next : ℕ) → field ≡ Ok (r, next) → RegistersPadded r.count r.registers

-- the design after its nodes and registers
unfoldable pub design_of : List ℕ → List Model.Node → List Model.Register → Reader Model.Design
design_of s ns rs = do
  e ← end
  pure (record { name = name_at s 5; nodes = ns; registers = rs })

-- the outcome from the registers on
unfoldable pub from_registers : List Model.Node → List ℕ → ℕ → Read
from_registers ns s i = finished (◌>>=◌ (registers register) (design_of s ns) s i)

-- the outcome from the nodes on
unfoldable pub from_nodes : List ℕ → ℕ → Read
from_nodes s i = finished (◌>>=◌ (nodes listed_kind) (λ ns. ◌>>=◌ (registers register) (design_of s ns)) s i)
