-- What a reading of a pair stands for: the definition's outcome, the two designs by their decoded netlists. Definitions only.
use Rattle.std.specs.Prelude.{ℕ, ◌≡◌, List, Result, Ok, Err}
use Rattle.model.specs.Netlist as Model
use Rattle.model.specs.Record.{parsed, refused_record}
use Rattle.model.specs.Validate.{read_record}
use Rattle.model.specs.Pair.{ReadPair, both, refused_pair, on_gate, read_pair}
use Rattle.calls.specs.Causes.{numbers_of}
use Rattle.calls.specs.declared.refusal.Refusal.{Refusal}
use Rattle.struo_ir.specs.Decoded.{decoded}
use Rattle.struo_ir.specs.Designs.{Padded}
use Rattle.struo_ir.specs.declared.netlist.Netlist.{Netlist}
use Rattle.pair.specs.declared.accepted.Accepted.{Accepted}
use Rattle.pair.specs.declared.accepted.Pair.{Pair}

-- a reading of gate's record t is the definition's, with its refusal on gate's side
pub record GateRead (t : List ℕ) (r : Result Netlist Refusal) : Type 0 where
  pub accepted : (n : Netlist) → r ≡ Ok n → (read_record t ≡ parsed (decoded t n)) × Padded n
  pub refused : (x : Refusal) → r ≡ Err x → (y : Refusal) × (read_record t ≡ refused_record (numbers_of y)) × (on_gate (numbers_of y) ≡ numbers_of x)

-- the design that an accepted record says
abbrev pub said : Accepted → Model.Design
said r = decoded r.bytes.now r.design.netlist

-- the outcome of a reading of two records: the two designs, or the refusal
unfoldable pub pair_of : Result Pair Refusal → ReadPair
pair_of (Ok p) = both (said p.gold) (said p.gate)
pair_of (Err r) = refused_pair (numbers_of r)

-- a reading of the records s and t is the definition's, and an accepted pair has their bytes
pub record PairRead (s t : List ℕ) (r : Result Pair Refusal) : Type 0 where
  pub is : read_pair s t ≡ pair_of r
  pub bytes_are : (p : Pair) → r ≡ Ok p → (p.gold.bytes.now ≡ s) × (p.gate.bytes.now ≡ t)
