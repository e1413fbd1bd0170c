-- The register that drives a net, by the net's entry in the table of drivers. Assumes nothing.
use Rattle.std.specs.Prelude.{◌≡◌, List, ℕ, zero, suc, ◌-◌, ◌<◌, get_or}
use Rattle.std.proofs.Common.{arith}
use Rattle.model.specs.Validate.{driver}
use Rattle.model.specs.Transition.{driver_reset}
use Rattle.struo_ir.specs.Decoded.{cell_reset, decoded_register, decoded}
use Rattle.struo_ir.specs.Registers.{no_register}
use Rattle.struo_ir.specs.declared.netlist.RegisterCell.{RegisterCell}
use Rattle.struo_ir.specs.declared.netlist.Netlist.{Netlist}
use Rattle.drivers.specs.Drivers.{driver_by}

-- the entry says which register drives the net, in every record
abbrev pub Driven : Netlist → ℕ → ℕ → Type 0
Driven n net entry = (s : List ℕ) → driver_by s n.registers entry ≡ driver (decoded s n).registers net

-- an entry that names a register has its reset
pub reset-named : (s : List ℕ) (rs : List RegisterCell) (entry : ℕ) → 0 < entry → cell_reset (get_or rs (entry - 1) no_register) ≡ driver_reset (driver_by s rs entry)
unfolding cell_reset driver_reset driver_by decoded_register
reset-named s rs zero h = absurd (omega arith)
reset-named s rs (suc k) h = let e : suc k - 1 ≡ k = omega arith in rw e

-- entry 0 names none
pub reset_unnamed : (s : List ℕ) (rs : List RegisterCell) (entry : ℕ) → entry ≡ 0 → driver_reset (driver_by s rs entry) ≡ driver_reset (driver_by s rs 0)
reset_unnamed s rs entry e = rw e
