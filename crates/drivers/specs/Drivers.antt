-- The table of drivers: for each net the first register that drives it. Definitions only.
use Rattle.std.specs.Prelude.{ℕ, zero, suc, ◌≤◌, ◌<◌, ◌≡◌, List, length, get_or}
use Rattle.std.proofs.Math.Option.{Option, none, some}
use Rattle.model.specs.Validate.{Driver, driver}
use Rattle.struo_ir.specs.declared.netlist.RegisterCell.{RegisterCell}
use Rattle.struo_ir.specs.declared.netlist.Netlist.{Netlist}
use Rattle.struo_ir.specs.Decoded.{decoded_register, decoded}
use Rattle.struo_ir.specs.Registers.{no_register}

-- the driver by its register's number plus one; none for 0
unfoldable pub driver_by : List ℕ → List RegisterCell → ℕ → Option Driver
driver_by s registers zero = none
driver_by s registers (suc k) = some (record { number = k; register = decoded_register s (get_or registers k no_register) })

-- a table by net: the number plus one of the first register that drives it, 0 where there is none
pub record Drivers (netlist : Netlist) (table : List ℕ) : Type 0 where
  pub size : length table ≡ 1024
  pub small : (net : ℕ) → get_or table net 0 ≤ 128
  pub below : (net : ℕ) → get_or table net 0 ≤ netlist.register_count
  pub drives : (s : List ℕ) (net : ℕ) → net < 1024 → driver_by s netlist.registers (get_or table net 0) ≡ driver (decoded s netlist).registers net
