-- A reset that is late for the node that it shows at. Definitions only.
use Rattle.std.specs.Prelude.{ℕ, zero, suc, Bool, false}
use Rattle.model.specs.Validate.{late_reset}
use Rattle.struo_ir.specs.declared.netlist.RegisterCell.{RegisterCell}
use Rattle.struo_ir.specs.Decoded.{cell_reset}

-- a driver, by its number plus one, with an asynchronous reset whose signal is not below i
unfoldable pub late_cell : ℕ → RegisterCell → ℕ → Bool
late_cell zero r i = false
late_cell (suc k) r i = late_reset i (cell_reset r)
