-- The numbers that a register reads as data, by its fields. Definitions only.
use Rattle.std.specs.Prelude.{ℕ, zero, suc, List, [], ◌∷◌, ◌++◌}
use Rattle.struo_ir.specs.declared.netlist.RegisterCell.{RegisterCell}

-- the signal of an enable or a reset, by its code: none for 0
unfoldable pub signal_numbers : ℕ → ℕ → List ℕ
signal_numbers zero signal = []
signal_numbers (suc c) signal = signal ∷ []

-- data, enable and reset
unfoldable pub cell_numbers : RegisterCell → List ℕ
cell_numbers r = r.«data» ∷ (signal_numbers r.enable r.enable_signal ++ signal_numbers r.reset r.reset_signal)
