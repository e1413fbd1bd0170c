-- What the walk over the registers tests and keeps. Definitions only.
use Rattle.std.specs.Prelude.{ℕ, zero, suc, ◌≤◌, ◌≡◌, Bool, true, List, [], length, drop, ltb}
use Rattle.model.specs.Validate.{registers_fault}
use Rattle.struo_ir.specs.declared.netlist.Netlist.{Netlist}
use Rattle.struo_ir.specs.Decoded.{decoded}
use Rattle.netlist_checks.specs.Seen.{names_before, numbers_before}

-- the signal of an enable or a reset, where its code has one, is below the count
unfoldable pub signal_below : ℕ → ℕ → ℕ → Bool
signal_below zero signal count = true
signal_below (suc c) signal count = ltb signal count

-- the walk after i registers: what is left to check gives the whole
pub record RegistersChecked (s : List ℕ) (netlist : Netlist) (names outputs : List ℕ) (i : ℕ) : Type 0 where
  pub bound : i ≤ netlist.register_count
  pub names_size : length names ≡ 1024
  pub outputs_size : length outputs ≡ 1024
  pub rest : registers_fault (decoded s netlist).nodes i (names_before s names i) (numbers_before outputs i) (drop i (decoded s netlist).registers) ≡ registers_fault (decoded s netlist).nodes 0 [] [] (decoded s netlist).registers
