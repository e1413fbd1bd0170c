-- `lower_registers` meets its contract. Assumes nothing.
use Rattle.std.proofs.Common.{◌≡◌, length}
use Rattle.lowering.specs.Registers.{Registering}
use Rattle.lowering.proofs.registers.lower_registers.Given as goal

-- the first i registers are lowered
abbrev pub invariant-loop-i : goal.invariant-loop-i
invariant-loop-i l =
    (length l.next ≡ 128) × (length l.variables ≡ 128) × Registering l.fn.netlist l.initial.aig.count l.initial.words l.i l.aig.count l.words l.next l.variables
