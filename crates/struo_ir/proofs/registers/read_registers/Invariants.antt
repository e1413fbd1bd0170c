-- `struo_ir::registers::read_registers` meets its contract: the registers that are left to read give the whole outcome. Assumes nothing.
use Rattle.struo_ir.specs.Registers.{RegistersSoFar}
use Rattle.struo_ir.proofs.registers.read_registers.Given as goal

abbrev pub invariant-loop-i : goal.invariant-loop-i
invariant-loop-i l = RegistersSoFar l.bytes l.count l.at l.registers l.next l.i
