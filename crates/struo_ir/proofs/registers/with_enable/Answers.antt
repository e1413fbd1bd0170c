-- `struo_ir::registers::with_enable` meets its contract. Assumes nothing.
use Rattle.std.proofs.Common.{refl}
use Rattle.struo_ir.specs.Registers.{enabled}
use Rattle.struo_ir.proofs.registers.with_enable.Goals as goal

pub returns : goal.returns
unfolding enabled
returns c = refl
