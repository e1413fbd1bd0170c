-- `struo_ir::registers::fixed_cell` meets its contract. Assumes nothing.
use Rattle.std.proofs.Common.{refl}
use Rattle.struo_ir.specs.Registers.{fixed}
use Rattle.struo_ir.proofs.registers.fixed_cell.Goals as goal

pub returns : goal.returns
unfolding fixed
returns c = refl
