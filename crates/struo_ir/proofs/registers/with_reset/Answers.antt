-- `struo_ir::registers::with_reset` meets its contract. Assumes nothing.
use Rattle.std.proofs.Common.{refl}
use Rattle.struo_ir.specs.Registers.{resettable}
use Rattle.struo_ir.proofs.registers.with_reset.Goals as goal

pub returns : goal.returns
unfolding resettable
returns c = refl
