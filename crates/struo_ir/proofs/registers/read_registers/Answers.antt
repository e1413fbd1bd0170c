-- `struo_ir::registers::read_registers` meets its contract: the registers that are left to read give the whole outcome. Assumes nothing.
use Rattle.std.proofs.Common.{arith}
use Rattle.std.proofs.lemmas.Result.{err_from_is_err_and}
use Rattle.fields.specs.Fields.{step_of}
use Rattle.struo_ir.specs.RegistersLaws.{registers-start, registers-more, registers-refused, registers-done}
use Rattle.struo_ir.proofs.registers.read_registers.Goals as goal

pub loop-i-init : goal.loop-i-init
loop-i-init c = let a = c.args in registers-start a.bytes.now a.count a.at

pub returns-in_err-cell : goal.returns-in_err-cell
unfolding step_of
returns-in_err-cell c =
    let a = c.args in
    let p = err_from_is_err_and c.from_residual.result c.from_residual.ensures.1 in
    rw (p.1, p.2) (registers-refused a.bytes.now a.count a.at _ _ _ c.loop-i.invariant _ (omega (arith, c.from-i-end.ensures)) c.in_err-cell.ensures)

pub loop-i-preserved : goal.loop-i-preserved
unfolding step_of
loop-i-preserved c =
    let a = c.args in
    registers-more a.bytes.now a.count a.at _ _ _ c.loop-i.invariant _ _ (omega (arith, c.from-i-end.ensures)) (omega arith) c.in_ok-cell.ensures

pub returns : goal.returns
returns c =
    let a = c.args in
    registers-done a.bytes.now a.count a.at _ _ _ c.loop-i.invariant (omega (arith, c.from-i-end.ensures))
