-- `struo_ir::registers::read_reset` meets its contract. Assumes nothing.
use Rattle.std.proofs.Common.{◌∙◌}
use Rattle.fields.specs.FieldLaws.{passed_on, bind_refused, bind_got}
use Rattle.fields.specs.Fields.{step_of}
use Rattle.model.specs.Record.{code_below}
use Rattle.struo_ir.specs.Registers.{reset_if, register_reset}
use Rattle.struo_ir.specs.RegistersLaws.{reset-none, reset-some}
use Rattle.struo_ir.proofs.registers.read_reset.Goals as goal

pub returns-in_err-reset : goal.returns-in_err-reset
unfolding step_of register_reset
returns-in_err-reset c =
    let a = c.args in
    passed_on _ _ c.from_residual.ensures.1 ∙ bind_refused (code_below 3) (reset_if a.cell) a.bytes.now a.at _ c.in_err-reset.ensures

pub returns-then-reset-eq0 : goal.returns-then-reset-eq0
unfolding step_of register_reset
returns-then-reset-eq0 c =
    let a = c.args in
    reset-none a.cell a.bytes.now c.in_ok-reset.next _ c.if-reset-eq0.true
    ∙ bind_got (code_below 3) (reset_if a.cell) a.bytes.now a.at _ _ c.in_ok-reset.ensures

pub returns-else-reset-eq0 : goal.returns-else-reset-eq0
unfolding step_of register_reset
returns-else-reset-eq0 c =
    let a = c.args in
    c.read_reset_fields.ensures
    ∙ reset-some a.cell a.bytes.now c.in_ok-reset.next _ c.if-reset-eq0.false
    ∙ bind_got (code_below 3) (reset_if a.cell) a.bytes.now a.at _ _ c.in_ok-reset.ensures
