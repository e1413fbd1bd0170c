-- `struo_ir::registers::read_enable` meets its contract. Assumes nothing.
use Rattle.std.proofs.Common.{◌∙◌, ap}
use Rattle.fields.specs.FieldLaws.{passed_on, bind_refused, bind_got}
use Rattle.fields.specs.Fields.{step_of}
use Rattle.model.specs.Record.{code_below, number}
use Rattle.struo_ir.specs.declared.netlist.RegisterCell.{RegisterCell}
use Rattle.struo_ir.specs.Registers.{register_reset, register_signal, enable_if, register_enable}
use Rattle.struo_ir.specs.RegistersLaws.{enable-none, enable-some}
use Rattle.struo_ir.proofs.registers.read_enable.Goals as goal

pub returns-in_err-enable : goal.returns-in_err-enable
unfolding step_of register_enable
returns-in_err-enable c =
    let a = c.args in
    passed_on _ _ c.from_residual.ensures.1 ∙ bind_refused (code_below 3) (enable_if a.cell) a.bytes.now a.at _ c.in_err-enable.ensures

pub returns-then-enable-eq0 : goal.returns-then-enable-eq0
unfolding step_of register_enable
returns-then-enable-eq0 c =
    let a = c.args in
    c.read_reset.ensures
    ∙ enable-none a.cell a.bytes.now c.in_ok-enable.next _ c.if-enable-eq0.true
    ∙ bind_got (code_below 3) (enable_if a.cell) a.bytes.now a.at _ _ c.in_ok-enable.ensures

pub returns-in_err-signal : goal.returns-in_err-signal
unfolding step_of register_enable
returns-in_err-signal c =
    let a = c.args in
    passed_on _ _ c.from_residual-in_err-signal.ensures.1
    ∙ bind_refused number (register_signal a.cell c.in_ok-enable.enable) a.bytes.now c.in_ok-enable.next _ c.in_err-signal.ensures
    ∙ enable-some a.cell a.bytes.now c.in_ok-enable.next _ c.if-enable-eq0.false
    ∙ bind_got (code_below 3) (enable_if a.cell) a.bytes.now a.at _ _ c.in_ok-enable.ensures

pub returns : goal.returns
unfolding step_of register_enable register_signal
returns c =
    let a = c.args in
    c.read_reset-2.ensures
    ∙ ap (λ (r : RegisterCell). register_reset r a.bytes.now c.in_ok-signal.after) c.with_enable.ensures
    ∙ bind_got number (register_signal a.cell c.in_ok-enable.enable) a.bytes.now c.in_ok-enable.next _ _ c.in_ok-signal.ensures
    ∙ enable-some a.cell a.bytes.now c.in_ok-enable.next _ c.if-enable-eq0.false
    ∙ bind_got (code_below 3) (enable_if a.cell) a.bytes.now a.at _ _ c.in_ok-enable.ensures
