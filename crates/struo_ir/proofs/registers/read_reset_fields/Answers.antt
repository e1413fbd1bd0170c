-- `struo_ir::registers::read_reset_fields` meets its contract. Assumes nothing.
use Rattle.std.proofs.Common.{◌∙◌, ap}
use Rattle.fields.specs.FieldLaws.{passed_on, bind_refused, bind_got}
use Rattle.fields.specs.Fields.{step_of}
use Rattle.model.specs.Record.{got, pure, number, code_below}
use Rattle.struo_ir.specs.declared.netlist.RegisterCell.{RegisterCell}
use Rattle.struo_ir.specs.Registers.{resettable, reset_value, reset_kind, reset_fields}
use Rattle.struo_ir.proofs.registers.read_reset_fields.Goals as goal

pub returns-in_err-signal : goal.returns-in_err-signal
unfolding step_of reset_fields
returns-in_err-signal c =
    let a = c.args in
    passed_on _ _ c.from_residual.ensures.1 ∙ bind_refused number (reset_kind a.cell a.reset) a.bytes.now a.at _ c.in_err-signal.ensures

pub returns-in_err-kind : goal.returns-in_err-kind
unfolding step_of reset_fields reset_kind
returns-in_err-kind c =
    let a = c.args in
    let n = c.in_ok-signal.signal in
    passed_on _ _ c.from_residual-in_err-kind.ensures.1
    ∙ bind_refused (code_below 2) (reset_value a.cell a.reset n) a.bytes.now c.in_ok-signal.next _ c.in_err-kind.ensures
    ∙ bind_got number (reset_kind a.cell a.reset) a.bytes.now a.at _ _ c.in_ok-signal.ensures

pub returns-in_err-value : goal.returns-in_err-value
unfolding step_of reset_fields reset_kind reset_value
returns-in_err-value c =
    let a = c.args in
    let n = c.in_ok-signal.signal in
    let k = c.in_ok-kind.kind in
    passed_on _ _ c.from_residual-in_err-value.ensures.1
    ∙ bind_refused (code_below 2) (λ v. pure (resettable a.cell a.reset n k v)) a.bytes.now c.in_ok-kind.after _ c.in_err-value.ensures
    ∙ bind_got (code_below 2) (reset_value a.cell a.reset n) a.bytes.now c.in_ok-signal.next _ _ c.in_ok-kind.ensures
    ∙ bind_got number (reset_kind a.cell a.reset) a.bytes.now a.at _ _ c.in_ok-signal.ensures

pub returns : goal.returns
unfolding step_of reset_fields reset_kind reset_value pure
returns c =
    let a = c.args in
    let n = c.in_ok-signal.signal in
    let k = c.in_ok-kind.kind in
    ap (λ (r : RegisterCell). got r c.in_ok-value.end) c.with_reset.ensures
    ∙ bind_got (code_below 2) (λ v. pure (resettable a.cell a.reset n k v)) a.bytes.now c.in_ok-kind.after _ _ c.in_ok-value.ensures
    ∙ bind_got (code_below 2) (reset_value a.cell a.reset n) a.bytes.now c.in_ok-signal.next _ _ c.in_ok-kind.ensures
    ∙ bind_got number (reset_kind a.cell a.reset) a.bytes.now a.at _ _ c.in_ok-signal.ensures
