-- `struo_ir::registers::read_edge` meets its contract. Assumes nothing.
use Rattle.std.proofs.Common.{◌∙◌, ap, [], ◌∷◌}
use Rattle.fields.specs.FieldLaws.{passed_on, bind_refused, bind_got}
use Rattle.fields.specs.Fields.{step_of}
use Rattle.model.specs.Record.{code_below}
use Rattle.struo_ir.specs.declared.netlist.RegisterCell.{RegisterCell}
use Rattle.struo_ir.specs.Registers.{fixed, register_enable, register_edge}
use Rattle.struo_ir.proofs.registers.read_edge.Goals as goal

pub returns-in_err-edge : goal.returns-in_err-edge
unfolding step_of register_edge
returns-in_err-edge c =
    let a = c.args in
    passed_on _ _ c.from_residual.ensures.1
    ∙ bind_refused (code_below 2) (λ e. register_enable (fixed a.name (a.output ∷ a.«data» ∷ a.clock ∷ []) e)) a.bytes.now a.at _ c.in_err-edge.ensures

pub returns : goal.returns
unfolding step_of register_edge
returns c =
    let a = c.args in
    c.read_enable.ensures
    ∙ ap (λ (r : RegisterCell). register_enable r a.bytes.now c.in_ok-edge.next) c.fixed_cell.ensures
    ∙ bind_got (code_below 2) (λ e. register_enable (fixed a.name (a.output ∷ a.«data» ∷ a.clock ∷ []) e)) a.bytes.now a.at _ _ c.in_ok-edge.ensures
