-- `struo_ir::nodes::read_node` meets its contract. Assumes nothing.
use Rattle.std.proofs.Common.{ap, ◌∙◌, ℕ, arith, rules}
use Rattle.fields.specs.FieldLaws.{passed_on, bind_refused, bind_got}
use Rattle.fields.specs.Fields.{step_of, map_step, kind_at}
use Rattle.laws.specs.Record.Kinds.{few_inputs}
use Rattle.model.specs.Record.{pure, numbers}
use Rattle.struo_ir.specs.Nodes.{three, detail_at, inputs_at, cell_of, cell_inputs, cell_detail, cell_at}
use Rattle.struo_ir.specs.StepLaws.{kind_listed}
use Rattle.struo_ir.proofs.nodes.read_node.Goals as goal

-- a listed kind has at most three inputs
pub read_inputs-requires : goal.read_inputs-requires
unfolding step_of
read_inputs-requires c = (search rules, omega (arith, c.inputs_per_kind.ensures, few_inputs _ (kind_listed _ _ _ _ _ _ c.in_ok-kind.ensures)))

pub returns-in_err-kind : goal.returns-in_err-kind
unfolding step_of cell_at
returns-in_err-kind c =
    let a = c.args in
    passed_on _ _ c.from_residual.ensures.1 ∙ bind_refused (kind_at a.inputs a.outputs) cell_detail a.bytes.now a.at _ c.in_err-kind.ensures

pub returns-in_err-detail : goal.returns-in_err-detail
unfolding step_of cell_at cell_detail
returns-in_err-detail c =
    let a = c.args in
    passed_on _ _ c.from_residual-in_err-detail.ensures.1
    ∙ bind_refused (detail_at c.in_ok-kind.kind) (cell_inputs c.in_ok-kind.kind) a.bytes.now c.in_ok-kind.next _ c.in_err-detail.ensures
    ∙ bind_got (kind_at a.inputs a.outputs) cell_detail a.bytes.now a.at _ _ c.in_ok-kind.ensures

pub returns-in_err-first : goal.returns-in_err-first
unfolding step_of cell_at cell_detail cell_inputs inputs_at
returns-in_err-first c =
    let a = c.args in
    let k = c.in_ok-kind.kind in
    passed_on _ _ c.from_residual-in_err-first.ensures.1
    ∙ bind_refused (inputs_at k) (λ ins. pure (cell_of k c.in_ok-detail.detail ins)) a.bytes.now c.in_ok-detail.after _
    (c.in_err-first.ensures ∙ ap (λ (n : ℕ). map_step three (numbers n a.bytes.now c.in_ok-detail.after)) c.inputs_per_kind.ensures)
    ∙ bind_got (detail_at k) (cell_inputs k) a.bytes.now c.in_ok-kind.next _ _ c.in_ok-detail.ensures
    ∙ bind_got (kind_at a.inputs a.outputs) cell_detail a.bytes.now a.at _ _ c.in_ok-kind.ensures

pub returns : goal.returns
unfolding step_of cell_at cell_detail cell_inputs inputs_at pure cell_of
returns c =
    let a = c.args in
    let k = c.in_ok-kind.kind in
    bind_got (inputs_at k) (λ ins. pure (cell_of k c.in_ok-detail.detail ins)) a.bytes.now c.in_ok-detail.after _ _
    (c.in_ok-first.ensures ∙ ap (λ (n : ℕ). map_step three (numbers n a.bytes.now c.in_ok-detail.after)) c.inputs_per_kind.ensures)
    ∙ bind_got (detail_at k) (cell_inputs k) a.bytes.now c.in_ok-kind.next _ _ c.in_ok-detail.ensures
    ∙ bind_got (kind_at a.inputs a.outputs) cell_detail a.bytes.now a.at _ _ c.in_ok-kind.ensures
