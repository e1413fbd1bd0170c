-- `struo_ir::nodes::read_detail` meets its contract. Assumes nothing.
use Rattle.std.proofs.Common.{◌∙◌, ne_eqb, ⊎_elim}
use Rattle.fields.specs.FieldLaws.{passed_on}
use Rattle.fields.specs.Fields.{step_of}
use Rattle.model.specs.Record.{has_name, has_value}
use Rattle.struo_ir.specs.NodeLaws.{named-input, named-output, unnamed}
use Rattle.struo_ir.specs.Nodes.{detail_at, detail_if}
use Rattle.struo_ir.proofs.nodes.read_detail.Goals as goal

pub returns-then-kind-eq-INPUT : goal.returns-then-kind-eq-INPUT
unfolding detail_at detail_if
returns-then-kind-eq-INPUT c =
    rw (⊎_elim (λ k. named-input _ k) (λ k. named-output _ k.1) c.then-kind-eq-INPUT.either) c.read_name.ensures

pub returns-in_err-value : goal.returns-in_err-value
unfolding detail_at detail_if has_value has_name step_of
returns-in_err-value c = passed_on _ _ c.from_residual.ensures.1 ∙ (rw c.if-kind-eq-CONSTANT.true c.in_err-value.ensures)

pub returns-then-kind-eq-CONSTANT : goal.returns-then-kind-eq-CONSTANT
unfolding detail_at detail_if has_value has_name step_of
returns-then-kind-eq-CONSTANT c = rw (c.if-kind-eq-CONSTANT.true, c.from.ensures) c.in_ok-value.ensures

pub returns : goal.returns
unfolding detail_at detail_if has_value step_of
returns c = rw (unnamed _ c.if-kind-eq-INPUT.false c.if-kind-eq-OUTPUT.false, ne_eqb _ _ c.if-kind-eq-CONSTANT.false)
