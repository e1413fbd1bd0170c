-- `struo_ir::nodes::read_inputs` meets its contract: the numbers that are left to read give them all. Assumes nothing.
use Rattle.std.proofs.Common.{◌∙◌, arith}
use Rattle.fields.specs.FieldLaws.{passed_on}
use Rattle.fields.specs.Fields.{step_of}
use Rattle.struo_ir.specs.NodeLaws.{numbers-start, numbers-more, numbers-cut, numbers-done}
use Rattle.struo_ir.proofs.nodes.read_inputs.Goals as goal

pub loop-i-init : goal.loop-i-init
loop-i-init c = let a = c.args in numbers-start a.bytes.now a.left a.at c.requires.1

pub returns-in_err-number : goal.returns-in_err-number
unfolding step_of
returns-in_err-number c =
    let a = c.args in
    passed_on _ _ c.from_residual.ensures.1 ∙ numbers-cut a.bytes.now a.left a.at _ _ _ c.loop-i.invariant _ (omega (arith, c.from-i-end.ensures)) c.in_err-number.ensures

pub loop-i-preserved : goal.loop-i-preserved
unfolding step_of
loop-i-preserved c =
    let a = c.args in
    numbers-more a.bytes.now a.left a.at _ _ _ c.loop-i.invariant _ _ (omega (arith, c.from-i-end.ensures)) c.requires.1 c.in_ok-number.ensures

pub returns : goal.returns
unfolding step_of
returns c =
    let a = c.args in
    numbers-done a.bytes.now a.left a.at _ _ _ c.loop-i.invariant (omega (arith, c.from-i-end.ensures)) c.requires.1
