-- `struo_ir::nodes::read_nodes` meets its contract: the nodes that are left to read give the whole outcome. Assumes nothing.
use Rattle.std.proofs.Common.{arith}
use Rattle.std.proofs.lemmas.Result.{err_from_is_err_and}
use Rattle.fields.specs.Fields.{step_of}
use Rattle.struo_ir.specs.NodesLaws.{nodes-start, nodes-more, nodes-refused, nodes-done}
use Rattle.struo_ir.proofs.nodes.read_nodes.Goals as goal

pub loop-i-init : goal.loop-i-init
loop-i-init c = let a = c.args in nodes-start a.bytes.now a.count a.at

pub returns-in_err-node : goal.returns-in_err-node
unfolding step_of
returns-in_err-node c =
    let a = c.args in
    let p = err_from_is_err_and c.from_residual.result c.from_residual.ensures.1 in
    rw (p.1, p.2) (nodes-refused a.bytes.now a.count a.at _ _ _ _ _ c.loop-i.invariant _ (omega (arith, c.from-i-end.ensures)) c.in_err-node.ensures)

pub loop-i-preserved : goal.loop-i-preserved
unfolding step_of
loop-i-preserved c =
    let a = c.args in
    rw (c.counted-outputs.ensures, c.counted-inputs.ensures)
    (nodes-more a.bytes.now a.count a.at _ _ _ _ _ c.loop-i.invariant _ _ (omega (arith, c.from-i-end.ensures)) (omega arith) c.in_ok-node.ensures)

pub returns : goal.returns
returns c =
    let a = c.args in
    nodes-done a.bytes.now a.count a.at _ _ _ _ _ c.loop-i.invariant (omega (arith, c.from-i-end.ensures))
