-- `struo_ir::reader::read_counted_nodes` meets its contract. Assumes nothing.
use Rattle.std.proofs.Common.{sym, [], leb}
use Rattle.std.proofs.lemmas.Result.{err_from_is_err_and}
use Rattle.calls.specs.Faults.{refusal}
use Rattle.fields.specs.FieldLaws.{bind_refused, guard-refused, guard_failed}
use Rattle.fields.specs.Fields.{step_of}
use Rattle.model.specs.Record.{number, guard, refuse, listed_kind, nodes, nodes_from}
use borrow.Author.Tests.{lt-leb}
use Rattle.struo_ir.specs.ReadingLaws.{nodes-not-counted, nodes-counted}
use Rattle.struo_ir.proofs.reader.read_counted_nodes.Goals as goal

pub returns-in_err-count : goal.returns-in_err-count
unfolding step_of nodes
returns-in_err-count c =
    let a = c.args in
    let p = err_from_is_err_and c.from_residual.result c.from_residual.ensures.1 in
    rw (p.1, p.2)
    (nodes-not-counted a.bytes.now a.at _
    (bind_refused (guard 6 (λ n. leb n 1024) number) (λ n. nodes_from listed_kind n []) a.bytes.now a.at _
    (guard-refused 6 (λ n. leb n 1024) number a.bytes.now a.at _ c.in_err-count.ensures)))

pub returns-then-count-le1024 : goal.returns-then-count-le1024
unfolding step_of
returns-then-count-le1024 c =
    let a = c.args in
    nodes-counted a.bytes.now a.at _ _ c.in_ok-count.ensures _ c.if-count-le1024.true c.read_nodes.ensures

pub returns-else-count-le1024 : goal.returns-else-count-le1024
unfolding step_of refuse refusal nodes
returns-else-count-le1024 c =
    let a = c.args in
    rw c.at.ensures
    (nodes-not-counted a.bytes.now a.at _
    (bind_refused (guard 6 (λ n. leb n 1024) number) (λ n. nodes_from listed_kind n []) a.bytes.now a.at _
    (guard_failed 6 (λ n. leb n 1024) number a.bytes.now a.at _ _ c.in_ok-count.ensures (sym (lt-leb _ _ c.if-count-le1024.false)))))
