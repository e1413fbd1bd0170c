-- `struo_ir::reader::read_counted_registers` meets its contract. Assumes nothing.
use Rattle.std.proofs.Common.{sym, [], leb}
use Rattle.std.proofs.lemmas.Result.{err_from_is_err_and}
use Rattle.calls.specs.Faults.{refusal}
use Rattle.fields.specs.FieldLaws.{bind_refused, guard-refused, guard_failed}
use Rattle.fields.specs.Fields.{step_of}
use Rattle.model.specs.Record.{number, guard, refuse, register, registers, registers_from}
use borrow.Author.Tests.{lt-leb}
use Rattle.struo_ir.specs.ReadingLaws.{registers-not-counted, registers-counted}
use Rattle.struo_ir.proofs.reader.read_counted_registers.Goals as goal

pub returns-in_err-count : goal.returns-in_err-count
unfolding step_of registers
returns-in_err-count c =
    let a = c.args in
    let p = err_from_is_err_and c.from_residual.result c.from_residual.ensures.1 in
    rw (p.1, p.2)
    (registers-not-counted a.bytes.now a.at _
    (bind_refused (guard 6 (λ n. leb n 128) number) (λ n. registers_from register n []) a.bytes.now a.at _
    (guard-refused 6 (λ n. leb n 128) number a.bytes.now a.at _ c.in_err-count.ensures)))

pub returns-then-count-le128 : goal.returns-then-count-le128
unfolding step_of
returns-then-count-le128 c =
    let a = c.args in
    registers-counted a.bytes.now a.at _ _ c.in_ok-count.ensures _ c.if-count-le128.true c.read_registers.ensures

pub returns-else-count-le128 : goal.returns-else-count-le128
unfolding step_of refuse refusal registers
returns-else-count-le128 c =
    let a = c.args in
    rw c.at.ensures
    (registers-not-counted a.bytes.now a.at _
    (bind_refused (guard 6 (λ n. leb n 128) number) (λ n. registers_from register n []) a.bytes.now a.at _
    (guard_failed 6 (λ n. leb n 128) number a.bytes.now a.at _ _ c.in_ok-count.ensures (sym (lt-leb _ _ c.if-count-le128.false)))))
