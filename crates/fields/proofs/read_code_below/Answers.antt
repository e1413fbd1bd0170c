-- `fields::read_code_below` meets its contract. Assumes nothing.
use Rattle.std.proofs.Common.{sym, lt-ltb, le-ltb}
use Rattle.std.proofs.lemmas.Result.{err_from_is_err_and}
use Rattle.model.specs.Record.{code_below, code, byte, refuse}
use Rattle.calls.specs.Faults.{refusal}
use Rattle.fields.specs.FieldLaws.{guard-refused, guard_passed, guard_failed}
use Rattle.fields.specs.Fields.{step_of}
use Rattle.fields.proofs.read_code_below.Goals as goal

pub returns-in_err-code : goal.returns-in_err-code
unfolding step_of code_below code
returns-in_err-code c =
    let p = err_from_is_err_and c.from_residual.result c.from_residual.ensures.1 in
    rw (p.1, p.2) (guard-refused 4 _ byte _ _ _ (c.in_err-code.ensures))

pub returns-then-code-n : goal.returns-then-code-n
unfolding step_of code_below code
returns-then-code-n c = guard_passed 4 _ byte _ _ _ _ (c.in_ok-code.ensures) (sym (lt-ltb _ _ c.if-code-n.true))

pub returns-else-code-n : goal.returns-else-code-n
unfolding step_of code_below code refuse refusal
returns-else-code-n c = rw c.at.ensures (guard_failed 4 _ byte _ _ _ _ (c.in_ok-code.ensures) (sym (le-ltb _ _ c.if-code-n.false)))
