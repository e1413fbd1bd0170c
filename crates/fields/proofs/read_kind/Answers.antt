-- `fields::read_kind` meets its contract. Assumes nothing.
use Rattle.std.proofs.lemmas.Result.{err_from_is_err_and}
use Rattle.model.specs.Record.{code, byte, refuse, listed_kind}
use Rattle.calls.specs.Faults.{refusal}
use Rattle.fields.specs.FieldLaws.{guard-refused, guard_passed, guard_failed}
use Rattle.fields.specs.Fields.{step_of, kind_at, room_for}
use Rattle.fields.proofs.read_kind.Goals as goal

pub returns-in_err-kind : goal.returns-in_err-kind
unfolding step_of kind_at code
returns-in_err-kind c =
    let p = err_from_is_err_and c.from_residual.result c.from_residual.ensures.1 in
    rw (p.1, p.2) (guard-refused 6 _ (code listed_kind) _ _ _ (guard-refused 4 _ byte _ _ _ (c.in_err-kind.ensures)))

pub returns-then-not-is_listed : goal.returns-then-not-is_listed
unfolding step_of kind_at code refuse refusal
returns-then-not-is_listed c =
    rw c.at.ensures (guard-refused 6 _ (code listed_kind) _ _ _ (guard_failed 4 listed_kind byte _ _ _ _ (c.in_ok-kind.ensures) c.if-not-is_listed.ensures))

pub returns-then-not-has_room : goal.returns-then-not-has_room
unfolding step_of kind_at code refuse refusal
returns-then-not-has_room c =
    rw c.at-then-not-has_room.ensures (guard_failed 6 (room_for _ _) (code listed_kind) _ _ _ _ (guard_passed 4 listed_kind byte _ _ _ _ (c.in_ok-kind.ensures) c.if-not-is_listed.ensures) c.if-not-has_room.ensures)

pub returns : goal.returns
unfolding step_of kind_at code
returns c = guard_passed 6 (room_for _ _) (code listed_kind) _ _ _ _ (guard_passed 4 listed_kind byte _ _ _ _ (c.in_ok-kind.ensures) c.if-not-is_listed.ensures) c.if-not-has_room.ensures
