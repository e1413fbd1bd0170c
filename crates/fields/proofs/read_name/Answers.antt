-- `fields::read_name` meets its contract. Assumes nothing.
use Rattle.std.proofs.Common.{ℕ, ◌+◌, ◌-◌, ◌≡◌, ap, ◌∙◌, List, take, drop, arith, ⊎_elim}
use Rattle.std.proofs.lemmas.Result.{err_from_is_err_and}
use Rattle.model.specs.Record.{name_bytes, refuse, byte, name, guard}
use Rattle.calls.specs.Faults.{refusal}
use Rattle.fields.specs.FieldLaws.{all_name_bytes, byte_read, bind_refused, guard-refused, name-empty, name-long, name-bytes-cut, name-refused, name-got}
use Rattle.fields.specs.Fields.{step_of, placed, map_step}
use Rattle.fields.proofs.read_name.Goals as goal

-- the part of the record that holds the name's bytes
part : (s : List ℕ) (i n : ℕ) → name_bytes (take (i + 1 + n - (i + 1)) (drop (i + 1) s)) ≡ name_bytes (take n (drop (i + 1) s))
part s i n = let e : i + 1 + n - (i + 1) ≡ n = omega arith in ap (λ (k : ℕ). name_bytes (take k (drop (i + 1) s))) e

pub returns-in_err-count : goal.returns-in_err-count
unfolding step_of placed map_step name
returns-in_err-count c =
    let p = err_from_is_err_and c.from_residual.result c.from_residual.ensures.1 in
    rw (p.1, p.2) (ap (placed c.args.at) (bind_refused (guard 5 _ byte) _ _ _ _ (guard-refused 5 _ byte _ _ _ c.in_err-count.ensures)))

pub returns-then-count-lt1 : goal.returns-then-count-lt1
unfolding step_of refuse refusal
returns-then-count-lt1 c =
    let b = byte_read _ _ _ _ c.in_ok-count.ensures in
    rw c.at.ensures (⊎_elim (λ k. name-empty _ _ b.0 (rw (← b.1) k)) (λ k. name-long _ _ b.0 (rw (← b.1) k.1)) c.then-count-lt1.either)

pub overflow_add-end : goal.overflow_add-end
unfolding step_of
overflow_add-end c =
    let b = byte_read _ _ _ _ c.in_ok-count.ensures in
    omega (arith, b.0, b.2, c.from.ensures, c.if-count-gt32.false)

pub returns-then-bytes-end : goal.returns-then-bytes-end
unfolding step_of refuse refusal
returns-then-bytes-end c =
    let b = byte_read _ _ _ _ c.in_ok-count.ensures in
    rw (c.at-then-bytes-end.ensures, b.2)
    (name-bytes-cut _ _ (rw (← b.1) c.if-count-lt1.false) (rw (← b.1) c.if-count-gt32.false) b.0 (omega (arith, b.1, b.2, c.from.ensures, c.if-bytes-end.true)))

pub overflow_cast-result : goal.overflow_cast-result
unfolding step_of
overflow_cast-result c =
    let b = byte_read _ _ _ _ c.in_ok-count.ensures in
    omega (arith, b.0)

pub returns-then-name_bytes : goal.returns-then-name_bytes
unfolding step_of
returns-then-name_bytes c =
    let b = byte_read _ _ _ _ c.in_ok-count.ensures in
    rw (b.2, c.from.ensures, b.1)
    (name-got _ _ (rw (← b.1) c.if-count-lt1.false) (rw (← b.1) c.if-count-gt32.false) (omega (arith, b.1, b.2, c.from.ensures, c.if-bytes-end.false))
    ((rw (b.2, c.from.ensures, b.1) at (c.if-name_bytes.ensures ∙ all_name_bytes _)) ∙ part c.args.bytes.now c.args.at _))

pub returns-else-name_bytes : goal.returns-else-name_bytes
unfolding step_of refuse refusal
returns-else-name_bytes c =
    let b = byte_read _ _ _ _ c.in_ok-count.ensures in
    rw (c.at-else-name_bytes.ensures, b.2)
    (name-refused _ _ (rw (← b.1) c.if-count-lt1.false) (rw (← b.1) c.if-count-gt32.false) (omega (arith, b.1, b.2, c.from.ensures, c.if-bytes-end.false))
    ((rw (b.2, c.from.ensures, b.1) at (c.if-name_bytes.ensures ∙ all_name_bytes _)) ∙ part c.args.bytes.now c.args.at _))
