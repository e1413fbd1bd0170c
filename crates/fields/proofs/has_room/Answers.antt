-- `fields::has_room` meets its contract. Assumes nothing.
use Rattle.std.proofs.Common.{◌∙◌, ne_eqb}
use Rattle.fields.specs.FieldLaws.{below_not, and_true}
use Rattle.fields.specs.Fields.{room_for}
use Rattle.fields.proofs.has_room.Goals as goal

pub returns-then-kind-eq-INPUT : goal.returns-then-kind-eq-INPUT
unfolding room_for
returns-then-kind-eq-INPUT c = rw c.if-kind-eq-INPUT.true (below_not c.args.inputs 64 ∙ and_true _)

pub returns-then-kind-eq-OUTPUT : goal.returns-then-kind-eq-OUTPUT
unfolding room_for
returns-then-kind-eq-OUTPUT c = rw c.if-kind-eq-OUTPUT.true (below_not c.args.outputs 64)

pub returns-else-kind-eq-OUTPUT : goal.returns-else-kind-eq-OUTPUT
unfolding room_for
returns-else-kind-eq-OUTPUT c = rw (ne_eqb _ _ c.if-kind-eq-INPUT.false, ne_eqb _ _ c.if-kind-eq-OUTPUT.false)
