-- `enqueue` meets its contract: by the literal's value. Assumes nothing.
use Rattle.std.proofs.Common.{ap, ◌∙◌, Some, arith}
use Rattle.watches.specs.UnitLaws.{unit_true, unit_false, unit_room, unit_assigned}
use Rattle.watches.proofs.units.enqueue.Goals as goal

pub assign-requires : goal.assign-requires
assign-requires c =
    let a = c.args in
    (c.requires.0.formed.ready, unit_room a.store a.t a.words.now a.l.0 a.reason c.requires.0 c.value.ensures c.in-None.is c.requires.1, omega (arith, c.requires.1, c.requires.0.formed.ready.variables))

pub returns-in-Some-true : goal.returns-in-Some-true
returns-in-Some-true c =
    let a = c.args in
    unit_true a.store a.t a.words.now a.l.0 a.reason c.requires.0 c.value.ensures (c.in-Some-true.is ∙ ap Some c.in-Some-true.field-0-test)

pub returns-in-Some-false : goal.returns-in-Some-false
returns-in-Some-false c =
    let a = c.args in
    unit_false a.store a.t a.words.now a.l.0 a.reason c.requires.0 c.value.ensures (c.in-Some-false.is ∙ ap Some c.in-Some-false.field-0-test)

pub returns-in-None : goal.returns-in-None
returns-in-None c =
    let a = c.args in
    unit_assigned a.store a.t a.words.now a.l.0 a.reason c.requires.0 c.value.ensures c.in-None.is c.requires.1 _ _ c.assign.ensures
