-- `visit_enqueued` meets its contract: by the other literal's value after the push. Assumes nothing.
use Rattle.std.proofs.Common.{ap, ◌∙◌, Some, refl, arith}
use Rattle.watches.specs.VisitLaws.{queue-room, enqueued-true, enqueued-false, enqueued_assigned, assign-room, kept_visits}
use Rattle.watches.proofs.visit.visit_enqueued.Goals as goal

pub push_back-requires : goal.push_back-requires
push_back-requires c =
    let a = c.args in
    (c.requires.0.sound.formed.ready.words, queue-room a.store a.t a.words.now a.d c.requires.0 a.f.0 c.requires.2)

pub assign-requires : goal.assign-requires
assign-requires c =
    let a = c.args in (
      rw c.push_back.ensures.0 (kept_visits a.store a.t a.words.now a.d c.requires.0 a.f.0 c.requires.2).step.sound.formed.ready,
      assign-room a.store a.t a.words.now a.d c.requires.0 a.f.0 c.requires.2 a.other.0 _ c.push_back.ensures.0 c.value.ensures c.in-None.is c.requires.1,
      omega (arith, c.requires.1, c.requires.0.sound.formed.ready.variables),
    )

pub returns-in-Some-true : goal.returns-in-Some-true
returns-in-Some-true c =
    let a = c.args in
    enqueued-true a.store a.t a.words.now a.d c.requires.0 a.f.0 c.requires.2 a.other.0 _ c.push_back.ensures.0 c.value.ensures (c.in-Some-true.is ∙ ap Some c.in-Some-true.field-0-test)

pub returns-in-Some-false : goal.returns-in-Some-false
returns-in-Some-false c =
    let a = c.args in
    enqueued-false a.store a.t a.words.now a.d c.requires.0 a.f.0 c.requires.2 a.other.0 _ c.push_back.ensures.0 c.value.ensures (c.in-Some-false.is ∙ ap Some c.in-Some-false.field-0-test) refl

pub returns-in-None : goal.returns-in-None
returns-in-None c =
    let a = c.args in
    enqueued_assigned a.store a.t a.words.now a.d c.requires.0 a.f.0 c.requires.2 a.other.0 _ c.push_back.ensures.0 c.value.ensures c.in-None.is c.requires.1 _ _ c.assign.ensures
