-- `visit` meets its contract: by the slot of the false literal, and by whether the other one is true. Assumes nothing.
use Rattle.std.proofs.Common.{◌<◌, sym, ◌∙◌, arith}
use Rattle.watches.specs.VisitLaws.{clause_there, queue-room, slot_past, slot_neither, dropped_visits, false-range, other_is, other_range, visit-true, visit_untrue}
use Rattle.watches.proofs.visit.visit.Goals as goal

pub load-requires : goal.load-requires
load-requires c =
    let a = c.args in
    let h = clause_there a.store a.t a.words.now a.d c.requires in
    (c.requires.sound.formed.ready.words, omega arith, omega (arith, h, c.requires.sound.formed.clauses))

pub load-requires-2 : goal.load-requires-2
load-requires-2 c =
    let a = c.args in
    let h = clause_there a.store a.t a.words.now a.d c.requires in
    (c.requires.sound.formed.ready.words, omega arith, omega (arith, h, c.requires.sound.formed.clauses))

pub returns-then-slot-gt1 : goal.returns-then-slot-gt1
returns-then-slot-gt1 c =
    let a = c.args in
    (dropped_visits a.store a.t a.words.now a.d c.requires, slot_neither a.store a.t a.words.now a.d c.requires a.f.0 _ _ c.load.ensures c.load-2.ensures (slot_past _ c.if-slot-gt1.true ∙ c.false_slot-slot.ensures))

pub is_true-requires : goal.is_true-requires
is_true-requires c =
    let a = c.args in
    let low : c.false_slot-slot.result < 2 = omega (arith, c.if-slot-gt1.false) in
    (c.requires.sound.formed.ready, other_range a.store a.t a.words.now a.d c.requires a.f.0 _ _ c.load.ensures c.load-2.ensures _ c.false_slot-slot.ensures low _ c.other_literal-other.ensures)

pub push_back-requires : goal.push_back-requires
push_back-requires c =
    let a = c.args in
    let low : c.false_slot-slot.result < 2 = omega (arith, c.if-slot-gt1.false) in
    (c.requires.sound.formed.ready.words, queue-room a.store a.t a.words.now a.d c.requires a.f.0 (false-range a.store a.t a.words.now a.d c.requires a.f.0 _ _ c.load.ensures c.load-2.ensures _ c.false_slot-slot.ensures low))

pub returns-then-is_true : goal.returns-then-is_true
returns-then-is_true c =
    let a = c.args in
    let low : c.false_slot-slot.result < 2 = omega (arith, c.if-slot-gt1.false) in
    visit-true a.store a.t a.words.now a.d c.requires a.f.0 _ _ c.load.ensures c.load-2.ensures _ c.false_slot-slot.ensures low _ c.other_literal-other.ensures (sym c.if-is_true.true ∙ c.is_true.ensures) _ c.push_back.ensures.0

pub visit_untrue-requires : goal.visit_untrue-requires
visit_untrue-requires c =
    let a = c.args in
    let low : c.false_slot-slot.result < 2 = omega (arith, c.if-slot-gt1.false) in (
      c.requires,
      low,
      other_range a.store a.t a.words.now a.d c.requires a.f.0 _ _ c.load.ensures c.load-2.ensures _ c.false_slot-slot.ensures low _ c.other_literal-other.ensures,
      other_is a.store a.t a.words.now a.d c.requires a.f.0 _ _ c.load.ensures c.load-2.ensures _ c.false_slot-slot.ensures low _ c.other_literal-other.ensures,
      false-range a.store a.t a.words.now a.d c.requires a.f.0 _ _ c.load.ensures c.load-2.ensures _ c.false_slot-slot.ensures low,
    )

pub returns : goal.returns
returns c =
    let a = c.args in
    let low : c.false_slot-slot.result < 2 = omega (arith, c.if-slot-gt1.false) in (
      c.visit_untrue.ensures.0,
      λ v. visit_untrue a.store a.t a.words.now a.d c.requires a.f.0 _ _ c.load.ensures c.load-2.ensures _ c.false_slot-slot.ensures low _ c.other_literal-other.ensures (sym c.if-is_true.false ∙ c.is_true.ensures) v _ (c.visit_untrue.ensures.1 v),
    )
