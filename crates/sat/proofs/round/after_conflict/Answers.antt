-- `after_conflict` meets its contract: by the level, and by the limit. Assumes nothing.
use Rattle.sat.specs.ConflictLaws.{conflict_bottom, analyze-asked, conflict_over, assert_asked, conflict_learns}
use Rattle.sat.proofs.round.after_conflict.Goals as goal

pub returns-then-s-eq0 : goal.returns-then-s-eq0
returns-then-s-eq0 c = conflict_bottom _ _ _ _ _ c.requires c.if-s-eq0.true

pub analyze-r-requires : goal.analyze-r-requires
analyze-r-requires c =
    analyze-asked _ _ _ _ _ c.requires c.if-s-eq0.false

pub returns-then-limit-total : goal.returns-then-limit-total
returns-then-limit-total c =
    conflict_over _ _ _ _ _ c.requires c.if-s-eq0.false _ _ _ c.analyze-r.ensures c.if-limit-total.true

pub assert_learned-requires : goal.assert_learned-requires
assert_learned-requires c =
    rw c.negate.ensures (assert_asked _ _ _ _ _ c.requires c.if-s-eq0.false _ _ _ c.analyze-r.ensures c.analyze-r.auto.words c.if-limit-total.false _ c.decay_activity.ensures)

pub returns : goal.returns
returns c =
    conflict_learns _ _ _ _ _ c.requires c.if-s-eq0.false _ _ _ c.analyze-r.ensures c.analyze-r.auto.words c.if-limit-total.false _ c.decay_activity.ensures _ _ _ (rw c.negate.ensures at c.assert_learned.ensures)
