-- `depths::depth::induction` meets its contract. Assumes nothing.
use Rattle.depths.specs.Deciding.{open_induction, closed_induction, gave_up_induction}
use Rattle.depths.proofs.depth.induction.Goals as goal

pub returns-in-Model : goal.returns-in-Model
returns-in-Model c =
    open_induction c.args.problem.now c.args.limit c.args.depth _ _ c.requires c.args.include _ _ _ c.induction_fails-answer.ensures _ _ (rw c.induction_number-query.ensures at c.counted-now.ensures) _ c.in-Model.is

pub returns-in-NoModel : goal.returns-in-NoModel
returns-in-NoModel c =
    rw c.decided.ensures (closed_induction c.args.problem.now c.args.limit c.args.depth _ _ c.requires c.args.include _ _ _ c.induction_fails-answer.ensures _ _ (rw c.induction_number-query.ensures at c.counted-now.ensures) _ c.in-NoModel.is)

pub returns-in-GaveUp : goal.returns-in-GaveUp
returns-in-GaveUp c =
    let e = c.induction_number-query.ensures in
    rw c.decided-in-GaveUp.ensures
    (rw (← e) at (gave_up_induction c.args.problem.now c.args.limit c.args.depth _ _ c.requires c.args.include _ _ _ c.induction_fails-answer.ensures _ _ (rw e at c.counted-now.ensures) _ c.in-GaveUp.is))
