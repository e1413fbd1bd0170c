-- `depths::depth::query_2` meets its contract. Assumes nothing.
use Rattle.std.proofs.Common.{arith}
use Rattle.queries.specs.Querying.{queryable_kept}
use Rattle.depths.specs.Deciding.{as_query4, break_3, continue_3, differ_2, alike_2, gave_up_2}
use Rattle.depths.proofs.depth.query_2.Goals as goal

pub returns-in-Model : goal.returns-in-Model
returns-in-Model c =
    differ_2 c.args.problem.now c.args.limit c.args.depth _ _ c.requires _ _ _ c.named_state_differs-answer.ensures _ _ c.counted-now.ensures _ c.in-Model.is _ _
    (as_query4 c.args.problem.now c.args.limit c.args.depth _ _ _ _ c.induction.ensures)

pub induction-requires-in-Continue : goal.induction-requires-in-Continue
induction-requires-in-Continue c =
    let next = c.named_state_differs-answer.ensures.next in
    let b = c.induction-in-NoModel in
    queryable_kept c.args.problem.now c.args.limit c.args.depth _ _ _ _ next b.ensures.kept (omega (arith, next.long, b.auto.words)) (omega (arith, next.scores_long, b.auto.scores))

pub returns-in-Continue : goal.returns-in-Continue
returns-in-Continue c =
    let four = as_query4 c.args.problem.now c.args.limit c.args.depth _ _ _ _ c.induction-in-Continue.ensures in
    alike_2 c.args.problem.now c.args.limit c.args.depth _ _ c.requires _ _ _ c.named_state_differs-answer.ensures _ _ c.counted-now.ensures _ c.in-NoModel.is _ _
    (continue_3 c.args.problem.now c.args.limit c.args.depth _ _ c.named_state_differs-answer.ensures.next _ _ _ c.induction-in-NoModel.ensures _ c.in-Continue.is _ _ four)

pub returns-in-Break : goal.returns-in-Break
returns-in-Break c =
    let three = break_3 c.args.problem.now c.args.limit c.args.depth _ _ _ _ c.induction-in-NoModel.ensures _ c.in-Break.is in
    alike_2 c.args.problem.now c.args.limit c.args.depth _ _ c.requires _ _ _ c.named_state_differs-answer.ensures _ _ c.counted-now.ensures _ c.in-NoModel.is _ _ three

pub returns-in-GaveUp : goal.returns-in-GaveUp
returns-in-GaveUp c =
    rw c.decided.ensures (gave_up_2 c.args.problem.now c.args.limit c.args.depth _ _ c.requires _ _ _ c.named_state_differs-answer.ensures _ _ c.counted-now.ensures _ c.in-GaveUp.is)
