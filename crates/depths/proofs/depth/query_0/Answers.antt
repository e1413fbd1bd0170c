-- `depths::depth::query_0` meets its contract. Assumes nothing.
use Rattle.depths.specs.Depths.{differs_0, alike_0, gave_up_0}
use Rattle.depths.proofs.depth.query_0.Goals as goal

pub returns-in-Model : goal.returns-in-Model
returns-in-Model c =
    rw c.decided.ensures (differs_0 c.args.problem.now c.args.limit _ _ _ _ _ _ c.find_counterexample-found.ensures _ _ c.counted-now.ensures _ c.in-Model.is)

pub returns-in-NoModel : goal.returns-in-NoModel
returns-in-NoModel c =
    alike_0 c.args.problem.now c.args.limit _ _ _ _ _ _ c.find_counterexample-found.ensures _ _ c.counted-now.ensures _ c.in-NoModel.is

pub returns-in-GaveUp : goal.returns-in-GaveUp
returns-in-GaveUp c =
    rw c.decided-in-GaveUp.ensures (gave_up_0 c.args.problem.now c.args.limit _ _ _ _ _ _ c.find_counterexample-found.ensures _ _ c.counted-now.ensures _ c.in-GaveUp.is)
