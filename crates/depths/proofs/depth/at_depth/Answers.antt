-- `depths::depth::at_depth` meets its contract. Assumes nothing.
use Rattle.depths.specs.Depths.{differs_1, alike_1, gave_up_1}
use Rattle.depths.proofs.depth.at_depth.Goals as goal

pub returns-in-Model : goal.returns-in-Model
returns-in-Model c =
    rw c.decided.ensures (differs_1 c.args.problem.now c.args.limit c.args.depth _ _ c.requires.0 _ _ _ _ _ c.find_counterexample-found.ensures _ _ c.counted-now.ensures _ c.in-Model.is)

pub returns-in-NoModel : goal.returns-in-NoModel
returns-in-NoModel c =
    alike_1 c.args.problem.now c.args.limit c.args.depth _ _ c.requires.0 _ _ _ _ _ c.find_counterexample-found.ensures _ _ c.counted-now.ensures _ c.in-NoModel.is _ _ c.query_2.ensures

pub returns-in-GaveUp : goal.returns-in-GaveUp
returns-in-GaveUp c =
    rw c.decided-in-GaveUp.ensures (gave_up_1 c.args.problem.now c.args.limit c.args.depth _ _ c.requires.0 _ _ _ _ _ c.find_counterexample-found.ensures _ _ c.counted-now.ensures _ c.in-GaveUp.is)
