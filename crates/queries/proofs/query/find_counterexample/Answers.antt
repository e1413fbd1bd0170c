-- `queries::query::find_counterexample` meets its contract. Assumes nothing.
use Rattle.std.proofs.Common.{arith}
use Rattle.laws.specs.Queries.Formed.{query_1_askable}
use Rattle.queries.specs.Finding.{traceable, found, found_none, found_gave_up}
use Rattle.queries.specs.Querying.{askable, comparable, stated_compares}
use Rattle.queries.proofs.query.find_counterexample.Goals as goal

pub base_counterexample-base-requires : goal.base_counterexample-base-requires
base_counterexample-base-requires c =
    comparable c.args.problem.now _ _ _ _ c.requires.0

pub ask-answer-requires : goal.ask-answer-requires
ask-answer-requires c =
    askable c.args.problem.now _ c.args.depth _ _ _ _ _ _ _ c.requires.0
    (stated_compares c.args.problem.now _ _ _ _ c.requires.0 _ _ _ c.base_counterexample-base.ensures) (λ p. query_1_askable p c.args.depth)

pub overflow_add-depth : goal.overflow_add-depth
overflow_add-depth c =
    omega (arith, c.requires.0.shallow)

pub write_counterexample-mismatch-requires : goal.write_counterexample-mismatch-requires
write_counterexample-mismatch-requires c =
    traceable c.args.problem.now c.args.limit c.args.depth _ _ _ c.requires.0 _ _ _ c.base_counterexample-base.ensures _ _ _ c.ask-answer.ensures c.requires.1

pub returns-in-Model : goal.returns-in-Model
returns-in-Model c =
    found c.args.problem.now c.args.limit c.args.depth _ _ _ c.requires.0 _ _ _ c.base_counterexample-base.ensures _ _ _ c.ask-answer.ensures _ c.in-Model.is _ _ c.write_counterexample-mismatch.ensures

pub returns-in-NoModel : goal.returns-in-NoModel
returns-in-NoModel c =
    found_none c.args.problem.now c.args.limit c.args.depth _ _ _ c.requires.0 _ _ _ c.base_counterexample-base.ensures _ _ _ c.ask-answer.ensures _ c.in-NoModel.is _

pub returns-in-GaveUp : goal.returns-in-GaveUp
returns-in-GaveUp c =
    found_gave_up c.args.problem.now c.args.limit c.args.depth _ _ _ c.requires.0 _ _ _ c.base_counterexample-base.ensures _ _ _ c.ask-answer.ensures _ c.in-GaveUp.is _
