-- `numbers` gives each answer its status. Assumes nothing.
use Rattle.std.proofs.Common.{sym, ap}
use Rattle.sat.specs.SolveLaws.{search_answer}
use mathlib.Core.Option.{some}
use Rattle.solver.specs.Query.{status_of}
use Rattle.solver.proofs.numbers.Goals as goal

pub returns-in-Model : goal.returns-in-Model
unfolding status_of
returns-in-Model c = record { is = λ w. ap (λ a. some (search_answer c.args.nodes a w)) (sym c.in-Model.is) }

pub returns-in-NoModel : goal.returns-in-NoModel
unfolding status_of
returns-in-NoModel c = record { is = λ w. ap (λ a. some (search_answer c.args.nodes a w)) (sym c.in-NoModel.is) }

pub returns-in-GaveUp : goal.returns-in-GaveUp
unfolding status_of
returns-in-GaveUp c = record { is = λ w. ap (λ a. some (search_answer c.args.nodes a w)) (sym c.in-GaveUp.is) }
