-- `total` is the number that each answer carries. Assumes nothing.
use Rattle.std.proofs.Common.{sym, ap}
use Rattle.depths.specs.Most.{total_of}
use Rattle.depths.proofs.most.total.Goals as goal

pub returns-in-Model : goal.returns-in-Model
returns-in-Model c = sym (ap total_of c.in-Model.is)

pub returns-in-NoModel : goal.returns-in-NoModel
returns-in-NoModel c = sym (ap total_of c.in-NoModel.is)

pub returns-in-GaveUp : goal.returns-in-GaveUp
returns-in-GaveUp c = sym (ap total_of c.in-GaveUp.is)
