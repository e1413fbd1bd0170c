-- `rank_in` looks for the first entry that has the name. Assumes nothing.
use Rattle.struo_ir.specs.Orders.{held}
use Rattle.run.specs.TableLaws.{rank-found}
use Rattle.run.proofs.tables.rank_in.Goals as goal

pub returns : goal.returns
unfolding held
returns c = rank-found _ c.args.other.now c.args.order _ _ c.requires c.first_named.ensures c.unwrap_or.ensures
