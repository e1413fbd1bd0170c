-- `queries::ask::ask` meets its contract. Assumes nothing.
use Rattle.std.proofs.Common.{rules}
use Rattle.queries.specs.Asking.{solvable, asked}
use Rattle.queries.proofs.ask.ask.Goals as goal

pub solve-requires : goal.solve-requires
solve-requires c = solvable _ _ _ _ _ _ c.requires (search rules)

pub returns : goal.returns
returns c =
    asked _ _ _ _ _ _ c.requires (search rules) _ _ _ c.solve.auto.words c.solve.ensures
