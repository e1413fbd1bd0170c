-- `queries::query::induction_fails` meets its contract. Assumes nothing.
use Rattle.laws.specs.Queries.Formed.{query_3_4_askable}
use Rattle.queries.specs.Querying.{askable, queried, inducible, stated_induces}
use Rattle.queries.proofs.query.induction_fails.Goals as goal

pub induction_closes-induction-requires : goal.induction_closes-induction-requires
induction_closes-induction-requires c =
    inducible c.args.problem.now _ _ _ _ c.requires

pub ask-requires : goal.ask-requires
ask-requires c =
    askable c.args.problem.now _ c.args.depth _ _ _ _ _ _ _ c.requires
    (stated_induces c.args.problem.now _ _ _ _ c.requires c.args.include _ _ _ c.induction_closes-induction.ensures)
    (λ p. query_3_4_askable p c.args.include c.args.depth)

pub returns : goal.returns
returns c =
    queried c.args.problem.now _ c.args.depth _ _ _ _ _ _ _ c.requires
    (stated_induces c.args.problem.now _ _ _ _ c.requires c.args.include _ _ _ c.induction_closes-induction.ensures) _ _ _ c.ask.ensures
