-- `queries::query::named_state_differs` meets its contract. Assumes nothing.
use Rattle.laws.specs.Queries.Formed.{query_2_askable}
use Rattle.queries.specs.Querying.{askable, queried, preservable, stated_preserves}
use Rattle.queries.proofs.query.named_state_differs.Goals as goal

pub base_preserves_named_state-base-requires : goal.base_preserves_named_state-base-requires
base_preserves_named_state-base-requires c =
    preservable c.args.problem.now _ _ _ _ c.requires

pub ask-requires : goal.ask-requires
ask-requires c =
    askable c.args.problem.now _ c.args.depth _ _ _ _ _ _ _ c.requires
    (stated_preserves c.args.problem.now _ _ _ _ c.requires _ _ _ c.base_preserves_named_state-base.ensures) (λ p. query_2_askable p c.args.depth)

pub returns : goal.returns
returns c =
    queried c.args.problem.now _ c.args.depth _ _ _ _ _ _ _ c.requires
    (stated_preserves c.args.problem.now _ _ _ _ c.requires _ _ _ c.base_preserves_named_state-base.ensures) _ _ _ c.ask.ensures
