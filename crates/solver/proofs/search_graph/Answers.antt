-- `search_graph` meets its contract: the assumptions are literals of the graph, or the call is refused. Assumes nothing.
use Rattle.std.proofs.Common.{sym, ◌∙◌}
use Rattle.solver.specs.QueryLaws.{search_refused, search_asked, search_answered}
use Rattle.solver.proofs.search_graph.Goals as goal

pub returns-then-not-all_below : goal.returns-then-not-all_below
returns-then-not-all_below c =
    search_refused _ _ c.args.words.now c.args.scores.now _ (sym c.all_below.ensures ∙ c.if-not-all_below.true) _ _ c.refused.ensures

pub solve-answer-requires : goal.solve-answer-requires
solve-answer-requires c =
    search_asked _ _ _ _ _ c.requires (sym c.all_below.ensures ∙ c.if-not-all_below.false)

pub returns : goal.returns
returns c =
    search_answered _ _ _ _ _ c.requires (sym c.all_below.ensures ∙ c.if-not-all_below.false) _ _ _ c.solve-answer.ensures _ c.numbers.ensures
