-- `bounds` meets its contract: by whether there is such a clause. Assumes nothing.
use Rattle.analysis.specs.RoundLaws.{spans_not, spans}
use Rattle.analysis.proofs.resolve.bounds.Goals as goal

pub returns-then-clauses-id : goal.returns-then-clauses-id
returns-then-clauses-id c = spans_not _ _ _ c.if-clauses-id.true

pub returns : goal.returns
returns c =
    spans _ _ _ _ _ _ c.requires c.if-clauses-id.false c.fetch-start.ensures c.fetch-end.ensures c.min.ensures
