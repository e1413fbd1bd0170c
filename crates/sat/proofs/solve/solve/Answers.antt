-- `solve` meets its contract: the encoding, the unit clauses, the cleared marks, and the rounds. Assumes nothing.
use Rattle.sat.specs.StartLaws.{solve-inconsistent, solve_opposite, search_asked, solved}
use Rattle.sat.proofs.solve.solve.Goals as goal

pub returns-then-encoded : goal.returns-then-encoded
returns-then-encoded c =
    solve-inconsistent _ _ _ _ _ _ c.requires _ _ _ c.encode-encoded.ensures c.if-encoded.true

pub returns-in_default : goal.returns-in_default
returns-in_default c =
    solve_opposite _ _ _ _ _ _ c.requires _ _ _ c.encode-encoded.ensures c.if-encoded.false _ _ c.in_default.ensures.0 c.in_default.ensures.1

pub search-requires : goal.search-requires
search-requires c =
    search_asked _ _ _ _ _ _ c.requires _ _ _ c.encode-encoded.ensures c.if-encoded.false _ _ c.in-Ok.ensures.0 c.in-Ok.ensures.1 _ c.clear.ensures.0 c.clear.ensures.1 _ c.start.ensures

pub returns : goal.returns
returns c =
    solved _ _ _ _ _ _ c.requires _ _ _ c.encode-encoded.ensures c.if-encoded.false _ _ c.in-Ok.ensures.0 c.in-Ok.ensures.1 _ c.clear.ensures.0 c.clear.ensures.1 _ c.start.ensures _ _ _ c.search.ensures
