-- `see_clause` meets its contract: its literals lie within the bounds that were found. Assumes nothing.
use Rattle.analysis.proofs.resolve.see_clause.Goals as goal

pub see_literals-requires : goal.see_literals-requires
see_literals-requires c =
    (c.requires.0, c.bounds-place.ensures.inside, c.bounds-place.ensures.below _ c.requires.1, c.requires.2, rw c.bounds-place.ensures.is c.requires.3)
