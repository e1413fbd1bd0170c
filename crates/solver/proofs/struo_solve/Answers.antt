-- `struo_solve` meets its contract: a refusal, or the answer of the rebuilt graph. Assumes nothing.
use Rattle.std.proofs.Common.{sym, ◌∙◌, arith}
use Rattle.solver.specs.QueryLaws.{within-fits, unbuilt, built, call-refused, call_unbuilt, call-searched}
use Rattle.solver.proofs.struo_solve.Goals as goal

pub returns-then-not-fits : goal.returns-then-not-fits
returns-then-not-fits c =
    call-refused _ _ _ _ _ (sym c.fits.ensures ∙ c.if-not-fits.true) _ _ c.refused.ensures

pub rebuild-requires : goal.rebuild-requires
rebuild-requires c =
    let k = within-fits _ _ _ _ _ (sym c.fits.ensures ∙ c.if-not-fits.false) in
    (k.words_long, omega arith, omega (arith, k.nodes_few))

pub search_graph-requires : goal.search_graph-requires
search_graph-requires c =
    let k = within-fits _ _ _ _ _ (sym c.fits.ensures ∙ c.if-not-fits.false) in
    let g = built _ _ _ _ c.rebuild.ensures _ c.in-Some.is in
    record { standing = g.standing.0; few = g.standing.1; scores = k.scores_long; assumed = k.assumptions_few; limited = k.limited }

pub returns-in-None : goal.returns-in-None
returns-in-None c =
    call_unbuilt _ _ _ _ _ (sym c.fits.ensures ∙ c.if-not-fits.false) (unbuilt _ _ _ _ c.rebuild.ensures c.in-None.is) _ _ c.refused-in-None.ensures

pub returns-in-Some : goal.returns-in-Some
returns-in-Some c =
    let g = built _ _ _ _ c.rebuild.ensures _ c.in-Some.is in
    call-searched _ _ _ _ _ (sym c.fits.ensures ∙ c.if-not-fits.false) _ g.is _ c.search_graph.ensures
