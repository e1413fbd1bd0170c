-- `struo_rebuild` meets its contract. Assumes nothing.
use Rattle.std.proofs.Common.{sym, ◌∙◌, arith}
use Rattle.solver.specs.QueryLaws.{within-fits, unbuilt, built, size_is, size_unbuilt, size-built}
use Rattle.solver.proofs.struo_rebuild.Goals as goal

pub returns-then-not-fits : goal.returns-then-not-fits
returns-then-not-fits c = size_is _ _ _ (sym c.fits.ensures ∙ c.if-not-fits.true)

pub rebuild-requires : goal.rebuild-requires
rebuild-requires c =
    let k = within-fits _ _ _ _ _ (sym c.fits.ensures ∙ c.if-not-fits.false) in
    (k.words_long, omega arith, omega (arith, k.nodes_few))

pub returns-in-None : goal.returns-in-None
returns-in-None c =
    size_unbuilt _ _ (sym c.fits.ensures ∙ c.if-not-fits.false) (unbuilt _ _ _ _ c.rebuild.ensures c.in-None.is)

pub returns-in-Some : goal.returns-in-Some
returns-in-Some c =
    let g = built _ _ _ _ c.rebuild.ensures _ c.in-Some.is in
    size-built _ _ (sym c.fits.ensures ∙ c.if-not-fits.false) _ _ g.is
