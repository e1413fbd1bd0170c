-- `same_edge` goes by the codes. Assumes nothing.
use Rattle.std.proofs.Common.{sym, ◌∙◌, eq-eqb, ne_eqb}
use Rattle.pair.specs.PairCheckLaws.{edges}
use Rattle.pair.proofs.checks.same_edge.Goals as goal

pub returns-then-edge-eq0 : goal.returns-then-edge-eq0
returns-then-edge-eq0 c = let a = c.args in sym (edges a.edge a.other ∙ rw (eq-eqb a.edge 0 c.if-edge-eq0.true))

pub returns-else-edge-eq0 : goal.returns-else-edge-eq0
returns-else-edge-eq0 c = let a = c.args in sym (edges a.edge a.other ∙ rw (ne_eqb a.edge 0 c.if-edge-eq0.false))
