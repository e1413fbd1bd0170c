-- `node_rank` goes by the node's kind. Assumes nothing.
use Rattle.std.proofs.Common.{ap, ◌∙◌, eq-eqb, ne_eqb, ℕ}
use Rattle.model.specs.Names.{rank}
use Rattle.struo_ir.specs.Decoded.{name_at}
use Rattle.struo_ir.specs.Orders.{places}
use Rattle.run.specs.RunTables.{input_rank}
use Rattle.run.proofs.tables.node_rank.Goals as goal

pub returns-then-node-eq-INPUT : goal.returns-then-node-eq-INPUT
unfolding input_rank
returns-then-node-eq-INPUT c =
    let a = c.args in
    rw (eq-eqb a.node.kind 0 c.if-node-eq-INPUT.true) (c.rank_in.ensures.1 ∙ ap (λ (j : ℕ). rank (name_at a.bytes.now j) (places a.other.now a.order)) c.from.ensures)

pub returns-else-node-eq-INPUT : goal.returns-else-node-eq-INPUT
unfolding input_rank
returns-else-node-eq-INPUT c = let a = c.args in rw (ne_eqb a.node.kind 0 c.if-node-eq-INPUT.false)
