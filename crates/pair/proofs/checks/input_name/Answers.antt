-- `input_name` goes by the node's kind. Assumes nothing.
use Rattle.std.proofs.Common.{◌≡◌, sym, ap, ◌∙◌, ◌-◌, arith, eq-eqb, ne_eqb, length}
use Rattle.struo_ir.specs.Decoded.{name_at}
use Rattle.pair.specs.PairCheckLaws.{input-name_of}
use Rattle.pair.proofs.checks.input_name.Goals as goal

pub returns-then-node-eq-INPUT : goal.returns-then-node-eq-INPUT
returns-then-node-eq-INPUT c =
    let a = c.args in
    c.name_of.ensures ∙ ap (name_at a.bytes.now) c.from.ensures ∙ sym (input-name_of a.bytes.now a.node ∙ rw (eq-eqb a.node.kind 0 c.if-node-eq-INPUT.true))

pub returns-else-node-eq-INPUT : goal.returns-else-node-eq-INPUT
returns-else-node-eq-INPUT c =
    let a = c.args in
    let e : length a.bytes.now - length a.bytes.now ≡ 0 = omega arith in
    rw e (sym (input-name_of a.bytes.now a.node ∙ rw (ne_eqb a.node.kind 0 c.if-node-eq-INPUT.false)))
