-- `aig::Aig::evaluate` meets its contract. Assumes nothing.
use Rattle.std.proofs.Common.{◌≡◌, refl, ◌∙◌, Bool, true, false, not, le-ltb}
use Rattle.std.proofs.Math.Bool.{xor}
use mathlib.Core.Bool.{beq}
use Rattle.words.specs.Layout.{VALUES}
use Rattle.words.specs.Region.{region}
use Rattle.aig.specs.Operations.{by_word, word_of, past_by_word}
use Rattle.aig.proofs.Aig.evaluate.Goals as goal
use Rattle.aig.proofs.Aig.evaluate.Goals.{then-node-nodes, else-node-nodes}

-- two bits differ by their exclusive or
differ-xor : (s t u v : Bool) → s ≡ u → t ≡ v → not (beq s t) ≡ xor u v
unfolding xor
differ-xor s t u v e f = rw (e, f) (go u v)
  where
    go : (s t : Bool) → not (beq s t) ≡ xor s t
    go true true = refl
    go true false = refl
    go false true = refl
    go false false = refl

pub returns : goal.returns
returns c =
    let a = c.args in
    let values = region VALUES a.words.now in
    elim c.if-node-nodes.branch [
      | then-node-nodes w ↦ differ-xor _ _ _ _ w.value-is c.inverted.ensures ∙ by_word _ a.literal.0 w.fetch.result (word_of a.nodes values a.literal.0 c.node-node.result _ c.node-node.ensures w.if-node-nodes.true w.fetch.ensures)
      | else-node-nodes w ↦ differ-xor _ _ _ _ (w.value-is ∙ le-ltb _ _ w.if-node-nodes.false) c.inverted.ensures ∙ past_by_word a.nodes values a.literal.0 (rw c.node-node.ensures at w.if-node-nodes.false)
    ]
