-- `assign` meets its contract: its five stores are those of the definition's assignment. Assumes nothing.
use Rattle.std.proofs.Common.{◌≡◌, ap, ◌∙◌, ℕ, ◌<◌, arith}
use Rattle.words.specs.Layout.{SMALL, DOUBLE}
use mir.Val.{bool_byte}
use Rattle.assignment.specs.StateLaws.{assigns}
use Rattle.model.specs.Literal as Literals
use Rattle.assignment.proofs.trail.assign.Goals as goal

-- the variable of a literal has its words
near : (l v : ℕ) → v ≡ Literals.node l → l < DOUBLE → v < SMALL
unfolding Literals.node
near l v e h = omega arith

pub put-requires : goal.put-requires
put-requires c =
    (c.requires.0.words, omega arith, near c.args.literal.0 _ c.node-v.ensures c.requires.2)

pub put-requires-2 : goal.put-requires-2
put-requires-2 c =
    (c.put.ensures.1, omega arith, near c.args.literal.0 _ c.node-v.ensures c.requires.2)

pub put-requires-3 : goal.put-requires-3
put-requires-3 c =
    (c.put-2.ensures.1, omega arith, near c.args.literal.0 _ c.node-v.ensures c.requires.2)

pub put-requires-4 : goal.put-requires-4
put-requires-4 c =
    (c.put-3.ensures.1, omega arith, near c.args.literal.0 _ c.node-v.ensures c.requires.2)

pub returns : goal.returns
returns c =
    assigns _ _ _ _ _ c.requires.0 c.requires.1 c.node-v.ensures (c.from-sign.ensures ∙ ap bool_byte c.inverted.ensures) c.put.ensures.0 c.put-2.ensures.0 c.put-3.ensures.0 c.put-4.ensures.0 c.put-5.ensures.0 c.put-5.ensures.1
