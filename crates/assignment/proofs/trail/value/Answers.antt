-- `value` meets its contract: by the word of the literal's variable. Assumes nothing.
use Rattle.std.proofs.Common.{◌≡◌, sym, ◌∙◌, arith}
use Rattle.assignment.specs.State.{assignment_of, word_value}
use Rattle.assignment.specs.StateLaws.{value-is, word_unassigned, word_known}
use Rattle.model.specs.Sat as Sat
use Rattle.model.specs.Literal as Literals
use Rattle.assignment.proofs.trail.value.Goals as goal
use Rattle.assignment.proofs.trail.value.Goals.{After-load-word}

-- the word that was read decides the value
read : (c : After-load-word) → let a = c.args in
    Sat.value (assignment_of a.t a.words.now) a.literal.0 ≡ Sat.literal_value (Literals.inverted a.literal.0) (word_value c.load-word.result)
read c =
    value-is c.args.t c.args.words.now c.args.literal.0 _ _ c.requires.1 c.node.ensures c.load-word.ensures

pub load-word-requires : goal.load-word-requires
unfolding Literals.node
load-word-requires c =
    (c.requires.0.words, omega arith, omega (arith, c.node.ensures, c.requires.1, c.requires.0.variables))

pub returns-then-word-eq0 : goal.returns-then-word-eq0
returns-then-word-eq0 c = sym (read (goal.at.returns-then-word-eq0 c).After-load-word ∙ word_unassigned _ _ c.if-word-eq0.true)

pub returns-else-word-eq0 : goal.returns-else-word-eq0
returns-else-word-eq0 c =
    rw c.inverted.ensures (word_known _ _ c.if-word-eq0.false) ∙ sym (read (goal.at.returns-else-word-eq0 c).After-load-word)
