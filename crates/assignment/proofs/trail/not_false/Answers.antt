-- `not_false` meets its contract: by the word of the literal's variable. Assumes nothing.
use Rattle.std.proofs.Common.{◌≡◌, ap, sym, ◌∙◌, arith}
use Rattle.std.specs.Prelude.{Some, not, eqb, ◌%◌}
use Rattle.std.specs.Bool.{beq}
use Rattle.assignment.specs.State.{assignment_of, word_value}
use Rattle.assignment.specs.StateLaws.{value-is, word_unassigned, word_known, unless_false}
use Rattle.model.specs.Sat as Sat
use Rattle.model.specs.Literal as Literals
use Rattle.assignment.proofs.trail.not_false.Goals as goal
use Rattle.assignment.proofs.trail.not_false.Goals.{After-load-word}

-- the word that was read decides the value
read : (c : After-load-word) → let a = c.args in
    Sat.value (assignment_of a.t a.words.now) a.literal.0 ≡ Sat.literal_value (Literals.inverted a.literal.0) (word_value c.load-word.result)
read c =
    value-is c.args.t c.args.words.now c.args.literal.0 _ _ c.requires.1 c.node.ensures c.load-word.ensures

pub load-word-requires : goal.load-word-requires
unfolding Literals.node
load-word-requires c =
    (c.requires.0.words, omega arith, omega (arith, c.node.ensures, c.requires.1, c.requires.0.variables))

pub returns-then-word-eq0 : goal.returns-then-word-eq0
unfolding Sat.not_false
returns-then-word-eq0 c = sym (ap Sat.not_false (read (goal.at.returns-then-word-eq0 c).After-load-word ∙ word_unassigned _ _ c.if-word-eq0.true))

-- the same of a variable that is assigned
known : (c : After-load-word) → (c.load-word.result ≡ 0 → ⊥) → let a = c.args in
    not (beq (eqb (c.load-word.result % 2) 1) (Literals.inverted a.literal.0)) ≡ Sat.not_false (Sat.value (assignment_of a.t a.words.now) a.literal.0)
known c n = unless_false (Some _) ∙ ap Sat.not_false (word_known _ _ n ∙ sym (read c))

pub returns-then-word-inverted : goal.returns-then-word-inverted
returns-then-word-inverted c = rw (← c.inverted.ensures, c.if-word-inverted.true) at (known (goal.at.returns-then-word-inverted c).After-load-word c.if-word-eq0.false)

pub returns : goal.returns
returns c = rw (← c.inverted.ensures, c.if-word-inverted.false) at (known (goal.at.returns c).After-load-word c.if-word-eq0.false)
