-- `higher` meets its contract: by whether there is a variable on each side, then by the scores. Assumes nothing.
use Rattle.std.proofs.Common.{true, false, not, eq-eqb, ap, sym, ◌∙◌}
use Rattle.std.proofs.lemmas.Bool.{false≢true}
use Rattle.assignment.specs.ChooseLaws.{higher-none, higher-first, higher_compared}
use Rattle.assignment.proofs.choice.higher.Goals as goal
use Rattle.assignment.proofs.choice.higher.Goals.{then-a-eq0, else-a-eq0+then-b-ne0, else-a-eq0+else-b-ne0}

pub returns-then-scores-a : goal.returns-then-scores-a
returns-then-scores-a c =
    elim c.if-a-eq0.branch [
      | then-a-eq0 w ↦ higher-first _ _ _ w.if-a-eq0.true
      | else-a-eq0+then-b-ne0 w ↦ higher_compared _ _ _ true w.if-b-ne0.true w.if-a-eq0.false (sym w.value-is ∙ c.if-scores-a.true)
      | else-a-eq0+else-b-ne0 w ↦ absurd (false≢true (sym (ap not (eq-eqb _ _ w.if-b-ne0.false)) ∙ sym w.value-is ∙ c.if-scores-a.true))
    ]

pub returns-else-scores-a : goal.returns-else-scores-a
returns-else-scores-a c =
    elim c.if-a-eq0.branch [
      | then-a-eq0 w ↦ absurd (false≢true (sym c.if-scores-a.false ∙ w.value-is ∙ eq-eqb _ _ w.if-a-eq0.true))
      | else-a-eq0+then-b-ne0 w ↦ higher_compared _ _ _ false w.if-b-ne0.true w.if-a-eq0.false (sym w.value-is ∙ c.if-scores-a.false)
      | else-a-eq0+else-b-ne0 w ↦ higher-none _ _ _ w.if-b-ne0.false
    ]
