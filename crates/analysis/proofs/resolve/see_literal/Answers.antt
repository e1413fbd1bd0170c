-- `see_literal` meets its contract: by whether the literal is skipped. Assumes nothing.
use Rattle.std.proofs.Common.{sym, ◌∙◌}
use Rattle.analysis.specs.SeeLaws.{sees_not, sees_it, seen_of_lem}
use Rattle.analysis.proofs.resolve.see_literal.Goals as goal

pub returns-then-skipped : goal.returns-then-skipped
returns-then-skipped c =
    sees_not _ _ _ _ _ _ c.requires.0 (sym c.if-skipped.true ∙ c.skipped.ensures _ (seen_of_lem _ _ _ _))

pub returns-else-skipped : goal.returns-else-skipped
returns-else-skipped c =
    sees_it _ _ _ _ _ _ _ _ _ (sym c.if-skipped.false ∙ c.skipped.ensures _ (seen_of_lem _ _ _ _)) c.see_variable.ensures
