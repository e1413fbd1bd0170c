-- `skipped` meets its contract: by the resolved variable, the mark and the level. Assumes nothing.
use Rattle.std.proofs.Common.{sym, ◌∙◌, eq-eqb, eqb-true, rules}
use Rattle.std.proofs.lemmas.Bool.{false≢true, eqb-false}
use Rattle.analysis.specs.SeeLaws.{variable-low, skips_resolved, skips_seen, skips_level}
use Rattle.analysis.proofs.resolve.skipped.Goals as goal
use Rattle.analysis.proofs.resolve.skipped.Goals.{then-v-resolved, else-v-resolved}

pub load-requires : goal.load-requires
load-requires c =
    (c.requires.0.words, search rules, variable-low _ _ _ _ c.requires.0 c.requires.2 c.node-v.ensures)

pub load-requires-else-load-stamp : goal.load-requires-else-load-stamp
load-requires-else-load-stamp c =
    (c.requires.0.words, search rules, variable-low _ _ _ _ c.requires.0 c.requires.2 c.node-v.ensures)

pub returns-then-load-stamp : goal.returns-then-load-stamp
returns-then-load-stamp c = λ a e. c.if-load-stamp.true ∙ elim c.if-v-resolved.branch [
  | then-v-resolved w ↦ skips_resolved _ _ _ _ _ _ c.requires.1 c.requires.2 c.node-v.ensures a e w.if-v-resolved.true
  | else-v-resolved w ↦ skips_seen _ _ _ _ _ _ c.requires.1 c.requires.2 c.node-v.ensures a e w.if-v-resolved.false _ w.load.ensures (eqb-true _ _ (sym w.value-is ∙ c.if-load-stamp.true))
]

pub returns-else-load-stamp : goal.returns-else-load-stamp
returns-else-load-stamp c = λ a e. elim c.if-v-resolved.branch [
  | then-v-resolved w ↦ absurd (false≢true (sym c.if-load-stamp.false ∙ w.value-is ∙ eq-eqb _ _ w.if-v-resolved.true))
  | else-v-resolved w ↦
      skips_level _ _ _ _ _ _ c.requires.1 c.requires.2 c.node-v.ensures a e w.if-v-resolved.false _ w.load.ensures (eqb-false _ _ (sym w.value-is ∙ c.if-load-stamp.false)) _ c.load-else-load-stamp.ensures
]
