-- `add_clause` meets its contract: the scores, then the clause. Assumes nothing.
use Rattle.std.proofs.Common.{refl, [], ◌∷◌}
use Rattle.words.specs.Layout.{BLOCKS}
use Rattle.clauses.specs.AddLaws.{added}
use Rattle.clauses.specs.KeptLaws.{attachable_kept}
use Rattle.clauses.proofs.add.add_clause.Goals as goal

pub attach-requires : goal.attach-requires
attach-requires c =
    attachable_kept (BLOCKS ∷ []) refl _ _ _ _ c.add_ones.ensures.frame _ c.add_ones.auto.words c.requires.0

pub returns : goal.returns
returns c =
    let a = c.args in
    added a.store a.t a.words.now _ a.scores.now a.count c.attach.result _ _ c.requires.2 c.add_ones.ensures c.attach.ensures
