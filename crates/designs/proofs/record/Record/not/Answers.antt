-- `not` writes its kind, then its input. Assumes nothing.
use Rattle.std.proofs.Common.{[], ◌∷◌}
use Rattle.designs.specs.WrittenLaws.{kept_then}
use Rattle.designs.proofs.record.Record.not.Goals as goal

pub returns-clause-bytes : goal.returns-clause-bytes
returns-clause-bytes c =
    kept_then _ _ _ (16 ∷ []) _ c.node-number.ensures.bytes c.two.ensures.bytes
