-- `zero` writes its kind, then its value. Assumes nothing.
use Rattle.std.proofs.Common.{[], ◌∷◌}
use Rattle.designs.specs.WrittenLaws.{kept_then}
use Rattle.designs.proofs.record.Record.zero.Goals as goal

pub returns-clause-bytes : goal.returns-clause-bytes
returns-clause-bytes c =
    kept_then _ _ _ (1 ∷ []) _ c.node-number.ensures.bytes c.byte.ensures.bytes
