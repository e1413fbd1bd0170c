-- `name` writes how many letters, then these. Assumes nothing.
use Rattle.std.proofs.Common.{[], ◌∷◌}
use Rattle.designs.specs.Written.{name_bytes}
use Rattle.designs.specs.WrittenLaws.{kept_then}
use Rattle.designs.proofs.record.Record.name.Goals as goal

pub returns-in-Word-clause-bytes : goal.returns-in-Word-clause-bytes
unfolding name_bytes
returns-in-Word-clause-bytes c = rw c.in-Word.is (kept_then _ _ _ (_ ∷ []) _ c.byte.ensures.bytes c.put.ensures.bytes)
