-- `output` writes its kind, its name and its input. Assumes nothing.
use Rattle.std.proofs.Common.{[], ◌∷◌}
use Rattle.designs.specs.Written.{name_bytes}
use Rattle.designs.specs.WrittenLaws.{kept_then}
use Rattle.designs.proofs.record.Record.output.Goals as goal

pub returns-clause-bytes : goal.returns-clause-bytes
returns-clause-bytes c =
    kept_then _ _ _ (17 ∷ name_bytes c.args.name) _ (kept_then _ _ _ (17 ∷ []) _ c.node.ensures.bytes c.name.ensures.bytes) c.two.ensures.bytes
