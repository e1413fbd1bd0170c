-- `gate` writes its kind, then its two inputs. Assumes nothing.
use Rattle.std.proofs.Common.{[], ◌∷◌}
use Rattle.std.specs.Int.{w16, to_be_bytes}
use Rattle.designs.specs.Written.{written}
use Rattle.designs.specs.WrittenLaws.{kept_then}
use Rattle.designs.proofs.record.Record.gate.Goals as goal

pub returns-clause-bytes : goal.returns-clause-bytes
returns-clause-bytes c =
    kept_then _ _ _ (c.args.kind ∷ to_be_bytes w16 c.args.x) _ (kept_then (written c.args.self.now) (written c.node-number.new.self) _ (c.args.kind ∷ []) _ c.node-number.ensures.bytes c.two.ensures.bytes) c.two-2.ensures.bytes
