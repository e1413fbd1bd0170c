-- `register` writes name, output and data, then the nine bytes behind them. Assumes nothing.
use Rattle.designs.specs.WrittenLaws.{kept_then}
use Rattle.designs.proofs.record.Record.register.Goals as goal

pub returns-clause-bytes : goal.returns-clause-bytes
returns-clause-bytes c =
    kept_then _ _ _ _ _ (kept_then _ _ _ _ _ (kept_then _ _ _ _ _ c.name.ensures.bytes c.two.ensures.bytes) c.two-2.ensures.bytes) c.put.ensures.bytes
