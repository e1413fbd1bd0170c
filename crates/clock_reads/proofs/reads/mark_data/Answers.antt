-- `mark_data` marks the data, then the two signals. Assumes nothing.
use Rattle.clock_reads.specs.ReadLaws.{data_marked}
use Rattle.clock_reads.proofs.reads.mark_data.Goals as goal

pub returns : goal.returns
returns c =
    let a = c.args in
    data_marked a.table.now _ _ _ a.cell c.mark.ensures c.mark_signal.ensures c.mark_signal-2.ensures
