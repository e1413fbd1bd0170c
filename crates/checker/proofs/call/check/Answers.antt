-- `check` answers the refusal of a record, or checks the pair. Assumes nothing.
use Rattle.model.specs.Check.{check}
use Rattle.pair.specs.PairReadingLaws.{pair-refused, pair-accepted}
use Rattle.checker.specs.ResultLaws.{read-refused, read-accepted}
use Rattle.checker.proofs.call.check.Goals as goal

pub returns-in-Err : goal.returns-in-Err
unfolding check
returns-in-Err c =
    let a = c.args in
    read-refused _ _ _ _ _ _ _ _ _ (pair-refused a.gold.now a.gate.now c.read_pair-read.result c.read_pair-read.ensures _ c.in-Err.is) c.from.ensures

pub returns-in-Ok : goal.returns-in-Ok
unfolding check
returns-in-Ok c =
    let a = c.args in
    read-accepted _ _ _ _ _ _ _ _ _ _ (pair-accepted a.gold.now a.gate.now c.read_pair-read.result c.read_pair-read.ensures _ c.in-Ok.is) c.check_pair.ensures
