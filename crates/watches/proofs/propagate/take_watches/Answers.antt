-- `take_watches` meets its contract: by whether there is a queue. Assumes nothing.
use Rattle.watches.specs.PropagateLaws.{take_none, take-some}
use Rattle.watches.proofs.propagate.take_watches.Goals as goal

pub returns-then-t-l : goal.returns-then-t-l
returns-then-t-l c =
    let a = c.args in
    take_none a.store a.t a.words.now a.f.0 c.requires c.if-t-l.true

pub returns : goal.returns
returns c =
    let a = c.args in
    take-some a.store a.t a.words.now a.f.0 c.requires c.if-t-l.false _ c.put.ensures.0 _ c.load-cell.ensures c.load-left.ensures
