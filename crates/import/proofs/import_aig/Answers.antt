-- `import::import_aig` meets its contract. Assumes nothing.
use Rattle.std.proofs.Common.{arith}
use Rattle.import.specs.Importing.{importable, importing_more, importing_first}
use Rattle.import.proofs.import_aig.Goals as goal

pub loop-i-init : goal.loop-i-init
loop-i-init c w e s = rw e (importing_first _ _ _ _ s.low s.high s.ordered s.small s.ready)

pub import_node-aig-requires : goal.import_node-aig-requires
import_node-aig-requires c =
    let s = c.requires in
    importable _ _ _ _ s.low s.high s.ordered s.small _ _ _ (omega arith) c.loop-i-test.true s.room s.given
    (c.loop-i.invariant _ c.stash.ensures.0 s)

pub loop-i-preserved : goal.loop-i-preserved
loop-i-preserved c w e s =
    importing_more _ _ _ _ s.low s.high s.ordered s.small _ _ _ _ _ (omega arith) c.loop-i-test.true (c.loop-i.invariant w e s) c.import_node-aig.ensures
