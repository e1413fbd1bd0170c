-- `initialize_unit` meets its contract: by whether the clause has one literal. Assumes nothing.
use Rattle.std.proofs.Common.{refl}
use Rattle.watches.specs.UnitLaws.{unit_clause, unit_skipped}
use Rattle.watches.proofs.units.initialize_unit.Goals as goal

pub returns-then-start-c : goal.returns-then-start-c
returns-then-start-c c =
    let a = c.args in
    unit_clause a.store a.t a.words.now a.id c.requires.0 c.requires.1 c.clause-c.result c.clause-c.ensures.0 c.clause-c.ensures.1 c.if-start-c.true _ c.load.ensures _ _ _ refl c.enqueue.ensures

pub returns-else-start-c : goal.returns-else-start-c
returns-else-start-c c =
    let a = c.args in
    unit_skipped a.store a.t a.words.now a.id c.requires.0 c.requires.1 c.clause-c.result c.clause-c.ensures.0 c.clause-c.ensures.1 c.if-start-c.false
