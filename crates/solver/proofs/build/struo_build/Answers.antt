-- `struo_build` meets its contract: 0, or the size of the graph of an accepted record. Assumes nothing.
use Rattle.struo_ir.specs.Reading.{outcome_of, PaddedWhere}
use Rattle.solver.specs.Built.{read_short, read-refused, read-accepted}
use Rattle.solver.proofs.build.struo_build.Goals as goal

pub returns-then-words-lt-LENT : goal.returns-then-words-lt-LENT
returns-then-words-lt-LENT c = read_short _ _ c.if-words-lt-LENT.true

pub build-requires : goal.build-requires
unfolding PaddedWhere
build-requires c =
    let p = c.in-Ok.ensures.padded in
    (c.if-words-lt-LENT.false, record { nodes = p.nodes_padded.fits; registers = p.registers_padded.fits })

pub returns-in-Err : goal.returns-in-Err
unfolding outcome_of
returns-in-Err c = read-refused _ _ c.if-words-lt-LENT.false _ c.in-Err.ensures.reads

pub returns-in-Ok : goal.returns-in-Ok
unfolding outcome_of
returns-in-Ok c = read-accepted _ _ c.if-words-lt-LENT.false c.args.«record».now _ c.in-Ok.ensures.reads _ _ c.build.ensures
