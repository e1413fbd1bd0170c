-- `initial_bit` goes by the reset's code. Assumes nothing.
use Rattle.std.proofs.Common.{sym, eq-eqb}
use Rattle.run.specs.RowLaws.{initial_none, initial_some}
use Rattle.run.proofs.run.initial_bit.Goals as goal

pub returns-then-cell-ne0 : goal.returns-then-cell-ne0
returns-then-cell-ne0 c = sym (initial_some c.args.cell c.if-cell-ne0.true)

pub returns-else-cell-ne0 : goal.returns-else-cell-ne0
returns-else-cell-ne0 c = rw (eq-eqb c.args.cell.reset 0 c.if-cell-ne0.false) (sym (initial_none c.args.cell c.if-cell-ne0.false))
