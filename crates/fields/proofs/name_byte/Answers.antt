-- `fields::name_byte` meets its contract. Assumes nothing.
use Rattle.std.proofs.Common.{le-leb}
use Rattle.std.proofs.lemmas.Bool.{lt-leb}
use Rattle.model.specs.Record.{name_byte}
use Rattle.fields.proofs.name_byte.Goals as goal

pub returns-then-byte-ge33 : goal.returns-then-byte-ge33
unfolding name_byte
returns-then-byte-ge33 c = rw (le-leb 33 c.args.byte c.if-byte-ge33.true)

pub returns-else-byte-ge33 : goal.returns-else-byte-ge33
unfolding name_byte
returns-else-byte-ge33 c = rw (lt-leb 33 c.args.byte c.if-byte-ge33.false)
