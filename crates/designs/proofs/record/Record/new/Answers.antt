-- `new` writes the nineteen bytes one after another. Assumes nothing.
use Rattle.std.proofs.Common.{refl}
use Rattle.designs.specs.Written.{name_bytes}
use Rattle.designs.proofs.record.Record.new.Goals as goal

pub returns-clause-bytes : goal.returns-clause-bytes
unfolding name_bytes
returns-clause-bytes c =
    rw c.input-2.ensures.bytes
    (rw c.input.ensures.bytes
    (rw c.two-3.ensures.bytes
    (rw c.name.ensures.bytes
    (rw c.two-2.ensures.bytes
    (rw c.two.ensures.bytes
    (rw c.byte.ensures.bytes refl))))))
