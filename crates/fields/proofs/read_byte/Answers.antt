-- `fields::read_byte` meets its contract. Assumes nothing.
use Rattle.std.proofs.Common.{arith}
use Rattle.model.specs.Record.{refuse}
use Rattle.calls.specs.Faults.{refusal}
use Rattle.fields.specs.FieldLaws.{byte_cut, byte-got}
use Rattle.fields.specs.Fields.{step_of}
use Rattle.fields.proofs.read_byte.Goals as goal

pub returns-then-i-bytes : goal.returns-then-i-bytes
unfolding step_of
returns-then-i-bytes c = byte-got _ _ (omega arith)

pub returns-else-i-bytes : goal.returns-else-i-bytes
unfolding step_of refuse refusal
returns-else-i-bytes c = rw c.at.ensures (byte_cut _ _ (omega arith))
