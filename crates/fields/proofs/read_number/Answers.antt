-- `fields::read_number` meets its contract. Assumes nothing.
use Rattle.std.proofs.Common.{arith}
use Rattle.model.specs.Record.{refuse}
use Rattle.calls.specs.Faults.{refusal}
use Rattle.fields.specs.FieldLaws.{number_cut, number-got}
use Rattle.fields.specs.Fields.{step_of}
use Rattle.fields.proofs.read_number.Goals as goal

pub returns-then-i-bytes : goal.returns-then-i-bytes
unfolding step_of
returns-then-i-bytes c = number-got _ _ _ (omega arith) c.from_be_bytes.ensures

pub returns-else-i-bytes : goal.returns-else-i-bytes
unfolding step_of refuse refusal
returns-else-i-bytes c = rw c.at.ensures (number_cut _ _ (omega arith))
