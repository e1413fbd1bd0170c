-- `fields::inputs_per_kind` meets its contract: the quotient is the definition's. Assumes nothing.
use Rattle.std.proofs.Common.{refl}
use Rattle.model.specs.Record.{inputs_per_kind}
use Rattle.fields.proofs.inputs_per_kind.Goals as goal

pub returns : goal.returns
unfolding inputs_per_kind
returns c = refl
