-- `is_current` meets its contract: by the value of the variable that the word names. Assumes nothing.
use Rattle.std.proofs.Common.{arith, eqb-true}
use Rattle.assignment.specs.ChooseLaws.{current-free}
use Rattle.assignment.proofs.choice.is_current.Goals as goal

pub returns-in_default : goal.returns-in_default
returns-in_default c e =
    current-free _ _ _ _ (omega arith) c.load_below.ensures (eqb-true _ _ e)
