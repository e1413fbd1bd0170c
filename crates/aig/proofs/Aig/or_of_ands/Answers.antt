-- `aig::Aig::or_of_ands` meets its contract. Assumes nothing.
use Rattle.aig.specs.Operations.{made-or_of_ands}
use Rattle.aig.proofs.Aig.or_of_ands.Goals as goal

pub returns : goal.returns
returns c =
    made-or_of_ands _ _ _ _ _ _ _ _ _ _ _ _ _ _ _ c.and-first.ensures c.and-second.ensures c.or.ensures
