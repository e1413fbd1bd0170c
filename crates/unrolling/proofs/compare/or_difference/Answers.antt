-- `unrolling::compare::or_difference` meets its contract. Assumes nothing.
use Rattle.unrolling.specs.Comparing.{difference_made}
use Rattle.unrolling.proofs.compare.or_difference.Goals as goal

pub returns : goal.returns
returns c =
    let a = c.args in
    difference_made _ _ _ _ _ _ _ _ _ _ _ c.xor-differs.ensures c.or.ensures
