-- `matches` meets its contract. Assumes nothing.
use Rattle.std.proofs.Common.{arith, rules}
use Rattle.struo_ir.specs.Orders.{no_entry}
use Rattle.transition.specs.Gather.{gathered_taken}
use Rattle.transition.specs.Match.{matches-made}
use Rattle.transition.proofs.matches.matches.Goals as goal

pub returns : goal.returns
returns c =
    matches-made _ _ _ _ _ c.requires.0 c.requires.1
    (gathered_taken _ _ _ _ (omega (arith, c.requires.0.fits, c.requires.0.long)) (λ i h. let p = c.of_each.ensures i no_entry h in search rules))
