-- `start_literals` meets its contract. Assumes nothing.
use Rattle.std.proofs.Common.{arith, rules}
use Rattle.struo_ir.specs.Orders.{no_entry}
use Rattle.transition.specs.Gather.{gathered_taken}
use Rattle.transition.specs.Start.{starts_made}
use Rattle.transition.proofs.starts.start_literals.Goals as goal

pub returns : goal.returns
returns c =
    starts_made c.args.design _ _ c.requires
    (gathered_taken _ _ _ _ (omega (arith, c.requires.fits, c.requires.long)) (λ i h. let p = c.of_each.ensures i no_entry h in search rules))
