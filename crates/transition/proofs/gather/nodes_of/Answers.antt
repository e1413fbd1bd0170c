-- `nodes_of` meets its contract. Assumes nothing.
use Rattle.std.proofs.Common.{◌≡◌, arith, rules, take, get_or, length-take, get_or-take}
use Rattle.model.specs.Literal.{node}
use Rattle.transition.proofs.gather.nodes_of.Goals as goal

pub returns : goal.returns
returns c = record {
  at = λ i h.
      let xs = c.args.literals in
      let p = c.of_each.ensures i 0 (omega (arith, length-take c.args.count xs)) in
      let e : get_or c.of_each.result i 0 ≡ node (get_or (take c.args.count xs) i 0) = search rules in
      rw get_or-take at e;
}
