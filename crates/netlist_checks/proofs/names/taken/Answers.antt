-- `netlist_checks::names::taken` meets its contract. Assumes nothing.
use Rattle.std.proofs.Common.{◌∙◌, arith}
use Rattle.netlist_checks.specs.SeenLaws.{some-number}
use Rattle.netlist_checks.proofs.names.taken.Goals as goal

pub returns : goal.returns
returns c = let a = c.args in c.contains.ensures.value ∙ some-number a.number a.numbers.now a.count (omega arith)
