-- `netlist_checks::names::repeated` meets its contract. Assumes nothing.
use Rattle.std.proofs.Common.{◌∙◌, arith}
use Rattle.netlist_checks.specs.SeenLaws.{some-name}
use Rattle.netlist_checks.proofs.names.repeated.Goals as goal

pub returns : goal.returns
returns c = let a = c.args in c.names_place.ensures ∙ some-name a.bytes.now _ a.places.now a.count (omega arith)
