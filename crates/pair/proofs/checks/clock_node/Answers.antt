-- `clock_node` is the node of the number, or one that is no Input. Assumes nothing.
use Rattle.std.proofs.Common.{◌≡◌, refl, arith, length}
use Rattle.pair.specs.PairCheckLaws.{clock_in, clock_out}
use Rattle.pair.proofs.checks.clock_node.Goals as goal

pub returns-then-clock-netlist : goal.returns-then-clock-netlist
returns-then-clock-netlist c =
    let a = c.args in
    let l : length a.netlist.now.nodes ≡ 1024 = omega arith in
    λ s. clock_in s a.netlist.now a.clock c.if-clock-netlist.true (omega arith)

pub returns-else-clock-netlist : goal.returns-else-clock-netlist
returns-else-clock-netlist c = let a = c.args in λ s. clock_out s a.netlist.now a.clock _ refl c.if-clock-netlist.false
