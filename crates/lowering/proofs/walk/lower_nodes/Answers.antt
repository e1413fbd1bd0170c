-- `lower_nodes` takes node after node, each with its entry in the table of drivers. Assumes nothing.
use Rattle.std.proofs.Common.{◌≡◌, ◌<◌, arith, length, length-take, get_or-take}
use Rattle.lowering.specs.Nodes.{walking_none, walking_more}
use Rattle.lowering.proofs.walk.lower_nodes.Goals as goal

pub loop-i-init : goal.loop-i-init
loop-i-init c = walking_none _ _ _ c.requires.0

pub loop-i-preserved : goal.loop-i-preserved
loop-i-preserved c =
    let l = c.loop-i in
    let room : length c.args.netlist.nodes ≡ 1024 = omega arith in
    let n = c.args.netlist in
    let h : l.i < n.node_count = omega (arith, length-take n.node_count n.nodes) in
    walking_more _ _ _ l.i _ _ _ _ _ h (omega (arith, room, c.requires.2.nodes)) l.invariant
    (rw (get_or-take n.node_count n.nodes l.i _ h) at c.lower_node-aig.ensures)

pub returns : goal.returns
returns c =
    let l = c.loop-i in
    let n = c.args.netlist in
    let e : l.i ≡ n.node_count = omega (arith, length-take n.node_count n.nodes, c.requires.2.nodes) in
    rw e at l.invariant
