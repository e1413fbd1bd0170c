-- `add_nodes` meets its contract. The invariant: the nodes that are left are to be added, and there is room for them. Assumes nothing.
use Rattle.std.proofs.Common.{rules}
use Rattle.clauses.specs.GateLaws.{node-step, nodes-done}
use Rattle.clauses.proofs.encode.add_nodes.Goals as goal

pub loop-i-preserved : goal.loop-i-preserved
loop-i-preserved c =
    let l = c.loop-i in
    let a = c.args in
    (search rules, search rules, node-step a.t a.start a.words.now a.scores.now c.requires.0 l.store l.words l.scores l.i l.invariant.2 c.loop-i-test.true _ _ _ c.add_node-store.ensures.0 c.add_node-store.ensures.1)

pub returns : goal.returns
returns c =
    let l = c.loop-i in
    let a = c.args in
    nodes-done a.t a.start a.words.now a.scores.now c.requires.0 l.store l.words l.scores l.i l.invariant.2 c.loop-i-test.false
