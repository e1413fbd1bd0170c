-- `encode` meets its contract: the new solver, then the nodes' clauses, then the assumptions'. Assumes nothing.
use Rattle.clauses.specs.StartLaws.{nodes-asked, encoded}
use Rattle.clauses.proofs.start.encode.Goals as goal

pub add_nodes-store-requires : goal.add_nodes-store-requires
add_nodes-store-requires c =
    let a = c.args in
    nodes-asked a.variables a.words.now a.scores.now a.assumptions.now a.count c.requires c.new-trail.result _ c.new-trail.ensures _ c.clear_scores.ensures _ _ c.clear_watches-empty.ensures

pub returns : goal.returns
returns c =
    let a = c.args in
    encoded a.variables a.words.now a.scores.now a.assumptions.now a.count c.requires c.new-trail.result _ c.new-trail.ensures _ c.clear_scores.ensures _ _ c.clear_watches-empty.ensures _ _ _ c.add_nodes-store.ensures.0 c.add_nodes-store.ensures.1 _ _ _ c.add_assumptions-encoding.ensures.0 c.add_assumptions-encoding.ensures.1
