-- `see_variable` meets its contract: by whether the variable is of the current level. Assumes nothing.
use Rattle.std.proofs.Common.{rules}
use Rattle.analysis.specs.SeeLaws.{variable-low, sees_open, sees_learned}
use Rattle.analysis.proofs.resolve.see_variable.Goals as goal

pub put-requires : goal.put-requires
put-requires c =
    (search rules, search rules, variable-low _ _ _ _ c.requires.0.ready c.requires.1 c.node-v.ensures)

pub load-requires : goal.load-requires
load-requires c =
    (c.put.ensures.1, search rules, variable-low _ _ _ _ c.requires.0.ready c.requires.1 c.node-v.ensures)

pub returns-then-load-t : goal.returns-then-load-t
returns-then-load-t c =
    sees_open _ _ _ _ c.requires.0 c.requires.1 c.node-v.ensures c.bump_activity-activity.ensures c.put.ensures.0 _ c.load.ensures c.if-load-t.true c.put.ensures.1

pub returns : goal.returns
returns c =
    sees_learned _ _ _ _ c.requires.0 c.requires.1 c.node-v.ensures c.bump_activity-activity.ensures c.put.ensures.0 _ c.load.ensures
    _ c.if-load-t.false c.put-2.ensures.0 c.put.ensures.1 c.put-2.ensures.1
