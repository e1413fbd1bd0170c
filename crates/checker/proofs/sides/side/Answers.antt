-- `side` lowers one side. Assumes nothing.
use Rattle.checker.specs.SideLaws.{lowerable}
use Rattle.checker.proofs.sides.side.Goals as goal

pub system-requires : goal.system-requires
system-requires c =
    let p = c.requires in
    lowerable c.args.design.now c.args.base _ p.0 p.1 p.2 p.3 p.4 p.5 p.6
