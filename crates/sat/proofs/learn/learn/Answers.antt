-- `learn` meets its contract: the level, the sorted literals, backtracking, and the clause. Assumes nothing.
use Rattle.sat.specs.LearnLaws.{learn-asked, learns}
use Rattle.sat.proofs.learn.learn.Goals as goal

pub add_learned-next-requires : goal.add_learned-next-requires
add_learned-next-requires c =
    learn-asked _ _ _ _ _ _ c.requires _ _ c.sort_learned-start.ensures c.sort_learned-start.auto.words _ c.highest_level-level.ensures _ _ c.backtrack-back.ensures

pub returns : goal.returns
returns c =
    learns _ _ _ _ _ _ c.requires _ _ c.sort_learned-start.ensures c.sort_learned-start.auto.words _ c.highest_level-level.ensures _ _ c.backtrack-back.ensures _ _ _ c.add_learned-next.ensures
