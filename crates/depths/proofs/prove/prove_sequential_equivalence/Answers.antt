-- `depths::prove::prove_sequential_equivalence` meets its contract: what comes before query 1 of depth 1 decides, or the depths do. Assumes nothing.
use Rattle.std.proofs.Common.{rules}
use Rattle.queries.specs.Querying.{stands_for_kept}
use Rattle.depths.specs.Beginning.{provable_kept, decided-first, deepened}
use Rattle.depths.proofs.prove.prove_sequential_equivalence.Goals as goal

pub deepen-requires : goal.deepen-requires
deepen-requires c =
    provable_kept _ _ _ _ _ _ _ _ _ c.requires c.before_query_1-begun.ensures.kept (search rules) (search rules) (search rules)

pub returns-in-Continue : goal.returns-in-Continue
returns-in-Continue c =
    let e = c.before_query_1-begun.ensures in
    deepened _ _ _ _ _ _ _ _ _ c.requires.some e _ c.in-Continue.is (stands_for_kept _ _ _ c.requires.paired e.kept) _ _ c.deepen.ensures

pub returns-in-Break : goal.returns-in-Break
returns-in-Break c =
    decided-first _ _ _ _ _ _ _ _ _ c.requires.some c.before_query_1-begun.ensures _ c.in-Break.is
