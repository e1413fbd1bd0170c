-- `add_and` meets its contract: the three clauses, each in sorted order. Assumes nothing.
use Rattle.clauses.specs.GateLaws.{first-asked, second-asked, third-asked, gate_added}
use Rattle.clauses.proofs.encode.add_and.Goals as goal

pub add_literals-first-requires : goal.add_literals-first-requires
add_literals-first-requires c =
    let a = c.args in
    first-asked a.store a.t a.words.now a.scores.now a.out.0 a.lhs.0 a.rhs.0 c.requires.0 c.requires.1 _ c.negate-not_out.ensures

pub add_literals-second-requires : goal.add_literals-second-requires
add_literals-second-requires c =
    let a = c.args in
    second-asked a.store a.t a.words.now a.scores.now a.out.0 a.lhs.0 a.rhs.0 c.requires.0 c.requires.1 _ c.negate-not_out.ensures _ _ _ c.add_literals-first.ensures

pub add_literals-requires : goal.add_literals-requires
add_literals-requires c =
    let a = c.args in
    third-asked a.store a.t a.words.now a.scores.now a.out.0 a.lhs.0 a.rhs.0 c.requires.0 c.requires.1 _ c.negate-not_out.ensures _ _ _ c.add_literals-first.ensures _ _ _ c.add_literals-second.ensures _ _ c.negate.ensures c.negate-2.ensures

pub returns : goal.returns
returns c =
    let a = c.args in
    gate_added a.store a.t a.words.now a.scores.now a.out.0 a.lhs.0 a.rhs.0 c.requires.0 c.requires.1 _ c.negate-not_out.ensures _ _ _ c.add_literals-first.ensures _ _ _ c.add_literals-second.ensures _ _ c.negate.ensures c.negate-2.ensures _ _ _ c.add_literals.ensures
