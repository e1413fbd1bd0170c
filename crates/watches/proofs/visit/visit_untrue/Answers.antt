-- `visit_untrue` meets its contract: by the spare literal of the clause. Assumes nothing.
use Rattle.std.proofs.Common.{◌≡◌, arith}
use Rattle.clauses.specs.Clauses.{clause_at, half}
use Rattle.clauses.specs.State.{clause_of}
use Rattle.watches.specs.VisitLaws.{clause_there, is-clause, watchable, untrue_found, untrue_none}
use Rattle.watches.proofs.visit.visit_untrue.Goals as goal
use Rattle.watches.proofs.visit.visit_untrue.Goals.{After-clause-c}

-- the clause that was read is that of the cell
whole : (c : After-clause-c) → let a = c.args in clause_of c.clause-c.result a.words.now ≡ clause_at a.words.now (half a.d.cell)
whole c =
    let a = c.args in
    is-clause a.store a.t a.words.now a.d c.requires.0 c.clause-c.result c.clause-c.ensures.0 c.clause-c.ensures.2 c.clause-c.ensures.3

pub clause-c-requires : goal.clause-c-requires
clause-c-requires c =
    let a = c.args in
    let h = clause_there a.store a.t a.words.now a.d c.requires.0 in
    (c.requires.0.sound.formed.ready.words, omega (arith, h, c.requires.0.sound.formed.clauses))

pub replacement-requires : goal.replacement-requires
replacement-requires c =
    let a = c.args in
    watchable a.store a.t a.words.now a.d c.requires.0 c.clause-c.result c.clause-c.ensures.0 c.clause-c.ensures.2 c.clause-c.ensures.3 c.clause-c.ensures.1

pub returns-in-Some : goal.returns-in-Some
returns-in-Some c =
    let a = c.args in
    let e = c.replacement.ensures.is in
    (c.replace_watch.ensures.0, λ v. untrue_found a.store a.t a.words.now a.d a.f.0 a.slot _ (rw (c.in-Some.is, c.clause-c.ensures.0, whole (goal.at.returns-in-Some c).After-clause-c) at e) v _ (c.replace_watch.ensures.1 v))

pub returns-in-None : goal.returns-in-None
returns-in-None c =
    let a = c.args in
    let e = c.replacement.ensures.is in
    (c.visit_enqueued.ensures.0, λ v. untrue_none a.store a.t a.words.now a.d a.f.0 a.slot (rw (c.in-None.is, whole (goal.at.returns-in-None c).After-clause-c) at e) a.other.0 c.requires.3 v _ (c.visit_enqueued.ensures.1 v))
