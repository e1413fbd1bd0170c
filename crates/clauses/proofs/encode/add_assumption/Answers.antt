-- `add_assumption` meets its contract: by whether the literal is a constant. Assumes nothing.
use Rattle.std.proofs.Common.{◌*◌, arith}
use Rattle.clauses.specs.AssumptionLaws.{assume_false, assume_true, assume_literal}
use Rattle.clauses.specs.PoolLaws.{sorted-one}
use Rattle.clauses.proofs.encode.add_assumption.Goals as goal

pub add_literals-requires : goal.add_literals-requires
add_literals-requires c =
    let a = c.args in
    let r = c.requires.0 in
    (record { sound = r.sound; clauses = r.clauses; literals = r.literals; scores = r.scores }, sorted-one (a.t.variables * 2) a.l.0 c.requires.1)

pub returns-in-FALSE : goal.returns-in-FALSE
returns-in-FALSE c =
    let a = c.args in
    assume_false a.e a.t a.words.now a.scores.now a.l.0 c.requires.0 (omega (arith, c.in-FALSE))

pub returns-in-TRUE : goal.returns-in-TRUE
returns-in-TRUE c =
    let a = c.args in
    assume_true a.e a.t a.words.now a.scores.now a.l.0 c.requires.0 (omega (arith, c.in-TRUE))

pub returns-in_default : goal.returns-in_default
returns-in_default c =
    let a = c.args in
    assume_literal a.e a.t a.words.now a.scores.now a.l.0 c.requires.0 (λ e. omega (arith, c.in_default)) (λ e. omega (arith, c.in_default)) _ _ _ c.add_literals.ensures
