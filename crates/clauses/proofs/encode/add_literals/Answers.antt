-- `add_literals` meets its contract. The invariant: the literals so far are in the pool. Assumes nothing.
use Rattle.std.proofs.Common.{◌≡◌, List, length, refl, sym, arith}
use Rattle.std.proofs.Math.ListN.{get_or-map}
use Rattle.std.proofs.lemmas.List.{length-map}
use Rattle.literals.specs.declared.Literal.{Literal}
use Rattle.clauses.specs.PoolLaws.{pooling_step, pooled_asked, pooled_added}
use Rattle.clauses.specs.State.{numbers}
use Rattle.clauses.proofs.encode.add_literals.Goals as goal

as-many : (ls : List Literal) → length (numbers ls) ≡ length ls
as-many ls = length-map ls (λ (l : Literal). l.0)

pub loop-i-preserved : goal.loop-i-preserved
loop-i-preserved c =
    let a = c.args in
    let l = c.loop-i in
    let k = as-many a.literals.now in
    (refl, pooling_step a.store a.t a.words.now (numbers a.literals.now) l.i _ l.words _ l.invariant.1 (omega arith) (sym (get_or-map (λ (x : Literal). x.0) a.literals.now l.i (record { 0 = 0 }))) c.push_literal.ensures c.push_literal.auto.words)

pub add_clause-requires : goal.add_clause-requires
add_clause-requires c =
    let a = c.args in
    let l = c.loop-i in
    let k = as-many a.literals.now in
    let e : l.i ≡ length (numbers a.literals.now) = omega (arith, l.invariant.1.inside, c.loop-i-test.false) in
    let p = rw e at l.invariant.1 in
    rw k at (pooled_asked a.store a.t a.words.now (numbers a.literals.now) l.words a.scores.now p (rw k c.requires.0) c.requires.1)

pub returns : goal.returns
returns c =
    let a = c.args in
    let l = c.loop-i in
    let k = as-many a.literals.now in
    let e : l.i ≡ length (numbers a.literals.now) = omega (arith, l.invariant.1.inside, c.loop-i-test.false) in
    let p = rw e at l.invariant.1 in
    pooled_added a.store a.t a.words.now (numbers a.literals.now) l.words a.scores.now p _ _ _ (rw k c.add_clause.ensures)
