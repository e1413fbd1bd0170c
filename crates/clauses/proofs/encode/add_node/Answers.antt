-- `add_node` meets its contract: by whether the node is a conjunction. Assumes nothing.
use Rattle.std.proofs.Common.{◌*◌, ap, sym, ◌∙◌, eqb-true}
use Rattle.std.proofs.lemmas.Bool.{eqb-false}
use Rattle.model.specs.Aig.{Node}
use Rattle.clauses.specs.GateLaws.{node-none, node-is}
use Rattle.clauses.specs.State.{solver_of, scored}
use Rattle.model.specs.Sat as Sat
use Rattle.clauses.proofs.encode.add_node.Goals as goal

pub returns-then-eq : goal.returns-then-eq
returns-then-eq c =
    let a = c.args in
    node-none a.store a.t a.words.now a.scores.now a.i _ c.fetch.ensures c.requires.0 (eqb-true _ _ (sym c.if-eq.ensures))

pub returns : goal.returns
returns c =
    let a = c.args in (
      c.add_and.ensures.0,
      λ v. (rw c.of.ensures at (c.add_and.ensures.1 v)) ∙ ap (λ (y : Node). Sat.add_node (solver_of (scored v a.t.variables a.scores.now) a.store a.t a.words.now) (a.i * 2) y) (sym (node-is a.store a.t a.words.now a.scores.now a.i _ c.fetch.ensures _ c.fetch-2.ensures (eqb-false _ _ (sym c.if-eq.ensures)))),
    )
