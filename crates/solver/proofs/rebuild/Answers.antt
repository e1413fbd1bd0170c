-- `rebuild` meets its contract. The invariant: the words hold the graph of the pairs passed. Assumes nothing.
use Rattle.std.proofs.Common.{◌≡◌, refl, arith, rules}
use Rattle.solver.specs.QueryLaws.{partly_none, partly_more, partly_refused, refused, rebuilt-all}
use Rattle.solver.proofs.rebuild.Goals as goal

pub loop-i-init : goal.loop-i-init
loop-i-init c = let n = c.new-aig.ensures in (search rules, partly_none _ _ _ n.0 n.1 n.2)

pub returns-then-lhs-bound : goal.returns-then-lhs-bound
returns-then-lhs-bound c =
    let l = c.loop-i in
    refused (partly_refused _ l.i _ _ l.invariant.1 _ _ refl refl (λ p q. omega arith) _ (omega arith)) (search rules)

pub returns-then-rhs-bound : goal.returns-then-rhs-bound
returns-then-rhs-bound c =
    let l = c.loop-i in
    refused (partly_refused _ l.i _ _ l.invariant.1 _ _ refl refl (λ p q. omega arith) _ (omega arith)) (search rules)

pub with_node-aig-requires : goal.with_node-aig-requires
with_node-aig-requires c =
    let l = c.loop-i in
    record { standing = l.invariant.1.standing; room = omega (arith, l.invariant.1.few); lhs = search rules; rhs = search rules }

pub loop-i-preserved : goal.loop-i-preserved
loop-i-preserved c =
    let l = c.loop-i in
    (search rules, partly_more _ l.i _ _ l.invariant.1 _ _ refl refl (omega arith) (omega arith) _ _ c.with_node-aig.ensures)

pub returns : goal.returns
returns c =
    let l = c.loop-i in
    let e : l.i ≡ c.args.count = omega arith in
    rebuilt-all _ _ _ _ _ l.invariant.1 e (omega (arith, l.invariant.1.few))

pub overflow_mul-bound : goal.overflow_mul-bound
overflow_mul-bound c = omega (arith, c.loop-i.invariant.1.few)
