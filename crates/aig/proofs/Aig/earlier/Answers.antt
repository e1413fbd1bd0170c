-- `aig::Aig::earlier` meets its contract. Assumes nothing.
use Rattle.std.proofs.Common.{◌≡◌, refl, ap, sym, ◌∙◌, ℕ, ◌<◌, arith}
use Rattle.words.specs.Layout.{GRAPH-LHS, GRAPH-RHS}
use Rattle.words.specs.Region.{region}
use Rattle.aig.specs.Index.{chained}
use Rattle.aig.specs.Lookup.{Link, chained_hit, chained_miss, chained-end, link_head, link_next, link_found}
use Rattle.aig.specs.Shortcut.{found-some, found-none}
use Rattle.aig.proofs.Aig.earlier.Goals as goal
use Rattle.aig.proofs.Aig.earlier.Goals.{After-fetch-at, After-fetch-at-in-loop-at}

-- the chain's head, where the loop begins
head : (c : After-fetch-at) → Link c.args.words.now c.args.lhs c.args.rhs c.args.self.count c.fetch-at.result
head c = link_head c.args.self.count _ c.requires.0 _ _ c.requires.1 c.requires.2 _ c.fetch-at.ensures

-- the node after the one in hand
next : (c : After-fetch-at-in-loop-at) → Link c.args.words.now c.args.lhs c.args.rhs c.args.self.count c.fetch-at.result
    → Link c.args.words.now c.args.lhs c.args.rhs c.loop-at.at c.fetch-at-in-loop-at.result
next c k =
    let l = c.loop-at in
    let p : 0 < l.at = omega arith in
    link_next c.args.self.count _ c.requires.0 _ _ c.requires.1 l.at _ p (omega (arith, k.earlier)) (l.invariant.1 p) c.fetch-at-in-loop-at.ensures

pub loop-at-init : goal.loop-at-init
loop-at-init c = (omega arith, (head c).has, refl)

pub returns-then-fetch-lhs : goal.returns-then-fetch-lhs
returns-then-fetch-lhs c =
    let l = c.loop-at in
    let k = head (goal.at.returns-then-fetch-lhs c).After-fetch-at in
    let p : 0 < l.at = omega arith in
    record {
      found = found-some l.at p ∙ link_found _ _ c.requires.0 _ _ c.requires.1 c.fetch-at.result l.at k (sym (chained_hit _ _ _ _ _ p (sym c.fetch.ensures ∙ c.if-fetch-lhs.true)) ∙ l.invariant.2);
      below = (p, omega (arith, k.earlier));
    }

pub loop-at-smaller : goal.loop-at-smaller
loop-at-smaller c = (next c (head (goal.at.loop-at-smaller c).After-fetch-at)).earlier

pub loop-at-preserved : goal.loop-at-preserved
loop-at-preserved c =
    let l = c.loop-at in
    let k = next c (head (goal.at.loop-at-preserved c).After-fetch-at) in
    let p : 0 < l.at = omega arith in
    (omega (arith, k.earlier), k.has, k.finds ∙ sym (chained_miss _ _ _ _ _ p (λ x. c.if-fetch-lhs.false (c.fetch.ensures ∙ x))) ∙ l.invariant.2)

pub returns-clause-found : goal.returns-clause-found
returns-clause-found c =
    let l = c.loop-at in
    let e : l.at ≡ 0 = omega arith in
    found-none ∙ link_found _ _ c.requires.0 _ _ c.requires.1 c.fetch-at.result 0 (head (goal.at.returns-clause-found c).After-fetch-at) (sym (chained-end _ _ _ _) ∙ ap (λ (i : ℕ). chained (region GRAPH-LHS c.args.words.now) (region GRAPH-RHS c.args.words.now) c.args.lhs c.args.rhs i) (sym e) ∙ l.invariant.2)
