-- `match_of` meets its contract. Assumes nothing.
use Rattle.std.proofs.Common.{◌≡◌, refl, sym, ◌∙◌, ◌<◌, arith, get_or, length-take, get_or-take}
use Rattle.name_order.specs.PlaceLaws.{length-held}
use Rattle.struo_ir.specs.Orders.{no_entry, held}
use Rattle.transition.specs.Match.{named, match_at, match_test, first-here, first-later, first-none}
use Rattle.struo_ir.specs.Decoded.{name_at}
use Rattle.transition.proofs.matches.match_of.Goals as goal
use Rattle.transition.proofs.matches.match_of.Goals.{After-same_name}

-- the test of the entry in hand
tested : (c : After-same_name) → let a = c.args in named (name_at a.gold.now a.place) a.gate.now (get_or (held a.order.now) c.loop-k.k no_entry) ≡ c.same_name.result
tested c =
    let k = c.loop-k.k in
    let o = c.args.order.now in
    let h : k < o.count = omega (arith, length-take o.count o.entries) in
    match_test _ c.args.place _ o k _ _ _ h c.from.ensures (rw (get_or-take o.count o.entries k _ h) at c.from-in-loop-k.ensures) c.same_name.ensures

pub loop-k-init : goal.loop-k-init
unfolding match_at
loop-k-init c = refl

pub returns-then-same_name : goal.returns-then-same_name
returns-then-same_name c =
    let l = c.loop-k in
    let o = c.args.order.now in
    sym (first-here _ (held o) l.k (omega (arith, length-held o c.requires, length-take o.count o.entries)) (tested (goal.at.returns-then-same_name c).After-same_name ∙ c.if-same_name.true)) ∙ l.invariant

pub loop-k-preserved : goal.loop-k-preserved
loop-k-preserved c =
    let l = c.loop-k in
    let o = c.args.order.now in
    sym (first-later _ (held o) l.k (omega (arith, length-held o c.requires, length-take o.count o.entries)) (tested (goal.at.loop-k-preserved c).After-same_name ∙ c.if-same_name.false)) ∙ l.invariant

pub returns : goal.returns
returns c =
    let l = c.loop-k in
    let o = c.args.order.now in
    sym (first-none _ (held o) l.k (omega (arith, length-held o c.requires, length-take o.count o.entries, c.requires.long, c.requires.fits))) ∙ l.invariant
