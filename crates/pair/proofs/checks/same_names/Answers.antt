-- `same_names` compares name by name. Assumes nothing.
use Rattle.std.proofs.Common.{◌≡◌, refl, sym, ap, ap₂, ◌∙◌, ℕ, eqb, arith}
use Rattle.model.specs.Names.{same_name}
use Rattle.struo_ir.specs.Decoded.{name_at}
use Rattle.pair.specs.PairCheckLaws.{names_longer, names_apart, names_more, names-end}
use Rattle.pair.proofs.checks.same_names.Goals as goal

pub loop-k-init : goal.loop-k-init
loop-k-init c = (omega arith, refl)

pub returns-then-k-gate_order : goal.returns-then-k-gate_order
returns-then-k-gate_order c = let a = c.args in let p = c.requires in let t = c.loop-k in sym (t.invariant.1 ∙ names_longer a.gold.now a.gate.now a.gold_order.now a.gate_order.now t.k p.0 p.1 (omega arith) (omega arith))

pub returns-then-not-same_name : goal.returns-then-not-same_name
returns-then-not-same_name c =
    let a = c.args in
    let p = c.requires in
    let t = c.loop-k in
    let e = c.same_name.ensures ∙ ap₂ (λ (i j : ℕ). same_name (name_at a.gold.now i) (name_at a.gate.now j)) c.from.ensures c.from-in-loop-k.ensures in
    sym (t.invariant.1 ∙ names_apart a.gold.now a.gate.now a.gold_order.now a.gate_order.now t.k p.0 p.1 (omega arith) (omega arith) (sym e ∙ c.if-not-same_name.true))

pub loop-k-preserved : goal.loop-k-preserved
loop-k-preserved c =
    let a = c.args in
    let p = c.requires in
    let t = c.loop-k in
    let e = c.same_name.ensures ∙ ap₂ (λ (i j : ℕ). same_name (name_at a.gold.now i) (name_at a.gate.now j)) c.from.ensures c.from-in-loop-k.ensures in
    (omega arith, t.invariant.1 ∙ names_more a.gold.now a.gate.now a.gold_order.now a.gate_order.now t.k p.0 p.1 (omega arith) (omega arith) (sym e ∙ c.if-not-same_name.false))

pub returns : goal.returns
returns c =
    let a = c.args in
    let p = c.requires in
    let t = c.loop-k in
    let e : t.k ≡ a.gold_order.now.count = omega arith in
    ap (λ (n : ℕ). eqb n a.gate_order.now.count) (sym e)
    ∙ sym (t.invariant.1 ∙ names-end a.gold.now a.gate.now a.gold_order.now a.gate_order.now t.k p.0 p.1 (omega arith) (omega arith))
