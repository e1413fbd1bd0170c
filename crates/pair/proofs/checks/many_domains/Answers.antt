-- `many_domains` compares every register's domain with the first one's. Assumes nothing.
use Rattle.std.proofs.Common.{◌≡◌, refl, sym, ap, ap₂, ◌∙◌, ℕ, ◌<◌, arith, not, length, get_or}
use Rattle.model.specs.Pair.{same_domain}
use Rattle.struo_ir.specs.Decoded.{decoded}
use Rattle.struo_ir.specs.Registers.{no_register}
use lib.ListN.{get_elem?}
use Rattle.pair.specs.PairCheckLaws.{domain_by_lem, domains-none, domains-first, domains-more, domains-apart, domains-all}
use Rattle.model.specs.Pair as Pair
use Rattle.pair.proofs.checks.many_domains.Goals as goal

pub returns-then-count-eq0 : goal.returns-then-count-eq0
returns-then-count-eq0 c =
    let a = c.args in
    sym (domains-none a.bytes.now a.netlist.now (omega arith) c.if-count-eq0.true)

pub loop-k-init : goal.loop-k-init
loop-k-init c =
    let a = c.args in
    let l : length a.netlist.now.registers ≡ 128 = omega arith in
    let n : a.netlist.now.register_count ≡ 0 → ⊥ = c.if-count-eq0.false in
    let h : 0 < a.netlist.now.register_count = omega arith in (
      refl,
      h,
      refl,
      λ s. c.clock_node-clock.ensures s ∙ ap (λ (j : ℕ). Pair.name_at (get_elem? (decoded s a.netlist.now).nodes j)) c.from.ensures,
      domains-first a.bytes.now a.netlist.now (omega arith) h,
    )

pub returns-then-not-same_domain : goal.returns-then-not-same_domain
returns-then-not-same_domain c =
    let a = c.args in
    let t = c.loop-k in
    let s = a.bytes.now in
    let l : length a.netlist.now.registers ≡ 128 = omega arith in
    let first = get_or a.netlist.now.registers 0 no_register in
    let cell = get_or a.netlist.now.registers t.k no_register in
    let e = c.same_domain.ensures
    ∙ ap₂ same_domain (domain_by_lem s a.netlist.now first c.clock_node-clock.result first.clock refl t.invariant.3) (domain_by_lem s a.netlist.now cell c.clock_node-other.result c.from-in-loop-k.result c.from-in-loop-k.ensures c.clock_node-other.ensures) in
    sym (t.invariant.4 ∙ ap not (domains-apart s a.netlist.now (omega arith) _ t.k (omega arith) (sym e ∙ c.if-not-same_domain.true)))

pub loop-k-preserved : goal.loop-k-preserved
loop-k-preserved c =
    let a = c.args in
    let t = c.loop-k in
    let s = a.bytes.now in
    let l : length a.netlist.now.registers ≡ 128 = omega arith in
    let first = get_or a.netlist.now.registers 0 no_register in
    let cell = get_or a.netlist.now.registers t.k no_register in
    let e = c.same_domain.ensures
    ∙ ap₂ same_domain (domain_by_lem s a.netlist.now first c.clock_node-clock.result first.clock refl t.invariant.3) (domain_by_lem s a.netlist.now cell c.clock_node-other.result c.from-in-loop-k.result c.from-in-loop-k.ensures c.clock_node-other.ensures) in
    (refl, omega arith, refl, t.invariant.3, t.invariant.4 ∙ ap not (domains-more s a.netlist.now (omega arith) _ t.k (omega arith) (sym e ∙ c.if-not-same_domain.false)))

pub returns : goal.returns
returns c =
    let a = c.args in
    let t = c.loop-k in
    let l : length a.netlist.now.registers ≡ 128 = omega arith in
    sym (t.invariant.4 ∙ ap not (domains-all a.bytes.now a.netlist.now (omega arith) _ t.k (omega arith)))
