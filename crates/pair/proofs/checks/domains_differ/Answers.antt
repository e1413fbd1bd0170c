-- `domains_differ` goes by the register counts. Assumes nothing.
use Rattle.std.proofs.Common.{◌≡◌, sym, ap, ap₂, ◌∙◌, ◌<◌, arith, not, length, get_or}
use Rattle.model.specs.Pair.{same_domain}
use Rattle.struo_ir.specs.Registers.{no_register}
use Rattle.pair.specs.PairCheckLaws.{domain_by_lem, domain-some, differ-left, differ-right, differ-some}
use Rattle.pair.proofs.checks.domains_differ.Goals as goal

pub returns-then-gold_netlist-eq0 : goal.returns-then-gold_netlist-eq0
returns-then-gold_netlist-eq0 c =
    let a = c.args in
    let l : length a.gate_netlist.now.registers ≡ 128 = omega arith in
    sym (differ-left a.gold.now a.gate.now a.gold_netlist.now a.gate_netlist.now (omega (arith, c.requires.1)) c.if-gold_netlist-eq0.true)

pub returns-then-gate_netlist-eq0 : goal.returns-then-gate_netlist-eq0
returns-then-gate_netlist-eq0 c =
    let a = c.args in
    let l : length a.gold_netlist.now.registers ≡ 128 = omega arith in
    let n : a.gold_netlist.now.register_count ≡ 0 → ⊥ = c.if-gold_netlist-eq0.false in
    let h : 0 < a.gold_netlist.now.register_count = omega arith in
    sym (differ-right a.gold.now a.gate.now a.gold_netlist.now a.gate_netlist.now (omega (arith, c.requires.0)) h c.if-gate_netlist-eq0.true)

pub returns : goal.returns
returns c =
    let a = c.args in
    let s = a.gold.now in
    let t = a.gate.now in
    let lx : length a.gold_netlist.now.registers ≡ 128 = omega arith in
    let ly : length a.gate_netlist.now.registers ≡ 128 = omega arith in
    let p = c.requires in
    let nx : a.gold_netlist.now.register_count ≡ 0 → ⊥ = c.if-gold_netlist-eq0.false in
    let ny : a.gate_netlist.now.register_count ≡ 0 → ⊥ = c.if-gate_netlist-eq0.false in
    let hx : 0 < a.gold_netlist.now.register_count = omega arith in
    let hy : 0 < a.gate_netlist.now.register_count = omega arith in
    let x = get_or a.gold_netlist.now.registers 0 no_register in
    let y = get_or a.gate_netlist.now.registers 0 no_register in
    ap not
    (c.same_domain.ensures
    ∙ ap₂ same_domain (domain_by_lem s a.gold_netlist.now x c.clock_node-gold_clock.result c.from.result c.from.ensures c.clock_node-gold_clock.ensures) (domain_by_lem t a.gate_netlist.now y c.clock_node-gate_clock.result c.from-2.result c.from-2.ensures c.clock_node-gate_clock.ensures))
    ∙ sym (differ-some _ _ _ _ (domain-some s a.gold_netlist.now (omega (arith, p.0)) hx) (domain-some t a.gate_netlist.now (omega (arith, p.1)) hy))
