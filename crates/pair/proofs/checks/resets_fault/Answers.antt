-- `resets_fault` passes every register with a reset. Assumes nothing.
use Rattle.std.proofs.Common.{◌≡◌, sym, ap, ◌∙◌, ℕ, ◌<◌, arith, length, get_or}
use Rattle.calls.specs.Causes.{fault_of, side_of}
use Rattle.struo_ir.specs.Decoded.{decoded}
use Rattle.struo_ir.specs.Registers.{no_register}
use Rattle.pair.specs.PairCheckLaws.{lacks_right, resets_more, resets_here, resets_none}
use Rattle.pair.proofs.checks.resets_fault.Goals as goal

pub returns-then-lacks_reset : goal.returns-then-lacks_reset
unfolding fault_of
returns-then-lacks_reset c =
    let a = c.args in
    let t = c.loop-k in
    let n = a.netlist.now in
    let l : length n.registers ≡ 128 = omega arith in
    let cell = get_or n.registers c.within.result no_register in
    let w = c.from-number.result in
    let q : w < n.register_count → cell ≡ get_or n.registers w no_register = λ h. ap (λ (j : ℕ). get_or n.registers j no_register) (c.within.ensures.1 (omega (arith, c.requires.0))) in
    λ s. let e = sym (lacks_right s n w cell (omega (arith, c.requires.0)) q) ∙ sym c.lacks_reset.ensures ∙ c.if-lacks_reset.true in
    rw (c.from.ensures, c.number_at-register.ensures)
    (sym (t.invariant s ∙ resets_here s (side_of a.side) (decoded s n).registers a.order.now t.k c.requires.1 (omega arith) (rw (c.from-number.ensures ∙ c.number_at-register.ensures) at e)))

pub loop-k-preserved : goal.loop-k-preserved
loop-k-preserved c =
    let a = c.args in
    let t = c.loop-k in
    let n = a.netlist.now in
    let l : length n.registers ≡ 128 = omega arith in
    let cell = get_or n.registers c.within.result no_register in
    let w = c.from-number.result in
    let q : w < n.register_count → cell ≡ get_or n.registers w no_register = λ h. ap (λ (j : ℕ). get_or n.registers j no_register) (c.within.ensures.1 (omega (arith, c.requires.0))) in
    λ s. let e = sym (lacks_right s n w cell (omega (arith, c.requires.0)) q) ∙ sym c.lacks_reset.ensures ∙ c.if-lacks_reset.false in
    t.invariant s ∙ resets_more s (side_of a.side) (decoded s n).registers a.order.now t.k c.requires.1 (omega arith) (rw (c.from-number.ensures ∙ c.number_at-register.ensures) at e)

pub returns : goal.returns
unfolding fault_of
returns c = let a = c.args in let t = c.loop-k in λ s. sym (t.invariant s ∙ resets_none s (side_of a.side) (decoded s a.netlist.now).registers a.order.now t.k c.requires.1 (omega arith))
