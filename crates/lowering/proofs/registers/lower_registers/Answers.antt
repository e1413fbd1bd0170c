-- `lower_registers` meets its contract. Assumes nothing.
use Rattle.std.proofs.Common.{◌≡◌, refl, ◌<◌, arith, length, length-take, get_or-take, rules}
use Rattle.facts.specs.Lists.{get_or-replicate}
use Rattle.lowering.proofs.RegisterLaws.{registering_none, registering_more}
use Rattle.lowering.proofs.registers.lower_registers.Goals as goal

pub loop-i-init : goal.loop-i-init
loop-i-init c = (refl, refl, registering_none _ _ _ _ _ c.requires.0 (λ k. get_or-replicate 128 k 0))

pub loop-i-preserved : goal.loop-i-preserved
loop-i-preserved c =
    let l = c.loop-i in
    let n = c.args.netlist in
    let room : length n.registers ≡ 128 = omega arith in
    let h : l.i < n.register_count = omega (arith, length-take n.register_count n.registers) in
    let small : l.i < 128 = omega (arith, c.requires.2.registers) in (
      search rules,
      search rules,
      registering_more _ _ _ l.i _ _ _ _ _ _ _ _ _ h (omega (arith, room, c.requires.2.registers)) (omega (arith, l.invariant.0)) (omega (arith, l.invariant.1)) l.invariant.2
          (rw (get_or-take n.register_count n.registers l.i _ h) at c.lower_register-bit.ensures),
    )

pub returns : goal.returns
returns c =
    let l = c.loop-i in
    let n = c.args.netlist in
    let e : l.i ≡ n.register_count = omega (arith, length-take n.register_count n.registers, c.requires.2.registers) in
    rw e at l.invariant.2
