-- `netlist_checks::resets::is_late` meets its contract. Assumes nothing.
use Rattle.std.proofs.Common.{eq-eqb, ne_eqb}
use Rattle.netlist_checks.specs.ResetLaws.{late_undriven, late_unreset, late_synchronous, late_signal}
use Rattle.netlist_checks.proofs.resets.is_late.Goals as goal

pub returns-then-kind-ne-REGISTER_OUTPUT : goal.returns-then-kind-ne-REGISTER_OUTPUT
returns-then-kind-ne-REGISTER_OUTPUT c = rw (ne_eqb _ _ c.if-kind-ne-REGISTER_OUTPUT.true)

pub returns-then-driver-eq0 : goal.returns-then-driver-eq0
returns-then-driver-eq0 c = let a = c.args in rw (eq-eqb _ _ c.if-kind-ne-REGISTER_OUTPUT.false) (late_undriven a.driver a.cell a.i c.if-driver-eq0.true)

pub returns-then-cell-eq0 : goal.returns-then-cell-eq0
returns-then-cell-eq0 c = let a = c.args in rw (eq-eqb _ _ c.if-kind-ne-REGISTER_OUTPUT.false) (late_unreset a.driver a.cell a.i c.if-cell-eq0.true)

pub returns-then-cell-ne1 : goal.returns-then-cell-ne1
returns-then-cell-ne1 c = let a = c.args in rw (eq-eqb _ _ c.if-kind-ne-REGISTER_OUTPUT.false) (late_synchronous a.driver a.cell a.i c.if-cell-ne1.true)

pub returns : goal.returns
returns c = let a = c.args in rw (eq-eqb _ _ c.if-kind-ne-REGISTER_OUTPUT.false) (late_signal a.driver a.cell a.i c.if-driver-eq0.false c.if-cell-eq0.false c.if-cell-ne1.false)
