-- `driver_reset` has the reset of the register that the entry names, or none. Assumes nothing.
use Rattle.std.proofs.Common.{sym, ap, ◌∙◌, ℕ, ◌-◌, arith, get_or}
use Rattle.drivers.specs.Drivers.{driver_by}
use Rattle.model.specs.Transition.{driver_reset}
use Rattle.struo_ir.specs.Decoded.{decoded_reset, cell_reset}
use Rattle.struo_ir.specs.Registers.{no_register}
use Rattle.lowering.specs.Driver.{reset-named, reset_unnamed}
use Rattle.lowering.proofs.resets.driver_reset.Goals as goal

pub returns-then-entry-eq0 : goal.returns-then-entry-eq0
unfolding decoded_reset driver_reset driver_by
returns-then-entry-eq0 c = λ s. sym (reset_unnamed s _ _ c.if-entry-eq0.true)

pub returns : goal.returns
returns c =
    let a = c.args in
    λ s. c.reset_cell.ensures ∙ ap (λ (k : ℕ). cell_reset (get_or a.netlist.registers (k - 1) no_register)) c.from.ensures ∙ reset-named s a.netlist.registers a.entry (omega (arith, c.if-entry-eq0.false))
