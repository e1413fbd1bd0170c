-- `lower_register` meets its contract. Assumes nothing.
use Rattle.lowering.proofs.RegisterLaws.{registered}
use Rattle.lowering.proofs.registers.lower_register.Goals as goal

pub returns : goal.returns
returns c =
    registered c.args.register _ _ _ _ _ _ _ _ _ _ _ c.requires.0 c.state_literal-state.ensures c.node.ensures c.reset_cell.ensures c.enabled-held.ensures c.reset_next-made.ensures
