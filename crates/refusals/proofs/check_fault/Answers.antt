-- `check_fault` takes the refusal of the options, or the pair's where there is none. Assumes nothing.
use Rattle.std.proofs.Common.{sym, ◌∙◌}
use Rattle.calls.specs.FaultLaws.{stops, goes_on}
use Rattle.calls.specs.Causes.{fault_of}
use Rattle.calls.specs.Options.{options_of}
use Rattle.refusals.specs.RefusalLaws.{check_of_lem, depth_small}
use Rattle.refusals.specs.Refusals.{options_fault}
use Rattle.refusals.proofs.check_fault.Goals as goal

pub pair_fault-requires : goal.pair_fault-requires
unfolding fault_of options_of
pair_fault-requires c = depth_small (options_of c.args.options) (sym c.in_ok-options_fault.ensures)

pub returns-in_err-options_fault : goal.returns-in_err-options_fault
unfolding fault_of options_of
returns-in_err-options_fault c =
    stops (options_fault _) _ _ _ c.from_residual.ensures.1 c.in_err-options_fault.ensures ∙ check_of_lem _ _ (options_of c.args.options) _

pub returns : goal.returns
unfolding fault_of options_of
returns c =
    goes_on (options_fault _) _ c.in_ok-options_fault.ensures _ c.pair_fault.ensures ∙ check_of_lem _ _ (options_of c.args.options) _
