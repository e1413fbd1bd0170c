-- `netlist_checks::resets::reset_fault` meets its contract: the nodes that are left to check give the whole outcome, by the table of drivers. Assumes nothing.
use Rattle.std.proofs.Common.{◌<◌, sym, ◌∙◌, arith}
use Rattle.calls.specs.Faults.{refusal}
use Rattle.calls.specs.Causes.{fault_of}
use Rattle.netlist_checks.specs.ResetLaws.{late, early, all-early}
use Rattle.netlist_checks.proofs.resets.reset_fault.Goals as goal
use Rattle.netlist_checks.proofs.resets.reset_fault.Goals.{In-loop-i}

-- the node's number is below 1,024
small : (c : In-loop-i) → c.loop-i.i < 1024
small c = omega (arith, c.requires.0.nodes_padded.fits)

pub returns-then-is_late : goal.returns-then-is_late
unfolding fault_of refusal
returns-then-is_late c = λ s. rw c.at.ensures (late s _ _ c.requires.1 c.requires.0 _ (omega arith) _ c.register_of.ensures.1 (sym c.if-is_late.true ∙ c.is_late.ensures) ∙ c.loop-i.invariant s)

pub loop-i-preserved : goal.loop-i-preserved
loop-i-preserved c = λ s. early s _ _ c.requires.1 c.requires.0 _ (omega arith) _ c.register_of.ensures.1 (sym c.if-is_late.false ∙ c.is_late.ensures) ∙ c.loop-i.invariant s

pub returns : goal.returns
unfolding fault_of refusal
returns c = λ s. all-early s _ _ (omega arith) ∙ c.loop-i.invariant s
