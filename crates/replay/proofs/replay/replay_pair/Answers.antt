-- `replay_pair` answers the first refusal, or yes or no. Assumes nothing.
use Rattle.std.proofs.Common.{sym, ◌∙◌}
use Rattle.calls.specs.Causes.{fault_of}
use Rattle.model.specs.Pair.{replay_fault}
use Rattle.replay.specs.ReplayRight.{accepted-cycle, pair-refused, pair_replayed}
use Rattle.replay.proofs.replay.replay_pair.Goals as goal

pub replays_from_reset-yes-requires : goal.replays_from_reset-yes-requires
unfolding fault_of
replays_from_reset-yes-requires c =
    accepted-cycle _ _ c.args.cycle c.args.claim.now (sym c.in-Ok.ensures)

pub returns-in-Err : goal.returns-in-Err
unfolding fault_of
returns-in-Err c =
    let a = c.args in
    c.from.ensures ∙ pair-refused _ _ a.cycle a.claim.now (replay_fault _ _ _ _) _ (sym c.in-Err.ensures)

pub returns-in-Ok : goal.returns-in-Ok
unfolding fault_of
returns-in-Ok c =
    let a = c.args in
    pair_replayed _ _ a.cycle a.claim.now (replay_fault _ _ _ _) c.replays_from_reset-yes.result (sym c.in-Ok.ensures) c.replays_from_reset-yes.ensures
