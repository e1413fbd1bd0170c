-- `refused_replay` has the three numbers of a refusal, and no. Assumes nothing.
use Rattle.std.proofs.Common.{refl}
use Rattle.model.specs.Replay.{refused_replay}
use Rattle.calls.specs.Answers.{replay_of}
use Rattle.calls.specs.Faults.{refusal}
use Rattle.calls.proofs.answers.refused_replay.Goals as goal

pub returns : goal.returns
unfolding replay_of refused_replay refusal
returns c = refl
