-- `as_marked` passes every pair of bits that differs as marked. Assumes nothing.
use Rattle.std.proofs.Common.{◌≡◌, ◌+◌, ◌≤◌, length, drop}
use Rattle.model.specs.Replay.{differ_as_marked}
use Rattle.steps.proofs.step.as_marked.Given as goal

abbrev pub invariant-loop-k : goal.invariant-loop-k
invariant-loop-k l = (l.k ≤ length l.xs) × (differ_as_marked l.claim l.place l.xs l.ys ≡ differ_as_marked l.claim (l.place + l.k) (drop l.k l.xs) (drop l.k l.ys))
