-- `bits_differ` passes every pair of equal bits: what is left of both rows decides. Assumes nothing.
use Rattle.std.proofs.Common.{◌≡◌}
use Rattle.std.specs.Iterator.Adapters.{zip_first, zip_second}
use Rattle.std.specs.Slice.Iter.{iter_rest}
use Rattle.model.specs.Replay.{bits_differ}
use Rattle.steps.proofs.step.bits_differ.Given as goal

abbrev pub invariant-loop-x : goal.invariant-loop-x
invariant-loop-x l = bits_differ l.xs l.ys ≡ bits_differ (iter_rest (zip_first l.x-iterator)) (iter_rest (zip_second l.x-iterator))
