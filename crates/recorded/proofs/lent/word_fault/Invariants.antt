-- `word_fault` passes every word that is as it has to be. Assumes nothing.
use Rattle.std.proofs.Common.{◌≡◌, ℕ, ◌<◌, get_or}
use Rattle.recorded.specs.Lent.{wanted_word}
use Rattle.recorded.proofs.lent.word_fault.Given as goal

abbrev pub invariant-loop-i : goal.invariant-loop-i
invariant-loop-i l = (k : ℕ) → k < l.i → get_or l.words k 0 ≡ wanted_word l.end l.inside k
