-- `number` ends, since each digit that is read leaves less.
use Rattle.std.proofs.Common.{length}
use Rattle.lender.specs.NumbersLaws.{SoFar}
use Rattle.lender.proofs.text.Fields.number.Given as goal

abbrev pub decreases-loop-digit : goal.decreases-loop-digit
decreases-loop-digit l = length l.self.rest.now

abbrev pub invariant-loop-digit : goal.invariant-loop-digit
invariant-loop-digit l = SoFar l.fn.self.rest.now l.number l.self.rest.now
