-- `lender::words` has the length that it promises. Assumes nothing.
use Rattle.std.proofs.Common.{sym, ℕ}
use lib.ListN.{length-replicate}
use Rattle.lender.proofs.words.Goals as goal

pub returns : goal.returns
returns c = sym (length-replicate {0} {A = ℕ} 8396800 0)
