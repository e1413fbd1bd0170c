-- `lender::record` has the length that it promises. Assumes nothing.
use Rattle.std.proofs.Common.{sym, ℕ}
use lib.ListN.{length-replicate}
use Rattle.lender.proofs.record.Goals as goal

pub returns : goal.returns
returns c = sym (length-replicate {0} {A = ℕ} 131072 0)
