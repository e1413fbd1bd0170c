-- `fits` is the definition's test. Assumes nothing.
use Rattle.std.proofs.Common.{arith}
use Rattle.solver.specs.QueryLaws.{fits_not, fits-yes}
use Rattle.solver.proofs.fits.Goals as goal

pub returns-then-nodes-ne0 : goal.returns-then-nodes-ne0
returns-then-nodes-ne0 c = fits_not _ _ _ _ _ (λ k. omega (arith, k))

pub returns-then-nodes-gt131070 : goal.returns-then-nodes-gt131070
returns-then-nodes-gt131070 c = fits_not _ _ _ _ _ (λ k. omega (arith, k))

pub returns-then-assumptions-gt65535 : goal.returns-then-assumptions-gt65535
returns-then-assumptions-gt65535 c = fits_not _ _ _ _ _ (λ k. omega (arith, k))

pub returns-then-limit-gt-LIMIT : goal.returns-then-limit-gt-LIMIT
returns-then-limit-gt-LIMIT c = fits_not _ _ _ _ _ (λ k. omega (arith, k))

pub returns-then-words-lt-LENT : goal.returns-then-words-lt-LENT
returns-then-words-lt-LENT c = fits_not _ _ _ _ _ (λ k. omega (arith, k))

pub returns-then-scores-lt-MOST_NODES : goal.returns-then-scores-lt-MOST_NODES
returns-then-scores-lt-MOST_NODES c = fits_not _ _ _ _ _ (λ k. omega (arith, k))

pub returns : goal.returns
returns c =
    fits-yes _ _ _ _ _
    (record { even = omega arith; nodes_few = omega arith; assumptions_few = omega arith; limited = omega arith; words_long = omega arith; scores_long = omega arith })
