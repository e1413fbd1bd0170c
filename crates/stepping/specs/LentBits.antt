-- What the checks of the lent bits say, by register counts. Definitions only.
use Rattle.std.specs.Prelude.{ℕ, Bool, not, ◌||◌, List, take, drop}
use Rattle.std.proofs.Math.Option.{Option}
use Rattle.model.specs.Answers.{Refusal}
use Rattle.model.specs.Validate.{◌otherwise◌, refuse_if}
use Rattle.model.specs.Netlist.{Design}
use Rattle.model.specs.Pair.{all_bits, initial_fault}
use Rattle.model.specs.Stepping.{gate_bits, too_few_bits}

-- a byte of so many stored bits, from a byte on, is neither 0 nor 1
unfoldable pub stored_bad : ℕ → ℕ → List ℕ → Bool
stored_bad at count bits = not (all_bits (take count (drop at bits)))

-- 24
unfoldable pub short_fault : List ℕ → Option Refusal
short_fault bits = refuse_if 24 0 0 (too_few_bits bits)

-- 24, then 25, from the register counts of both sides
unfoldable pub counted_fault : ℕ → ℕ → List ℕ → Option Refusal
counted_fault n m bits = refuse_if 24 0 0 (too_few_bits bits) otherwise refuse_if 25 0 0 (stored_bad 0 n bits || stored_bad gate_bits m bits)

-- 22 and 24
unfoldable pub initial_and_short_fault : Design → Design → List ℕ → Option Refusal
initial_and_short_fault gold gate bits = initial_fault gold gate otherwise refuse_if 24 0 0 (too_few_bits bits)
