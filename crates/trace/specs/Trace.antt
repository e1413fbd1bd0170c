-- What the trace of query 1 asks of the lent words and promises: the first mismatch and the trace's bytes are the model's. Definitions only.
use Rattle.std.specs.Prelude.{◌≡◌, List, ℕ, ◌+◌, ◌*◌, ◌≤◌, ◌<◌, length}
use Rattle.words.specs.Layout.{LENT, FRAMES}
use Rattle.words.specs.Region.{region}
use Rattle.model.specs.Equivalence.{first_mismatch, trace_bytes}
use Rattle.model.specs.Check.{overwrite}
use Rattle.assignment.specs.State.{model_of}
use Rattle.equivalence.specs.Frames.{comparisons_of}

-- What the trace asks: words long enough, few inputs, outputs and cycles, and room for the bytes.
pub record Traceable (I O cycles : ℕ) (w trace : List ℕ) : Type 0 where
  pub long : LENT ≤ length w
  pub inputs : I ≤ 128
  pub outputs : O ≤ 128
  pub some : 0 < cycles
  pub cycles_small : cycles ≤ 65
  pub room : cycles * I + O ≤ length trace

-- The first mismatch, and the trace over the lent bytes.
pub record Traced (n I O cycles : ℕ) (w trace : List ℕ) (m : ℕ) (trace' : List ℕ) : Type 0 where
  pub mismatch_is : m ≡ first_mismatch (model_of n w) (comparisons_of I O cycles (region FRAMES w))
  pub trace_is : trace' ≡ overwrite (trace_bytes (model_of n w) (comparisons_of I O cycles (region FRAMES w)) m) trace

-- Of the first mismatch, whatever the rows hold besides.
pub record FirstMismatch (n cycles : ℕ) (w : List ℕ) (m : ℕ) : Type 0 where
  pub is : (I O : ℕ) → m ≡ first_mismatch (model_of n w) (comparisons_of I O cycles (region FRAMES w))
  pub below : 0 < cycles → m < cycles
