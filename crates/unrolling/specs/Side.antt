-- What a frame keeps of a side in the words, and how many conjunctions its graph has. Assumes nothing.
use Rattle.std.specs.Prelude.{◌≡◌, List, ℕ, ◌+◌, ◌≤◌}
use Rattle.std.proofs.Common.{arith}
use Rattle.words.specs.Layout.{SMALL, GOLD-LHS, GATE-RHS}
use Rattle.words.specs.Region.{region}
use Rattle.model.specs.Transition.{TransitionSystem}
use Rattle.aig.specs.Graph.{graph_at}
use Rattle.aig.specs.Made.{Same}
use Rattle.import.specs.Importing.{beyond, side-beyond, conjunctions}
use Rattle.transition.specs.Side.{Formed, Stands}
use Rattle.transition.specs.SideLaws as Laws
use Rattle.transition.specs.declared.system.System.{System}

-- how many conjunctions the side's graph has
abbrev pub conjunctions_of : System → List ℕ → ℕ
conjunctions_of y w = conjunctions y.count (region (y.base + SMALL) w)

-- The regions of both sides' graphs are as they were.
pub record Untouched (w w' : List ℕ) : Type 0 where
  pub at : (b : ℕ) → GOLD-LHS ≤ b → b ≤ GATE-RHS → region b w' ≡ region b w

pub untouched_beyond : {w w' : List ℕ} → Same beyond w w' → Untouched w w'
untouched_beyond s = record { at = λ b lo hi. s.at b (side-beyond b lo hi) }

module _ (y : System) (w w' : List ℕ) (f : Formed y w) (kept : Untouched w w') where
  -- the side's words stay
  lhs-kept : region y.base w' ≡ region y.base w
  lhs-kept = kept.at y.base f.low (omega (arith, f.high))

  rhs-kept : region (y.base + SMALL) w' ≡ region (y.base + SMALL) w
  rhs-kept = kept.at (y.base + SMALL) (omega (arith, f.low)) (omega (arith, f.high))

  graph-kept : graph_at y.base y.count w' ≡ graph_at y.base y.count w
  graph-kept = Laws.graph-kept y w w' lhs-kept rhs-kept

  -- so what it is stays
  pub formed-kept : Formed y w'
  formed-kept = Laws.formed-kept y w w' lhs-kept rhs-kept f

  pub stands-kept : (s : TransitionSystem) → Stands y w s → Stands y w' s
  stands-kept = Laws.stands-kept y w w' lhs-kept rhs-kept

  pub conjunctions-kept : conjunctions_of y w' ≡ conjunctions_of y w
  conjunctions-kept = rw rhs-kept

-- the same of a change of the proof graph and the import
module _ (y : System) (w w' : List ℕ) (f : Formed y w) (same : Same beyond w w') where
  pub rhs-same : region (y.base + SMALL) w' ≡ region (y.base + SMALL) w
  rhs-same = rhs-kept y w w' f (untouched_beyond same)

  pub graph_same : graph_at y.base y.count w' ≡ graph_at y.base y.count w
  graph_same = graph-kept y w w' f (untouched_beyond same)

  pub formed-same : Formed y w'
  formed-same = formed-kept y w w' f (untouched_beyond same)

  pub stands_same : (s : TransitionSystem) → Stands y w s → Stands y w' s
  stands_same = stands-kept y w w' f (untouched_beyond same)

  pub conjunctions-same : conjunctions_of y w' ≡ conjunctions_of y w
  conjunctions-same = conjunctions-kept y w w' f (untouched_beyond same)
