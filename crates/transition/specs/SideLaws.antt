-- A side is what it was wherever the two regions of its graph are. Assumes nothing.
use Rattle.std.specs.Prelude.{ℕ, ◌+◌, ◌≡◌}
use Rattle.std.proofs.Math.Path.{ap₂}
use Rattle.std.proofs.Common.{◌∙◌}
use mathlib.Core.List.{List}
use Rattle.words.specs.Layout.{SMALL}
use Rattle.words.specs.Region.{region}
use Rattle.model.specs.Transition.{TransitionSystem}
use Rattle.aig.specs.Graph.{graph_at, nodes_of}
use Rattle.transition.specs.Side.{Formed, Stands}
use Rattle.transition.specs.declared.system.System.{System}

module _ (y : System) (w w' : List ℕ) (lhs : region y.base w' ≡ region y.base w) (rhs : region (y.base + SMALL) w' ≡ region (y.base + SMALL) w) where
  -- its graph
  pub graph-kept : graph_at y.base y.count w' ≡ graph_at y.base y.count w
  unfolding graph_at
  graph-kept = ap₂ (λ (ls rs : List ℕ). nodes_of y.count ls rs) lhs rhs

  -- it is in order
  pub formed-kept : Formed y w → Formed y w'
  formed-kept f =
      record {
        low = f.low;
        high = f.high;
        some = f.some;
        small = f.small;
        ordered = rw (lhs, rhs) f.ordered;
        input_count_lem = f.input_count_lem;
        output_count_lem = f.output_count_lem;
        state_count = f.state_count;
        outputs = f.outputs;
        next = f.next;
        covered = rw rhs f.covered;
      }

  -- it stands for the same transition system
  pub stands-kept : (s : TransitionSystem) → Stands y w s → Stands y w' s
  stands-kept s t =
      record { aig = graph-kept ∙ t.aig; inputs = t.inputs; outputs = t.outputs; next = t.next; variables = t.variables }
