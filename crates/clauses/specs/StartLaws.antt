-- The solver of a graph and its assumptions, from words that held anything. Assumes nothing.
use Rattle.std.specs.Prelude.{◌≡◌, true, false, List, [], ◌∷◌, ℕ, zero, suc, ◌+◌, ◌*◌, ◌≤◌, Float, take, drop, replicate}
use Rattle.std.proofs.Math.Path.{refl, ap, sym}
use Rattle.std.proofs.Common.{◌∙◌, arith}
use Rattle.std.proofs.Math.ListN.{length}
use Rattle.facts.specs.Floats.{unsigned}
use Rattle.words.specs.Layout.{GRAPH-LHS, GRAPH-RHS, BLOCKS}
use Rattle.words.specs.Region.{region}
use Rattle.model.specs.Sat as Sat
use Rattle.model.specs.Aig.{Node}
use Rattle.assignment.specs.State.{assignment_of, assignment_regions, Unchanged}
use Rattle.assignment.specs.Blocks.{News, Cached}
use Rattle.assignment.specs.KnownLaws.{cached-kept}
use Rattle.assignment.specs.OrderLaws.{zeros-unsigned}
use Rattle.assignment.specs.declared.state.Activity.{Activity}
use Rattle.assignment.specs.Scores.{ZeroScores}
use Rattle.assignment.specs.ScoreLaws.{others-both}
use Rattle.assignment.specs.StateLaws.{unchanged_both, unchanged_within, trail-length}
use Rattle.assignment.specs.declared.state.Trail.{Trail}
use Rattle.clauses.specs.declared.state.Store.{Store}
use Rattle.clauses.specs.declared.state.Encoding.{Encoding}
use Rattle.clauses.specs.State.{solver_of, scored, flagged, encoded_of, unassigned, SoundStore, Roomy, Grows, Gates, Holds, Cleared, Encodable, Encodes, watch_regions, add_regions, encode_regions}

all-unassigned : (n : ℕ) → unassigned (replicate n Sat.Unassigned) ≡ n
unfolding unassigned
all-unassigned zero = refl
all-unassigned (suc n) = ap suc (all-unassigned n)

module _ (n : ℕ) (w : List ℕ) (x : List Float) (ls : List ℕ) (count : ℕ) (a : Encodable n w x ls count)
    (t : Trail) (w1 : List ℕ) (b : News n w t w1) (x1 : List Float) (z : ZeroScores n x x1) where
  no-trail : t.length ≡ 0
  unfolding Sat.new
  no-trail = sym (trail-length t w1 b.ready) ∙ ap (λ (q : Sat.Assignment). length q.trail) b.is

  new-room : unassigned (assignment_of t w1).assignments + t.length ≤ t.variables
  unfolding Sat.new
  new-room = rw (b.is, no-trail, b.variables) (omega (arith, all-unassigned n))

  module _ (m2 : Store) (w2 : List ℕ) (c : Cleared n w1 m2 w2) where
    new-sound : SoundStore m2 t w2 []
    new-sound = c.sound t b.variables b.ready (rw b.variables a.some) new-room

    start-frame : Unchanged encode_regions w w2
    start-frame = unchanged_both encode_regions (unchanged_within (BLOCKS ∷ assignment_regions) encode_regions refl b.frame) (unchanged_within watch_regions encode_regions refl c.frame)

    -- the words of the blocks say nothing, and the scores are 0
    start-cached : (y : Activity) → unsigned y.increment ≡ true → Cached t w2 y x1
    start-cached y p =
        cached-kept watch_regions t y x1 refl c.frame
        (record { known = b.known x1; scores = rw (b.variables, z.is) (zeros-unsigned n); increment = p })

    same-lhs : region GRAPH-LHS w2 ≡ region GRAPH-LHS w
    same-lhs = start-frame.same GRAPH-LHS refl

    same_rhs : region GRAPH-RHS w2 ≡ region GRAPH-RHS w
    same_rhs = start-frame.same GRAPH-RHS refl

    pub nodes-asked : Roomy m2 t w2 x1 (3 * t.variables) (7 * t.variables) × Gates t.variables w2
    nodes-asked = (
      record { sound = new-sound; clauses = omega (arith, c.clauses, b.variables, a.variables); literals = omega (arith, c.literals, b.variables, a.variables); scores = omega (arith, b.variables, a.scores, z.others.long) },
      rw b.variables (record { at = rw (same-lhs, same_rhs) a.gates.at }),
    )

    start_is : encoded_of (Sat.new n) (record { store = m2; inconsistent = false }) t w2 x1 ≡ Sat.new n
    unfolding encoded_of solver_of flagged scored Sat.new
    start_is = rw (c.none, c.assignment t, b.is, b.variables, c.watches, z.is)

    module _ (m3 : Store) (w3 : List ℕ) (x3 : List Float) (d : Grows m2 t w2 x1 (3 * t.variables) (7 * t.variables) m3 w3 x3)
        (k : (s : Sat.Solver) (g : List Node) → Holds t.variables w2 g → solver_of (scored s t.variables x3) m3 t w3 ≡ Sat.add_nodes (solver_of (scored s t.variables x1) m2 t w2) 1 (drop 1 g)) where
      -- the nodes' clauses added to the new solver
      nodes-is : (g : List Node) → Holds n w g → encoded_of (Sat.new n) (record { store = m3; inconsistent = false }) t w3 x3 ≡ Sat.add_nodes (Sat.new n) 1 (drop 1 g)
      unfolding encoded_of solver_of flagged scored
      nodes-is g h =
          k (flagged (Sat.new n) false) g (rw b.variables (record { size = h.size; at = rw (same-lhs, same_rhs) h.at }))
          ∙ ap (λ (q : Sat.Solver). Sat.add_nodes q 1 (drop 1 g)) start_is

      pub encoded : (e : Encoding) (w4 : List ℕ) (x4 : List Float) → Grows m3 t w3 x3 count count e.store w4 x4
          → ((s : Sat.Solver) → encoded_of s e t w4 x4 ≡ Sat.add_assumptions (encoded_of s (record { store = m3; inconsistent = false }) t w3 x3) (take count ls))
          → Encodes n w x ls count (record { encoding = e; trail = t }) w4 x4
      unfolding Sat.encode
      encoded e w4 x4 f j = record {
        frame = unchanged_both encode_regions (unchanged_both encode_regions start-frame (unchanged_within add_regions encode_regions refl d.frame)) (unchanged_within add_regions encode_regions refl f.frame);
        sound = f.sound;
        variables = b.variables;
        clauses = omega (arith, f.clauses, d.clauses, c.clauses, b.variables);
        literals = omega (arith, f.literals, d.literals, c.literals, b.variables);
        others = others-both _ z.others (rw b.variables at (others-both _ d.others f.others));
        is = λ g h. j (Sat.new n) ∙ ap (λ (q : Sat.Solver). Sat.add_assumptions q (take count ls)) (nodes-is g h ∙ rw h.size);
        cached = λ y p. f.cached y (d.cached y (start-cached y p));
      }
