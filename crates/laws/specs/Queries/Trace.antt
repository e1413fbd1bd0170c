-- Query 1's comparisons, cycle by cycle, mean the plain runs: inputs, outputs and whether they differ. Assumes nothing.
use Prim.Native.Nat.{ℕ, zero, suc}
use Rattle.std.specs.Prelude.{◌≡◌, Bool, length, take, drop}
use Rattle.std.proofs.Math.Path.{refl, ap}
use Rattle.std.proofs.Common.{ap₂}
use Rattle.std.proofs.Math.Bool.{xor}
use mathlib.Core.List.{List, [], ◌∷◌, ◌++◌, map, append_assoc, append-nil}
use Rattle.model.specs.Literal.{Literal}
use Rattle.model.specs.Lists.{snoc, zip, position}
use Rattle.model.specs.Aig.{Aig, or, evaluate, aig_node_values}
use Rattle.model.specs.Equivalence.{Problem, import_frame, proof_inputs, compare_pairs, FrameComparison, compare_outputs, import_frames, cycle_of, compared_cycle, Base, counterexample_next, counterexample_compared, counterexample_cycle, counterexample_cycles, byte, input_bytes, mark_bytes, first_marks}
use Rattle.laws.specs.Queries.Cycles.{cycle_means, BaseMeans, base-cycle}
use Rattle.laws.specs.Lowering.SystemRun.{system_outputs, system_next, system_outputs_differ}
use Rattle.laws.specs.Pairwise.{Pairwise, pairs_weaken, pairs_append, pairs-map}
use Rattle.laws.specs.Graph.Operations.{Formed, or_means}
use Rattle.laws.specs.Queries.Frame.{Has, Grown, grown_trans, grown, has, has-later, list_later, frame_means}
use Rattle.laws.specs.Queries.Bits.{both_later, bits_from, input_rows, HasBoth, compare_means, zip_both, inputs_mean}

-- a plain cycle: its row of input bits, and both sides' state bits
pub record Moment : Type 0 where
  pub row : List Bool
  pub gold : List Bool
  pub gate : List Bool

-- the plain cycles of rows, from state bits
unfoldable pub moments : Problem → List Bool → List Bool → List (List Bool) → List Moment
moments p xs ys [] = []
moments p xs ys (row ∷ rows) = record { row = row; gold = xs; gate = ys } ∷ moments p (system_next p.gold row xs) (system_next p.gate row ys) rows

-- a byte for each pair of bits: 1 where they differ
unfoldable pub marks_of : List Bool → List Bool → List ℕ
marks_of xs ys = map (λ (q : Bool × Bool). byte (xor q.0 q.1)) (zip xs ys)

-- the marks of the first cycle
unfoldable pub moment_marks : Problem → List Moment → List ℕ
moment_marks p [] = []
moment_marks p (k ∷ ks) = marks_of (system_outputs p.gold k.row k.gold) (system_outputs p.gate k.row k.gate)

module _ (e : ℕ → Bool) (p : Problem) where
  -- a comparison beside its plain cycle
  pub record ComparisonMeans (g : Aig) (c : FrameComparison) (k : Moment) : Type 0 where
    pub inputs : Pairwise (Has e g) c.inputs k.row
    pub outputs : Pairwise (HasBoth e g) c.outputs (zip (system_outputs p.gold k.row k.gold) (system_outputs p.gate k.row k.gate))
    pub mismatch : Has e g c.mismatch (system_outputs_differ p.gold p.gate k.row k.gold k.gate)

  comparison-later : {g h : Aig} → Grown e g h → (c : FrameComparison) (k : Moment) → ComparisonMeans g c k → ComparisonMeans h c k
  comparison-later {g} {h} r c k m =
      record {
        inputs = list_later e r c.inputs k.row m.inputs;
        outputs = pairs_weaken (HasBoth e g) (HasBoth e h) (both_later e r) c.outputs _ m.outputs;
        mismatch = has-later e r c.mismatch _ m.mismatch;
      }

  -- a compared cycle's comparison
  cycle-comparison : (g : Aig) → Formed g → (ls : List Literal) (xs : List Bool) (ks : List Literal) (ys : List Bool)
      → Pairwise (Has e g) ls xs → Pairwise (Has e g) ks ys
      → ComparisonMeans (compared_cycle p g ls ks).aig (compared_cycle p g ls ks).comparison (record { row = bits_from e (length g) (length p.gold.inputs); gold = xs; gate = ys })
  unfolding compared_cycle cycle_of import_frames compare_outputs system_outputs_differ
  cycle-comparison g w ls xs ks ys h k =
      let row = bits_from e (length g) (length p.gold.inputs) in
      let i = proof_inputs g p.gold in
      let n = inputs_mean e g w p.gold in
      let gold = import_frame p.gold i.aig i.literals ls in
      let a = frame_means e i.aig n.since.formed p.gold i.literals ls row xs n.literals (list_later e n.since ls xs h) in
      let gate = import_frame p.gate gold.aig i.literals ks in
      let b = frame_means e gold.aig a.after.formed p.gate i.literals ks row ys
      (list_later e a.after i.literals row n.literals)
      (list_later e (grown_trans e n.since a.after) ks ys k) in
      let z = zip_both e gate.aig gold.outputs (system_outputs p.gold row xs) gate.outputs (system_outputs p.gate row ys)
      (list_later e b.after gold.outputs _ a.outputs) b.outputs in
      let c = compare_means e gate.aig b.after.formed (zip gold.outputs gate.outputs) (zip (system_outputs p.gold row xs) (system_outputs p.gate row ys)) z in
      record {
        inputs = list_later e (grown_trans e a.after (grown_trans e b.after (grown e c))) i.literals row n.literals;
        outputs = pairs_weaken (HasBoth e gate.aig) (HasBoth e (compare_pairs gate.aig (zip gold.outputs gate.outputs)).aig) (both_later e (grown e c)) (zip gold.outputs gate.outputs) _ z;
        mismatch = has e c;
      }

  one-comparison : (b : Base) (xs ys : List Bool) (m : Bool) (ks : List Moment) → BaseMeans e p b xs ys m → Pairwise (ComparisonMeans b.aig) b.comparisons ks
      → Pairwise (ComparisonMeans (counterexample_cycle p b).aig) (counterexample_cycle p b).comparisons
      (ks ++ (record { row = bits_from e (length b.aig) (length p.gold.inputs); gold = xs; gate = ys } ∷ []))
  unfolding counterexample_cycle counterexample_compared counterexample_next snoc
  one-comparison b xs ys m ks h q =
      let c = cycle_means e p b.aig h.formed b.gold_state xs b.gate_state ys h.gold h.gate in
      let d = compared_cycle p b.aig b.gold_state b.gate_state in
      let f = has-later e c.since b.any_mismatch m h.mismatch in
      let o = or_means e d.aig c.since.formed b.any_mismatch d.comparison.mismatch f.1 c.mismatch.1 in
      let g = (or d.aig b.any_mismatch d.comparison.mismatch).aig in
      let k = cycle-comparison b.aig h.formed b.gold_state xs b.gate_state ys h.gold h.gate in
      pairs_append (ComparisonMeans g) b.comparisons ks _ _
      (pairs_weaken (ComparisonMeans b.aig) (ComparisonMeans g) (comparison-later (grown_trans e c.since (grown e o))) b.comparisons ks q)
      (comparison-later (grown e o) d.comparison _ k, tt)

  -- all comparisons of query 1, beside their plain cycles
  pub comparisons_mean : (n : ℕ) (b : Base) (xs ys : List Bool) (m : Bool) (ks : List Moment) → BaseMeans e p b xs ys m → Pairwise (ComparisonMeans b.aig) b.comparisons ks
      → Pairwise (ComparisonMeans (counterexample_cycles p n b).aig) (counterexample_cycles p n b).comparisons (ks ++ moments p xs ys (input_rows e p n b))
  unfolding counterexample_cycles moments input_rows
  comparisons_mean zero b xs ys m ks h q = rw (append-nil ks) q
  comparisons_mean (suc n) b xs ys m ks h q =
      rw append_assoc at (comparisons_mean n (counterexample_cycle p b) _ _ _ _ (base-cycle e p b xs ys m h) (one-comparison b xs ys m ks h q))

  -- ---- what the trace reads

  input-bytes_mean : (g : Aig) (c : FrameComparison) (k : Moment) → ComparisonMeans g c k → input_bytes (aig_node_values e g) c ≡ map byte k.row
  unfolding input_bytes
  input-bytes_mean g c k m = pairs-map (Has e g) _ _ (λ l x h. ap byte h.0) c.inputs k.row m.inputs

  mark_bytes_mean : (g : Aig) (c : FrameComparison) (k : Moment) → ComparisonMeans g c k
      → mark_bytes (aig_node_values e g) c ≡ marks_of (system_outputs p.gold k.row k.gold) (system_outputs p.gate k.row k.gate)
  unfolding mark_bytes marks_of
  mark_bytes_mean g c k m = pairs-map (HasBoth e g) _ _ (λ l x h. ap byte (ap₂ xor h.0.0 h.1.0)) c.outputs _ m.outputs

  -- the first of the cycles that differs
  pub position_mean : (g : Aig) (cs : List FrameComparison) (ks : List Moment) → Pairwise (ComparisonMeans g) cs ks
      → position (λ (c : FrameComparison). evaluate (aig_node_values e g) c.mismatch) cs ≡ position (λ (k : Moment). system_outputs_differ p.gold p.gate k.row k.gold k.gate) ks
  unfolding position
  position_mean g [] [] h = refl
  position_mean g [] (k ∷ ks) h = absurd h
  position_mean g (c ∷ cs) [] h = absurd h
  position_mean g (c ∷ cs) (k ∷ ks) h = rw (h.0.mismatch.0, position_mean g cs ks h.1)

  -- the bytes of the inputs of the first cycles
  pub inputs_mean_bytes : (g : Aig) (cs : List FrameComparison) (ks : List Moment) → Pairwise (ComparisonMeans g) cs ks → (n : ℕ)
      → map (input_bytes (aig_node_values e g)) (take n cs) ≡ map (λ (k : Moment). map byte k.row) (take n ks)
  inputs_mean_bytes g cs ks h zero = refl
  inputs_mean_bytes g [] [] h (suc n) = refl
  inputs_mean_bytes g [] (k ∷ ks) h (suc n) = absurd h
  inputs_mean_bytes g (c ∷ cs) [] h (suc n) = absurd h
  inputs_mean_bytes g (c ∷ cs) (k ∷ ks) h (suc n) = ap₂ ◌∷◌ (input-bytes_mean g c k h.0) (inputs_mean_bytes g cs ks h.1 n)

  -- the marks of a cycle are where its outputs differ
  pub marks_mean : (g : Aig) (cs : List FrameComparison) (ks : List Moment) → Pairwise (ComparisonMeans g) cs ks → (n : ℕ)
      → first_marks (aig_node_values e g) (drop n cs) ≡ moment_marks p (drop n ks)
  unfolding first_marks moment_marks
  marks_mean g [] [] h zero = refl
  marks_mean g [] (k ∷ ks) h zero = absurd h
  marks_mean g (c ∷ cs) [] h zero = absurd h
  marks_mean g (c ∷ cs) (k ∷ ks) h zero = mark_bytes_mean g c k h.0
  marks_mean g [] [] h (suc n) = refl
  marks_mean g [] (k ∷ ks) h (suc n) = absurd h
  marks_mean g (c ∷ cs) [] h (suc n) = absurd h
  marks_mean g (c ∷ cs) (k ∷ ks) h (suc n) = marks_mean g cs ks h.1 n
