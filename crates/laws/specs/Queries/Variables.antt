-- In the graph of each query a variable's name is its place, so no two variables share a name. Assumes nothing.
use Prim.Native.Nat.{ℕ, zero, suc, ◌+◌}
use Rattle.std.proofs.Common.{arith}
use Rattle.std.specs.Prelude.{◌≡◌, refl, Bool, length}
use Rattle.std.proofs.Math.Bool.{true, false}
use mathlib.Core.List.{List, [], ◌∷◌}
use Rattle.std.proofs.Math.Option.{Option, none, some}
use Rattle.model.specs.Literal.{Literal, FALSE, negate}
use Rattle.model.specs.Lists.{snoc, position, zip}
use Rattle.model.specs.Aig.{Node, Constant, Variable, And, Aig, Built, new, variable, is_and, and_found, and_shortcut, and_unless, and, or, xor_shortcut, xor_unless, xor}
use Rattle.model.specs.Transition.{StateBit, TransitionSystem}
use Rattle.model.specs.Equivalence.{Problem, Import, with_imported, import_node, import_nodes, import_aig, frame_of, import_frame, LiteralList, with_built, new_variables, proof_inputs, named_pairs, compare_named_state, or_mismatch, any_difference, compare_pairs, compare_outputs, Cycle, import_frames, cycle_of, compared_cycle, Base, base_start, base_query, counterexample_next, counterexample_compared, counterexample_cycle, counterexample_cycles, base_counterexample, named_state_next, named_state_compared, named_state_cycle, named_state_cycles, base_preserves_named_state, Induction, gate_variable, matched, gate_variables, free_product_state, cycle_mismatch, induction_next, induction_compared, induction_cycle, induction_cycles, induction_query, induction_closes}

-- a node at place k, if it is a variable, has the name k; the constant stands at place 0 only
abbrev pub OwnName : ℕ → Node → Type 0
OwnName k Constant = k ≡ 0
OwnName k (Variable v) = v ≡ k
OwnName k (And a b) = Unit {0}

-- the nodes from place k on
abbrev pub OwnNames : ℕ → List Node → Type 0
OwnNames k [] = Unit {0}
OwnNames k (n ∷ ns) = OwnName k n × OwnNames (suc k) ns

-- a graph whose variables have their places for names
abbrev pub Named : Aig → Type 0
Named g = OwnNames 0 g

names-snoc : (k j : ℕ) (ns : List Node) (n : Node) → k + length ns ≡ j → OwnNames k ns → OwnName j n → OwnNames k (snoc ns n)
unfolding snoc
names-snoc k j [] n e w h = let q : k ≡ j = omega arith in (rw q h, tt)
names-snoc k j (m ∷ ns) n e w h = (w.0, names-snoc (suc k) j ns n (omega arith) w.1 h)

-- ---- operations

found-named : (g : Aig) (a b : Literal) (o : Option ℕ) → Named g → Named (and_found g a b o).aig
unfolding and_found
found-named g a b (some i) w = w
found-named g a b none w = names-snoc 0 (length g) g (And a b) (omega arith) w tt

unless_named : (g : Aig) (a b : Literal) (o : Option Literal) → Named g → Named (and_unless g a b o).aig
unfolding and_unless
unless_named g a b (some l) w = w
unless_named g a b none w = found-named g a b (position (is_and a b) g) w

and-named : (g : Aig) (a b : Literal) → Named g → Named (and g a b).aig
unfolding and
and-named g a b w = unless_named g _ _ (and_shortcut a b) w

or-named : (g : Aig) (a b : Literal) → Named g → Named (or g a b).aig
unfolding or
or-named g a b w = and-named g (negate a) (negate b) w

xor_unless_named : (g : Aig) (a b : Literal) (o : Option Literal) → Named g → Named (xor_unless g a b o).aig
unfolding xor_unless
xor_unless_named g a b (some l) w = w
xor_unless_named g a b none w = or-named _ _ _ (and-named _ _ _ (and-named g _ _ w))

xor-named : (g : Aig) (a b : Literal) → Named g → Named (xor g a b).aig
unfolding xor
xor-named g a b w = xor_unless_named g a b (xor_shortcut a b) w

variable-named : (g : Aig) → Named g → Named (variable g).aig
unfolding variable
variable-named g w = names-snoc 0 (length g) g (Variable (length g)) (omega arith) w refl

variables-named : {A : Type 0} (v : LiteralList) (zs : List A) → Named v.aig → Named (new_variables v zs).aig
unfolding new_variables with_built
variables-named v [] w = w
variables-named v (z ∷ zs) w = variables-named (with_built v.literals (variable v.aig)) zs (variable-named v.aig w)

difference_named : (m : Built) (ps : List (Literal × Literal)) → Named m.aig → Named (any_difference m ps).aig
unfolding any_difference or_mismatch
difference_named m [] w = w
difference_named m (p ∷ ps) w = difference_named (or_mismatch m.literal (xor m.aig p.0 p.1)) ps (or-named _ _ _ (xor-named m.aig p.0 p.1 w))

import_node-named : (vs : List (ℕ × Literal)) (i : Import) (n : Node) → Named i.aig → Named (import_node vs i n).aig
unfolding import_node with_imported
import_node-named vs i Constant w = w
import_node-named vs i (Variable v) w = w
import_node-named vs i (And a b) w = and-named i.aig _ _ w

import_named : (vs : List (ℕ × Literal)) (i : Import) (ns : List Node) → Named i.aig → Named (import_nodes vs i ns).aig
unfolding import_nodes
import_named vs i [] w = w
import_named vs i (n ∷ ns) w = import_named vs (import_node vs i n) ns (import_node-named vs i n w)

frame-named : (system : TransitionSystem) (g : Aig) (inputs states : List Literal) → Named g → Named (import_frame system g inputs states).aig
unfolding import_frame frame_of import_aig
frame-named system g inputs states w = import_named _ (record { aig = g; imported = [] }) system.aig w

-- ---- queries

new-named : Named new
unfolding new
new-named = (refl, tt)

module _ (p : Problem) where
  frames_named : (g : Aig) (ls ks : List Literal) → Named g → Named (import_frames p g ls ks).gate.aig
  unfolding import_frames proof_inputs
  frames_named g ls ks w = frame-named p.gate _ _ ks (frame-named p.gold _ _ ls (variables-named (record { aig = g; literals = [] }) p.gold.inputs w))

  compared_named : (g : Aig) (ls ks : List Literal) → Named g → Named (compared_cycle p g ls ks).aig
  unfolding compared_cycle cycle_of compare_outputs compare_pairs
  compared_named g ls ks w =
      let f = import_frames p g ls ks in
      difference_named (record { aig = f.gate.aig; literal = FALSE }) (zip f.gold.outputs f.gate.outputs) (frames_named g ls ks w)

  states-named : (g : Aig) (l : Literal) (ls ks : List Literal) → Named g → Named (or_mismatch l (compare_named_state p g ls ks)).aig
  unfolding or_mismatch compare_named_state compare_pairs
  states-named g l ls ks w = or-named _ _ _ (difference_named (record { aig = g; literal = FALSE }) (named_pairs p.gold.states ls p.gate.states ks) w)

  base-named : (n : ℕ) (b : Base) → Named b.aig → Named (counterexample_cycles p n b).aig
  unfolding counterexample_cycles counterexample_cycle counterexample_compared counterexample_next
  base-named zero b w = w
  base-named (suc n) b w = base-named n (counterexample_cycle p b) (or-named _ _ _ (compared_named b.aig b.gold_state b.gate_state w))

  named-named : (n : ℕ) (b : Base) → Named b.aig → Named (named_state_cycles p n b).aig
  unfolding named_state_cycles named_state_cycle named_state_compared named_state_next
  named-named zero b w = w
  named-named (suc n) b w =
      named-named n (named_state_cycle p b) (frames_named _ b.gold_state b.gate_state (states-named b.aig b.any_mismatch b.gold_state b.gate_state w))

  mismatch-named : (include : Bool) (b : Induction) (c : Cycle) → Named c.aig → Named (cycle_mismatch p include b c).aig
  unfolding cycle_mismatch
  mismatch-named true b c w = states-named c.aig c.comparison.mismatch b.gold_state b.gate_state w
  mismatch-named false b c w = w

  cycle-named : (include last : Bool) (b : Induction) → Named b.aig → Named (induction_cycle p include last b).aig
  unfolding induction_cycle induction_compared induction_next
  cycle-named include last b w =
      mismatch-named include b (compared_cycle p b.aig b.gold_state b.gate_state) (compared_named b.aig b.gold_state b.gate_state w)

  induction_named : (include : Bool) (n : ℕ) (b : Induction) → Named b.aig → Named (induction_cycles p include n b).aig
  unfolding induction_cycles
  induction_named include zero b w = cycle-named include true b w
  induction_named include (suc n) b w = induction_named include n (induction_cycle p include false b) (cycle-named include false b w)

  gate-named : (v : LiteralList) (o : Option Literal) → Named v.aig → Named (gate_variable v o).aig
  unfolding gate_variable with_built
  gate-named v none w = variable-named v.aig w
  gate-named v (some l) w = w

  gates-named : (share : Bool) (S : List StateBit) (L : List Literal) (v : LiteralList) (ss : List StateBit) → Named v.aig → Named (gate_variables share S L v ss).aig
  unfolding gate_variables
  gates-named share S L v [] w = w
  gates-named share S L v (s ∷ ss) w = gates-named share S L (gate_variable v (matched share s.name S L)) ss (gate-named v (matched share s.name S L) w)

  free-named : (include : Bool) → Named (free_product_state p include).aig
  unfolding free_product_state
  free-named include =
      let gold = new_variables (record { aig = new; literals = [] }) p.gold.states in
      gates-named include p.gold.states gold.literals (record { aig = gold.aig; literals = [] }) p.gate.states (variables-named (record { aig = new; literals = [] }) p.gold.states new-named)

  -- the variables of each query's graph have their places for names
  pub query_1_named : (depth : ℕ) → Named (base_counterexample p depth).aig
  unfolding base_counterexample base_query base_start
  query_1_named depth = base-named (suc depth) (base_start p) new-named

  -- of query 2
  pub query_2_named : (depth : ℕ) → Named (base_preserves_named_state p depth).aig
  unfolding base_preserves_named_state base_query base_start
  query_2_named depth = named-named (suc depth) (base_start p) new-named

  -- of queries 3 and 4
  pub query_3_4_named : (include : Bool) (depth : ℕ) → Named (induction_closes p include depth).aig
  unfolding induction_closes induction_query
  query_3_4_named include depth = induction_named include depth (free_product_state p include) (free-named include)
