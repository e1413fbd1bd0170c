-- Every input sequence is what some values of query 1's variables give. Assumes nothing.
use Rattle.std.specs.Prelude.{ℕ, zero, suc, ◌+◌, ◌-◌, ◌≤◌, ◌<◌, ◌≡◌, refl, Bool, true, false, cond, List, [], ◌∷◌, ◌++◌, length, get_or, ltb}
use Rattle.std.proofs.Common.{subst, arith, add-zero, ap₂, ◌∙◌, append_assoc, length-append, lt-ltb, le-ltb}
use Rattle.std.proofs.Math.Option.{Option, none, some}
use Rattle.std.proofs.Math.Seq.{get_or-append_seam}
use Rattle.model.specs.Literal.{Literal, FALSE, negate}
use Rattle.model.specs.Lists.{zip}
use Rattle.model.specs.Aig.{Aig, Built, or, xor_unless, xor_shortcut, xor}
use Rattle.model.specs.Transition.{TransitionSystem}
use Rattle.model.specs.Equivalence.{Problem, frame_of, import_aig, import_frame, new_variables, proof_inputs, or_mismatch, any_difference, compare_pairs, compare_outputs, import_frames, cycle_of, compared_cycle, Base, counterexample_next, counterexample_compared, counterexample_cycle}
use Rattle.laws.specs.Graph.Import.{Extends, extends_refl, extends_trans, and_extends, nodes_extend}
use Rattle.laws.specs.Queries.Bits.{bits_from, variables-length, input_rows}

-- ---- the graph only grows

-- an extension is no shorter
pub extends_length : {g h : Aig} → Extends g h → length g ≤ length h
extends_length {g} x = rw x.is (omega (arith, length-append g x.rest))

-- an or extends the graph
pub or_extends : (g : Aig) (a b : Literal) → Extends g (or g a b).aig
unfolding or
or_extends g a b = and_extends g (negate a) (negate b)

xor_unless_extends : (g : Aig) (a b : Literal) (o : Option Literal) → Extends g (xor_unless g a b o).aig
unfolding xor_unless
xor_unless_extends g a b (some l) = extends_refl g
xor_unless_extends g a b none = extends_trans (and_extends g _ _) (extends_trans (and_extends _ _ _) (or_extends _ _ _))

xor_extends : (g : Aig) (a b : Literal) → Extends g (xor g a b).aig
unfolding xor
xor_extends g a b = xor_unless_extends g a b (xor_shortcut a b)

-- so does a comparison
pub difference_extends : (m : Built) (ps : List (Literal × Literal)) → Extends m.aig (any_difference m ps).aig
unfolding any_difference or_mismatch
difference_extends m [] = extends_refl m.aig
difference_extends m (p ∷ ps) = extends_trans (xor_extends m.aig _ _) (extends_trans (or_extends _ _ _) (difference_extends (or_mismatch m.literal (xor m.aig p.0 p.1)) ps))

-- so does an imported cycle
pub frame_extends : (system : TransitionSystem) (g : Aig) (inputs states : List Literal) → Extends g (import_frame system g inputs states).aig
unfolding import_frame frame_of import_aig
frame_extends system g inputs states = nodes_extend _ (record { aig = g; imported = [] }) system.aig

-- a compared cycle adds at least its inputs
pub compared_length : (p : Problem) (g : Aig) (ls ks : List Literal) → length g + length p.gold.inputs ≤ length (compared_cycle p g ls ks).aig
unfolding compared_cycle cycle_of import_frames compare_outputs compare_pairs proof_inputs
compared_length p g ls ks =
    let i = new_variables (record { aig = g; literals = [] }) p.gold.inputs in
    let gold = import_frame p.gold i.aig i.literals ls in
    let gate = import_frame p.gate gold.aig i.literals ks in
    let n = variables-length (record { aig = g; literals = [] }) p.gold.inputs in
    let a = extends_length (frame_extends p.gold i.aig i.literals ls) in
    let b = extends_length (frame_extends p.gate gold.aig i.literals ks) in
    let c = extends_length (difference_extends (record { aig = gate.aig; literal = FALSE }) (zip gold.outputs gate.outputs)) in
    omega arith

-- a cycle of query 1 makes its inputs' variables first
cycle-length : (p : Problem) (b : Base) → length b.aig + length p.gold.inputs ≤ length (counterexample_cycle p b).aig
unfolding counterexample_cycle counterexample_compared counterexample_next
cycle-length p b =
    let n = compared_length p b.aig b.gold_state b.gate_state in
    let o = extends_length (or_extends (compared_cycle p b.aig b.gold_state b.gate_state).aig b.any_mismatch
    (compared_cycle p b.aig b.gold_state b.gate_state).comparison.mismatch) in
    omega arith

-- ---- values for given inputs

-- the row's bits for the variables from n on, and e for those after them
unfoldable pub row_then : ℕ → List Bool → (ℕ → Bool) → ℕ → Bool
row_then n row e v = cond (ltb v (n + length row)) (get_or row (v - n) false) (e v)

-- the values that give these rows to the cycles of query 1
unfoldable pub values_for : Problem → Base → List (List Bool) → ℕ → Bool
values_for p b [] = λ v. false
values_for p b (row ∷ rows) = row_then (length b.aig) row (values_for p (counterexample_cycle p b) rows)

-- environments that agree from n on give the same bits from there
pub bits-same : (e f : ℕ → Bool) (n k : ℕ) → ((v : ℕ) → n ≤ v → e v ≡ f v) → bits_from e n k ≡ bits_from f n k
unfolding bits_from
bits-same e f n zero h = refl
bits-same e f n (suc k) h = ap₂ ◌∷◌ (h n (omega arith)) (bits-same e f (suc n) k (λ v i. h v (omega arith)))

rows_same : (p : Problem) (e f : ℕ → Bool) (n : ℕ) (b : Base) → ((v : ℕ) → length b.aig ≤ v → e v ≡ f v) → input_rows e p n b ≡ input_rows f p n b
unfolding input_rows
rows_same p e f zero b h = refl
rows_same p e f (suc n) b h =
    ap₂ ◌∷◌ (bits-same e f (length b.aig) (length p.gold.inputs) h)
    (rows_same p e f n (counterexample_cycle p b) (λ v i. h v (omega (arith, cycle-length p b))))

-- the bits from place j of the row on
pub row-bits : (n : ℕ) (done row : List Bool) (e : ℕ → Bool) → bits_from (row_then n (done ++ row) e) (n + length done) (length row) ≡ row
unfolding bits_from row_then
row-bits n done [] e = refl
row-bits n done (x ∷ row) e =
    let i : n + length done < n + length (done ++ (x ∷ row)) = omega (arith, length-append done (x ∷ row)) in
    let t : ltb (n + length done) (n + length (done ++ (x ∷ row))) ≡ true = lt-ltb (n + length done) (n + length (done ++ (x ∷ row))) i in
    let d : (n + length done) - n ≡ length done = omega arith in
    let q : (done ++ (x ∷ [])) ++ row ≡ done ++ (x ∷ row) = append_assoc done (x ∷ []) row in
    let s : n + length (done ++ (x ∷ [])) ≡ suc (n + length done) = omega (arith, length-append done (x ∷ [])) in
    ap₂ ◌∷◌ (rw (t, d) (get_or-append_seam done x row false))
    (subst (λ (k : ℕ). bits_from (row_then n (done ++ (x ∷ row)) e) k (length row) ≡ row) s
    (subst (λ (r : List Bool). bits_from (row_then n r e) (n + length (done ++ (x ∷ []))) (length row) ≡ row) q (row-bits n (done ++ (x ∷ [])) row e)))

-- past a row the rest is as it was
pub past : (n : ℕ) (row : List Bool) (e : ℕ → Bool) (v : ℕ) → n + length row ≤ v → row_then n row e v ≡ e v
unfolding row_then
past n row e v i = rw (le-ltb v (n + length row) i)

-- each row has as many bits as there are inputs
abbrev pub Rows : ℕ → List (List Bool) → Type 0
Rows k [] = Unit {0}
Rows k (row ∷ rows) = (length row ≡ k) × Rows k rows

-- those values give those rows
pub rows-reached : (p : Problem) (b : Base) (rows : List (List Bool)) → Rows (length p.gold.inputs) rows
    → input_rows (values_for p b rows) p (length rows) b ≡ rows
unfolding input_rows values_for
rows-reached p b [] h = refl
rows-reached p b (row ∷ rows) h =
    let n = length b.aig in
    let e = values_for p (counterexample_cycle p b) rows in
    let first : bits_from (row_then n row e) n (length row) ≡ row = rw add-zero at (row-bits n [] row e) in
    ap₂ ◌∷◌
    (rw (← h.0) first)
    (rows_same p (row_then n row e) e (length rows) (counterexample_cycle p b) (λ v i. past n row e v (omega (arith, cycle-length p b, h.0)))
    ∙ rows-reached p (counterexample_cycle p b) rows h.1)
