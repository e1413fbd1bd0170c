-- Queries 1 and 2 ask Induction's questions from the start bits: an environment makes their assumptions true exactly where the answer is yes. Assumes nothing.
use Prim.Native.Nat.{ℕ, zero, suc, ◌+◌, ◌<◌}
use Rattle.std.proofs.Common.{arith, ◌∙◌}
use Rattle.std.proofs.Math.Nat.{zero-add}
use Rattle.std.specs.Prelude.{◌≡◌, Bool, true, false, not, ◌||◌, get_or}
use Rattle.std.proofs.Math.Path.{refl, sym, ap, ap₂}
use mathlib.Core.List.{List, [], ◌∷◌, ◌++◌, append_assoc, append-nil}
use Rattle.std.proofs.Math.Option.{none}
use Rattle.std.proofs.Math.ListN.{length, length-append, length-map}
use Rattle.std.proofs.Math.Seq.{get_or-append_seam}
use Rattle.std.proofs.lemmas.Bool.{not-true}
use Rattle.model.specs.Names.{names_of}
use Rattle.model.specs.Netlist.{Design, inputs, registers_by_name}
use Rattle.model.specs.Validate.{validate}
use Rattle.model.specs.Run.{InputSequence, StoredBits, stored_at, by_name}
use Rattle.model.specs.Replay.{differ_at}
use Rattle.model.specs.Induction.{named_differ_at, Query1, Query2}
use Rattle.model.specs.Literal.{Literal}
use Rattle.model.specs.Aig.{evaluate, aig_node_values}
use Rattle.model.specs.Transition.{from_netlist}
use Rattle.model.specs.Equivalence.{Problem, Query, Base, Induction, base_start, base_query, counterexample_cycle, base_counterexample, named_state_cycle, base_preserves_named_state, induction_cycle}
use Rattle.laws.specs.Queries.Cycles.{query_1_means, query_2_means}
use Rattle.laws.specs.Lowering.SystemRun.{outputs_differ_within, states_differ_within}
use Rattle.model.specs.Check.{problem_of}
use Rattle.facts.specs.Lists.{All}
use Rattle.laws.specs.Pairwise.{pairs-length}
use Rattle.facts.specs.Bools.{or-true}
use Rattle.laws.specs.Queries.Bits.{bits_from, input_rows, state_rows, induction_rows, induction_last}
use Rattle.laws.specs.Queries.Inputs.{Rows, values_for, rows-reached}
use Rattle.laws.specs.Lowering.Run.{row_of, inputs-named, states-named}
use Rattle.laws.specs.Lowering.Rows.{bits_of_row, row_back}
use Rattle.laws.specs.Lowering.Pair.{any_from, induction_bits, rows_of, outputs-within, states-within}
use Rattle.laws.specs.Queries.States.{state_values, state-rows-reached}

-- the environment makes every assumption of the query true
abbrev pub Satisfies : (ℕ → Bool) → Query → Type 0
Satisfies e q = All (λ (l : Literal). evaluate (aig_node_values e q.aig) l ≡ true) q.assumptions

-- ---- rows

-- so many bits
pub bits-length : (e : ℕ → Bool) (n k : ℕ) → length (bits_from e n k) ≡ k
unfolding bits_from
bits-length e n zero = refl
bits-length e n (suc k) = ap suc (bits-length e (suc n) k)

-- the rows that an environment gives query 1 have a bit for each input
pub input-rows_fit : (e : ℕ → Bool) (p : Problem) (n : ℕ) (b : Base) → Rows (length p.gold.inputs) (input_rows e p n b) × (length (input_rows e p n b) ≡ n)
unfolding input_rows
input-rows_fit e p zero b = (tt, refl)
input-rows_fit e p (suc n) b = let r = input-rows_fit e p n (counterexample_cycle p b) in ((bits-length e _ _, r.0), ap suc r.1)

state-rows_fit : (e : ℕ → Bool) (p : Problem) (n : ℕ) (b : Base) → Rows (length p.gold.inputs) (state_rows e p n b) × (length (state_rows e p n b) ≡ n)
unfolding state_rows
state-rows_fit e p zero b = (tt, refl)
state-rows_fit e p (suc n) b = let r = state-rows_fit e p n (named_state_cycle p b) in ((bits-length e _ _, r.0), ap suc r.1)

-- and so have those of queries 3 and 4
pub induction_rows_fit : (e : ℕ → Bool) (p : Problem) (include : Bool) (n : ℕ) (b : Induction)
    → Rows (length p.gold.inputs) (induction_rows e p include n b) × (length (induction_rows e p include n b) ≡ n) × (length (induction_last e p include n b) ≡ length p.gold.inputs)
unfolding induction_rows induction_last
induction_rows_fit e p include zero b = (tt, refl, bits-length e _ _)
induction_rows_fit e p include (suc n) b = let r = induction_rows_fit e p include n (induction_cycle p include false b) in ((bits-length e _ _, r.0), ap suc r.1, r.2)

-- the input sequence whose rows are given
unfoldable pub sequence_of : Design → List (List Bool) → InputSequence
sequence_of d rows c = bits_of_row d (get_or rows c [])

module _ (d : Design) (v : validate d ≡ none) where
  -- the row of a cycle is what the sequence gives back
  pub row_at : (done : List (List Bool)) (row : List Bool) (rest : List (List Bool)) → length row ≡ length (inputs d) → row_of d (sequence_of d (done ++ (row ∷ rest)) (length done)) ≡ row
  unfolding sequence_of
  row_at done row rest h = ap (λ (r : List Bool). row_of d (bits_of_row d r)) (get_or-append_seam done row rest []) ∙ row_back d v row h

  -- that sequence has those rows
  pub rows_back : (done rows tail : List (List Bool)) → Rows (length (inputs d)) rows → rows_of d (sequence_of d (done ++ (rows ++ tail))) (length done) (length rows) ≡ rows
  unfolding rows_of
  rows_back done [] tail h = refl
  rows_back done (row ∷ rows) tail h =
      let q : (done ++ (row ∷ [])) ++ (rows ++ tail) ≡ done ++ (row ∷ (rows ++ tail)) = append_assoc done (row ∷ []) (rows ++ tail) in
      let n : length (done ++ (row ∷ [])) ≡ suc (length done) = simp length-append (omega arith) in
      let r = rows_back (done ++ (row ∷ [])) rows tail h.1 in
      ap₂ ◌∷◌ (row_at done row (rows ++ tail) h.0) (rw (q, n) at r)

  -- the rows of a sequence have a bit for each input
  pub rows_fit : (ins : InputSequence) (c n : ℕ) → Rows (length (inputs d)) (rows_of d ins c n) × (length (rows_of d ins c n) ≡ n)
  unfolding rows_of row_of
  rows_fit ins c zero = (tt, refl)
  rows_fit ins c (suc n) = let r = rows_fit ins (suc c) n in ((length-map (inputs d) _, r.0), ap suc r.1)

  -- the system has the design's inputs
  pub inputs-count : length (from_netlist d).inputs ≡ length (inputs d)
  inputs-count = pairs-length _ (from_netlist d).inputs (inputs d) (inputs-named d v)

  -- and its registers
  pub states-count : length (from_netlist d).states ≡ length (registers_by_name d)
  states-count = pairs-length _ (from_netlist d).states (registers_by_name d) (states-named d v)

  -- a bit for each state
  pub by_name-count : (s : StoredBits) → length (by_name d s) ≡ length (from_netlist d).states
  unfolding by_name
  by_name-count s = length-map (registers_by_name d) _ ∙ sym states-count

-- ---- some cycle, and all cycles

any_yes : (P : ℕ → Bool) (c n : ℕ) → any_from P c n ≡ true → (k : ℕ) × (k < c + n) × (P k ≡ true)
unfolding any_from
any_yes P c zero h = absurd (let z : ◌≡◌ {A = ℕ} 0 1 = cc in omega arith)
any_yes P c (suc n) h = go (P c) refl h (any_yes P (suc c) n)
  where
    go : (b : Bool) → P c ≡ b → (b || any_from P (suc c) n) ≡ true → (any_from P (suc c) n ≡ true → (k : ℕ) × (k < suc c + n) × (P k ≡ true)) → (k : ℕ) × (k < c + suc n) × (P k ≡ true)
    go true e q r = (c, omega arith, e)
    go false e q r = let x = r q in (x.0, omega (arith, x.1), x.2)

any_there : (P : ℕ → Bool) (c n k : ℕ) → P (c + k) ≡ true → k < n → any_from P c n ≡ true
unfolding any_from
any_there P c zero k h i = absurd (omega arith)
any_there P c (suc n) zero h i = let q : c + 0 ≡ c = omega arith in rw (rw q at h)
any_there P c (suc n) (suc k) h i = let q : c + suc k ≡ suc c + k = omega arith in or-true (P c) _ (any_there P (suc c) n k (rw q at h) (omega arith))

-- the bit is true
abbrev pub True : Bool → Type 0
True b = b ≡ true

-- what the assumptions of queries 3 and 4 say of each cycle
pub bits-yes : (P : ℕ → Bool) (c n : ℕ) → All True (induction_bits P c n) → ((k : ℕ) → k < n → P (c + k) ≡ false) × (P (c + n) ≡ true)
unfolding induction_bits
bits-yes P c zero h = let q : c + 0 ≡ c = omega arith in ((λ k i. absurd (omega arith)), rw q h.0)
bits-yes P c (suc n) h =
    let r = bits-yes P (suc c) n h.1 in
    let q : c + suc n ≡ suc c + n = omega arith in
    (step (not-true (P c) h.0) r.0, rw q r.1)
  where
    step : P c ≡ false → ((k : ℕ) → k < n → P (suc c + k) ≡ false) → (k : ℕ) → k < suc n → P (c + k) ≡ false
    step a f zero i = let q : c + 0 ≡ c = omega arith in rw q a
    step a f (suc k) i = let q : c + suc k ≡ suc c + k = omega arith in rw q (f k (omega arith))

-- and the other way round
pub bits_there : (P : ℕ → Bool) (c n : ℕ) → ((k : ℕ) → k < n → P (c + k) ≡ false) → P (c + n) ≡ true → All True (induction_bits P c n)
unfolding induction_bits
bits_there P c zero f h = let q : c + 0 ≡ c = omega arith in (rw q at h, tt)
bits_there P c (suc n) f h =
    let q : c + suc n ≡ suc c + n = omega arith in
    (first, bits_there P (suc c) n (λ k i. let r : c + suc k ≡ suc c + k = omega arith in rw r at (f (suc k) (omega arith))) (rw q at h))
  where
    first : not (P c) ≡ true
    first = let q : c + 0 ≡ c = omega arith in ap not (rw q at (f 0 (omega arith)))

module _ (gold gate : Design) (vg : validate gold ≡ none) (vh : validate gate ≡ none) (same : names_of (inputs gold) ≡ names_of (inputs gate)) where
  -- ---- queries 1 and 2, from given start bits

  module _ (s t : StoredBits) (d : ℕ) where
    -- query 1: an environment that makes its assumption true is a yes
    pub query_1_from : (e : ℕ → Bool) → Satisfies e (base_counterexample (problem_of gold gate s t) d) → Query1 gold gate s t d
    unfolding base_counterexample base_query problem_of stored_at
    query_1_from e h =
        let p = problem_of gold gate s t in
        let rows = input_rows e p (suc d) (base_start p) in
        let f = input-rows_fit e p (suc d) (base_start p) in
        let ins = sequence_of gold rows in
        let r : rows_of gold ins 0 (suc d) ≡ rows = rw (append-nil rows, f.1) at (rows_back gold vg [] rows [] (rw (inputs-count gold vg) at f.0)) in
        let m = (query_1_means e p d).0 in
        let w = outputs-within gold gate vg vh same s t ins 0 (suc d) in
        let x = any_yes (differ_at gold gate s t ins) 0 (suc d) (sym w ∙ ap (outputs_differ_within (from_netlist gold) (from_netlist gate) (by_name gold s) (by_name gate t)) r ∙ sym m ∙ h.0) in
        record { ins = ins; cycle = x.0; within = omega (arith, x.1); differ = x.2 }

    -- and a yes gives such an environment
    pub query_1_to : Query1 gold gate s t d → (e : ℕ → Bool) × Satisfies e (base_counterexample (problem_of gold gate s t) d)
    unfolding base_counterexample base_query problem_of stored_at
    query_1_to q =
        let p = problem_of gold gate s t in
        let rows = rows_of gold q.ins 0 (suc d) in
        let f = rows_fit gold vg q.ins 0 (suc d) in
        let e = values_for p (base_start p) rows in
        let r : input_rows e p (suc d) (base_start p) ≡ rows = rw f.1 at (rows-reached p (base_start p) rows (rw (inputs-count gold vg) f.0)) in
        let m = (query_1_means e p d).0 in
        let w = outputs-within gold gate vg vh same s t q.ins 0 (suc d) in
        let a = any_there (differ_at gold gate s t q.ins) 0 (suc d) q.cycle (rw zero-add q.differ) (omega (arith, q.within)) in
        (e, (m ∙ ap (outputs_differ_within (from_netlist gold) (from_netlist gate) (by_name gold s) (by_name gate t)) r ∙ w ∙ a, tt))

    -- query 2
    pub query_2_from : (e : ℕ → Bool) → Satisfies e (base_preserves_named_state (problem_of gold gate s t) d) → Query2 gold gate s t d
    unfolding base_preserves_named_state base_query problem_of stored_at
    query_2_from e h =
        let p = problem_of gold gate s t in
        let rows = state_rows e p (suc d) (base_start p) in
        let f = state-rows_fit e p (suc d) (base_start p) in
        let ins = sequence_of gold rows in
        let r : rows_of gold ins 0 (suc d) ≡ rows = rw (append-nil rows, f.1) at (rows_back gold vg [] rows [] (rw (inputs-count gold vg) at f.0)) in
        let m = (query_2_means e p d).0 in
        let w = states-within gold gate vg vh same s t ins 0 (suc d) in
        let x = any_yes (named_differ_at gold gate s t ins) 0 (suc d) (sym w ∙ ap (states_differ_within (from_netlist gold) (from_netlist gate) (by_name gold s) (by_name gate t)) r ∙ sym m ∙ h.0) in
        record { ins = ins; cycle = x.0; within = omega (arith, x.1); differ = x.2 }

    -- and a yes gives such an environment
    pub query_2_to : Query2 gold gate s t d → (e : ℕ → Bool) × Satisfies e (base_preserves_named_state (problem_of gold gate s t) d)
    unfolding base_preserves_named_state base_query problem_of stored_at
    query_2_to q =
        let p = problem_of gold gate s t in
        let rows = rows_of gold q.ins 0 (suc d) in
        let f = rows_fit gold vg q.ins 0 (suc d) in
        let e = state_values p (base_start p) rows in
        let r : state_rows e p (suc d) (base_start p) ≡ rows = rw f.1 at (state-rows-reached p (base_start p) rows (rw (inputs-count gold vg) f.0)) in
        let m = (query_2_means e p d).0 in
        let w = states-within gold gate vg vh same s t q.ins 0 (suc d) in
        let a = any_there (named_differ_at gold gate s t q.ins) 0 (suc d) q.cycle (rw zero-add q.differ) (omega (arith, q.within)) in
        (e, (m ∙ ap (states_differ_within (from_netlist gold) (from_netlist gate) (by_name gold s) (by_name gate t)) r ∙ w ∙ a, tt))
