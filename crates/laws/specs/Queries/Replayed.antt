-- The trace that query 1's model gives replays yes: agreement before the first mismatch, and the marked outputs in it. Assumes nothing.
use Prim.Native.Nat.{ℕ, zero, suc, ◌+◌, ◌*◌, ◌≤◌, ◌<◌}
use native.Mathlib.Omega.{arith}
use Rattle.std.proofs.Math.Nat.{zero-add, suc-mul}
use Rattle.std.proofs.Common.{zero-mul, ◌∙◌, get_or-append-add}
use Rattle.std.proofs.Math.Path.{◌≡◌, refl, sym, ap, ap₂, subst}
use Rattle.std.proofs.Math.Bool.{Bool, true, false, xor}
use Rattle.std.specs.Prelude.{cond, ◌&&◌, ◌||◌, get_or, take, drop, ltb}
use mathlib.Core.List.{List, [], ◌∷◌, ◌++◌, map, append_assoc, append-nil}
use Rattle.std.proofs.Math.Option.{Option, none, some}
use Rattle.std.proofs.Math.ListN.{length, length-append, length-map, get_or-append, get_or-map}
use Rattle.model.specs.Names.{Place, same_name, names_of, rank}
use Rattle.model.specs.Netlist.{Design, inputs, outputs, input_count, output_count}
use Rattle.model.specs.Record.{bit}
use Rattle.model.specs.Validate.{validate}
use Rattle.model.specs.Run.{InputSequence, StoredBits, bit_at, output_bits, stored_at, outputs_at, by_name}
use Rattle.model.specs.Pair.{trace_length, all_bits}
use Rattle.model.specs.Replay.{claim_bit, claim_inputs, bits_differ, differ_at, replays}
use Rattle.model.specs.Lists.{zip, position, next_place, concat}
use Rattle.model.specs.Aig.{evaluate, aig_node_values}
use Rattle.model.specs.Transition.{from_netlist}
use Rattle.model.specs.Check.{problem_of}
use Rattle.model.specs.Equivalence.{Problem, FrameComparison, base_start, base_query, base_counterexample, counterexample_cycles, byte, first_mismatch, trace_bytes}
use Rattle.laws.specs.Terms.{TraceGood}
use Rattle.laws.specs.Queries.Cycles.{query_1_means, start_means}
use Rattle.laws.specs.Lowering.SystemRun.{system_outputs, system_next, system_outputs_differ, outputs_differ_within}
use Rattle.facts.specs.Lists.{All, all_map}
use Rattle.laws.specs.Names.Order.{same_refl}
use Rattle.laws.specs.Replay.{replays-yes}
use Rattle.laws.specs.Queries.Bits.{input_rows}
use Rattle.laws.specs.Lowering.Run.{row_of, outputs-right, next-right}
use Rattle.laws.specs.Lowering.Rows.{ranked-inputs, map_same}
use Rattle.laws.specs.Lowering.Pair.{any_from, rows_of, row_same, outputs-gate, A, B, gold_next, gate_next, cycle-outputs, outputs-within}
use Rattle.laws.specs.Queries.Base.{Satisfies, input-rows_fit, inputs-count, sequence_of, rows_back}
use Rattle.laws.specs.Queries.Trace.{Moment, moments, marks_of, moment_marks, comparisons_mean, position_mean, inputs_mean_bytes, marks_mean}

-- ---- bytes

bit_byte : (b : Bool) → bit (byte b) ≡ b
unfolding bit byte
bit_byte true = refl
bit_byte false = refl

-- the input bytes of n cycles from c on
unfoldable byte_rows : Design → InputSequence → ℕ → ℕ → List (List ℕ)
byte_rows d ins c zero = []
byte_rows d ins c (suc n) = map byte (row_of d (ins c)) ∷ byte_rows d ins (suc c) n

module _ (d : Design) (ins : InputSequence) where
  row-length : (c : ℕ) → length (map byte (row_of d (ins c))) ≡ input_count d
  unfolding row_of input_count
  row-length c = length-map (row_of d (ins c)) byte ∙ length-map (inputs d) _

  rows-length : (c n : ℕ) → length (concat (byte_rows d ins c n)) ≡ n * input_count d
  unfolding byte_rows concat
  rows-length c zero = sym (zero-mul (input_count d))
  rows-length c (suc n) = length-append (map byte (row_of d (ins c))) _ ∙ omega (arith, row-length c, rows-length (suc c) n, suc-mul n (input_count d))

  byte_at : (row : List Bool) (r : ℕ) → get_or (map byte row) r 0 ≡ byte (bit_at row r)
  unfolding byte bit_at
  byte_at row r = get_or-map byte row r false

  -- the byte of input r in cycle c + k
  concat_get : (c n k r : ℕ) (tail : List ℕ) → k < n → r < input_count d → get_or (concat (byte_rows d ins c n) ++ tail) (k * input_count d + r) 0 ≡ byte (bit_at (row_of d (ins (c + k))) r)
  unfolding byte_rows concat
  concat_get c zero k r tail h i = absurd (omega arith)
  concat_get c (suc n) zero r tail h i =
      let row = map byte (row_of d (ins c)) in
      let q : c + 0 ≡ c = omega arith in
      let z : 0 * input_count d + r ≡ r = ap (λ (x : ℕ). x + r) (zero-mul (input_count d)) ∙ zero-add r in
      rw (q, z, append_assoc row (concat (byte_rows d ins (suc c) n)) tail)
      (get_or-append row (concat (byte_rows d ins (suc c) n) ++ tail) 0 r (omega (arith, row-length c)) ∙ byte_at (row_of d (ins c)) r)
  concat_get c (suc n) (suc k) r tail h i =
      let row = map byte (row_of d (ins c)) in
      let q : c + suc k ≡ suc c + k = omega arith in
      let z : suc k * input_count d + r ≡ length row + (k * input_count d + r) = omega (arith, suc-mul k (input_count d), row-length c) in
      rw (q, z, append_assoc row (concat (byte_rows d ins (suc c) n)) tail)
      (get_or-append-add row (concat (byte_rows d ins (suc c) n) ++ tail) (k * input_count d + r) 0 ∙ concat_get (suc c) n k r tail (omega arith) i)

  -- the byte after the inputs
  tail_get : (n j : ℕ) (tail : List ℕ) → get_or (concat (byte_rows d ins 0 n) ++ tail) (n * input_count d + j) 0 ≡ get_or tail j 0
  tail_get n j tail = rw (← rows-length 0 n) (get_or-append-add (concat (byte_rows d ins 0 n)) tail j 0)

marks_get : (xs ys : List Bool) (j : ℕ) → length xs ≡ length ys → j < length xs → get_or (marks_of xs ys) j 0 ≡ byte (xor (bit_at xs j) (bit_at ys j))
unfolding marks_of zip bit_at
marks_get [] ys j e h = absurd (omega arith)
marks_get (x ∷ xs) [] j e h = absurd (omega arith)
marks_get (x ∷ xs) (y ∷ ys) zero e h = refl
marks_get (x ∷ xs) (y ∷ ys) (suc j) e h = marks_get xs ys j (omega arith) (omega arith)

marks-length : (xs ys : List Bool) → length xs ≡ length ys → length (marks_of xs ys) ≡ length xs
unfolding marks_of zip
marks-length [] ys h = refl
marks-length (x ∷ xs) [] h = absurd (omega arith)
marks-length (x ∷ xs) (y ∷ ys) h = ap suc (marks-length xs ys (omega arith))

-- bytes of bits are 0 or 1
bytes_fine : {A : Type 0} (f : A → Bool) (xs : List A) → all_bits (map (λ (x : A). byte (f x)) xs) ≡ true
unfolding all_bits byte
bytes_fine f [] = refl
bytes_fine f (x ∷ xs) = go (f x) (bytes_fine f xs)
  where
    go : (b : Bool) → all_bits (map (λ x. byte (f x)) xs) ≡ true → (ltb (byte b) 2 && all_bits (map (λ x. byte (f x)) xs)) ≡ true
    go true h = unfold byte in h
    go false h = unfold byte in h

fine_append : (xs ys : List ℕ) → all_bits xs ≡ true → all_bits ys ≡ true → all_bits (xs ++ ys) ≡ true
unfolding all_bits
fine_append [] ys h k = k
fine_append (x ∷ xs) ys h k = go (ltb x 2) h (λ i. fine_append xs ys i k)
  where
    go : (b : Bool) → (b && all_bits xs) ≡ true → (all_bits xs ≡ true → all_bits (xs ++ ys) ≡ true) → (b && all_bits (xs ++ ys)) ≡ true
    go true i f = f i
    go false i f = i

rows_fine : (d : Design) (ins : InputSequence) (c n : ℕ) → all_bits (concat (byte_rows d ins c n)) ≡ true
unfolding byte_rows concat
rows_fine d ins c zero = unfold all_bits in refl
rows_fine d ins c (suc n) = fine_append (map byte (row_of d (ins c))) _ (bytes_fine (λ b. b) (row_of d (ins c))) (rows_fine d ins (suc c) n)

-- ---- ranks of inputs

cond_below : (b : Bool) (r n : ℕ) → r < n → cond b 0 (suc r) < suc n
cond_below true r n h = omega arith
cond_below false r n h = omega arith

rank_below : (ps : List Place) → All (λ (p : Place). rank p.name ps < length ps) ps
unfolding rank
rank_below [] = tt
rank_below (p ∷ ps) = (
  first,
  all_map (λ (q : Place). rank q.name ps < length ps) (λ (q : Place). rank q.name (p ∷ ps) < suc (length ps))
      (λ q h. cond_below (same_name q.name p.name) (rank q.name ps) (length ps) h) ps (rank_below ps),
)
  where
    first : cond (same_name p.name p.name) 0 (suc (rank p.name ps)) < suc (length ps)
    first = rw (same_refl p.name) (omega arith)

-- ---- runs on the same rows

module _ (d : Design) (v : validate d ≡ none) (s : StoredBits) (ins other : InputSequence) where
  states-same : (n : ℕ) → ((k : ℕ) → k < n → row_of d (ins k) ≡ row_of d (other k)) → by_name d (stored_at d s ins n) ≡ by_name d (stored_at d s other n)
  unfolding stored_at
  states-same zero f = refl
  states-same (suc n) f =
      let a = next-right d v (ins n) (stored_at d s ins n) in
      let b = next-right d v (other n) (stored_at d s other n) in
      sym a ∙ ap₂ (system_next (from_netlist d)) (f n (omega arith)) (states-same n (λ k h. f k (omega arith))) ∙ b

  -- the outputs of a cycle depend on the rows alone
  outputs-same : (n : ℕ) → ((k : ℕ) → k < suc n → row_of d (ins k) ≡ row_of d (other k)) → outputs_at d s ins n ≡ outputs_at d s other n
  unfolding outputs_at
  outputs-same n f =
      sym (outputs-right d v (ins n) (stored_at d s ins n))
      ∙ ap₂ (system_outputs (from_netlist d)) (f n (omega arith)) (states-same n (λ k h. f k (omega arith)))
      ∙ outputs-right d v (other n) (stored_at d s other n)

mismatch_is : (values : List Bool) (cs : List FrameComparison) (m : ℕ) → position (λ (c : FrameComparison). evaluate values c.mismatch) cs ≡ some m → first_mismatch values cs ≡ m
unfolding first_mismatch
mismatch_is values cs m h = ap (λ (o : Option ℕ). elim o [ none ↦ 0 | some i ↦ i ]) h

-- the first of n cycles from c on that passes the test, and where it is found
record First (P : ℕ → Bool) (c n : ℕ) (o : Option ℕ) : Type 0 where
  pub place : ℕ
  pub found : o ≡ some place
  pub low : place < n
  pub before : (k : ℕ) → k < place → P (c + k) ≡ false
  pub here : P (c + place) ≡ true

module _ (gold gate : Design) (vg : validate gold ≡ none) (vh : validate gate ≡ none) (same : names_of (inputs gold) ≡ names_of (inputs gate)) (s t : StoredBits) where
  -- the problem of the two designs from the start bits
  abbrev p : Problem
  p = problem_of gold gate s t

  module _ (ins : InputSequence) where
    -- the plain cycles of the run
    unfoldable run_moments : ℕ → ℕ → List Moment
    run_moments c zero = []
    run_moments c (suc n) = record { row = row_of gold (ins c); gold = A gold gate vg vh same s t ins c; gate = B gold gate vg vh same s t ins c } ∷ run_moments (suc c) n

    moments_are : (c n : ℕ) → moments p (A gold gate vg vh same s t ins c) (B gold gate vg vh same s t ins c) (rows_of gold ins c n) ≡ run_moments c n
    unfolding moments run_moments rows_of problem_of
    moments_are c zero = refl
    moments_are c (suc n) =
        ap (λ (l : List Moment). record { row = row_of gold (ins c); gold = A gold gate vg vh same s t ins c; gate = B gold gate vg vh same s t ins c } ∷ l)
        (ap₂ (λ (xs ys : List Bool). moments p xs ys (rows_of gold ins (suc c) n)) (gold_next gold gate vg vh same s t ins c) (gate_next gold gate vg vh same s t ins c) ∙ moments_are (suc c) n)

    -- whether a plain cycle differs
    abbrev test : Moment → Bool
    test k = system_outputs_differ (from_netlist gold) (from_netlist gate) k.row k.gold k.gate

    first_of : (c n : ℕ) → any_from (differ_at gold gate s t ins) c n ≡ true → First (differ_at gold gate s t ins) c n (position test (run_moments c n))
    unfolding any_from run_moments position
    first_of c zero h = absurd (let z : ◌≡◌ {A = ℕ} 0 1 = cc in omega arith)
    first_of c (suc n) h = rw (cycle-outputs gold gate vg vh same s t ins c) (go (differ_at gold gate s t ins c) refl h (first_of (suc c) n))
      where
        go : (b : Bool) → differ_at gold gate s t ins c ≡ b → (b || any_from (differ_at gold gate s t ins) (suc c) n) ≡ true
            → (any_from (differ_at gold gate s t ins) (suc c) n ≡ true → First (differ_at gold gate s t ins) (suc c) n (position test (run_moments (suc c) n)))
            → First (differ_at gold gate s t ins) c (suc n) (cond b (some 0) (next_place (position test (run_moments (suc c) n))))
        go true e k r = let q : c + 0 ≡ c = omega arith in record { place = 0; found = refl; low = omega arith; before = λ j i. absurd (omega arith); here = rw q e }
        go false e k r =
            let f = r k in
            let q : c + suc f.place ≡ suc c + f.place = omega arith in
            record { place = suc f.place; found = ap next_place f.found ∙ (unfold next_place in refl); low = omega (arith, f.low); before = earlier f.place e f.before; here = rw q f.here }
          where
            earlier : (m : ℕ) → differ_at gold gate s t ins c ≡ false → ((k : ℕ) → k < m → differ_at gold gate s t ins (suc c + k) ≡ false) → (k : ℕ) → k < suc m → differ_at gold gate s t ins (c + k) ≡ false
            earlier m a f zero i = let q : c + 0 ≡ c = omega arith in rw q a
            earlier m a f (suc k) i = let q : c + suc k ≡ suc c + k = omega arith in rw q (f k (omega arith))

    moment_bytes : (c n j : ℕ) → j ≤ n → map (λ (k : Moment). map byte k.row) (take j (run_moments c n)) ≡ byte_rows gold ins c j
    unfolding run_moments byte_rows
    moment_bytes c n zero h = refl
    moment_bytes c zero (suc j) h = absurd (omega arith)
    moment_bytes c (suc n) (suc j) h = ap (λ (l : List (List ℕ)). map byte (row_of gold (ins c)) ∷ l) (moment_bytes (suc c) n j (omega arith))

    run-marks : (c n m : ℕ) → m < n → moment_marks p (drop m (run_moments c n)) ≡ marks_of (outputs_at gold s ins (c + m)) (outputs_at gate t ins (c + m))
    unfolding run_moments moment_marks problem_of outputs_at
    run-marks c zero m h = absurd (omega arith)
    run-marks c (suc n) zero h =
        let q : c + 0 ≡ c = omega arith in
        rw q (ap₂ marks_of (outputs-right gold vg (ins c) (stored_at gold s ins c)) (outputs-gate gold gate vg vh same (ins c) (stored_at gate t ins c)))
    run-marks c (suc n) (suc m) h =
        let q : c + suc m ≡ suc c + m = omega arith in
        rw q (run-marks (suc c) n m (omega arith))

    -- the trace of cycles 0 to m
    unfoldable claim : ℕ → List ℕ
    claim m = concat (byte_rows gold ins 0 (suc m)) ++ marks_of (outputs_at gold s ins m) (outputs_at gate t ins m)

    -- its inputs are those of the sequence
    claim-row : (m c : ℕ) → c < suc m → row_of gold (claim_inputs gold (claim m) c) ≡ row_of gold (ins c)
    unfolding claim_inputs claim_bit claim row_of input_count
    claim-row m c h =
        map_same (λ (p : Place). claim_inputs gold (claim m) c p.name) (λ (p : Place). bit_at (row_of gold (ins c)) (rank p.name (inputs gold))) (inputs gold)
        (all_map (λ (p : Place). rank p.name (inputs gold) < length (inputs gold))
        (λ (p : Place). claim_inputs gold (claim m) c p.name ≡ bit_at (row_of gold (ins c)) (rank p.name (inputs gold)))
        (λ p i. ap bit (rw (zero-add c) at (concat_get gold ins 0 (suc m) c (rank p.name (inputs gold)) (marks_of (outputs_at gold s ins m) (outputs_at gate t ins m)) h i)) ∙ bit_byte _)
        (inputs gold) (rank_below (inputs gold)))
        ∙ ranked-inputs gold vg (row_of gold (ins c)) (length-map (inputs gold) _)

    gold-same : (m c : ℕ) → c < suc m → outputs_at gold s (claim_inputs gold (claim m)) c ≡ outputs_at gold s ins c
    gold-same m c h = outputs-same gold vg s (claim_inputs gold (claim m)) ins c (λ k i. claim-row m k (omega arith))

    gate_same : (m c : ℕ) → c < suc m → outputs_at gate t (claim_inputs gold (claim m)) c ≡ outputs_at gate t ins c
    gate_same m c h =
        outputs-same gate vh t (claim_inputs gold (claim m)) ins c
        (λ k i. sym (row_same gold gate vg vh same (claim_inputs gold (claim m) k)) ∙ claim-row m k (omega arith) ∙ row_same gold gate vg vh same (ins k))

    differ_same : (m c : ℕ) → c < suc m → differ_at gold gate s t (claim_inputs gold (claim m)) c ≡ differ_at gold gate s t ins c
    unfolding differ_at
    differ_same m c h = ap₂ bits_differ (gold-same m c h) (gate_same m c h)

    module _ (alike : names_of (outputs gold) ≡ names_of (outputs gate)) where
      outputs-count : (sequence : InputSequence) (c : ℕ) → length (outputs_at gold s sequence c) ≡ length (outputs_at gate t sequence c)
      unfolding outputs_at output_bits names_of
      outputs-count sequence c =
          length-map (outputs gold) _ ∙ sym (length-map (outputs gold) (λ (p : Place). p.name)) ∙ ap length alike ∙ length-map (outputs gate) (λ (p : Place). p.name) ∙ sym (length-map (outputs gate) _)

      -- the first mismatch of a run, claimed, replays yes
      claim-replays : (m : ℕ) → ((k : ℕ) → k < m → differ_at gold gate s t ins k ≡ false) → differ_at gold gate s t ins m ≡ true → replays gold gate s t m (claim m) ≡ true
      claim-replays m before here =
          (replays-yes gold gate s t m (claim m) (outputs-count (claim_inputs gold (claim m)) m)).1
          (record {
            agree = λ c h. differ_same m c (omega arith) ∙ before c h;
            marked = marked;
            differ = differ_same m m (omega arith) ∙ here;
          })
        where
          marked : (j : ℕ) → j < length (outputs_at gold s (claim_inputs gold (claim m)) m)
              → xor (bit_at (outputs_at gold s (claim_inputs gold (claim m)) m) j) (bit_at (outputs_at gate t (claim_inputs gold (claim m)) m) j) ≡ claim_bit (claim m) (suc m * input_count gold + j)
          marked j h =
              let a = gold-same m m (omega arith) in
              let b = gate_same m m (omega arith) in
              let i : j < length (outputs_at gold s ins m) = rw a at h in
              rw (a, b) (mark j i)
            where
              mark : (j : ℕ) → j < length (outputs_at gold s ins m) → xor (bit_at (outputs_at gold s ins m) j) (bit_at (outputs_at gate t ins m) j) ≡ claim_bit (claim m) (suc m * input_count gold + j)
              mark j i =
                  unfold claim_bit claim in
                  sym (ap bit (tail_get gold ins (suc m) j _ ∙ marks_get (outputs_at gold s ins m) (outputs_at gate t ins m) j (outputs-count ins m) i) ∙ bit_byte _)

      claim-length : (m : ℕ) → length (claim m) ≡ trace_length gold m
      unfolding claim trace_length output_count
      claim-length m =
          length-append (concat (byte_rows gold ins 0 (suc m))) _ ∙ ap₂ ◌+◌ (rows-length gold ins 0 (suc m)) (marks-length (outputs_at gold s ins m) (outputs_at gate t ins m) (outputs-count ins m) ∙ outputs_size)
        where
          outputs_size : length (outputs_at gold s ins m) ≡ length (outputs gold)
          outputs_size = unfold outputs_at output_bits in length-map (outputs gold) _

      claim_fine : (m : ℕ) → all_bits (claim m) ≡ true
      unfolding claim marks_of
      claim_fine m = fine_append (concat (byte_rows gold ins 0 (suc m))) _ (rows_fine gold ins 0 (suc m)) (bytes_fine (λ (q : Bool × Bool). xor q.0 q.1) (zip (outputs_at gold s ins m) (outputs_at gate t ins m)))

  -- a model of query 1 gives a trace that replays yes
  pub trace-replays : names_of (outputs gold) ≡ names_of (outputs gate) → (d : ℕ) (e : ℕ → Bool) → Satisfies e (base_counterexample p d)
      → (let q = base_counterexample p d in
      let values = aig_node_values e q.aig in
      let m = first_mismatch values q.comparisons in
      TraceGood gold gate s t d m (trace_bytes values q.comparisons m))
  unfolding base_counterexample base_query base_start problem_of stored_at trace_bytes claim
  trace-replays alike d e h =
      let b = counterexample_cycles p (suc d) (base_start p) in
      let values = aig_node_values e b.aig in
      let cs = b.comparisons in
      let rows = input_rows e p (suc d) (base_start p) in
      let f = input-rows_fit e p (suc d) (base_start p) in
      let ins = sequence_of gold rows in
      let r : rows_of gold ins 0 (suc d) ≡ rows = rw (append-nil rows, f.1) at (rows_back gold vg [] rows [] (rw (inputs-count gold vg) at f.0)) in
      let w = outputs-within gold gate vg vh same s t ins 0 (suc d) in
      let any = sym w ∙ ap (outputs_differ_within (from_netlist gold) (from_netlist gate) (by_name gold s) (by_name gate t)) r ∙ sym (query_1_means e p d).0 ∙ h.0 in
      let first = first_of ins 0 (suc d) any in
      let k : moments p (by_name gold s) (by_name gate t) rows ≡ run_moments ins 0 (suc d) = ap (moments p (by_name gold s) (by_name gate t)) (sym r) ∙ moments_are ins 0 (suc d) in
      let cm = rw k at (comparisons_mean e p (suc d) (base_start p) (by_name gold s) (by_name gate t) false [] (start_means e p) tt) in
      let m = first.place in
      let place : position (λ (c : FrameComparison). evaluate values c.mismatch) cs ≡ some m = position_mean e p b.aig cs (run_moments ins 0 (suc d)) cm ∙ first.found in
      let low = first.low in
      let bytes = inputs_mean_bytes e p b.aig cs (run_moments ins 0 (suc d)) cm (suc m) ∙ moment_bytes ins 0 (suc d) (suc m) low in
      let marks = rw (zero-add m) at (marks_mean e p b.aig cs (run_moments ins 0 (suc d)) cm m ∙ run-marks ins 0 (suc d) m low) in
      let yes = claim-replays ins alike m (λ c i. rw (zero-add c) at (first.before c i)) (rw (zero-add m) at first.here) in
      let z : trace_bytes values cs m ≡ claim ins m = ap₂ ◌++◌ (ap concat bytes) marks in
      let q : first_mismatch values cs ≡ m = mismatch_is values cs m place in
      subst (λ (n : ℕ). TraceGood gold gate s t d n (trace_bytes values cs n)) (sym q)
      (record { replay = ap (replays gold gate s t m) z ∙ yes; early = omega arith; size = ap length z ∙ claim-length ins alike m; bits = ap all_bits z ∙ claim_fine ins alike m })
