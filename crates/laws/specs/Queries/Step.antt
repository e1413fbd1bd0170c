-- Queries 3 and 4 ask Induction's questions from free states: both directions, in environments. Assumes nothing.
use Rattle.std.specs.Prelude.{ℕ, suc, ◌+◌, ◌<◌, ◌≡◌, refl, Bool, true, false}
use Rattle.std.proofs.Common.{arith, ap, ◌∙◌}
use Rattle.std.proofs.Math.Nat.{zero-add}
use Rattle.std.proofs.Math.Path.{sym}
use Rattle.std.specs.Bool.{xor}
use mathlib.Core.List.{List, [], ◌∷◌, ◌++◌}
use Rattle.std.proofs.Math.Option.{Option, none, some}
use Rattle.std.proofs.Math.ListN.{length}
use Rattle.std.proofs.lemmas.List.{length-map}
use Rattle.model.specs.Names.{names_of}
use Rattle.model.specs.Netlist.{Design, inputs}
use Rattle.model.specs.Validate.{validate}
use Rattle.model.specs.Run.{InputSequence, StoredBits, stored_at, by_name}
use Rattle.model.specs.Induction.{named_alike, stored_differ, Query3, Query4}
use Rattle.model.specs.Literal.{Literal}
use Rattle.model.specs.Aig.{Aig, evaluate, aig_node_values}
use Rattle.model.specs.Transition.{StateBit, from_netlist}
use Rattle.model.specs.Check.{problem_of}
use Rattle.model.specs.Equivalence.{state_literal, cons_pair, named_pairs, matched, induction_closes, free_product_state}
use Rattle.laws.specs.Queries.Cycles.{query_3_4_mean}
use Rattle.laws.specs.Lowering.SystemRun.{pairs_differ, system_states_differ, assumption_bits}
use Rattle.facts.specs.Lists.{All}
use Rattle.laws.specs.Pairwise.{Pairwise}
use Rattle.facts.specs.Bools.{or-both, xor-equal, xor_self}
use Rattle.laws.specs.Queries.Frame.{Has}
use Rattle.laws.specs.Queries.Bits.{bits_from, induction_rows, induction_last, shared_bit, shared_number, gate_bits}
use Rattle.laws.specs.Induction.Swap.{unique_registers, stored_swap}
use Rattle.laws.specs.Lowering.Run.{row_of}
use Rattle.laws.specs.Lowering.Rows.{stored_of, stored_back}
use Rattle.laws.specs.Lowering.Pair.{induction_bits, rows_of, states-differ-right, differs, assumptions-right}
use Rattle.laws.specs.Queries.States.{SharedBit, SharedBits, free_values, free-reached}
use Rattle.laws.specs.Queries.Base.{Satisfies, bits-length, induction_rows_fit, sequence_of, row_at, rows_back, rows_fit, inputs-count, states-count, by_name-count, True, bits-yes, bits_there}

-- ---- shared bits

-- gate's free bits show no difference where they are shared
shared-none : (e : ℕ → Bool) (S : List StateBit) (X : List Bool) (k : ℕ) (ss : List StateBit) → pairs_differ (named_pairs ss (gate_bits e true S X k ss) S X) ≡ false
unfolding named_pairs gate_bits pairs_differ matched cons_pair
shared-none e S X k [] = refl
shared-none e S X k (s ∷ ss) = go (state_literal s.name S X) (λ j. shared-none e S X j ss)
  where
    go : (o : Option Bool) → ((j : ℕ) → pairs_differ (named_pairs ss (gate_bits e true S X j ss) S X) ≡ false)
        → pairs_differ (cons_pair (shared_bit o (e k)) o (named_pairs ss (gate_bits e true S X (shared_number o k) ss) S X)) ≡ false
    go none r = unfold cons_pair shared_bit shared_number in r (suc k)
    go (some x) r = unfold cons_pair shared_bit shared_number pairs_differ in rw (xor_self x) (r k)

-- and bits that show none are shared
shared_back : (S : List StateBit) (X : List Bool) (ss : List StateBit) (ys : List Bool) → length ys ≡ length ss → pairs_differ (named_pairs ss ys S X) ≡ false → SharedBits true S X ss ys
unfolding named_pairs pairs_differ matched cons_pair
shared_back S X [] [] n h = tt
shared_back S X [] (y ∷ ys) n h = absurd (omega arith)
shared_back S X (s ∷ ss) [] n h = absurd (omega arith)
shared_back S X (s ∷ ss) (y ∷ ys) n h = go (state_literal s.name S X) h (shared_back S X ss ys (omega arith))
  where
    go : (o : Option Bool) → pairs_differ (cons_pair y o (named_pairs ss ys S X)) ≡ false → (pairs_differ (named_pairs ss ys S X) ≡ false → SharedBits true S X ss ys)
        → SharedBit o y × SharedBits true S X ss ys
    go none q r = (tt, r q)
    go (some x) q r = let o = or-both (xor y x) _ q in (xor-equal x y o.0, r o.1)

unshared : (S : List StateBit) (X : List Bool) (ss : List StateBit) (ys : List Bool) → length ys ≡ length ss → SharedBits false S X ss ys
unfolding matched
unshared S X [] [] n = tt
unshared S X [] (y ∷ ys) n = absurd (omega arith)
unshared S X (s ∷ ss) [] n = absurd (omega arith)
unshared S X (s ∷ ss) (y ∷ ys) n = (tt, unshared S X ss ys (omega arith))

gate-count : (e : ℕ → Bool) (share : Bool) (S : List StateBit) (X : List Bool) (k : ℕ) (ss : List StateBit) → length (gate_bits e share S X k ss) ≡ length ss
unfolding gate_bits
gate-count e share S X k [] = refl
gate-count e share S X k (s ∷ ss) = ap suc (gate-count e share S X (shared_number (matched share s.name S X) k) ss)

-- ---- assumptions and their bits

bits-true : (e : ℕ → Bool) (g : Aig) (ls : List Literal) (xs : List Bool) → Pairwise (Has e g) ls xs → All (λ (l : Literal). evaluate (aig_node_values e g) l ≡ true) ls → All True xs
bits-true e g [] [] h k = tt
bits-true e g [] (x ∷ xs) h k = absurd h
bits-true e g (l ∷ ls) [] h k = absurd h
bits-true e g (l ∷ ls) (x ∷ xs) h k = (sym h.0.0 ∙ k.0, bits-true e g ls xs h.1 k.1)

true-bits : (e : ℕ → Bool) (g : Aig) (ls : List Literal) (xs : List Bool) → Pairwise (Has e g) ls xs → All True xs → All (λ (l : Literal). evaluate (aig_node_values e g) l ≡ true) ls
true-bits e g [] [] h k = tt
true-bits e g [] (x ∷ xs) h k = absurd h
true-bits e g (l ∷ ls) [] h k = absurd h
true-bits e g (l ∷ ls) (x ∷ xs) h k = (h.0.0 ∙ k.0, true-bits e g ls xs h.1 k.1)

module _ (gold gate : Design) (vg : validate gold ≡ none) (vh : validate gate ≡ none) (same : names_of (inputs gold) ≡ names_of (inputs gate)) where
  -- registers named alike have the same bits exactly where gate's bits are gold's
  shared_same : (s t : StoredBits) → stored_differ (named_alike gold gate) s t ≡ pairs_differ (named_pairs (from_netlist gate).states (by_name gate t) (from_netlist gold).states (by_name gold s))
  unfolding system_states_differ
  shared_same s t = stored_swap gold gate (unique_registers gold vg) (unique_registers gate vh) s t ∙ sym (states-differ-right gate gold vh vg t s)

  module _ (u w : StoredBits) (d : ℕ) where
    free-from : (include : Bool) (e : ℕ → Bool) → Satisfies e (induction_closes (problem_of gold gate u w) include d)
        → (let xs = bits_from e 1 (length (from_netlist gold).states) in
        let ys = gate_bits e include (from_netlist gold).states xs (1 + length (from_netlist gold).states) (from_netlist gate).states in
        (ins : InputSequence) × ((c : ℕ) → c < d → differs gold gate vg vh same (stored_of gold xs) (stored_of gate ys) ins include c ≡ false)
        × (differs gold gate vg vh same (stored_of gold xs) (stored_of gate ys) ins include d ≡ true)
        × (by_name gold (stored_of gold xs) ≡ xs) × (by_name gate (stored_of gate ys) ≡ ys))
    unfolding problem_of stored_at
    free-from include e h =
        let q = problem_of gold gate u w in
        let xs = bits_from e 1 (length (from_netlist gold).states) in
        let ys = gate_bits e include (from_netlist gold).states xs (1 + length (from_netlist gold).states) (from_netlist gate).states in
        let b = free_product_state q include in
        let rows = induction_rows e q include d b in
        let last = induction_last e q include d b in
        let f = induction_rows_fit e q include d b in
        let ins = sequence_of gold (rows ++ (last ∷ [])) in
        let s = stored_of gold xs in
        let t = stored_of gate ys in
        let x : by_name gold s ≡ xs = stored_back gold vg xs (bits-length e 1 _ ∙ states-count gold vg) in
        let y : by_name gate t ≡ ys = stored_back gate vh ys (gate-count e include _ xs _ (from_netlist gate).states ∙ states-count gate vh) in
        let r : rows_of gold ins 0 d ≡ rows = rw f.1 at (rows_back gold vg [] rows (last ∷ []) (rw (inputs-count gold vg) at f.0)) in
        let l : row_of gold (ins d) ≡ last = rw f.1 at (row_at gold vg rows last [] (f.2 ∙ inputs-count gold vg)) in
        let m = bits-true e (induction_closes q include d).aig (induction_closes q include d).assumptions (assumption_bits include (from_netlist gold) (from_netlist gate) xs ys rows last) (query_3_4_mean e q include d) h in
        let a = rw (zero-add, x, y, r, l) at (assumptions-right gold gate vg vh same s t ins include 0 d) in
        let z = bits-yes (differs gold gate vg vh same s t ins include) 0 d (rw a at m) in
        (ins, (λ c i. rw zero-add at (z.0 c i)), rw zero-add at z.1, x, y)

    -- query 3: an environment that makes its assumptions true is a yes
    pub query_3_from : (e : ℕ → Bool) → Satisfies e (induction_closes (problem_of gold gate u w) true d) → Query3 gold gate d
    query_3_from e h =
        let xs = bits_from e 1 (length (from_netlist gold).states) in
        let ys = gate_bits e true (from_netlist gold).states xs (1 + length (from_netlist gold).states) (from_netlist gate).states in
        let f = free-from true e h in
        let k = rw (f.3, f.4) at (shared_same (stored_of gold xs) (stored_of gate ys)) in
        record {
          s = stored_of gold xs;
          t = stored_of gate ys;
          ins = f.0;
          shared = k ∙ shared-none e (from_netlist gold).states xs (1 + length (from_netlist gold).states) (from_netlist gate).states;
          equal = f.1;
          differ = f.2;
        }

    -- query 4: the same without sharing
    pub query_4_from : (e : ℕ → Bool) → Satisfies e (induction_closes (problem_of gold gate u w) false d) → Query4 gold gate d
    query_4_from e h =
        let xs = bits_from e 1 (length (from_netlist gold).states) in
        let ys = gate_bits e false (from_netlist gold).states xs (1 + length (from_netlist gold).states) (from_netlist gate).states in
        let f = free-from false e h in
        record { s = stored_of gold xs; t = stored_of gate ys; ins = f.0; equal = f.1; differ = f.2 }

    free_to : (include : Bool) (s t : StoredBits) (ins : InputSequence)
        → SharedBits include (from_netlist gold).states (by_name gold s) (from_netlist gate).states (by_name gate t)
        → ((c : ℕ) → c < d → differs gold gate vg vh same s t ins include c ≡ false) → differs gold gate vg vh same s t ins include d ≡ true
        → (e : ℕ → Bool) × Satisfies e (induction_closes (problem_of gold gate u w) include d)
    unfolding problem_of stored_at row_of
    free_to include s t ins m eq ne =
        let q = problem_of gold gate u w in
        let xs = by_name gold s in
        let ys = by_name gate t in
        let rows = rows_of gold ins 0 d in
        let last = row_of gold (ins d) in
        let f = rows_fit gold vg ins 0 d in
        let e = free_values q include xs ys rows last in
        let r = free-reached q include xs ys rows last (by_name-count gold vg s) m (rw (inputs-count gold vg) f.0) (length-map (inputs gold) _ ∙ sym (inputs-count gold vg)) in
        let a = rw zero-add at (assumptions-right gold gate vg vh same s t ins include 0 d) in
        let z = bits_there (differs gold gate vg vh same s t ins include) 0 d (λ c i. rw zero-add (eq c i)) (rw zero-add ne) in
        let k = query_3_4_mean e q include d in
        let j = rw f.1 at r.cycles in
        let l = rw f.1 at r.final in
        let g = r.gold in
        let h = r.gate in
        (e, true-bits e (induction_closes q include d).aig (induction_closes q include d).assumptions (induction_bits (differs gold gate vg vh same s t ins include) 0 d) (rw (g, h, j, l, a) at k) z)

    -- a yes of query 3 gives an environment that makes its assumptions true
    pub query_3_to : Query3 gold gate d → (e : ℕ → Bool) × Satisfies e (induction_closes (problem_of gold gate u w) true d)
    query_3_to q =
        free_to true q.s q.t q.ins
        (shared_back (from_netlist gold).states (by_name gold q.s) (from_netlist gate).states (by_name gate q.t) (by_name-count gate vh q.t) (sym (shared_same q.s q.t) ∙ q.shared))
        q.equal q.differ

    -- and one of query 4
    pub query_4_to : Query4 gold gate d → (e : ℕ → Bool) × Satisfies e (induction_closes (problem_of gold gate u w) false d)
    query_4_to q =
        free_to false q.s q.t q.ins
        (unshared (from_netlist gold).states (by_name gold q.s) (from_netlist gate).states (by_name gate q.t) (by_name-count gate vh q.t))
        q.equal q.differ
