-- The plain runs of two lowered designs are the designs' runs: outputs, named states, and what the queries ask of them. Assumes nothing.
use Prim.Native.Nat.{ℕ, zero, suc, ◌+◌}
use native.Mathlib.Omega.{arith}
use Rattle.std.specs.Prelude.{◌≡◌, Bool, not, cond, List, [], ◌∷◌, map}
use Rattle.std.proofs.Math.Path.{refl, sym, ap, ap₂}
use Rattle.std.proofs.Common.{◌∙◌}
use Rattle.std.proofs.Math.Bool.{true, false, ◌||◌}
use Rattle.std.specs.Bool.{xor}
use Rattle.std.proofs.Math.Option.{Option, none, some}
use Rattle.model.specs.Names.{Name, Place, same_name, names_of}
use Rattle.model.specs.Netlist.{Design, inputs, registers_by_name}
use Rattle.model.specs.Validate.{validate}
use Rattle.model.specs.Run.{InputBits, InputSequence, StoredBits, bit_at, node_values, next_stored, output_bits, stored_at, outputs_at, by_name}
use Rattle.model.specs.Replay.{bits_differ, differ_at}
use Rattle.model.specs.Induction.{alike_if, number_of, alike_in, named_alike, stored_differ, named_differ_at, either_differ_at}
use Rattle.model.specs.Lists.{zip}
use Rattle.model.specs.Transition.{StateBit, from_netlist}
use Rattle.model.specs.Equivalence.{state_literal, cons_pair, named_pairs}
use Rattle.laws.specs.Lowering.SystemRun.{system_outputs, system_next, pairs_differ, system_outputs_differ, system_states_differ, outputs_differ_within, states_differ_within, cycle_differs, assumption_bits}
use Rattle.laws.specs.Pairwise.{Pairwise}
use Rattle.laws.specs.Lowering.Run.{row_of, outputs-right, next-right, states-named}

bits-differ : (xs ys : List Bool) → pairs_differ (zip xs ys) ≡ bits_differ xs ys
unfolding pairs_differ zip bits_differ
bits-differ [] ys = refl
bits-differ (x ∷ xs) [] = refl
bits-differ (x ∷ xs) (y ∷ ys) = ap (λ (b : Bool). xor x y || b) (bits-differ xs ys)

-- the bit at a number that was found
unfoldable found_bit : StoredBits → Option ℕ → Option Bool
found_bit t none = none
found_bit t (some m) = some (bit_at t m)

-- a state and a register with one name
abbrev Named : StateBit → Place → Type 0
Named s p = s.name ≡ p.name

found_right : (t : StoredBits) (n : Name) (ss : List StateBit) (ps : List Place) → Pairwise Named ss ps
    → state_literal n ss (map (λ (p : Place). bit_at t p.number) ps) ≡ found_bit t (number_of n ps)
unfolding state_literal number_of found_bit
found_right t n [] [] h = refl
found_right t n [] (p ∷ ps) h = absurd h
found_right t n (s ∷ ss) [] h = absurd h
found_right t n (s ∷ ss) (p ∷ ps) h = rw h.0 (go (same_name n p.name) (found_right t n ss ps h.1))
  where
    go : (b : Bool) → state_literal n ss (map (λ (q : Place). bit_at t q.number) ps) ≡ found_bit t (number_of n ps)
        → cond b (some (bit_at t p.number)) (state_literal n ss (map (λ (q : Place). bit_at t q.number) ps)) ≡ found_bit t (cond b (some p.number) (number_of n ps))
    go true k = refl
    go false k = k

named-right : (s t : StoredBits) (ss : List StateBit) (ps : List Place) (ts : List StateBit) (qs : List Place) → Pairwise Named ss ps → Pairwise Named ts qs
    → pairs_differ (named_pairs ss (map (λ (p : Place). bit_at s p.number) ps) ts (map (λ (p : Place). bit_at t p.number) qs)) ≡ stored_differ (alike_in qs ps) s t
unfolding named_pairs alike_in pairs_differ stored_differ cons_pair alike_if found_bit
named-right s t [] [] ts qs h k = refl
named-right s t [] (p ∷ ps) ts qs h k = absurd h
named-right s t (x ∷ ss) [] ts qs h k = absurd h
named-right s t (x ∷ ss) (p ∷ ps) ts qs h k =
    rw (h.0, found_right t p.name ts qs k) (go (number_of p.name qs) (named-right s t ss ps ts qs h.1 k))
  where
    go : (o : Option ℕ)
        → pairs_differ (named_pairs ss (map (λ (q : Place). bit_at s q.number) ps) ts (map (λ (q : Place). bit_at t q.number) qs)) ≡ stored_differ (alike_in qs ps) s t
        → pairs_differ (cons_pair (bit_at s p.number) (found_bit t o) (named_pairs ss (map (λ (q : Place). bit_at s q.number) ps) ts (map (λ (q : Place). bit_at t q.number) qs)))
        ≡ stored_differ (alike_if p.number o (alike_in qs ps)) s t
    go none r = r
    go (some m) r = ap (λ (b : Bool). xor (bit_at s p.number) (bit_at t m) || b) r

row-names : (inp : InputBits) (ps : List Place) → map (λ (p : Place). inp p.name) ps ≡ map inp (names_of ps)
unfolding names_of
row-names inp [] = refl
row-names inp (p ∷ ps) = ap (λ (l : List Bool). inp p.name ∷ l) (row-names inp ps)

-- some cycle of n from c on passes the test
unfoldable pub any_from : (ℕ → Bool) → ℕ → ℕ → Bool
any_from P c zero = false
any_from P c (suc n) = P c || any_from P (suc c) n

-- for each of n cycles from c on that it does not pass, and for the one after them that it does
unfoldable pub induction_bits : (ℕ → Bool) → ℕ → ℕ → List Bool
induction_bits P c zero = P c ∷ []
induction_bits P c (suc n) = not (P c) ∷ induction_bits P (suc c) n

-- the rows of n cycles from c on
unfoldable pub rows_of : Design → InputSequence → ℕ → ℕ → List (List Bool)
rows_of d ins c zero = []
rows_of d ins c (suc n) = row_of d (ins c) ∷ rows_of d ins (suc c) n

-- states named alike differ, for lowered designs: registers named alike differ
pub states-differ-right : (gold gate : Design) → validate gold ≡ none → validate gate ≡ none → (s t : StoredBits)
    → system_states_differ (from_netlist gold) (from_netlist gate) (by_name gold s) (by_name gate t) ≡ stored_differ (named_alike gold gate) s t
unfolding system_states_differ named_alike by_name
states-differ-right gold gate vg vh s t = named-right s t (from_netlist gold).states (registers_by_name gold) (from_netlist gate).states (registers_by_name gate) (states-named gold vg) (states-named gate vh)

module _ (gold gate : Design) (vg : validate gold ≡ none) (vh : validate gate ≡ none) (same : names_of (inputs gold) ≡ names_of (inputs gate)) where
  -- both designs take the same row of inputs
  pub row_same : (inp : InputBits) → row_of gold inp ≡ row_of gate inp
  unfolding row_of
  row_same inp = row-names inp (inputs gold) ∙ ap (map inp) same ∙ sym (row-names inp (inputs gate))

  next-gate : (inp : InputBits) (t : StoredBits) → system_next (from_netlist gate) (row_of gold inp) (by_name gate t) ≡ by_name gate (next_stored gate (node_values gate inp t) t)
  next-gate inp t = ap (λ (r : List Bool). system_next (from_netlist gate) r (by_name gate t)) (row_same inp) ∙ next-right gate vh inp t

  -- gate's outputs on gold's row
  pub outputs-gate : (inp : InputBits) (t : StoredBits) → system_outputs (from_netlist gate) (row_of gold inp) (by_name gate t) ≡ output_bits gate (node_values gate inp t)
  outputs-gate inp t = ap (λ (r : List Bool). system_outputs (from_netlist gate) r (by_name gate t)) (row_same inp) ∙ outputs-right gate vh inp t

  outputs-differ-right : (inp : InputBits) (s t : StoredBits) → system_outputs_differ (from_netlist gold) (from_netlist gate) (row_of gold inp) (by_name gold s) (by_name gate t)
      ≡ bits_differ (output_bits gold (node_values gold inp s)) (output_bits gate (node_values gate inp t))
  unfolding system_outputs_differ
  outputs-differ-right inp s t = rw (outputs-right gold vg inp s, outputs-gate inp t) (bits-differ _ _)

  module _ (s t : StoredBits) (ins : InputSequence) where
    -- gold's state bits at the start of a cycle, in byte order of names
    abbrev pub A : ℕ → List Bool
    A c = by_name gold (stored_at gold s ins c)

    -- gate's
    abbrev pub B : ℕ → List Bool
    B c = by_name gate (stored_at gate t ins c)

    -- a cycle leads from one to the next
    pub gold_next : (c : ℕ) → system_next (from_netlist gold) (row_of gold (ins c)) (A c) ≡ A (suc c)
    unfolding stored_at
    gold_next c = next-right gold vg (ins c) (stored_at gold s ins c)

    -- for gate too
    pub gate_next : (c : ℕ) → system_next (from_netlist gate) (row_of gold (ins c)) (B c) ≡ B (suc c)
    unfolding stored_at
    gate_next c = next-gate (ins c) (stored_at gate t ins c)

    -- the systems' outputs differ in a cycle exactly where the designs' do
    pub cycle-outputs : (c : ℕ) → system_outputs_differ (from_netlist gold) (from_netlist gate) (row_of gold (ins c)) (A c) (B c) ≡ differ_at gold gate s t ins c
    unfolding differ_at outputs_at
    cycle-outputs c = outputs-differ-right (ins c) (stored_at gold s ins c) (stored_at gate t ins c)

    cycle-states : (c : ℕ) → system_states_differ (from_netlist gold) (from_netlist gate) (A c) (B c) ≡ named_differ_at gold gate s t ins c
    unfolding named_differ_at
    cycle-states c = states-differ-right gold gate vg vh (stored_at gold s ins c) (stored_at gate t ins c)

    -- query 1: outputs of the lowered designs differ in a cycle exactly where the designs' do
    pub outputs-within : (c n : ℕ) → outputs_differ_within (from_netlist gold) (from_netlist gate) (A c) (B c) (rows_of gold ins c n) ≡ any_from (differ_at gold gate s t ins) c n
    unfolding outputs_differ_within rows_of any_from
    outputs-within c zero = refl
    outputs-within c (suc n) = rw (cycle-outputs c, gold_next c, gate_next c, outputs-within (suc c) n)

    -- query 2: the same of registers named alike
    pub states-within : (c n : ℕ) → states_differ_within (from_netlist gold) (from_netlist gate) (A c) (B c) (rows_of gold ins c n) ≡ any_from (named_differ_at gold gate s t ins) c n
    unfolding states_differ_within rows_of any_from
    states-within c zero = refl
    states-within c (suc n) = rw (cycle-states c, gold_next c, gate_next c, states-within (suc c) n)

    -- what query 3 (true) and 4 ask of a cycle
    abbrev pub differs : Bool → ℕ → Bool
    differs true c = either_differ_at gold gate s t ins c
    differs false c = differ_at gold gate s t ins c

    cycle-right : (include : Bool) (c : ℕ) → cycle_differs include (from_netlist gold) (from_netlist gate) (row_of gold (ins c)) (A c) (B c) ≡ differs include c
    unfolding cycle_differs either_differ_at
    cycle-right true c = ap₂ ◌||◌ (cycle-outputs c) (cycle-states c)
    cycle-right false c = cycle-outputs c

    -- query 3 and 4: the assumptions' bits
    pub assumptions-right : (include : Bool) (c n : ℕ)
        → assumption_bits include (from_netlist gold) (from_netlist gate) (A c) (B c) (rows_of gold ins c n) (row_of gold (ins (c + n))) ≡ induction_bits (differs include) c n
    unfolding assumption_bits rows_of induction_bits
    assumptions-right include c zero =
        let q : c + 0 ≡ c = omega arith in
        rw (q, cycle-right include c)
    assumptions-right include c (suc n) =
        let q : c + suc n ≡ suc c + n = omega arith in
        rw (q, cycle-right include c, gold_next c, gate_next c, assumptions-right include (suc c) n)
