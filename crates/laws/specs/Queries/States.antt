-- Every input sequence and every pair of states is what some values of the variables of queries 2, 3 and 4 give. Assumes nothing.
use Rattle.std.specs.Prelude.{ℕ, zero, suc, ◌+◌, ◌≤◌, ◌≡◌, refl, Bool, true, false, cond, length}
use native.Mathlib.Omega.{arith}
use Rattle.std.proofs.Common.{add-zero, ◌∙◌}
use Rattle.std.proofs.Math.Path.{ap₂}
use mathlib.Core.List.{List, [], ◌∷◌}
use Rattle.std.proofs.Math.Option.{Option, none, some}
use Rattle.model.specs.Names.{Name, same_name}
use Rattle.model.specs.Literal.{Literal, FALSE}
use Rattle.model.specs.Aig.{Aig, Variable, Built, new, variable}
use Rattle.model.specs.Transition.{StateBit}
use Rattle.model.specs.Equivalence.{Problem, import_frame, LiteralList, with_built, new_variables, proof_inputs, state_literal, named_pairs, compare_named_state, compare_pairs, or_mismatch, import_frames, Cycle, compared_cycle, Base, named_state_next, named_state_compared, named_state_cycle, Induction, gate_variable, matched, gate_variables, free_product_state, cycle_mismatch, induction_next, induction_compared, induction_cycle}
use Rattle.laws.specs.Lists.{length-snoc}
use Rattle.laws.specs.Queries.Bits.{bits_from, variables-length, state_rows, induction_rows, induction_last, shared_bit, shared_number, gate_bits, literals-length}
use Rattle.laws.specs.Queries.Inputs.{extends_length, or_extends, difference_extends, frame_extends, compared_length, row_then, bits-same, row-bits, past, Rows}

-- a row's bits stand at its variables
row_here : (n : ℕ) (row : List Bool) (e : ℕ → Bool) → bits_from (row_then n row e) n (length row) ≡ row
row_here n row e = rw add-zero at (row-bits n [] row e)

-- ---- query 2

-- the graph when a cycle of query 2 makes its inputs
abbrev state_start : Problem → Base → Built
state_start p b = or_mismatch b.any_mismatch (compare_named_state p b.aig b.gold_state b.gate_state)

compared_state : (p : Problem) (g : Aig) (l : Literal) (ls ks : List Literal) → length g ≤ length (or_mismatch l (compare_named_state p g ls ks)).aig
unfolding or_mismatch compare_named_state compare_pairs
compared_state p g l ls ks =
    let a = difference_extends (record { aig = g; literal = FALSE }) (named_pairs p.gold.states ls p.gate.states ks) in
    let b = or_extends (compare_pairs g (named_pairs p.gold.states ls p.gate.states ks)).aig l (compare_pairs g (named_pairs p.gold.states ls p.gate.states ks)).literal in
    omega (arith, extends_length a, extends_length b)

state-cycle-length : (p : Problem) (b : Base) → length (state_start p b).aig + length p.gold.inputs ≤ length (named_state_cycle p b).aig
unfolding named_state_cycle named_state_compared named_state_next import_frames proof_inputs
state-cycle-length p b =
    let g = (state_start p b).aig in
    let i = new_variables (record { aig = g; literals = [] }) p.gold.inputs in
    let gold = import_frame p.gold i.aig i.literals b.gold_state in
    let n = variables-length (record { aig = g; literals = [] }) p.gold.inputs in
    let a = extends_length (frame_extends p.gold i.aig i.literals b.gold_state) in
    let c = extends_length (frame_extends p.gate gold.aig i.literals b.gate_state) in
    omega arith

-- the values that give these rows to the cycles of query 2
unfoldable pub state_values : Problem → Base → List (List Bool) → ℕ → Bool
state_values p b [] = λ v. false
state_values p b (row ∷ rows) = row_then (length (state_start p b).aig) row (state_values p (named_state_cycle p b) rows)

state-rows-same : (p : Problem) (e f : ℕ → Bool) (n : ℕ) (b : Base) → ((v : ℕ) → length b.aig ≤ v → e v ≡ f v) → state_rows e p n b ≡ state_rows f p n b
unfolding state_rows
state-rows-same p e f zero b h = refl
state-rows-same p e f (suc n) b h =
    let i = compared_state p b.aig b.any_mismatch b.gold_state b.gate_state in
    let j = state-cycle-length p b in
    ap₂ ◌∷◌ (bits-same e f (length (state_start p b).aig) (length p.gold.inputs) (λ v k. h v (omega arith)))
    (state-rows-same p e f n (named_state_cycle p b) (λ v k. h v (omega arith)))

-- those values give those rows
pub state-rows-reached : (p : Problem) (b : Base) (rows : List (List Bool)) → Rows (length p.gold.inputs) rows
    → state_rows (state_values p b rows) p (length rows) b ≡ rows
unfolding state_rows state_values
state-rows-reached p b [] h = refl
state-rows-reached p b (row ∷ rows) h =
    let n = length (state_start p b).aig in
    let e = state_values p (named_state_cycle p b) rows in
    ap₂ ◌∷◌
    (rw (← h.0) (row_here n row e))
    (state-rows-same p (row_then n row e) e (length rows) (named_state_cycle p b) (λ v i. past n row e v (omega (arith, state-cycle-length p b, h.0)))
    ∙ state-rows-reached p (named_state_cycle p b) rows h.1)

-- ---- cycles of query 3 and 4

mismatch-length : (p : Problem) (include : Bool) (b : Induction) (c : Cycle) → length c.aig ≤ length (cycle_mismatch p include b c).aig
unfolding cycle_mismatch
mismatch-length p true b c = compared_state p c.aig c.comparison.mismatch b.gold_state b.gate_state
mismatch-length p false b c = omega arith

induction_length : (p : Problem) (include last : Bool) (b : Induction) → length b.aig + length p.gold.inputs ≤ length (induction_cycle p include last b).aig
unfolding induction_cycle induction_compared induction_next
induction_length p include last b =
    let c = compared_cycle p b.aig b.gold_state b.gate_state in
    omega (arith, compared_length p b.aig b.gold_state b.gate_state, mismatch-length p include b c)

-- the values that give these rows, then the last one
unfoldable pub induction_values : Problem → Bool → Induction → List (List Bool) → List Bool → ℕ → Bool
induction_values p include b [] last = row_then (length b.aig) last (λ v. false)
induction_values p include b (row ∷ rows) last = row_then (length b.aig) row (induction_values p include (induction_cycle p include false b) rows last)

induction_same : (p : Problem) (include : Bool) (e f : ℕ → Bool) (n : ℕ) (b : Induction) → ((v : ℕ) → length b.aig ≤ v → e v ≡ f v)
    → (induction_rows e p include n b ≡ induction_rows f p include n b) × (induction_last e p include n b ≡ induction_last f p include n b)
unfolding induction_rows induction_last
induction_same p include e f zero b h = (refl, bits-same e f (length b.aig) (length p.gold.inputs) h)
induction_same p include e f (suc n) b h =
    let r = induction_same p include e f n (induction_cycle p include false b) (λ v k. h v (omega (arith, induction_length p include false b))) in
    (ap₂ ◌∷◌ (bits-same e f (length b.aig) (length p.gold.inputs) h) r.0, r.1)

-- those values give those rows
induction_reached : (p : Problem) (include : Bool) (b : Induction) (rows : List (List Bool)) (last : List Bool) → Rows (length p.gold.inputs) rows
    → length last ≡ length p.gold.inputs
    → (induction_rows (induction_values p include b rows last) p include (length rows) b ≡ rows) × (induction_last (induction_values p include b rows last) p include (length rows) b ≡ last)
unfolding induction_rows induction_last induction_values
induction_reached p include b [] last h l = (refl, rw (← l) (row_here (length b.aig) last (λ v. false)))
induction_reached p include b (row ∷ rows) last h l =
    let n = length b.aig in
    let c = induction_cycle p include false b in
    let e = induction_values p include c rows last in
    let s = induction_same p include (row_then n row e) e (length rows) c (λ v i. past n row e v (omega (arith, induction_length p include false b, h.0))) in
    let r = induction_reached p include c rows last h.1 l in
    (ap₂ ◌∷◌ (rw (← h.0) (row_here n row e)) (s.0 ∙ r.0), s.1 ∙ r.1)

-- ---- free states

-- a bit that is not shared
unfoldable pub free_bit : Option Bool → Bool → List Bool → List Bool
free_bit none y rest = y ∷ rest
free_bit (some x) y rest = rest

-- gate's bits that are not shared
unfoldable pub free_bits : Bool → List StateBit → List Bool → List StateBit → List Bool → List Bool
free_bits share S X [] ys = []
free_bits share S X (s ∷ ss) [] = []
free_bits share S X (s ∷ ss) (y ∷ ys) = free_bit (matched share s.name S X) y (free_bits share S X ss ys)

-- a shared bit is gold's
abbrev pub SharedBit : Option Bool → Bool → Type 0
SharedBit none y = Unit {0}
SharedBit (some x) y = x ≡ y

-- gate's bits are gold's where they are shared
abbrev pub SharedBits : Bool → List StateBit → List Bool → List StateBit → List Bool → Type 0
SharedBits share S X [] [] = Unit {0}
SharedBits share S X [] (y ∷ ys) = ⊥
SharedBits share S X (s ∷ ss) [] = ⊥
SharedBits share S X (s ∷ ss) (y ∷ ys) = SharedBit (matched share s.name S X) y × SharedBits share S X ss ys

head-same : (x y : Bool) (xs ys : List Bool) → ◌≡◌ {A = List Bool} (x ∷ xs) (y ∷ ys) → x ≡ y
head-same x y xs ys h = cc

tail-same : (x y : Bool) (xs ys : List Bool) → ◌≡◌ {A = List Bool} (x ∷ xs) (y ∷ ys) → xs ≡ ys
tail-same x y xs ys h = cc

gate-reached : (e : ℕ → Bool) (share : Bool) (S : List StateBit) (X : List Bool) (k : ℕ) (ss : List StateBit) (ys : List Bool) → SharedBits share S X ss ys
    → bits_from e k (length (free_bits share S X ss ys)) ≡ free_bits share S X ss ys → gate_bits e share S X k ss ≡ ys
unfolding gate_bits free_bits
gate-reached e share S X k [] [] m h = refl
gate-reached e share S X k [] (y ∷ ys) m h = absurd m
gate-reached e share S X k (s ∷ ss) [] m h = absurd m
gate-reached e share S X k (s ∷ ss) (y ∷ ys) m h = go (matched share s.name S X) m.0 h (λ j. gate-reached e share S X j ss ys m.1)
  where
    go : (o : Option Bool) → SharedBit o y
        → bits_from e k (length (free_bit o y (free_bits share S X ss ys))) ≡ free_bit o y (free_bits share S X ss ys)
        → ((j : ℕ) → bits_from e j (length (free_bits share S X ss ys)) ≡ free_bits share S X ss ys → gate_bits e share S X j ss ≡ ys)
        → shared_bit o (e k) ∷ gate_bits e share S X (shared_number o k) ss ≡ y ∷ ys
    go none a q r =
        unfold free_bit shared_bit shared_number bits_from in ap₂ ◌∷◌ (head-same (e k) y _ _ q) (r (suc k) (tail-same (e k) y _ _ q))
    go (some x) a q r = unfold free_bit shared_bit shared_number in ap₂ ◌∷◌ a (r k q)

-- both are found, or neither
abbrev Found : {A B : Type 0} → Option A → Option B → Type 0
Found none none = Unit {0}
Found none (some y) = ⊥
Found (some x) none = ⊥
Found (some x) (some y) = Unit {0}

found-cond : {A B : Type 0} (t : Bool) (x : A) (y : B) (o : Option A) (u : Option B) → Found o u → Found (cond t (some x) o) (cond t (some y) u)
found-cond true x y o u h = tt
found-cond false x y o u h = h

found-both : {A B : Type 0} (n : Name) (S : List StateBit) (L : List A) (X : List B) → length L ≡ length X → Found (state_literal n S L) (state_literal n S X)
unfolding state_literal
found-both n [] L X h = tt
found-both n (s ∷ S) [] [] h = tt
found-both n (s ∷ S) [] (x ∷ X) h = absurd (omega arith)
found-both n (s ∷ S) (l ∷ L) [] h = absurd (omega arith)
found-both n (s ∷ S) (l ∷ L) (x ∷ X) h = found-cond (same_name n s.name) l x _ _ (found-both n S L X (omega arith))

matched-both : (share : Bool) (n : Name) (S : List StateBit) (L : List Literal) (X : List Bool) → length L ≡ length X → Found (matched share n S L) (matched share n S X)
unfolding matched
matched-both true n S L X h = found-both n S L X h
matched-both false n S L X h = tt

one-gate : (v : LiteralList) (o : Option Literal) (u : Option Bool) (y : Bool) (rest : List Bool) (m : ℕ) → Found o u
    → length (gate_variable v o).aig + length rest ≤ m → length v.aig + length (free_bit u y rest) ≤ m
unfolding gate_variable free_bit with_built variable
one-gate v none none y rest m f h = omega (arith, length-snoc v.aig (Variable (length v.aig)))
one-gate v none (some x) y rest m f h = absurd f
one-gate v (some l) none y rest m f h = absurd f
one-gate v (some l) (some x) y rest m f h = h

gates_grow : (share : Bool) (S : List StateBit) (L : List Literal) (v : LiteralList) (ss : List StateBit) → length v.aig ≤ length (gate_variables share S L v ss).aig
unfolding gate_variables
gates_grow share S L v [] = omega arith
gates_grow share S L v (s ∷ ss) = let i = one (matched share s.name S L) in omega (arith, gates_grow share S L (gate_variable v (matched share s.name S L)) ss)
  where
    one : (o : Option Literal) → length v.aig ≤ length (gate_variable v o).aig
    one none = unfold gate_variable with_built variable in omega (arith, length-snoc v.aig (Variable (length v.aig)))
    one (some l) = unfold gate_variable in omega arith

gate_length : (share : Bool) (S : List StateBit) (L : List Literal) (X : List Bool) → length L ≡ length X → (v : LiteralList) (ss : List StateBit) (ys : List Bool)
    → length v.aig + length (free_bits share S X ss ys) ≤ length (gate_variables share S L v ss).aig
unfolding gate_variables free_bits
gate_length share S L X h v [] ys = omega arith
gate_length share S L X h v (s ∷ ss) [] = omega (arith, gates_grow share S L v (s ∷ ss))
gate_length share S L X h v (s ∷ ss) (y ∷ ys) =
    one-gate v (matched share s.name S L) (matched share s.name S X) y _ _ (matched-both share s.name S L X h)
    (gate_length share S L X h (gate_variable v (matched share s.name S L)) ss ys)

-- the values that give these states and rows
unfoldable pub free_values : Problem → Bool → List Bool → List Bool → List (List Bool) → List Bool → ℕ → Bool
free_values p include xs ys rows last =
    row_then 1 xs (row_then (1 + length xs) (free_bits include p.gold.states xs p.gate.states ys) (induction_values p include (free_product_state p include) rows last))

-- what a query 3 or 4 reads from an environment
pub record FreeReached (e : ℕ → Bool) (p : Problem) (include : Bool) (xs ys : List Bool) (rows : List (List Bool)) (last : List Bool) : Type 0 where
  pub gold : bits_from e 1 (length p.gold.states) ≡ xs
  pub gate : gate_bits e include p.gold.states xs (1 + length p.gold.states) p.gate.states ≡ ys
  pub cycles : induction_rows e p include (length rows) (free_product_state p include) ≡ rows
  pub final : induction_last e p include (length rows) (free_product_state p include) ≡ last

free-length : (p : Problem) (include : Bool) (xs ys : List Bool) → length xs ≡ length p.gold.states
    → 1 + length xs + length (free_bits include p.gold.states xs p.gate.states ys) ≤ length (free_product_state p include).aig
unfolding free_product_state new
free-length p include xs ys h =
    let v : LiteralList = record { aig = new; literals = [] } in
    let gold = new_variables v p.gold.states in
    let n = variables-length v p.gold.states in
    let m = literals-length v p.gold.states in
    let u : LiteralList = record { aig = gold.aig; literals = [] } in
    let g = gate_length include p.gold.states gold.literals xs (omega arith) u p.gate.states ys in
    omega arith

-- those values give those states and rows
pub free-reached : (p : Problem) (include : Bool) (xs ys : List Bool) (rows : List (List Bool)) (last : List Bool) → length xs ≡ length p.gold.states
    → SharedBits include p.gold.states xs p.gate.states ys → Rows (length p.gold.inputs) rows → length last ≡ length p.gold.inputs
    → FreeReached (free_values p include xs ys rows last) p include xs ys rows last
unfolding free_values
free-reached p include xs ys rows last h m r l =
    let free = free_bits include p.gold.states xs p.gate.states ys in
    let b = free_product_state p include in
    let n = length xs in
    let e₂ = induction_values p include b rows last in
    let e₁ = row_then (1 + n) free e₂ in
    let e = row_then 1 xs e₁ in
    let f = free-length p include xs ys h in
    let i = induction_reached p include b rows last r l in
    let s = induction_same p include e e₂ (length rows) b (λ v k. past 1 xs e₁ v (omega arith) ∙ past (1 + n) free e₂ v (omega arith)) in
    let g : bits_from e (1 + n) (length free) ≡ free = bits-same e e₁ (1 + n) (length free) (λ v k. past 1 xs e₁ v k) ∙ row_here (1 + n) free e₂ in
    record {
      gold = rw (← h) (row_here 1 xs e₁);
      gate = rw (← h) (gate-reached e include p.gold.states xs (1 + n) p.gate.states ys m g);
      cycles = s.0 ∙ i.0;
      final = s.1 ∙ i.1;
    }
