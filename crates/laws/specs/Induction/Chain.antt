-- Chains of links of any kind, and the same outputs: what k-induction says of them, and that any two of a chain show them. Assumes nothing.
use Rattle.std.specs.Prelude.{ℕ, refl, ◌⊎◌, Bool}
use Rattle.std.proofs.Math.Path.{◌≡◌, sym, ap}
use Rattle.std.proofs.Common.{◌∙◌, subst, inl, inr}
use Rattle.std.proofs.Math.Bool.{true, false, xor}
use mathlib.Core.List.Memᴰ
use mathlib.Core.List.{List, [], ◌∷◌, Memᴰ}
use native.Mathlib.Omega.{arith}
use Rattle.std.proofs.Math.Nat.{suc_inj}
use Rattle.std.proofs.Math.ListN.{length}
use Rattle.std.proofs.lemmas.List.{length-map}
use Rattle.model.specs.Answers.{Equivalent, NotEquivalent}
use Rattle.model.specs.Names.{names_of}
use Rattle.model.specs.Netlist.{Design, outputs}
use Rattle.model.specs.Run.{InputSequence, StoredBits, outputs_at, output_bits}
use Rattle.model.specs.Replay.{bits_differ, differ_at}
use Rattle.model.specs.Induction.{Says, not_equivalent, Begun, SameOutputs, Chain, two, more}
use Rattle.laws.specs.Induction.Sound.{induction_sound}

-- ---- chains

-- the first of a list stands in this relation to b
abbrev FirstTo : {A : Type 0} → (A → A → Type 0) → List A → A → Type 0
FirstTo Same [] b = ⊥
FirstTo Same (a ∷ l) b = Same a b

-- what is symmetric and transitive, and holds of each two that are linked, holds of any two of a chain
module _ {A : Type 0} (Link Same : A → A → Type 0) (of-link : (a b : A) → Link a b → Same a b)
    (back : (a b : A) → Same a b → Same b a) (through : (a b c : A) → Same a b → Same b c → Same a c) where
  first_two : (a x : A) → Same a x → (b : A) → Memᴰ b (a ∷ x ∷ []) → Same a b
  first_two a x h b m = here (Memᴰ.cases_cons m)
    where
      there : (b ≡ x) ⊎ Memᴰ b [] → Same a b
      there (inl e) = subst (Same a) (sym e) h
      there (inr n) = absurd (Memᴰ.not-nil n)

      here : (b ≡ a) ⊎ Memᴰ b (x ∷ []) → Same a b
      here (inl e) = subst (Same a) (sym e) (through a x a h (back a x h))
      here (inr n) = there (Memᴰ.cases_cons n)

  first_more : (a x : A) (l : List A) → Same a x → (b : A) → (Memᴰ b l → Same x b) → Memᴰ b (a ∷ l) → Same a b
  first_more a x l h b rest m = here (Memᴰ.cases_cons m)
    where
      here : (b ≡ a) ⊎ Memᴰ b l → Same a b
      here (inl e) = subst (Same a) (sym e) (through a x a h (back a x h))
      here (inr n) = through a x b h (rest n)

  first_to : {l : List A} → Chain Link l → (b : A) → Memᴰ b l → FirstTo Same l b
  first_to (two {a = a} {b = x} h) b m = first_two a x (of-link a x h) b m
  first_to (more {a = a} {b = x} {c = y} {rest = l} h c) b m = first_more a x (x ∷ y ∷ l) (of-link a x h) b (first_to c b) m

  by_first : (l : List A) (a b : A) → FirstTo Same l a → FirstTo Same l b → Same a b
  by_first [] a b p q = absurd p
  by_first (x ∷ l) a b p q = through a x b (back x a p) q

  -- the chain law of links of any kind
  pub chain_joins : (l : List A) → Chain Link l → (a b : A) → Memᴰ a l → Memᴰ b l → Same a b
  chain_joins l c a b m n = by_first l a b (first_to c a m) (first_to c b n)

-- ---- the same outputs

-- they are the same the other way round
pub same_back : (a b : Begun) → SameOutputs a b → SameOutputs b a
same_back a b h = record { names = sym h.names; bits = λ ins c. sym (h.bits ins c) }

-- and through a third design
pub same-through : (a b c : Begun) → SameOutputs a b → SameOutputs b c → SameOutputs a c
same-through a b c h k = record { names = h.names ∙ k.names; bits = λ ins n. h.bits ins n ∙ k.bits ins n }

-- where every link gives the same outputs, any two of a chain show the same outputs
pub chain_outputs : (Link : Begun → Begun → Type 0) → ((a b : Begun) → Link a b → SameOutputs a b) → (l : List Begun) → Chain Link l
    → (a b : Begun) → Memᴰ a l → Memᴰ b l → SameOutputs a b
chain_outputs Link of-link = chain_joins Link SameOutputs of-link same_back same-through

bits-equal : (xs ys : List Bool) → length xs ≡ length ys → bits_differ xs ys ≡ false → xs ≡ ys
unfolding bits_differ xor
bits-equal [] [] e h = refl
bits-equal [] (y ∷ ys) e h = absurd (omega arith)
bits-equal (x ∷ xs) [] e h = absurd (omega arith)
bits-equal (true ∷ xs) (true ∷ ys) e h = ap (λ (l : List Bool). true ∷ l) (bits-equal xs ys (suc_inj e) h)
bits-equal (false ∷ xs) (false ∷ ys) e h = ap (λ (l : List Bool). false ∷ l) (bits-equal xs ys (suc_inj e) h)
bits-equal (true ∷ xs) (false ∷ ys) e h = absurd (let z : ◌≡◌ {A = ℕ} 0 1 = cc in omega arith)
bits-equal (false ∷ xs) (true ∷ ys) e h = absurd (let z : ◌≡◌ {A = ℕ} 0 1 = cc in omega arith)

bits-same : (xs : List Bool) → bits_differ xs xs ≡ false
unfolding bits_differ xor
bits-same [] = refl
bits-same (true ∷ xs) = bits-same xs
bits-same (false ∷ xs) = bits-same xs

-- a bit for each output name
pub output-length : (d : Design) (s : StoredBits) (ins : InputSequence) (c : ℕ) → length (outputs_at d s ins c) ≡ length (names_of (outputs d))
unfolding outputs_at output_bits names_of
output-length d s ins c = length-map (outputs d) _ ∙ sym (length-map (outputs d) _)

module _ (gold gate : Design) (s t : StoredBits) (D d : ℕ) where
  -- Equivalent, said of designs with the same output names: the same outputs
  pub says_same : names_of (outputs gold) ≡ names_of (outputs gate) → Says gold gate s t D Equivalent d
      → SameOutputs (record { design = gold; start = s }) (record { design = gate; start = t })
  unfolding differ_at
  says_same n says =
      record {
        names = n;
        bits = λ ins c. bits-equal _ _ (output-length gold s ins c ∙ ap length n ∙ sym (output-length gate t ins c)) (induction_sound gold gate s t D d says ins c);
      }

  -- the same outputs leave no difference to find
  pub same-never : SameOutputs (record { design = gold; start = s }) (record { design = gate; start = t }) → Says gold gate s t D NotEquivalent d → ⊥
  unfolding differ_at
  same-never same (not_equivalent p q u w) =
      let f : bits_differ (outputs_at gold s w.ins w.cycle) (outputs_at gold s w.ins w.cycle) ≡ false = bits-same _ in
      let o = same.bits w.ins w.cycle in
      let v : bits_differ (outputs_at gold s w.ins w.cycle) (outputs_at gate t w.ins w.cycle) ≡ true = w.differ in
      let z : ◌≡◌ {A = ℕ} 0 1 = cc in
      omega arith
