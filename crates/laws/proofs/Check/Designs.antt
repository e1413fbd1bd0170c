-- The check of two comparable designs, each from its own start bits, under any options: what its verdict means, its trace, swapped pairs, chains. Assumes nothing.
use Rattle.std.specs.Prelude.{ℕ, ◌≤◌, ◌≡◌, ◌≢◌, ◌⊎◌, ◌↔◌}
use Rattle.std.proofs.Common.{arith, sym, ◌∙◌, subst, inl, inr}
use mathlib.Core.List.{List, Memᴰ}
use Rattle.model.specs.Answers.{Status}
use Rattle.model.specs.Answers as Answers
use Rattle.model.specs.Options.{Options}
use Rattle.model.specs.Netlist.{Design}
use Rattle.model.specs.Run.{StoredBits}
use Rattle.model.specs.Induction.{Query1, Says, not_equivalent, Begun, SameOutputs, Chain, answered}
use Rattle.model.specs.Equivalence.{Verdict, Equivalent, NotEquivalent, Inconclusive, GaveUp, OutOfFuel}
use Rattle.model.specs.Check.{check_designs, verdict_says}
use Rattle.laws.specs.Terms.{Comparable, checked_designs, Linked, gold_first_lem, gate_first_lem, JoinedDesigns, TraceGood}
use Rattle.laws.specs.Induction.Sound.{functional, difference_found}
use Rattle.laws.specs.Induction.Swap.{unique_registers, says_swap}
use Rattle.laws.specs.Induction.Chain.{chain_joins, same_back, same-through, says_same, same-never}
use Rattle.laws.proofs.Check.Ending.{designs_answer}
use Rattle.laws.proofs.Check.Meaning.{Spoken, designs_speak}

-- ---- comparable designs

-- they are so the other way round
comparable_back : (a b : Design) → Comparable a b → Comparable b a
comparable_back a b c = record { gold_valid = c.gate_valid; gate_valid = c.gold_valid; input_names = sym c.input_names; output_names = sym c.output_names }

-- and through a third design
comparable-through : (a b c : Design) → Comparable a b → Comparable b c → Comparable a c
comparable-through a b c x y =
    record { gold_valid = x.gold_valid; gate_valid = y.gate_valid; input_names = x.input_names ∙ y.input_names; output_names = x.output_names ∙ y.output_names }

-- ---- what the verdict means

spoken_says : (gold gate : Design) (s t : StoredBits) (D : ℕ) (v : Verdict) (status : Status) (d : ℕ) → Spoken gold gate s t D v → verdict_says v ≡ answered status d → status ≢ Answers.GaveUp
    → Says gold gate s t D status d
unfolding verdict_says
spoken_says gold gate s t D (Equivalent e) status d h k n = let p : Answers.Equivalent ≡ status = cc in let q : e ≡ d = cc in rw (← p, ← q) h
spoken_says gold gate s t D (NotEquivalent e m bytes) status d h k n = let p : Answers.NotEquivalent ≡ status = cc in let q : e ≡ d = cc in rw (← p, ← q) h.0
spoken_says gold gate s t D (Inconclusive e) status d h k n = let p : Answers.Inconclusive ≡ status = cc in let q : e ≡ d = cc in rw (← p, ← q) h
spoken_says gold gate s t D (GaveUp e x) status d h k n = absurd (n (let p : status ≡ Answers.GaveUp = cc in p))
spoken_says gold gate s t D OutOfFuel status d h k n = absurd (let z : ◌≡◌ {A = ℕ} 0 1 = cc in omega arith)

module _ (o : Options) (gold gate : Design) (c : Comparable gold gate) (s t : StoredBits) where
  -- a status other than GaveUp is what k-induction says from the start bits
  pub designs_sound : (status : Status) (d : ℕ) → checked_designs o gold gate s t ≡ answered status d → status ≢ Answers.GaveUp → Says gold gate s t o.depth status d
  designs_sound status d h n = spoken_says gold gate s t o.depth (check_designs o gold gate s t).verdict status d (designs_speak o gold gate c s t) h n

  -- and what k-induction says is answered, unless the check gives up
  pub designs_said : (status : Status) (d : ℕ) → Says gold gate s t o.depth status d
      → (checked_designs o gold gate s t ≡ answered status d) ⊎ ((e : ℕ) × (checked_designs o gold gate s t ≡ answered Answers.GaveUp e))
  designs_said status d says = let x = designs_answer o gold gate s t in go x.0 x.1 x.2
    where
      same : (p : Status) (e : ℕ) → checked_designs o gold gate s t ≡ answered p e → p ≢ Answers.GaveUp → checked_designs o gold gate s t ≡ answered status d
      same p e h n =
          let f = functional (designs_sound p e h n) says in
          let u : p ≡ status = f.0 in
          let v : e ≡ d = f.1 in
          rw (← u, ← v) h

      go : (p : Status) (e : ℕ) → checked_designs o gold gate s t ≡ answered p e
          → (checked_designs o gold gate s t ≡ answered status d) ⊎ ((e : ℕ) × (checked_designs o gold gate s t ≡ answered Answers.GaveUp e))
      go Answers.Equivalent e h = inl (same Answers.Equivalent e h (λ q. let z : ◌≡◌ {A = ℕ} 0 1 = cc in omega arith))
      go Answers.NotEquivalent e h = inl (same Answers.NotEquivalent e h (λ q. let z : ◌≡◌ {A = ℕ} 0 1 = cc in omega arith))
      go Answers.Inconclusive e h = inl (same Answers.Inconclusive e h (λ q. let z : ◌≡◌ {A = ℕ} 0 1 = cc in omega arith))
      go Answers.GaveUp e h = inr (e, h)

  -- where it does not give up, it says NotEquivalent exactly when some input sequence makes outputs differ in a cycle from 0 to the maximum depth
  pub designs_find : 1 ≤ o.depth → (status : Status) (d : ℕ) → checked_designs o gold gate s t ≡ answered status d → status ≢ Answers.GaveUp
      → (status ≡ Answers.NotEquivalent) ↔ Query1 gold gate s t o.depth
  designs_find l status d h n = difference_found gold gate s t o.depth d status l (designs_sound status d h n)

  -- Equivalent: the outputs have the same names, and the same bits in every cycle of every input sequence
  pub designs_equivalent : (d : ℕ) → checked_designs o gold gate s t ≡ answered Answers.Equivalent d → SameOutputs (record { design = gold; start = s }) (record { design = gate; start = t })
  designs_equivalent d h = says_same gold gate s t o.depth d c.output_names (designs_sound Answers.Equivalent d h (λ q. let z : ◌≡◌ {A = ℕ} 0 1 = cc in omega arith))

  -- designs with the same outputs are never NotEquivalent
  pub designs_never : SameOutputs (record { design = gold; start = s }) (record { design = gate; start = t }) → (d : ℕ) → checked_designs o gold gate s t ≢ answered Answers.NotEquivalent d
  designs_never same d h = same-never gold gate s t o.depth d same (designs_sound Answers.NotEquivalent d h (λ q. let z : ◌≡◌ {A = ℕ} 0 1 = cc in omega arith))

  -- the trace of NotEquivalent replays yes, and its depth is within the maximum
  pub designs_trace : (d m : ℕ) (bytes : List ℕ) → (check_designs o gold gate s t).verdict ≡ NotEquivalent d m bytes → (d ≤ o.depth) × TraceGood gold gate s t d m bytes
  designs_trace d m bytes v = let x : Spoken gold gate s t o.depth (NotEquivalent d m bytes) = subst (Spoken gold gate s t o.depth) v (designs_speak o gold gate c s t) in (within x.0, x.1)
    where
      within : Says gold gate s t o.depth Answers.NotEquivalent d → d ≤ o.depth
      within (not_equivalent p q u w) = q

-- ---- swapped

-- swapped designs, each with its own start bits: the same status and depth where neither check gives up
pub designs_swap : (o : Options) (gold gate : Design) → Comparable gold gate → (s t : StoredBits) (p q : Status) (d e : ℕ)
    → checked_designs o gold gate s t ≡ answered p d → checked_designs o gate gold t s ≡ answered q e → p ≢ Answers.GaveUp → q ≢ Answers.GaveUp → (p ≡ q) × (d ≡ e)
designs_swap o gold gate c s t p q d e x y u v =
    functional (designs_sound o gold gate c s t p d x u)
    (says_swap gate gold (unique_registers gate c.gate_valid) (unique_registers gold c.gold_valid) t s o.depth
    (designs_sound o gate gold (comparable_back gold gate c) t s q e y v))

-- ---- chains

-- what a link gives: comparable designs with the same outputs
abbrev Alike : Begun → Begun → Type 0
Alike a b = Comparable a.design b.design × SameOutputs a b

linked-alike : (a b : Begun) → Linked a b → Alike a b
linked-alike a b (gold_first_lem c o d h) = (c, designs_equivalent o a.design b.design c a.start b.start d h)
linked-alike a b (gate_first_lem c o d h) =
    (c, same_back b a (designs_equivalent o b.design a.design (comparable_back a.design b.design c) b.start a.start d h))

alike_back : (a b : Begun) → Alike a b → Alike b a
alike_back a b h = (comparable_back a.design b.design h.0, same_back a b h.1)

alike-through : (a b c : Begun) → Alike a b → Alike b c → Alike a c
alike-through a b c h k = (comparable-through a.design b.design c.design h.0 k.0, same-through a b c h.1 k.1)

-- any two begun designs of a chain are comparable, show the same outputs, and no check of them says NotEquivalent
pub designs_chain : (l : List Begun) → Chain Linked l → (a b : Begun) → Memᴰ a l → Memᴰ b l → JoinedDesigns a b
designs_chain l chain a b m n =
    let h : Alike a b = chain_joins Linked Alike linked-alike alike_back alike-through l chain a b m n in
    record { comparable = h.0; same = h.1; never = λ o d. designs_never o a.design b.design h.0 a.start b.start h.1 d }
