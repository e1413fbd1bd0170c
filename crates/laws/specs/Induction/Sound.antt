-- k-induction says at most one status and depth, and is sound. Assumes nothing.
use Rattle.std.specs.Prelude.{ℕ, zero, suc, ◌+◌, ◌≤◌, ◌<◌, ◌≡◌, refl, Bool, true}
use Rattle.std.proofs.Common.{ap, subst, ◌∙◌, inl, inr, arith, add-zero, add-suc}
use Rattle.std.proofs.Math.Bool.{false}
use Rattle.std.proofs.Math.Decide.{dec_lt, dec_le}
use Rattle.model.specs.Answers.{Status, NotEquivalent}
use Rattle.model.specs.Netlist.{Design}
use Rattle.model.specs.Run.{InputSequence, StoredBits, stored_at, outputs_at, next_stored, node_values, output_bits}
use Rattle.model.specs.Induction.{Closes, Query1, Undecided, UndecidedBelow, Says, not_equivalent, equivalent, inconclusive, Query2, Query3, Query4, named_differ_at, either_differ_at, InductionSound, DifferenceFound}
use Rattle.model.specs.Replay.{differ_at}
use Rattle.facts.specs.Bools.{is_false, or-false, or_left, or_right}

module _ {gold gate : Design} {s t : StoredBits} where
  -- two depths that give a verdict, with none below, are the same
  one-depth : {d e : ℕ} → 1 ≤ d → 1 ≤ e → UndecidedBelow gold gate s t d → UndecidedBelow gold gate s t e → ¬ Undecided gold gate s t d → ¬ Undecided gold gate s t e → d ≡ e
  one-depth {d} {e} l m u v p q = below (dec_lt d e)
    where
      above : Dec (e < d) → ¬ (d < e) → d ≡ e
      above (yes h) n = absurd (q (u e m h))
      above (no h) n = omega arith

      below : Dec (d < e) → d ≡ e
      below (yes h) = absurd (p (v d l h))
      below (no h) = above (dec_lt e d) h

  -- at most one status and depth is said
  pub functional : {D : ℕ} {p q : Status} {d e : ℕ} → Says gold gate s t D p d → Says gold gate s t D q e → (p ≡ q) × (d ≡ e)
  functional (not_equivalent l a u x) (not_equivalent m b v y) = (refl, one-depth l m u v (λ w. w.same x) (λ w. w.same y))
  functional (not_equivalent l a u x) (equivalent m b v n y) =
      absurd (n (subst (Query1 gold gate s t) (one-depth l m u v (λ w. w.same x) (λ w. w.open_ended y)) x))
  functional (not_equivalent {d = k} l a u x) (inconclusive v) = absurd ((v k l (omega arith)).same x)
  functional (equivalent l a u n x) (not_equivalent m b v y) =
      absurd (n (subst (Query1 gold gate s t) (one-depth m l v u (λ w. w.same y) (λ w. w.open_ended x)) y))
  functional (equivalent l a u n x) (equivalent m b v o y) = (refl, one-depth l m u v (λ w. w.open_ended x) (λ w. w.open_ended y))
  functional (equivalent {d = k} l a u n x) (inconclusive v) = absurd ((v k l (omega arith)).open_ended x)
  functional (inconclusive u) (not_equivalent {d = k} m b v y) = absurd ((u k m (omega arith)).same y)
  functional (inconclusive u) (equivalent {d = k} m b v n y) = absurd ((u k m (omega arith)).open_ended y)
  functional (inconclusive u) (inconclusive v) = (refl, refl)

-- ---- a run begun in the middle

-- the input sequence from cycle n on
abbrev from : ℕ → InputSequence → InputSequence
from n ins k = ins (n + k)

-- the run begun at the stored bits of cycle n goes on as the unbroken run does
stored-from : (d : Design) (s : StoredBits) (ins : InputSequence) (n k : ℕ) → stored_at d (stored_at d s ins n) (from n ins) k ≡ stored_at d s ins (n + k)
unfolding stored_at
stored-from d s ins n zero = rw add-zero
stored-from d s ins n (suc k) = rw add-suc (ap (λ (x : StoredBits). next_stored d (node_values d (ins (n + k)) x) x) (stored-from d s ins n k))

outputs-from : (d : Design) (s : StoredBits) (ins : InputSequence) (n k : ℕ) → outputs_at d (stored_at d s ins n) (from n ins) k ≡ outputs_at d s ins (n + k)
unfolding outputs_at
outputs-from d s ins n k = ap (λ (x : StoredBits). output_bits d (node_values d (ins (n + k)) x)) (stored-from d s ins n k)

-- ---- induction over cycles

-- a test that fails up to cycle d, and fails after every d cycles in a row in which it fails, fails always
module _ (P : ℕ → Bool) (d : ℕ) (base : (c : ℕ) → c ≤ d → P c ≡ false) (next : (n : ℕ) → ((k : ℕ) → k < d → P (n + k) ≡ false) → P (n + d) ≡ false) where
  up_to : (n c : ℕ) → c ≤ n + d → P c ≡ false
  up_to zero c h = base c (omega arith)
  up_to (suc n) c h = last (up_to n) (dec_le c (n + d))
    where
      last : ((k : ℕ) → k ≤ n + d → P k ≡ false) → Dec (c ≤ n + d) → P c ≡ false
      last before (yes l) = before c l
      last before (no l) = let e : c ≡ suc n + d = omega arith in rw e (next (suc n) (λ k m. before (suc n + k) (omega arith)))

  always : (c : ℕ) → P c ≡ false
  always c = up_to c c (omega arith)

module _ (gold gate : Design) (s t : StoredBits) (ins : InputSequence) where
  differ-from : (n k : ℕ) → differ_at gold gate (stored_at gold s ins n) (stored_at gate t ins n) (from n ins) k ≡ differ_at gold gate s t ins (n + k)
  unfolding differ_at
  differ-from n k = rw (outputs-from gold s ins n k, outputs-from gate t ins n k)

  named-from : (n k : ℕ) → named_differ_at gold gate (stored_at gold s ins n) (stored_at gate t ins n) (from n ins) k ≡ named_differ_at gold gate s t ins (n + k)
  unfolding named_differ_at
  named-from n k = rw (stored-from gold s ins n k, stored-from gate t ins n k)

  either_from : (n k : ℕ) → either_differ_at gold gate (stored_at gold s ins n) (stored_at gate t ins n) (from n ins) k ≡ either_differ_at gold gate s t ins (n + k)
  unfolding either_differ_at
  either_from n k = rw (differ-from n k, named-from n k)

  module _ (d : ℕ) (pos : 1 ≤ d) (one : ¬ Query1 gold gate s t d) where
    base1 : (c : ℕ) → c ≤ d → differ_at gold gate s t ins c ≡ false
    base1 c h = is_false _ (λ e. one (record { ins = ins; cycle = c; within = h; differ = e }))

    -- by outputs alone
    by_outputs : ¬ Query4 gold gate d → (c : ℕ) → differ_at gold gate s t ins c ≡ false
    by_outputs four = always (differ_at gold gate s t ins) d base1 next
      where
        next : (n : ℕ) → ((k : ℕ) → k < d → differ_at gold gate s t ins (n + k) ≡ false) → differ_at gold gate s t ins (n + d) ≡ false
        next n h = is_false _ (λ e. four (record { s = stored_at gold s ins n; t = stored_at gate t ins n; ins = from n ins; equal = λ c l. differ-from n c ∙ h c l; differ = differ-from n d ∙ e }))

    -- by outputs and registers named alike
    by_names : ¬ Query2 gold gate s t d → ¬ Query3 gold gate d → (c : ℕ) → either_differ_at gold gate s t ins c ≡ false
    unfolding either_differ_at named_differ_at
    by_names two three = always (either_differ_at gold gate s t ins) d base next
      where
        base : (c : ℕ) → c ≤ d → either_differ_at gold gate s t ins c ≡ false
        base c h = or-false _ _ (base1 c h) (is_false _ (λ e. two (record { ins = ins; cycle = c; within = h; differ = e })))

        next : (n : ℕ) → ((k : ℕ) → k < d → either_differ_at gold gate s t ins (n + k) ≡ false) → either_differ_at gold gate s t ins (n + d) ≡ false
        next n h =
            is_false _ (λ e. three (record {
              s = stored_at gold s ins n;
              t = stored_at gate t ins n;
              ins = from n ins;
              shared = or_right (differ_at gold gate s t ins n) (named_differ_at gold gate s t ins n) (rw add-zero at (h zero pos));
              equal = λ c l. either_from n c ∙ h c l;
              differ = either_from n d ∙ e;
            }))

    closed : Closes gold gate s t d → (c : ℕ) → differ_at gold gate s t ins c ≡ false
    unfolding either_differ_at
    closed (inl h) c = or_left _ _ (by_names h.0 h.1 c)
    closed (inr h) c = by_outputs h c

-- Equivalent means that no cycle of any input sequence differs
pub induction_sound : InductionSound
induction_sound gold gate s t D d (equivalent l a u n x) ins c = closed gold gate s t ins d l n x c

-- NotEquivalent comes exactly when a difference exists in cycles 0 to D
pub difference_found : DifferenceFound
difference_found gold gate s t D d status pos says = (to says, back says)
  where
    to : {p : Status} {k : ℕ} → Says gold gate s t D p k → p ≡ NotEquivalent → Query1 gold gate s t D
    to (not_equivalent l a u q) e = record { ins = q.ins; cycle = q.cycle; within = omega (arith, q.within); differ = q.differ }
    to (equivalent l a u n x) e = absurd (let z : ◌≡◌ {A = ℕ} 0 1 = cc in omega arith)
    to (inconclusive u) e = absurd (let z : ◌≡◌ {A = ℕ} 0 1 = cc in omega arith)

    back : {p : Status} {k : ℕ} → Says gold gate s t D p k → Query1 gold gate s t D → p ≡ NotEquivalent
    back (not_equivalent l a u x) q = refl
    back (equivalent {d = k} l a u n x) q =
        let f : differ_at gold gate s t q.ins q.cycle ≡ false = closed gold gate s t q.ins k l n x q.cycle in
        let g : differ_at gold gate s t q.ins q.cycle ≡ true = q.differ in
        absurd (let z : ◌≡◌ {A = ℕ} 0 1 = cc in omega arith)
    back (inconclusive u) q = absurd ((u D pos (omega arith)).same q)
