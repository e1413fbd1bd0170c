-- Replay's rule over the run, and that the replay by steps is the replay by the run. Assumes nothing.
use Prim.Native.Nat.{ℕ, zero, suc, ◌+◌, ◌*◌, ◌≤◌, ◌<◌, suc-le-suc}
use Rattle.std.specs.Prelude.{◌≡◌, Bool, true, ◌&&◌, ◌⊎◌, ◌↔◌, length}
use Rattle.std.proofs.Math.Path.{refl, ap}
use Rattle.std.proofs.Common.{◌∙◌, inl, inr, add-suc, suc-add, not-suc-le-zero, le_of_suc-le-suc, eq-or-lt_of_le, arith, le-ltb, eq-eqb}
use Rattle.std.proofs.Math.Bool.{false, not}
use Rattle.std.specs.Bool.{xor}
use Rattle.std.proofs.Math.Nat.{add-zero, suc_inj}
use mathlib.Core.List.{List, [], ◌∷◌}
use Rattle.std.proofs.lemmas.Bool.{not-true}
use Rattle.model.specs.Netlist.{Design, input_count}
use Rattle.model.specs.Run.{StoredBits, InputSequence, bit_at, stored_at, outputs_at}
use Rattle.model.specs.Replay.{Position, Stepped, claim_bit, claim_inputs, bits_differ, differ_as_marked, differ_at, agree_before, differ_as_claimed, replays, initial_position, advance, step_if, step, position_after, steps_replay}
use Rattle.laws.specs.Terms.{Yes}
use Rattle.laws.specs.StepTerms.{run_position}
use Rattle.facts.specs.Bools.{and_both, both-and, not-xor, xor-not}

module _ (gold gate : Design) (s t : StoredBits) (cycle : ℕ) (claim : List ℕ) where
  -- the position that the run gives at the start of cycle n
  abbrev at : ℕ → Position
  at n = run_position gold gate s t (claim_inputs gold claim) n

  -- a step not past the claimed cycle goes from one position of the run to the next
  pub step-at : (n : ℕ) → n ≤ cycle → step gold gate cycle claim (at n) ≡ advance gold gate cycle claim (at n)
  unfolding step step_if run_position
  step-at n h = ap (step_if gold gate cycle claim (at n)) (le-ltb cycle n h)

  pub next-at : (n : ℕ) → n ≤ cycle → (step gold gate cycle claim (at n)).position ≡ at (suc n)
  unfolding run_position advance agree_before stored_at differ_at outputs_at
  next-at n h = ap (λ (r : Stepped). r.position) (step-at n h)

  -- up to the claimed cycle and past it by one the position after n steps is that of the run
  pub position_at : (n : ℕ) → n ≤ suc cycle → position_after gold gate cycle claim n (initial_position s t) ≡ at n
  unfolding run_position position_after initial_position agree_before stored_at
  position_at zero h = refl
  position_at (suc n) h = ap (λ (p : Position). (step gold gate cycle claim p).position) (position_at n (omega arith)) ∙ next-at n (omega arith)

  -- the answer of the step at the claimed cycle, from the initial position, is the replay's
  pub steps_replay_lem : steps_replay gold gate s t cycle claim ≡ replays gold gate s t cycle claim
  unfolding steps_replay replays run_position advance outputs_at
  steps_replay_lem =
      ap (λ (p : Position). (step gold gate cycle claim p).yes) (position_at cycle (omega arith))
      ∙ ap (λ (r : Stepped). r.yes) (step-at cycle (omega arith))
      ∙ rw (eq-eqb cycle cycle refl)

-- ---- a yes, in the specification's words

-- the outputs agree in every earlier cycle
module _ (gold gate : Design) (s t : StoredBits) (ins : InputSequence) where
  pub agree_every : (n : ℕ) → agree_before gold gate s t ins n ≡ true → (c : ℕ) → c < n → differ_at gold gate s t ins c ≡ false
  unfolding agree_before
  agree_every zero h c l = absurd (not-suc-le-zero l)
  agree_every (suc n) h c l = last (agree_every n (and_both _ _ h).0 c) (eq-or-lt_of_le (le_of_suc-le-suc l))
    where
      last : (c < n → differ_at gold gate s t ins c ≡ false) → (c ≡ n) ⊎ (c < n) → differ_at gold gate s t ins c ≡ false
      last f (inl e) = rw e (not-true (differ_at gold gate s t ins n) (and_both (agree_before gold gate s t ins n) _ h).1)
      last f (inr k) = f k

  pub every_agree : (n : ℕ) → ((c : ℕ) → c < n → differ_at gold gate s t ins c ≡ false) → agree_before gold gate s t ins n ≡ true
  unfolding agree_before
  every_agree zero f = refl
  every_agree (suc n) f = both-and _ _ (every_agree n (λ c l. f c (omega arith))) (ap not (f n (omega arith)))

-- they differ in exactly the marked outputs
module _ (claim : List ℕ) where
  marked_every : (k : ℕ) (xs ys : List Bool) → length xs ≡ length ys → differ_as_marked claim k xs ys ≡ true → (j : ℕ) → j < length xs → xor (bit_at xs j) (bit_at ys j) ≡ claim_bit claim (k + j)
  unfolding differ_as_marked bit_at
  marked_every k [] ys e h j l = absurd (not-suc-le-zero l)
  marked_every k (x ∷ xs) [] e h j l = absurd (omega arith)
  marked_every k (x ∷ xs) (y ∷ ys) e h zero l = rw add-zero (not-xor (xor x y) (claim_bit claim k) (and_both (not (xor (xor x y) (claim_bit claim k))) _ h).0)
  marked_every k (x ∷ xs) (y ∷ ys) e h (suc j) l =
      rw (add-suc, ← suc-add) (marked_every (suc k) xs ys (suc_inj e) (and_both (not (xor (xor x y) (claim_bit claim k))) _ h).1 j (le_of_suc-le-suc l))

  every_marked : (k : ℕ) (xs ys : List Bool) → length xs ≡ length ys → ((j : ℕ) → j < length xs → xor (bit_at xs j) (bit_at ys j) ≡ claim_bit claim (k + j)) → differ_as_marked claim k xs ys ≡ true
  unfolding differ_as_marked bit_at
  every_marked k [] ys e f = refl
  every_marked k (x ∷ xs) [] e f = refl
  every_marked k (x ∷ xs) (y ∷ ys) e f =
      both-and _ _ (xor-not (xor x y) (claim_bit claim k) (rw add-zero at (f zero (omega arith))))
      (every_marked (suc k) xs ys (suc_inj e) (λ j l. rw (suc-add, ← add-suc) (f (suc j) (suc-le-suc l))))

-- for designs with equally many outputs the replay says yes exactly then
pub replays-yes : (gold gate : Design) (s t : StoredBits) (cycle : ℕ) (claim : List ℕ) → length (outputs_at gold s (claim_inputs gold claim) cycle) ≡ length (outputs_at gate t (claim_inputs gold claim) cycle) → (replays gold gate s t cycle claim ≡ true) ↔ Yes gold gate s t cycle claim
unfolding replays differ_as_claimed differ_at
replays-yes gold gate s t cycle claim e = (to, back)
  where
    to : (agree_before gold gate s t (claim_inputs gold claim) cycle && (bits_differ (outputs_at gold s (claim_inputs gold claim) cycle) (outputs_at gate t (claim_inputs gold claim) cycle) && differ_as_marked claim (suc cycle * input_count gold) (outputs_at gold s (claim_inputs gold claim) cycle) (outputs_at gate t (claim_inputs gold claim) cycle))) ≡ true → Yes gold gate s t cycle claim
    to h =
        let a = and_both _ _ h in
        let b = and_both _ _ a.1 in
        record {
          agree = agree_every gold gate s t (claim_inputs gold claim) cycle a.0;
          marked = marked_every claim (suc cycle * input_count gold) _ _ e b.1;
          differ = b.0;
        }

    back : Yes gold gate s t cycle claim → (agree_before gold gate s t (claim_inputs gold claim) cycle && (bits_differ (outputs_at gold s (claim_inputs gold claim) cycle) (outputs_at gate t (claim_inputs gold claim) cycle) && differ_as_marked claim (suc cycle * input_count gold) (outputs_at gold s (claim_inputs gold claim) cycle) (outputs_at gate t (claim_inputs gold claim) cycle))) ≡ true
    back y =
        both-and _ _ (every_agree gold gate s t (claim_inputs gold claim) cycle y.agree)
        (both-and _ _ y.differ (every_marked claim (suc cycle * input_count gold) _ _ e y.marked))
