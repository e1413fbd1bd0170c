-- Laws of a node's fields as the reader takes them. Assumes nothing.
use Prim.Native.Nat.{ℕ, zero, suc, ◌+◌, ◌-◌, ◌≤◌, ◌<◌}
use Rattle.std.specs.Prelude.{◌≡◌, true, false, List, [], ◌∷◌, ◌++◌, length, get_or, set, take, replicate}
use Rattle.std.proofs.Math.Path.{refl}
use native.Mathlib.Omega.{arith}
use Rattle.std.proofs.Common.{sym, ap, ◌∙◌, add-one, ne_eqb, length-set, get_or-set_other, take-suc-set}
use Rattle.std.proofs.Math.Seq.{append_snoc}
use Rattle.facts.specs.Lists.{get_or-replicate}
use Rattle.model.specs.Answers.{Refusal}
use Rattle.model.specs.Kinds.{input_kind, output_kind}
use Rattle.model.specs.Record.{Step, got, refused, pure, go_on, ◌>>=◌, number, numbers, has_name}
use Rattle.fields.specs.Fields.{map_step}
use Rattle.struo_ir.specs.Nodes.{three, NumbersSoFar}

-- ---- numbers one by one

module _ (f : List ℕ → List ℕ) (s : List ℕ) (i : ℕ) where
  pub numbers-none : (n : ℕ) → n < 1 → got (f []) i ≡ map_step f (numbers n s i)
  unfolding numbers map_step pure
  numbers-none zero h = refl
  numbers-none (suc n) h = absurd (omega arith)

  pub numbers-refused : (n : ℕ) (r : Refusal) → 1 ≤ n → refused r ≡ number s i → refused r ≡ map_step f (numbers n s i)
  unfolding numbers map_step ◌>>=◌ go_on
  numbers-refused zero r h e = absurd (omega arith)
  numbers-refused (suc n) r h e = rw (← e)

  after : (a : ℕ) (x : Step (List ℕ)) → map_step (λ ns. f (a ∷ ns)) x ≡ map_step f (go_on (λ ns. pure (a ∷ ns)) s x)
  unfolding map_step go_on pure
  after a (got ns j) = refl
  after a (refused r) = refl

  pub numbers-got : (n a j : ℕ) → 1 ≤ n → got a j ≡ number s i → map_step (λ ns. f (a ∷ ns)) (numbers (n - 1) s j) ≡ map_step f (numbers n s i)
  unfolding numbers ◌>>=◌ go_on
  numbers-got zero a j h e = absurd (omega arith)
  numbers-got (suc n) a j h e = let d : suc n - 1 ≡ n = omega arith in rw (d, ← e) (after a (numbers n s j))

-- ---- the loop over them

-- a change of what was read, by a function that gives the same
changed : {A B : Type 0} (f g : A → B) (x : Step A) → ((a : A) → f a ≡ g a) → map_step f x ≡ map_step g x
unfolding map_step
changed f g (got a j) e = ap (λ (b : _). got b j) (e a)
changed f g (refused r) e = refl

-- three places, zeros from one on, are what was read before it
zeros-after : (i : ℕ) (ns : List ℕ) → i ≤ 3 → length ns ≡ 3 → ((k : ℕ) → i ≤ k → get_or ns k 0 ≡ 0) → three (take i ns ++ []) ≡ ns
unfolding three
zeros-after i [] h l z = absurd (omega arith)
zeros-after i (a ∷ []) h l z = absurd (omega arith)
zeros-after i (a ∷ b ∷ []) h l z = absurd (omega arith)
zeros-after i (a ∷ b ∷ c ∷ d ∷ ns) h l z = absurd (omega arith)
zeros-after zero (a ∷ b ∷ c ∷ []) h l z = let p : a ≡ 0 = z 0 (omega arith) in let q : b ≡ 0 = z 1 (omega arith) in let r : c ≡ 0 = z 2 (omega arith) in cc
zeros-after (suc zero) (a ∷ b ∷ c ∷ []) h l z = let q : b ≡ 0 = z 1 (omega arith) in let r : c ≡ 0 = z 2 (omega arith) in cc
zeros-after (suc (suc zero)) (a ∷ b ∷ c ∷ []) h l z = let r : c ≡ 0 = z 2 (omega arith) in cc
zeros-after (suc (suc (suc zero))) (a ∷ b ∷ c ∷ []) h l z = refl
zeros-after (suc (suc (suc (suc i)))) (a ∷ b ∷ c ∷ []) h l z = absurd (omega arith)

module _ (s : List ℕ) (left at : ℕ) where
  pub numbers-start : left ≤ 3 → NumbersSoFar s left at (replicate 3 0) at 0
  numbers-start h =
      let e : left - 0 ≡ left = omega arith in
      record { bound = omega arith; size = refl; rest = rw e; past = λ k l. get_or-replicate 3 k 0 }

  module _ (ns : List ℕ) (next i : ℕ) (so : NumbersSoFar s left at ns next i) where
    pub numbers-more : (n end : ℕ) → i < left → left ≤ 3 → got n end ≡ number s next → NumbersSoFar s left at (set ns i n) end (i + 1)
    numbers-more n end l h e =
        let d : left - i - 1 ≡ left - (i + 1) = omega arith in
        record {
          bound = omega arith;
          size = length-set ns i n ∙ so.size;
          rest =
              changed (λ ms. three (take (i + 1) (set ns i n) ++ ms)) (λ ms. three (take i ns ++ (n ∷ ms))) (numbers (left - (i + 1)) s end) (λ ms. ap three (written ms))
              ∙ ap (λ (m : ℕ). map_step (λ ms. three (take i ns ++ (n ∷ ms))) (numbers m s end)) (sym d)
              ∙ numbers-got (λ ms. three (take i ns ++ ms)) s next (left - i) n end (omega arith) e
              ∙ so.rest;
          past = λ k g. get_or-set_other ns i k n 0 (λ f. omega arith) ∙ so.past k (omega arith);
        }
      where
        written : (ms : List ℕ) → take (i + 1) (set ns i n) ++ ms ≡ take i ns ++ (n ∷ ms)
        written ms = let j : i < length ns = omega (arith, so.size) in rw (add-one, take-suc-set, append_snoc)

    pub numbers-cut : (r : Refusal) → i < left → refused r ≡ number s next → refused r ≡ map_step three (numbers left s at)
    numbers-cut r l e = numbers-refused (λ ms. three (take i ns ++ ms)) s next (left - i) r (omega arith) e ∙ so.rest

    pub numbers-done : left ≤ i → left ≤ 3 → got ns next ≡ map_step three (numbers left s at)
    numbers-done l h =
        ap (λ (ms : List ℕ). got ms next) (sym (zeros-after i ns (omega (arith, so.bound)) so.size so.past))
        ∙ numbers-none (λ ms. three (take i ns ++ ms)) s next (left - i) (omega arith)
        ∙ so.rest

-- ---- kinds

pub named-input : (k : ℕ) → k ≡ input_kind → has_name k ≡ true
unfolding has_name
named-input k e = rw e

pub named-output : (k : ℕ) → k ≡ output_kind → has_name k ≡ true
unfolding has_name
named-output k e = rw e

pub unnamed : (k : ℕ) → (k ≡ input_kind → ⊥) → (k ≡ output_kind → ⊥) → has_name k ≡ false
unfolding has_name
unnamed k x y = rw (ne_eqb k input_kind x, ne_eqb k output_kind y)
