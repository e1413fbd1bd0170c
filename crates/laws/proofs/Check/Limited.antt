-- The limit that a caller sets: where it is refused, that up to the largest it changes no refusal, and that at the largest the check is the one whose caller sets none. Assumes nothing.
use Rattle.std.specs.Prelude.{ℕ, ◌≤◌, ◌<◌, ◌≡◌, ◌≢◌, ◌↔◌, Bool, true, false, eqb, ltb, Float}
use Rattle.std.proofs.Common.{arith, ap, subst}
use Rattle.std.proofs.Math.Path.{refl}
use mathlib.Core.List.{List, []}
use Rattle.std.proofs.Math.Option.{Option, none, some}
use borrow.Author.Tests.{eqb-false, ne_eqb, ltb-true, ltb-false, lt-ltb, le-ltb}
use Rattle.model.specs.Answers.{Refusal}
use Rattle.model.specs.Options.{Options, learned_limit, to_depth}
use Rattle.model.specs.Netlist.{Design}
use Rattle.model.specs.Validate.{◌otherwise◌, refuse_if}
use Rattle.model.specs.Pair.{Lent, interface_fault, initial_fault, check_fault, bad_claim, replay_fault, ReadPair, both, refused_pair, read_pair, check_refusal_of, check_refusal}
use Rattle.model.specs.Check.{CheckOutcome, check_pair, check_read, check_outcome, lent_of}
use Rattle.laws.specs.Terms.{of_fields, of_clock, OfReplay, of_record, of_pair, of_claim, replay_refusal_of, replay_refusal, AsOutcome, fault_to, outcome_to_of, outcome_to, OverLimit}
use Rattle.laws.specs.Induction.Pairs.{Accepted, accepted-pair, limit_small}
use Rattle.laws.specs.Check.Refusals.{replay-within}
use Rattle.laws.proofs.Check.Learned.{call_as_outcome}

-- ---- above the largest limit

-- the refusal of a limit
abbrev limited : Refusal
limited = record { number = 36; side = 0; place = 0 }

-- which is no refusal of a replay
replay_other : (r : Refusal) → OfReplay r → r ≡ limited → ⊥
replay_other r (of_record (of_fields h)) e = omega (arith, h.high, ap (λ (x : Refusal). x.number) e)
replay_other r (of_record (of_clock h)) e = omega (arith, h, ap (λ (x : Refusal). x.number) e)
replay_other r (of_pair h) e = omega (arith, h.high, ap (λ (x : Refusal). x.number) e)
replay_other r (of_claim h) e = omega (arith, h, ap (λ (x : Refusal). x.number) e)

-- nor one of those behind it, of which a replay has the first two
behind_other : (x y : Option Refusal) (c d e : Bool) → ((r : Refusal) → x otherwise y otherwise refuse_if 25 0 0 e ≡ some r → OfReplay r)
    → x otherwise y otherwise refuse_if 23 0 0 c otherwise refuse_if 24 0 0 d ≡ some limited → ⊥
unfolding ◌otherwise◌ refuse_if
behind_other (some r) y c d e f h = replay_other r (f r refl) cc
behind_other none (some r) c d e f h = replay_other r (f r refl) cc
behind_other none none true d e f h = let z : record { number = 23; side = 0; place = 0 } ≡ limited = cc in omega (arith, ap (λ (x : Refusal). x.number) z)
behind_other none none false true e f h = let z : record { number = 24; side = 0; place = 0 } ≡ limited = cc in omega (arith, ap (λ (x : Refusal). x.number) z)
behind_other none none false false e f h = absurd (let z : ◌≡◌ {A = ℕ} 0 1 = cc in omega arith)

-- so it is the first refusal where neither depth is refused and the limit is
fault_limited : (c d e : Bool) (rest : Option Refusal) → (rest ≡ some limited → ⊥) → refuse_if 16 0 0 c otherwise refuse_if 17 0 0 d otherwise refuse_if 36 0 0 e otherwise rest ≡ some limited
    → (c ≡ false) × (d ≡ false) × (e ≡ true)
unfolding ◌otherwise◌ refuse_if
fault_limited true d e rest f h = absurd (let z : record { number = 16; side = 0; place = 0 } ≡ limited = cc in omega (arith, ap (λ (x : Refusal). x.number) z))
fault_limited false true e rest f h = absurd (let z : record { number = 17; side = 0; place = 0 } ≡ limited = cc in omega (arith, ap (λ (x : Refusal). x.number) z))
fault_limited false false true rest f h = (refl, refl, refl)
fault_limited false false false rest f h = absurd (f h)

module _ (a b : List ℕ) (o : Options) (lent : Lent) where
  refused_over : (p : ReadPair) → read_pair a b ≡ p → check_refusal_of p o lent ≡ some limited → OverLimit a b o
  unfolding check_refusal_of check_fault replay_refusal replay_refusal_of replay_fault learned_limit
  refused_over (refused_pair r) e h = absurd (replay_other r (replay-within a b 0 [] r (rw e)) cc)
  refused_over (both gold gate) e h =
      let f : (r : Refusal) → interface_fault gold gate otherwise initial_fault gold gate otherwise refuse_if 25 0 0 (bad_claim gold 0 []) ≡ some r → OfReplay r = λ r k. replay-within a b 0 [] r (rw e k) in
      let z = fault_limited (eqb o.depth 0) (ltb 64 o.depth) (ltb 262144 o.limit) _ (behind_other (interface_fault gold gate) (initial_fault gold gate) _ _ (bad_claim gold 0 []) f) h in
      record {
        gold = gold;
        gate = gate;
        pair = e;
        low = omega (arith, eqb-false o.depth 0 z.0);
        high = ltb-false 64 o.depth z.1;
        above = ltb-true 262144 o.limit z.2;
      }

  over_refused : OverLimit a b o → check_refusal a b o lent ≡ some limited
  unfolding check_refusal check_refusal_of check_fault learned_limit ◌otherwise◌ refuse_if
  over_refused h = rw (h.pair, ne_eqb o.depth 0 (λ z. omega (arith, z, h.low)), le-ltb 64 o.depth h.high, lt-ltb 262144 o.limit h.above)

  -- 36 is the refusal exactly where both records are accepted, the maximum depth is 1 to 64, and the limit is above the largest
  pub over_limit : (check_refusal a b o lent ≡ some (record { number = 36; side = 0; place = 0 })) ↔ OverLimit a b o
  unfolding check_refusal
  over_limit = (λ h. refused_over (read_pair a b) refl h, over_refused)

  -- above the largest limit no check is accepted
  pub above-refused : 262144 < o.limit → check_refusal a b o lent ≢ none
  above-refused h free =
      let k : Accepted a b o lent = accepted-pair a b o lent free in
      omega (arith, h, limit_small k.gold k.gate o lent k.free)

-- ---- up to the largest limit

fault_alike : (gold gate : Design) (o other : Options) (lent : Lent) → o.depth ≡ other.depth → o.limit ≤ 262144 → other.limit ≤ 262144 → check_fault gold gate o lent ≡ check_fault gold gate other lent
unfolding check_fault learned_limit
fault_alike gold gate o other lent e h k = rw (e, le-ltb 262144 o.limit h, le-ltb 262144 other.limit k)

-- a refusal does not depend on the limit
pub refuse-alike : (a b : List ℕ) (o other : Options) (lent : Lent) → o.depth ≡ other.depth → o.limit ≤ 262144 → other.limit ≤ 262144 → check_refusal a b o lent ≡ check_refusal a b other lent
unfolding check_refusal check_refusal_of
refuse-alike a b o other lent e h k = go (read_pair a b)
  where
    go : (p : ReadPair) → check_refusal_of p o lent ≡ check_refusal_of p other lent
    go (refused_pair r) = refl
    go (both gold gate) = fault_alike gold gate o other lent e h k

-- ---- at the largest limit

fault_to_lem : (gold gate : Design) (D : ℕ) (lent : Lent) → check_fault gold gate (to_depth D) lent ≡ fault_to gold gate D lent
unfolding check_fault fault_to to_depth learned_limit ◌otherwise◌ refuse_if
fault_to_lem gold gate D lent = refl

outcome_to_lem : (a b : List ℕ) (D : ℕ) (lent : Lent) → check_outcome a b (to_depth D) lent ≡ outcome_to a b D lent
unfolding check_outcome check_read outcome_to outcome_to_of
outcome_to_lem a b D lent = go (read_pair a b)
  where
    go : (p : ReadPair) → check_read (to_depth D) p lent ≡ outcome_to_of p D lent
    go (refused_pair r) = refl
    go (both gold gate) = ap (check_pair (to_depth D) gold gate) (fault_to_lem gold gate D lent)

-- all numbers of a call but what is proved, and what it leaves in each lent buffer, are those of a check whose caller sets no limit
pub call_as_none : (a b : List ℕ) (D : ℕ) (trace words : List ℕ) (scores : List Float) → AsOutcome (outcome_to a b D (lent_of trace words scores)) a b (to_depth D) trace words scores
call_as_none a b D trace words scores =
    subst (λ (x : CheckOutcome). AsOutcome x a b (to_depth D) trace words scores) (outcome_to_lem a b D (lent_of trace words scores)) (call_as_outcome a b (to_depth D) trace words scores)
