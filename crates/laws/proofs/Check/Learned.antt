-- The query that learned most, of two designs and in the numbers of a call, which changes nothing else of the call. Assumes nothing.
use Rattle.std.specs.Prelude.{ℕ, ◌≤◌, ◌<◌, ◌≡◌, refl, ◌⊎◌, Bool, true, false, ltb, Float}
use Rattle.std.proofs.Common.{arith, sym, subst, ◌∙◌, inl, inr, ltb-true, ltb-false}
use Rattle.std.proofs.Math.Path.{ap}
use mathlib.Core.List.{List, [], ◌∷◌, ◌++◌, Memᴰ}
use Rattle.std.proofs.Math.Option.{Option, none, some}
use Rattle.model.specs.Answers.{Refusal, status_number, Asked, refused_answer, accepted_answer}
use Rattle.model.specs.Options.{Options, first_query}
use Rattle.model.specs.Netlist.{Design}
use Rattle.model.specs.Run.{StoredBits, initial_bits}
use Rattle.model.specs.Pair.{both, read_pair, check_refusal}
use Rattle.model.specs.Equivalence.{Verdict, Equivalent, NotEquivalent, Inconclusive, GaveUp, OutOfFuel, larger_learned, largest_from, largest_learned}
use Rattle.model.specs.Check.{problem_of, check_designs, CheckOutcome, refused_check, accepted_check, check_outcome, verdict_answer, check_answer, CheckResult, check_result, lent_of, check}
use Rattle.laws.specs.Terms.{learned_of, seven_of, accepted_seven, verdict_seven, outcome_seven, outcome_learned, AsOutcome, FirstLargest}
use Rattle.laws.specs.Induction.Pairs.{Accepted, accepted-pair, free_of, depth-positive, limit_small}
use Rattle.laws.specs.Check.Call.{check-refused, call-is}
use Rattle.laws.proofs.Check.Asked.{designs_first, largest_within}

-- ---- the largest of a list

-- the first of them has no more
first-no-more : (b m : Asked) (bs before after : List Asked) → b ∷ bs ≡ before ++ (m ∷ after) → ((a : Asked) → Memᴰ a before → a.learned < m.learned) → b.learned ≤ m.learned
first-no-more b m bs [] after e less = let z : b ≡ m = cc in omega (arith, ap (λ (x : Asked). x.learned) z)
first-no-more b m bs (x ∷ before) after e less =
    let z : b ≡ x = cc in omega (arith, ap (λ (x : Asked). x.learned) z, less x (mathlib.Core.List.Memᴰ.head refl))

-- one with a smaller total put before them
put_before : (a b m : Asked) (bs : List Asked) → a.learned < b.learned → FirstLargest (b ∷ bs) m → FirstLargest (a ∷ b ∷ bs) m
put_before a b m bs l f =
    record {
      before = a ∷ f.before;
      after = f.after;
      stands = ap (λ (xs : List Asked). a ∷ xs) f.stands;
      less = λ x k. go x (mathlib.Core.List.Memᴰ.cases_cons k);
      no_more = f.no_more;
    }
  where
    go : (x : Asked) → (x ≡ a) ⊎ Memᴰ x f.before → x.learned < m.learned
    go x (inl e) = omega (arith, l, ap (λ (y : Asked). y.learned) e, first-no-more b m bs f.before f.after f.stands f.less)
    go x (inr k) = f.less x k

-- one with no larger total put second
put_second : (a b m : Asked) (bs before after : List Asked) → b.learned ≤ a.learned → a ∷ bs ≡ before ++ (m ∷ after)
    → ((x : Asked) → Memᴰ x before → x.learned < m.learned) → ((x : Asked) → Memᴰ x after → x.learned ≤ m.learned) → FirstLargest (a ∷ b ∷ bs) m
put_second a b m bs [] after l e less no_more =
    let z : a ≡ m = cc in
    let y : bs ≡ after = cc in
    record {
      before = [];
      after = b ∷ bs;
      stands = ap (λ (x : Asked). x ∷ b ∷ bs) z;
      less = λ x k. absurd (mathlib.Core.List.Memᴰ.not-nil k);
      no_more = λ x k. go z y x (mathlib.Core.List.Memᴰ.cases_cons k);
    }
  where
    go : a ≡ m → bs ≡ after → (x : Asked) → (x ≡ b) ⊎ Memᴰ x bs → x.learned ≤ m.learned
    go z y x (inl e) = omega (arith, l, ap (λ (y : Asked). y.learned) e, ap (λ (y : Asked). y.learned) z)
    go z y x (inr k) = no_more x (subst (Memᴰ x) y k)
put_second a b m bs (c ∷ before) after l e less no_more =
    let z : a ≡ c = cc in
    let y : bs ≡ before ++ (m ∷ after) = cc in
    let a-less : a.learned < m.learned = omega (arith, ap (λ (x : Asked). x.learned) z, less c (mathlib.Core.List.Memᴰ.head refl)) in
    record {
      before = a ∷ b ∷ before;
      after = after;
      stands = ap (λ (xs : List Asked). a ∷ b ∷ xs) y;
      less = λ x k. go a-less x (mathlib.Core.List.Memᴰ.cases_cons k);
      no_more = no_more;
    }
  where
    later : a.learned < m.learned → (x : Asked) → (x ≡ b) ⊎ Memᴰ x before → x.learned < m.learned
    later h x (inl e) = omega (arith, l, h, ap (λ (y : Asked). y.learned) e)
    later h x (inr k) = less x (mathlib.Core.List.Memᴰ.tail k)

    go : a.learned < m.learned → (x : Asked) → (x ≡ a) ⊎ Memᴰ x (b ∷ before) → x.learned < m.learned
    go h x (inl e) = omega (arith, h, ap (λ (y : Asked). y.learned) e)
    go h x (inr k) = later h x (mathlib.Core.List.Memᴰ.cases_cons k)

largest_first : (a : Asked) (rest : List Asked) → FirstLargest (a ∷ rest) (largest_from a rest)
unfolding largest_from larger_learned
largest_first a [] = record { before = []; after = []; stands = refl; less = λ x k. absurd (mathlib.Core.List.Memᴰ.not-nil k); no_more = λ x k. absurd (mathlib.Core.List.Memᴰ.not-nil k) }
largest_first a (b ∷ bs) = go (ltb a.learned b.learned) refl (largest_first a bs) (largest_first b bs)
  where
    go : (t : Bool) → ltb a.learned b.learned ≡ t → FirstLargest (a ∷ bs) (largest_from a bs) → FirstLargest (b ∷ bs) (largest_from b bs)
        → FirstLargest (a ∷ b ∷ bs) (largest_from (larger_learned a b) bs)
    go true e f g = rw e (put_before a b (largest_from b bs) bs (ltb-true _ _ e) g)
    go false e f g = rw e (put_second a b (largest_from a bs) bs f.before f.after (ltb-false _ _ e) f.stands f.less f.no_more)

-- where all are 0 it is the first
all-zero : (a m : Asked) (rest before after : List Asked) → ((x : Asked) → Memᴰ x (a ∷ rest) → x.learned ≡ 0) → a ∷ rest ≡ before ++ (m ∷ after)
    → ((x : Asked) → Memᴰ x before → x.learned < m.learned) → m ≡ a
all-zero a m rest [] after zeros e less = let z : m ≡ a = cc in z
all-zero a m rest (c ∷ before) after zeros e less =
    let k : Memᴰ m (a ∷ rest) = subst (Memᴰ m) (sym e) (mathlib.Core.List.Memᴰ.append_right (c ∷ before) (mathlib.Core.List.Memᴰ.head refl)) in
    absurd (omega (arith, less c (mathlib.Core.List.Memᴰ.head refl), zeros m k))

-- ---- two designs

-- the largest total over all queries asked, and the first that has it
pub designs_largest : (o : Options) (gold gate : Design) (s t : StoredBits) → 1 ≤ o.depth
    → FirstLargest (check_designs o gold gate s t).asked (largest_learned (check_designs o gold gate s t).asked)
unfolding largest_learned
designs_largest o gold gate s t low =
    let x = designs_first o gold gate s t low in
    subst (λ (l : List Asked). FirstLargest l (largest_learned l)) (sym x.2) (largest_first (record { depth = 1; query = first_query o.earliest; learned = x.0 }) x.1)

-- ---- the call

verdict-learned : (v : Verdict) (most : Asked) (proved : Option ℕ) → learned_of (verdict_answer v most proved) ≡ most
unfolding learned_of verdict_answer accepted_answer
verdict-learned (Equivalent d) most proved = refl
verdict-learned (NotEquivalent d m bytes) most proved = refl
verdict-learned (Inconclusive d) most proved = refl
verdict-learned (GaveUp d q) most proved = refl
verdict-learned OutOfFuel most proved = refl

module _ (a b : List ℕ) (o : Options) (trace words : List ℕ) (scores : List Float) where
  module _ (gold gate : Design) (free : check_refusal a b o (lent_of trace words scores) ≡ none) (pair : read_pair a b ≡ both gold gate) where
    -- the queries that the check of its designs asks
    abbrev asked : List Asked
    asked = (check_designs o gold gate (initial_bits gold) (initial_bits gate)).asked

    call-learned : learned_of (check a b o trace words scores).answer ≡ largest_learned asked
    unfolding check_result check_answer
    call-learned =
        ap (λ (r : CheckResult). learned_of r.answer) (call-is a b o trace words scores gold gate free pair)
        ∙ verdict-learned (check_designs o gold gate (initial_bits gold) (initial_bits gate)).verdict (largest_learned asked) _

    positive : 1 ≤ o.depth
    positive = depth-positive gold gate o (lent_of trace words scores) (free_of a b o (lent_of trace words scores) gold gate free pair)

    -- an accepted call tells of the query that learned most, whatever its status
    pub call_largest : FirstLargest asked (learned_of (check a b o trace words scores).answer)
    call_largest = subst (FirstLargest asked) (sym call-learned) (designs_largest o gold gate (initial_bits gold) (initial_bits gate) positive)

    -- where no query learned anything it tells of the first
    pub call-nothing : ((x : Asked) → Memᴰ x asked → x.learned ≡ 0) → learned_of (check a b o trace words scores).answer ≡ record { depth = 1; query = first_query o.earliest; learned = 0 }
    call-nothing zeros =
        let x = designs_first o gold gate (initial_bits gold) (initial_bits gate) positive in
        let first : Asked = record { depth = 1; query = first_query o.earliest; learned = x.0 } in
        let all : (y : Asked) → Memᴰ y (first ∷ x.1) → y.learned ≡ 0 = subst (λ (l : List Asked). (y : Asked) → Memᴰ y l → y.learned ≡ 0) x.2 zeros in
        let f = call_largest in
        all-zero first (learned_of (check a b o trace words scores).answer) x.1 f.before f.after all (sym x.2 ∙ f.stands) f.less
        ∙ ap (λ (n : ℕ). record { depth = 1; query = first_query o.earliest; learned = n }) (all first (mathlib.Core.List.Memᴰ.head refl))

  -- the total of a call, refused or not, is within its limit, and at most 262,144
  pub call-within : ((check a b o trace words scores).answer.learned ≤ o.limit) × ((check a b o trace words scores).answer.learned ≤ 262144)
  call-within = go (check_refusal a b o (lent_of trace words scores)) refl
    where
      go : (f : Option Refusal) → check_refusal a b o (lent_of trace words scores) ≡ f → ((check a b o trace words scores).answer.learned ≤ o.limit) × ((check a b o trace words scores).answer.learned ≤ 262144)
      go (some r) e =
          let z : (check a b o trace words scores).answer.learned ≡ 0 = unfold refused_answer in ap (λ (x : CheckResult). x.answer.learned) (check-refused a b o trace words scores r e) in
          (omega (arith, z), omega (arith, z))
      go none e =
          let k : Accepted a b o (lent_of trace words scores) = accepted-pair a b o (lent_of trace words scores) e in
          let z : (check a b o trace words scores).answer.learned ≡ (largest_learned (asked k.gold k.gate e k.pair)).learned =
          unfold learned_of in ap (λ (x : Asked). x.learned) (call-learned k.gold k.gate e k.pair) in
          let y : (largest_learned (asked k.gold k.gate e k.pair)).learned ≤ o.limit =
          unfold check_designs in largest_within o.earliest o.limit (problem_of k.gold k.gate (initial_bits k.gold) (initial_bits k.gate)) o.depth in
          (omega (arith, z, y), omega (arith, z, y, limit_small k.gold k.gate o (lent_of trace words scores) k.free))

verdict-seven : (v : Verdict) (most : Asked) (proved : Option ℕ) → seven_of (verdict_answer v most proved) ≡ verdict_seven v
unfolding seven_of verdict_answer accepted_answer status_number verdict_seven accepted_seven
verdict-seven (Equivalent d) most proved = refl
verdict-seven (NotEquivalent d m bytes) most proved = refl
verdict-seven (Inconclusive d) most proved = refl
verdict-seven (GaveUp d q) most proved = refl
verdict-seven OutOfFuel most proved = refl

outcome-seven : (x : CheckOutcome) → seven_of (check_answer x) ≡ outcome_seven x
unfolding seven_of check_answer refused_answer outcome_seven
outcome-seven (refused_check r) = refl
outcome-seven (accepted_check x) = verdict-seven x.verdict (largest_learned x.asked) _

outcome-learned : (x : CheckOutcome) → learned_of (check_answer x) ≡ outcome_learned x
unfolding learned_of check_answer refused_answer outcome_learned
outcome-learned (refused_check r) = refl
outcome-learned (accepted_check x) = verdict-learned x.verdict (largest_learned x.asked) _

-- all numbers of a call but what is proved, and what it leaves in each lent buffer, are those of its outcome
pub call_as_outcome : (a b : List ℕ) (o : Options) (trace words : List ℕ) (scores : List Float) → AsOutcome (check_outcome a b o (lent_of trace words scores)) a b o trace words scores
unfolding check check_result
call_as_outcome a b o trace words scores =
    let x = check_outcome a b o (lent_of trace words scores) in
    record { seven = outcome-seven x; learned = outcome-learned x; traced = refl; words_left = refl; scores_left = refl }
