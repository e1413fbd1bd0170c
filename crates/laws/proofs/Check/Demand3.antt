-- Demand 3 in the numbers of the call check: chains, swapped pairs, a record against itself. Assumes nothing.
use Rattle.std.specs.Prelude.{ℕ, ◌≡◌, ◌≢◌, ◌↔◌, Float}
use Rattle.std.proofs.Math.Path.{refl, ap}
use Rattle.std.proofs.Common.{sym, ◌∙◌, subst}
use mathlib.Core.List.{List, Memᴰ}
use Rattle.std.proofs.Math.Option.{Option, none, some}
use Rattle.model.specs.Answers.{Refusal, Status, Equivalent, NotEquivalent, GaveUp, status_number, refused_answer}
use Rattle.model.specs.Options.{Options, first_query}
use Rattle.model.specs.Pair.{Lent, check_refusal}
use Rattle.model.specs.Induction.{answered, Checked, gold_first, gate_first, Chain, two, more, Joined}
use Rattle.model.specs.Check.{lent_of, check, checked}
use Rattle.laws.specs.Terms.{Numbered, learned_of, CalledEquivalent, as_given, swapped}
use Rattle.laws.specs.Induction.Pairs.{refusal_swap}
use Rattle.laws.specs.Check.Call.{check-refused, check-numbered}
use Rattle.laws.specs.Check.Self.{check-self, check-self-idle}
use Rattle.laws.proofs.Check.Learned.{call_as_outcome}
use Rattle.laws.proofs.Check.Records.{check_swap, check_chain}
use Rattle.laws.proofs.Check.Ending.{check-answers}
use Rattle.laws.specs.Check.Refusals.{check-within, check-not-zero}
use Rattle.laws.proofs.Check.Numbers.{called, call-checked}

module _ (a b : List ℕ) (o : Options) (trace words : List ℕ) (scores : List Float) where
  refusal-number : (f : Option Refusal) → check_refusal a b o (lent_of trace words scores) ≡ f → (check a b o trace words scores).answer.number ≡ 0 → f ≡ none
  unfolding refused_answer
  refusal-number none e h = refl
  refusal-number (some r) e h =
      let q : (check a b o trace words scores).answer.number ≡ r.number = ap (λ x. x.answer.number) (check-refused a b o trace words scores r e) in
      absurd (check-not-zero r (check-within a b o (lent_of trace words scores) r e) (sym q ∙ h))

  -- number 0 is answered exactly where no refusal applies
  pub number-zero : ((check a b o trace words scores).answer.number ≡ 0) ↔ (check_refusal a b o (lent_of trace words scores) ≡ none)
  number-zero = (λ h. refusal-number (check_refusal a b o (lent_of trace words scores)) refl h, λ e. (called a b o trace words scores e).numbered.number)

  module _ (zero_number : (check a b o trace words scores).answer.number ≡ 0) where
    free : check_refusal a b o (lent_of trace words scores) ≡ none
    free = number-zero.0 zero_number

    -- a call that answered 0, Equivalent joins its two records
    pub call_joins : (check a b o trace words scores).answer.status ≡ 0 → Checked checked a b
    unfolding status_number
    call_joins h = gold_first o (lent_of trace words scores) _ (call-checked a b o trace words scores free Equivalent h)

    -- and the same two named the other way round
    pub call_joins_back : (check a b o trace words scores).answer.status ≡ 0 → Checked checked b a
    unfolding status_number
    call_joins_back h = gate_first o (lent_of trace words scores) _ (call-checked a b o trace words scores free Equivalent h)

    -- no call on two records of a chain answers 0, NotEquivalent
    pub call-never : (l : List (List ℕ)) → Chain (Checked checked) l → Memᴰ a l → Memᴰ b l → (check a b o trace words scores).answer.status ≢ 1
    unfolding status_number
    call-never l c m n h =
        let j : Joined checked a b = check_chain l c a b m n in
        j.never o (lent_of trace words scores) _ (call-checked a b o trace words scores free NotEquivalent h)

-- a call that answered Equivalent, given either way, is a link of a chain
called_checked : (a b : List ℕ) → CalledEquivalent a b → Checked checked a b
called_checked a b (as_given o trace words scores z h) = call_joins a b o trace words scores z h
called_checked a b (swapped o trace words scores z h) = call_joins_back b a o trace words scores z h

-- so a chain of calls is a chain of checks
chain_checked : {l : List (List ℕ)} → Chain CalledEquivalent l → Chain (Checked checked) l
chain_checked (two {a = a} {b = b} h) = two (called_checked a b h)
chain_checked (more {a = a} {b = b} h c) = more (called_checked a b h) (chain_checked c)

-- any two records of a chain of calls are joined
pub calls_join : (l : List (List ℕ)) → Chain CalledEquivalent l → (a b : List ℕ) → Memᴰ a l → Memᴰ b l → Joined checked a b
calls_join l c a b m n = check_chain l (chain_checked c) a b m n

-- and no call on them answers 0, NotEquivalent
pub calls_never : (a b : List ℕ) (o : Options) (trace words : List ℕ) (scores : List Float) → (check a b o trace words scores).answer.number ≡ 0
    → (l : List (List ℕ)) → Chain CalledEquivalent l → Memᴰ a l → Memᴰ b l → (check a b o trace words scores).answer.status ≢ 1
calls_never a b o trace words scores z l c m n = call-never a b o trace words scores z l (chain_checked c) m n

not-given-up : (p : Status) (n : ℕ) → n ≡ status_number p → n ≢ 3 → p ≢ GaveUp
unfolding status_number
not-given-up p n e h q = h (e ∙ ap status_number q)

-- two calls on a pair and on the swapped pair, to the same depth, with buffers of the same lengths: the same status and depth, unless one gives up
pub call_swap : (a b : List ℕ) (o : Options) (t w : List ℕ) (s : List Float) (t' w' : List ℕ) (s' : List Float) → lent_of t' w' s' ≡ lent_of t w s
    → (check a b o t w s).answer.number ≡ 0 → (check b a o t' w' s').answer.number ≡ 0
    → (check a b o t w s).answer.status ≢ 3 → (check b a o t' w' s').answer.status ≢ 3
    → ((check a b o t w s).answer.status ≡ (check b a o t' w' s').answer.status) × ((check a b o t w s).answer.depth ≡ (check b a o t' w' s').answer.depth)
call_swap a b o t w s t' w' s' l z z' g g' =
    let r = check-answers a b o (lent_of t w s) ((number-zero a b o t w s).0 z) in
    let r' = check-answers b a o (lent_of t' w' s') ((number-zero b a o t' w' s').0 z') in
    let n : Numbered (check a b o t w s).answer r.0 r.1 = check-numbered a b o t w s r.0 r.1 r.2 in
    let n' : Numbered (check b a o t' w' s').answer r'.0 r'.1 = check-numbered b a o t' w' s' r'.0 r'.1 r'.2 in
    let q : checked b a o (lent_of t w s) ≡ answered r'.0 r'.1 = subst (λ (k : Lent). checked b a o k ≡ answered r'.0 r'.1) l r'.2 in
    let v = check_swap.verdict a b o (lent_of t w s) r.0 r'.0 r.1 r'.1 r.2 q
    (not-given-up r.0 _ n.status_number_lem g) (not-given-up r'.0 _ n'.status_number_lem g') in
    (n.status_number_lem ∙ ap status_number v.0 ∙ sym n'.status_number_lem, n.depth ∙ v.1 ∙ sym n'.depth)

-- of the two calls one is refused exactly when the other is
pub call_swap_refused : (a b : List ℕ) (o : Options) (t w : List ℕ) (s : List Float) (t' w' : List ℕ) (s' : List Float) → lent_of t' w' s' ≡ lent_of t w s
    → (check b a o t' w' s').answer.number ≡ 0 → (check a b o t w s).answer.number ≡ 0
call_swap_refused a b o t w s t' w' s' l z =
    let h : check_refusal b a o (lent_of t w s) ≡ none = subst (λ (k : Lent). check_refusal b a o k ≡ none) l ((number-zero b a o t' w' s').0 z) in
    (number-zero a b o t w s).1 (refusal_swap b a o (lent_of t w s) h)

-- a record against itself: where the call is not refused it answers Equivalent at depth 1
pub call-self : (a : List ℕ) (o : Options) (t w : List ℕ) (s : List Float) → (check a a o t w s).answer.number ≡ 0
    → ((check a a o t w s).answer.status ≡ 0) × ((check a a o t w s).answer.depth ≡ 1)
unfolding status_number
call-self a o t w s z =
    let r = check-answers a a o (lent_of t w s) ((number-zero a a o t w s).0 z) in
    let n : Numbered (check a a o t w s).answer r.0 r.1 = check-numbered a a o t w s r.0 r.1 r.2 in
    let v = check-self a o (lent_of t w s) r.0 r.1 r.2 in
    (n.status_number_lem ∙ ap status_number v.0, n.depth ∙ v.1)

-- and tells that nothing was learned
pub call-self-idle : (a : List ℕ) (o : Options) (t w : List ℕ) (s : List Float) → (check a a o t w s).answer.number ≡ 0
    → learned_of (check a a o t w s).answer ≡ record { depth = 1; query = first_query o.earliest; learned = 0 }
call-self-idle a o t w s z = (call_as_outcome a a o t w s).learned ∙ check-self-idle a o (lent_of t w s) ((number-zero a a o t w s).0 z)
