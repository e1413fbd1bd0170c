-- Replay of two records: yes exactly where the outputs agree in every earlier cycle and differ as marked; refused exactly where a refusal applies; and that refusals 18 and 19 compare sets of names. Assumes nothing.
use Rattle.std.specs.Prelude.{ℕ, ◌≢◌, ◌↔◌, true, List, length}
use Rattle.std.proofs.Common.{arith, sym, subst, ◌∙◌}
use Rattle.std.proofs.Math.Path.{◌≡◌, refl, ap}
use Rattle.std.proofs.Math.Bool.{false, not}
use Rattle.std.proofs.Math.Option.{Option, none, some}
use Rattle.std.proofs.lemmas.Bool.{not-false}
use Rattle.model.specs.Answers.{Refusal, accepted}
use Rattle.model.specs.Names.{Name, Place, member_name, same_names, sort, names_of}
use Rattle.model.specs.Netlist.{Design, input_name, output_name, ports_from, inputs, outputs}
use Rattle.model.specs.Validate.{validate}
use Rattle.model.specs.Run.{initial_bits}
use Rattle.model.specs.Pair.{ReadPair, both, refused_pair, read_pair, inputs_differ, outputs_differ, interface_fault, replay_fault}
use Rattle.model.specs.Replay.{replays, refused_replay, replay_pair, replay_read, replay, claim_inputs}
use Rattle.laws.specs.Terms.{replay_refusal_of, replay_refusal, Yes}
use Rattle.laws.specs.Names.Order.{Distinct, sort_increasing}
use Rattle.laws.specs.Names.Sets.{SameSet, increasing_unique, inputs-distinct, outputs-distinct}
use Rattle.laws.specs.Record.Accepted.{otherwise_none, refuse_if-none, accepted-parsed}
use Rattle.laws.specs.Replay.{replays-yes}
use Rattle.laws.specs.Induction.Chain.{output-length}
use Rattle.laws.specs.Induction.Pairs.{read_pair-both, same_names_lem, names-refl}
use Rattle.laws.specs.Check.Refusals.{replay-within, replay-not-zero}

-- the output names of two designs that a replay does not refuse
names-alike : (gold gate : Design) (cycle : ℕ) (claim : List ℕ) → replay_fault gold gate cycle claim ≡ none → names_of (outputs gold) ≡ names_of (outputs gate)
unfolding replay_fault interface_fault outputs_differ
names-alike gold gate cycle claim h =
    let face = (otherwise_none (interface_fault gold gate) _ h).0 in
    let n19 = (otherwise_none _ _ (otherwise_none _ _ face).1).0 in
    same_names_lem _ _ (not-false _ (refuse_if-none 19 0 0 _ n19))

-- a replay that is not refused says yes exactly where its claim is true of the two runs
pub replay_rule : (a b : List ℕ) (cycle : ℕ) (claim : List ℕ) (gold gate : Design) → read_pair a b ≡ both gold gate → replay_fault gold gate cycle claim ≡ none
    → ((replay a b cycle claim).yes ≡ true) ↔ Yes gold gate (initial_bits gold) (initial_bits gate) cycle claim
unfolding replay replay_read replay_pair
replay_rule a b cycle claim gold gate r f =
    let n = names-alike gold gate cycle claim f in
    let e : (replay a b cycle claim).yes ≡ replays gold gate (initial_bits gold) (initial_bits gate) cycle claim = rw (r, f) in
    let w = replays-yes gold gate (initial_bits gold) (initial_bits gate) cycle claim
    (output-length gold (initial_bits gold) (claim_inputs gold claim) cycle ∙ ap length n ∙ sym (output-length gate (initial_bits gate) (claim_inputs gold claim) cycle)) in
    (λ h. w.0 (sym e ∙ h), λ y. e ∙ w.1 y)

-- ---- refusals

module _ (a b : List ℕ) (cycle : ℕ) (claim : List ℕ) where
  -- a refused replay: the refusal's numbers, and no
  replay-refused : (r : Refusal) → replay_refusal a b cycle claim ≡ some r → replay a b cycle claim ≡ record { refusal = r; yes = false }
  unfolding replay replay_refusal replay_refusal_of replay_read replay_pair refused_replay
  replay-refused r e = go (read_pair a b) e
    where
      go : (p : ReadPair) → replay_refusal_of p cycle claim ≡ some r → replay_read p cycle claim ≡ record { refusal = r; yes = false }
      go (refused_pair q) e = let f : q ≡ r = cc in rw f
      go (both gold gate) e = rw e

  -- one that is not refused: the three zeros
  replay-accepted : replay_refusal a b cycle claim ≡ none → (replay a b cycle claim).refusal ≡ accepted
  unfolding replay replay_refusal replay_refusal_of replay_read replay_pair
  replay-accepted e = go (read_pair a b) e
    where
      go : (p : ReadPair) → replay_refusal_of p cycle claim ≡ none → (replay_read p cycle claim).refusal ≡ accepted
      go (refused_pair q) e = absurd (let z : ◌≡◌ {A = ℕ} 0 1 = cc in omega arith)
      go (both gold gate) e = rw e

  -- the replay is refused with r exactly where r is its first refusal
  pub replay-refused-with : (r : Refusal) → (replay_refusal a b cycle claim ≡ some r) ↔ ((replay a b cycle claim ≡ record { refusal = r; yes = false }) × (r.number ≢ 0))
  unfolding accepted
  replay-refused-with r = (λ e. (replay-refused r e, replay-not-zero r (replay-within a b cycle claim r e)), λ h. back (replay_refusal a b cycle claim) refl h)
    where
      back : (o : Option Refusal) → replay_refusal a b cycle claim ≡ o → (replay a b cycle claim ≡ record { refusal = r; yes = false }) × (r.number ≢ 0) → replay_refusal a b cycle claim ≡ some r
      back (some q) e h = let f : q ≡ r = ap (λ x. x.refusal) (sym (replay-refused q e) ∙ h.0) in e ∙ ap some f
      back none e h = absurd (h.1 (ap (λ x. x.number) (ap (λ x. x.refusal) (sym h.0) ∙ replay-accepted e)))

  -- it answers number 0 exactly where none applies
  pub replay-zero : ((replay a b cycle claim).refusal.number ≡ 0) ↔ (replay_refusal a b cycle claim ≡ none)
  unfolding accepted
  replay-zero = (λ h. go (replay_refusal a b cycle claim) refl h, λ e. ap (λ x. x.number) (replay-accepted e))
    where
      go : (o : Option Refusal) → replay_refusal a b cycle claim ≡ o → (replay a b cycle claim).refusal.number ≡ 0 → o ≡ none
      go none e h = refl
      go (some r) e h = absurd (replay-not-zero r (replay-within a b cycle claim r e) (ap (λ x. x.refusal.number) (sym (replay-refused r e)) ∙ h))

-- ---- 18 and 19

-- sorted names without repeats are compared as sets
sets_compared : (ps qs : List Place) → Distinct ps → Distinct qs
    → (not (same_names (names_of (sort ps)) (names_of (sort qs))) ≡ false) ↔ ((x : Name) → member_name x (names_of (sort ps)) ≡ member_name x (names_of (sort qs)))
sets_compared ps qs d e = (
  λ h x. ap (member_name x) (same_names_lem _ _ (not-false _ h)),
  λ s.
      let n : names_of (sort ps) ≡ names_of (sort qs) = increasing_unique (sort ps) (sort qs) (sort_increasing ps d) (sort_increasing qs e) (unfold SameSet in s) in
      ap not (subst (λ ns. same_names (names_of (sort ps)) ns ≡ true) n (names-refl (names_of (sort ps)))),
)

module _ (a b : List ℕ) (gold gate : Design) (r : read_pair a b ≡ both gold gate) where
  gold_valid : validate gold ≡ none
  gold_valid = (accepted-parsed a gold (read_pair-both a b gold gate r).0).1

  gate_valid : validate gate ≡ none
  gate_valid = (accepted-parsed b gate (read_pair-both a b gold gate r).1).1

  -- the input names differ as sets exactly where 18 says so
  pub inputs_compared : (inputs_differ gold gate ≡ false) ↔ ((x : Name) → member_name x (names_of (inputs gold)) ≡ member_name x (names_of (inputs gate)))
  unfolding inputs_differ inputs
  inputs_compared = sets_compared (ports_from input_name 0 gold.nodes) (ports_from input_name 0 gate.nodes) (inputs-distinct gold gold_valid) (inputs-distinct gate gate_valid)

  -- and the output names where 19 does
  pub outputs_compared : (outputs_differ gold gate ≡ false) ↔ ((x : Name) → member_name x (names_of (outputs gold)) ≡ member_name x (names_of (outputs gate)))
  unfolding outputs_differ outputs
  outputs_compared = sets_compared (ports_from output_name 0 gold.nodes) (ports_from output_name 0 gate.nodes) (outputs-distinct gold gold_valid) (outputs-distinct gate gate_valid)
