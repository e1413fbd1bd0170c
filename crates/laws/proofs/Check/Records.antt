-- The check of two records is that of their designs from the initial states, so its laws are theirs: what a status means, traces, swapped pairs, chains. Assumes nothing.
use Rattle.std.specs.Prelude.{ℕ, ◌≤◌, ◌≡◌, refl, ◌≢◌, ◌⊎◌, ◌↔◌, true, List, length}
use Rattle.std.proofs.Common.{arith, sym, ◌∙◌, subst, ltb-false, le-ltb, eq-eqb}
use Rattle.std.proofs.Math.Option.{Option, none, some}
use Rattle.model.specs.Answers.{Refusal, accepted, Status, Equivalent, NotEquivalent, GaveUp}
use Rattle.model.specs.Options.{Options}
use Rattle.model.specs.Netlist.{Design}
use Rattle.model.specs.Record.{parsed}
use Rattle.model.specs.Validate.{refuse_if, read_record}
use Rattle.model.specs.Run.{StoredBits, initial_bits}
use Rattle.model.specs.Pair.{Lent, interface_fault, initial_fault, check_fault, trace_length, bad_claim, replay_fault, both, read_pair, check_refusal}
use Rattle.model.specs.Replay.{replay_pair, replay_read, replay}
use Rattle.model.specs.Induction.{Query1, Says, initially, SameOutputs, refused, answered, Sound, Checked, gold_first, gate_first, SwapLaw, ChainLaw}
use Rattle.model.specs.Equivalence as Search
use Rattle.model.specs.Check.{check_designs, checked}
use Rattle.laws.specs.Terms.{Comparable, checked_designs, TraceGood}
use Rattle.laws.specs.Record.Accepted.{otherwise_none, none_otherwise, pass}
use Rattle.laws.specs.Induction.Chain.{chain_joins, same_back, same-through}
use Rattle.laws.specs.Induction.Pairs.{read_pair-both, read_pair_of, one-design, Accepted, accepted-pair, free_of, Facts, facts_of, comparable, depth-positive, refusal_swap}
use Rattle.laws.specs.Check.Call.{check_accepts, check-refuses, checked-is}
use Rattle.laws.proofs.Check.Designs.{designs_sound, designs_said, designs_find, designs_equivalent, designs_never, designs_trace, designs_swap}

-- ---- what a status means

-- what a check answers is what its designs answer from their initial bits
answered-is : (a b : List ℕ) (o : Options) (lent : Lent) (status : Status) (d : ℕ) → checked a b o lent ≡ answered status d
    → (gold gate : Design) → read_pair a b ≡ both gold gate → checked_designs o gold gate (initial_bits gold) (initial_bits gate) ≡ answered status d
answered-is a b o lent status d h gold gate r = sym (checked-is a b o lent gold gate (check_accepts a b o lent status d h) r) ∙ h

-- and they are comparable
compared : (a b : List ℕ) (o : Options) (lent : Lent) (status : Status) (d : ℕ) → checked a b o lent ≡ answered status d
    → (gold gate : Design) → read_pair a b ≡ both gold gate → Comparable gold gate
compared a b o lent status d h gold gate r = comparable a b o lent gold gate (check_accepts a b o lent status d h) r

-- a status other than GaveUp is what k-induction says from the initial states
pub check_sound : Sound checked
check_sound a b o lent status d h n gold gate r =
    designs_sound o gold gate (compared a b o lent status d h gold gate r) (initial_bits gold) (initial_bits gate) status d (answered-is a b o lent status d h gold gate r) n

-- and what k-induction says from the initial states is answered, unless the check gives up
pub check_said : (a b : List ℕ) (o : Options) (lent : Lent) (gold gate : Design) → check_refusal a b o lent ≡ none → read_pair a b ≡ both gold gate
    → (status : Status) (d : ℕ) → Says gold gate (initial_bits gold) (initial_bits gate) o.depth status d
    → (checked a b o lent ≡ answered status d) ⊎ ((e : ℕ) × (checked a b o lent ≡ answered GaveUp e))
check_said a b o lent gold gate free r status d says =
    rw (checked-is a b o lent gold gate free r) (designs_said o gold gate (comparable a b o lent gold gate free r) (initial_bits gold) (initial_bits gate) status d says)

-- where the check does not give up, it says NotEquivalent exactly when some input sequence makes outputs differ in a cycle from 0 to the maximum depth
pub check-finds : (a b : List ℕ) (o : Options) (lent : Lent) (status : Status) (d : ℕ) → checked a b o lent ≡ answered status d → status ≢ GaveUp
    → (gold gate : Design) → read_pair a b ≡ both gold gate → (status ≡ NotEquivalent) ↔ Query1 gold gate (initial_bits gold) (initial_bits gate) o.depth
check-finds a b o lent status d h n gold gate r =
    designs_find o gold gate (compared a b o lent status d h gold gate r) (initial_bits gold) (initial_bits gate)
    (depth-positive gold gate o lent (free_of a b o lent gold gate (check_accepts a b o lent status d h) r)) status d (answered-is a b o lent status d h gold gate r) n

-- Equivalent: the outputs have the same names, and the same bits in every cycle of every input sequence, past any depth searched
pub check-equivalent : (a b : List ℕ) (o : Options) (lent : Lent) (d : ℕ) → checked a b o lent ≡ answered Equivalent d
    → (gold gate : Design) → read_pair a b ≡ both gold gate → SameOutputs (initially gold) (initially gate)
unfolding initially
check-equivalent a b o lent d h gold gate r =
    designs_equivalent o gold gate (compared a b o lent Equivalent d h gold gate r) (initial_bits gold) (initial_bits gate) d (answered-is a b o lent Equivalent d h gold gate r)

-- ---- traces

-- a good trace of an accepted pair is not refused
no-replay_fault : (gold gate : Design) (o : Options) (lent : Lent) (d m : ℕ) (bytes : List ℕ) (s t : StoredBits) → check_fault gold gate o lent ≡ none → d ≤ o.depth
    → TraceGood gold gate s t d m bytes → replay_fault gold gate m bytes ≡ none
unfolding replay_fault check_fault bad_claim
no-replay_fault gold gate o lent d m bytes s t f l g =
    let x : Facts gold gate o lent = facts_of gold gate o lent f in
    let a16 = otherwise_none (refuse_if 16 0 0 _) _ f in
    let a17 = otherwise_none (refuse_if 17 0 0 _) _ a16.1 in
    let a36 = otherwise_none (refuse_if 36 0 0 _) _ a17.1 in
    let face = otherwise_none (interface_fault gold gate) _ a36.1 in
    let start = otherwise_none (initial_fault gold gate) _ face.1 in
    let low : m ≤ 64 = omega (arith, ltb-false 64 o.depth x.depth_high, g.early) in
    none_otherwise _ _ face.0 (none_otherwise _ _ start.0 (pass 25 0 0 _ (rw (le-ltb 64 m low, eq-eqb (length bytes) (trace_length gold m) g.size, g.bits))))

-- the trace of NotEquivalent replays yes, and the replay is not refused
pub check-replays : (a b : List ℕ) (o : Options) (lent : Lent) (gold gate : Design) (d m : ℕ) (bytes : List ℕ) → check_refusal a b o lent ≡ none → read_pair a b ≡ both gold gate
    → (check_designs o gold gate (initial_bits gold) (initial_bits gate)).verdict ≡ Search.NotEquivalent d m bytes → replay a b m bytes ≡ record { refusal = accepted; yes = true }
unfolding replay replay_read replay_pair
check-replays a b o lent gold gate d m bytes free r v =
    let x = designs_trace o gold gate (comparable a b o lent gold gate free r) (initial_bits gold) (initial_bits gate) d m bytes v in
    rw (r, no-replay_fault gold gate o lent d m bytes (initial_bits gold) (initial_bits gate) (free_of a b o lent gold gate free r) x.0 x.1, x.1.replay)

-- ---- swapped

verdict_swap : (a b : List ℕ) (o : Options) (lent : Lent) (p q : Status) (d e : ℕ) → checked a b o lent ≡ answered p d → checked b a o lent ≡ answered q e → p ≢ GaveUp → q ≢ GaveUp → (p ≡ q) × (d ≡ e)
verdict_swap a b o lent p q d e x y u v =
    let k : Accepted a b o lent = accepted-pair a b o lent (check_accepts a b o lent p d x) in
    let r = read_pair-both a b k.gold k.gate k.pair in
    designs_swap o k.gold k.gate (compared a b o lent p d x k.gold k.gate k.pair) (initial_bits k.gold) (initial_bits k.gate) p q d e
    (answered-is a b o lent p d x k.gold k.gate k.pair)
    (answered-is b a o lent q e y k.gate k.gold (read_pair_of b a k.gate k.gold r.1 r.0)) u v

refused_swap : (a b : List ℕ) (o : Options) (lent : Lent) (r : Refusal) → checked a b o lent ≡ refused r → (q : Refusal) × (checked b a o lent ≡ refused q)
refused_swap a b o lent r e = go (check_refusal b a o lent) refl
  where
    go : (x : Option Refusal) → check_refusal b a o lent ≡ x → (q : Refusal) × (checked b a o lent ≡ refused q)
    go (some q) f = (q, (check-refuses b a o lent q).1 f)
    go none f =
        let n : check_refusal a b o lent ≡ none = refusal_swap b a o lent f in
        let m : check_refusal a b o lent ≡ some r = (check-refuses a b o lent r).0 e in
        absurd (let z : ◌≡◌ {A = ℕ} 0 1 = cc in omega arith)

-- the swap law
pub check_swap : SwapLaw checked
check_swap = record { verdict = verdict_swap; refusal = refused_swap }

-- ---- chains

-- what a link gives: two records that are accepted and show the same outputs
record Alike (a b : List ℕ) : Type 0 where
  pub gold : Design
  pub gate : Design
  pub gold_read : read_record a ≡ parsed gold
  pub gate_read : read_record b ≡ parsed gate
  pub same : SameOutputs (initially gold) (initially gate)

equivalent-alike : (a b : List ℕ) (o : Options) (lent : Lent) (d : ℕ) → checked a b o lent ≡ answered Equivalent d → Alike a b
equivalent-alike a b o lent d h =
    let k : Accepted a b o lent = accepted-pair a b o lent (check_accepts a b o lent Equivalent d h) in
    let r = read_pair-both a b k.gold k.gate k.pair in
    record { gold = k.gold; gate = k.gate; gold_read = r.0; gate_read = r.1; same = check-equivalent a b o lent d h k.gold k.gate k.pair }

alike_back : (a b : List ℕ) → Alike a b → Alike b a
alike_back a b l = record { gold = l.gate; gate = l.gold; gold_read = l.gate_read; gate_read = l.gold_read; same = same_back (initially l.gold) (initially l.gate) l.same }

alike-through : (a b c : List ℕ) → Alike a b → Alike b c → Alike a c
alike-through a b c l m =
    let e : l.gate ≡ m.gold = one-design b l.gate m.gold l.gate_read m.gold_read in
    record {
      gold = l.gold;
      gate = m.gate;
      gold_read = l.gold_read;
      gate_read = m.gate_read;
      same = same-through (initially l.gold) (initially m.gold) (initially m.gate) (subst (λ (d : Design). SameOutputs (initially l.gold) (initially d)) e l.same) m.same;
    }

checked-alike : (a b : List ℕ) → Checked checked a b → Alike a b
checked-alike a b (gold_first o lent d h) = equivalent-alike a b o lent d h
checked-alike a b (gate_first o lent d h) = alike_back b a (equivalent-alike b a o lent d h)

-- two such records are never NotEquivalent
alike-never : (a b : List ℕ) → Alike a b → (o : Options) (lent : Lent) (d : ℕ) → checked a b o lent ≢ answered NotEquivalent d
unfolding initially
alike-never a b l o lent d h =
    let r = read_pair_of a b l.gold l.gate l.gold_read l.gate_read in
    designs_never o l.gold l.gate (compared a b o lent NotEquivalent d h l.gold l.gate r) (initial_bits l.gold) (initial_bits l.gate) l.same d
    (answered-is a b o lent NotEquivalent d h l.gold l.gate r)

-- the chain law
pub check_chain : ChainLaw checked
check_chain l c a b m n =
    let k : Alike a b = chain_joins (Checked checked) Alike checked-alike alike_back alike-through l c a b m n in
    record { gold = k.gold; gate = k.gate; gold_read = k.gold_read; gate_read = k.gate_read; same = k.same; never = alike-never a b k }
