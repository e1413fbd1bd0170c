-- A pair of designs does not depend on its clock's bits: not their runs, not a replay, not a step, not the replay of a trace. Assumes nothing.
use Prim.Native.Nat.{ℕ, zero, suc, ◌-◌, ◌*◌, ◌≤◌}
use Rattle.std.specs.Prelude.{◌≡◌, Bool, get_or, drop, ltb}
use Rattle.std.proofs.Math.Path.{refl, ap, ap₂}
use Rattle.std.proofs.Common.{sym, subst, ◌∙◌, arith, get_or-drop, ltb-false}
use Rattle.std.proofs.Math.Bool.{true, false, not, ◌&&◌}
use mathlib.Core.List.{List, [], ◌∷◌, Memᴰ}
use Rattle.std.proofs.Math.Option.{Option, none, some}
use Rattle.std.proofs.Math.ListN.{get_elem?}
use Rattle.std.proofs.lemmas.Bool.{not-false}
use Rattle.model.specs.Answers.{Refusal, accepted}
use Rattle.model.specs.Names.{Name, same_name, member_name, names_of}
use Rattle.model.specs.Netlist.{Node, Input, Constant, RegisterOutput, Not, Output, And, Or, Xor, Mux, Register, Design, input_name, place_if, ports_from, inputs, input_count}
use Rattle.model.specs.Validate.{refuse_if, is_input, is_input_at, clocks, validate}
use Rattle.model.specs.Run.{InputBits, StoredBits, InputSequence, node_values, output_bits, initial_bits}
use Rattle.model.specs.Pair.{inputs_differ, Domain, name_or, name_at, domain_of, same_domain, domain, domains_differ, interface_fault, bad_claim, replay_fault, Lent, both, read_pair, check_refusal}
use Rattle.facts.specs.Bools.{and_left, or-true}
use Rattle.model.specs.Replay.{claim_bit, claim_inputs, differ_as_marked, bits_differ, differ_at, agree_before, differ_as_claimed, replays, refused_replay, replay_pair, replay_read, replay, Position, Stepped, advance, step_if}
use Rattle.model.specs.Replay as Replay
use Rattle.model.specs.Stepping.{LentPosition, position_from, step_fault, stepped_to, refused_step, step_pair, step_read, step}
use Rattle.model.specs.Options.{Options}
use Rattle.model.specs.Equivalence as Search
use Rattle.model.specs.Check.{check_designs}
use Rattle.laws.specs.Terms.{AlikeButClocks, name_of_clock, clock_name, SameButClock, SameRuns, SameClaim}
use Rattle.laws.specs.Names.Order.{same_eq, same_refl, Distinct, member-sort}
use Rattle.laws.specs.Names.Sets.{inputs-distinct}
use Rattle.laws.specs.Record.Accepted.{otherwise_none, refuse_if-none, accepted-parsed}
use Rattle.laws.specs.Record.ClockRead.{contrary, clocks_of, clock-input}
use Rattle.laws.specs.ClockRun.{cycle-same, stored_same, run-outputs-same}
use Rattle.laws.specs.Induction.Pairs.{read_pair-both, same_names_lem}
use Rattle.laws.proofs.Check.Records.{check-replays}

-- ---- Inputs by name

-- an Input's name is among the inputs' names
port_member : (i : ℕ) (ns : List Node) (k : ℕ) (x : Name) → get_elem? ns k ≡ some (Input x) → member_name x (names_of (ports_from input_name i ns)) ≡ true
unfolding ports_from place_if input_name member_name names_of
port_member i [] k x e = absurd (let z : ◌≡◌ {A = ℕ} 0 1 = cc in omega arith)
port_member i (n ∷ ns) zero x e = let f : n ≡ Input x = cc in rw (f, same_refl x)
port_member i (n ∷ ns) (suc k) x e = go (input_name n) (port_member (suc i) ns k x e)
  where
    go : (r : Option Name) → member_name x (names_of (ports_from input_name (suc i) ns)) ≡ true → member_name x (names_of (place_if i r (ports_from input_name (suc i) ns))) ≡ true
    go none h = h
    go (some y) h = or-true (same_name x y) _ h

-- and is that of one node alone
one_input : (i : ℕ) (ns : List Node) → Distinct (ports_from input_name i ns) → (j k : ℕ) (x : Name) → get_elem? ns j ≡ some (Input x) → get_elem? ns k ≡ some (Input x) → j ≡ k
unfolding ports_from place_if input_name
one_input i [] h j k x e f = absurd (let z : ◌≡◌ {A = ℕ} 0 1 = cc in omega arith)
one_input i (n ∷ ns) h zero zero x e f = refl
one_input i (n ∷ ns) h zero (suc k) x e f =
    let g : n ≡ Input x = cc in
    absurd (contrary (subst (λ (m : Node). Distinct (place_if i (input_name m) (ports_from input_name (suc i) ns))) g h).0 (port_member (suc i) ns k x f))
one_input i (n ∷ ns) h (suc j) zero x e f =
    let g : n ≡ Input x = cc in
    absurd (contrary (subst (λ (m : Node). Distinct (place_if i (input_name m) (ports_from input_name (suc i) ns))) g h).0 (port_member (suc i) ns j x e))
one_input i (n ∷ ns) h (suc j) (suc k) x e f = ap suc (one_input (suc i) ns (go (input_name n) h) j k x e f)
  where
    go : (r : Option Name) → Distinct (place_if i r (ports_from input_name (suc i) ns)) → Distinct (ports_from input_name (suc i) ns)
    go none g = g
    go (some y) g = g.1

-- a node that is an Input, with its name
input-at : (x : Option Node) → is_input_at x ≡ true → x ≡ some (Input (name_at x))
unfolding is_input_at is_input input_name name_at name_or
input-at none h = absurd (contrary refl h)
input-at (some (Input y)) h = refl
input-at (some (Constant b)) h = absurd (contrary refl h)
input-at (some RegisterOutput) h = absurd (contrary refl h)
input-at (some (Not a)) h = absurd (contrary refl h)
input-at (some (Output y a)) h = absurd (contrary refl h)
input-at (some (And a b)) h = absurd (contrary refl h)
input-at (some (Or a b)) h = absurd (contrary refl h)
input-at (some (Xor a b)) h = absurd (contrary refl h)
input-at (some (Mux c a b)) h = absurd (contrary refl h)

-- ---- one side of a pair

-- an Input that clocks none of the registers has another name than the clock
not-clock : (d : Design) → validate d ≡ none → (rs : List Register) → d.registers ≡ rs → (k : ℕ) (x : Name) → get_elem? d.nodes k ≡ some (Input x) → clocks k d.registers ≡ false
    → name_of_clock (domain d.nodes rs) ≡ some x → ⊥
unfolding name_of_clock domain domain_of
not-clock d valid [] q k x e p h = let z : ◌≡◌ {A = ℕ} 0 1 = cc in omega arith
not-clock d valid (r ∷ rs) q k x e p h =
    let held : Memᴰ r d.registers = subst (Memᴰ r) (sym q) (mathlib.Core.List.Memᴰ.head refl) in
    let clocked : clocks r.clock d.registers ≡ true = clocks_of r.clock d.registers r held refl in
    let named : name_at (get_elem? d.nodes r.clock) ≡ x = cc in
    let node : get_elem? d.nodes r.clock ≡ some (Input x) = input-at (get_elem? d.nodes r.clock) (clock-input d valid r.clock clocked) ∙ ap (λ (y : Name). some (Input y)) named in
    let same : k ≡ r.clock = one_input 0 d.nodes (inputs-distinct d valid) k r.clock x e node in
    contrary p (subst (λ (j : ℕ). clocks j d.registers ≡ true) (sym same) clocked)

-- sequences that give every input but the clock the same bits do so for every Input of a side that clocks none of its registers
side-alike : (gold d : Design) → validate d ≡ none → names_of (inputs gold) ≡ names_of (inputs d) → clock_name gold ≡ clock_name d → (last : ℕ) (ins others : InputSequence)
    → SameButClock gold last ins others → AlikeButClocks d last ins others
unfolding clock_name inputs
side-alike gold d valid names clock last ins others h =
    record {
      same =
          λ c k x l e p.
          h.same c x l (ap (member_name x) names ∙ member-sort x (ports_from input_name 0 d.nodes) ∙ port_member 0 d.nodes k x e)
          (λ q. not-clock d valid d.registers refl k x e p (sym clock ∙ q));
    }

-- ---- both sides

-- two domains that do not differ have one clock
clocks-agree : (a b : Option Domain) → domains_differ a b ≡ false → name_of_clock a ≡ name_of_clock b
unfolding domains_differ name_of_clock same_domain
clocks-agree none none h = refl
clocks-agree none (some b) h = absurd (contrary h refl)
clocks-agree (some a) none h = absurd (contrary h refl)
clocks-agree (some a) (some b) h = ap some (same_eq a.clock b.clock (and_left (same_name a.clock b.clock) _ (not-false _ h)))

module _ (a b : List ℕ) (gold gate : Design) (pair : read_pair a b ≡ both gold gate) (face : interface_fault gold gate ≡ none) where
  gold_valid : validate gold ≡ none
  gold_valid = (accepted-parsed a gold (read_pair-both a b gold gate pair).0).1

  gate_valid : validate gate ≡ none
  gate_valid = (accepted-parsed b gate (read_pair-both a b gold gate pair).1).1

  names-agree : names_of (inputs gold) ≡ names_of (inputs gate)
  unfolding interface_fault inputs_differ
  names-agree = same_names_lem (names_of (inputs gold)) (names_of (inputs gate)) (not-false _ (refuse_if-none 18 0 0 _ (otherwise_none (refuse_if 18 0 0 _) _ face).0))

  clock_agrees : clock_name gold ≡ clock_name gate
  unfolding interface_fault clock_name
  clock_agrees =
      let a18 = otherwise_none (refuse_if 18 0 0 (inputs_differ gold gate)) _ face in
      let a19 = otherwise_none (refuse_if 19 0 0 _) _ a18.1 in
      let a20 = otherwise_none (refuse_if 20 0 0 _) _ a19.1 in
      let b20 = otherwise_none (refuse_if 20 1 0 _) _ a20.1 in
      clocks-agree (domain gold.nodes gold.registers) (domain gate.nodes gate.registers) (refuse_if-none 21 0 0 _ b20.1)

  module _ (last : ℕ) (ins others : InputSequence) (h : SameButClock gold last ins others) where
    gold-alike : AlikeButClocks gold last ins others
    gold-alike = side-alike gold gold gold_valid refl refl last ins others h

    gate-alike : AlikeButClocks gate last ins others
    gate-alike = side-alike gold gate gate_valid names-agree clock_agrees last ins others h

    -- both runs are the same, whatever bits the clock has
    pub runs_same : (s t : StoredBits) → SameRuns gold gate s t last ins others
    runs_same s t =
        record {
          gold_outputs = run-outputs-same gold gold_valid s last ins others gold-alike;
          gate_outputs = run-outputs-same gate gate_valid t last ins others gate-alike;
          gold_stored = stored_same gold gold_valid s last ins others gold-alike;
          gate_stored = stored_same gate gate_valid t last ins others gate-alike;
        }

    -- so the outputs differ in the same cycles
    pub differ_same : (s t : StoredBits) (c : ℕ) → c ≤ last → differ_at gold gate s t ins c ≡ differ_at gold gate s t others c
    unfolding differ_at
    differ_same s t c l = let r = runs_same s t in ap₂ bits_differ (r.gold_outputs c l) (r.gate_outputs c l)

    agree_same : (s t : StoredBits) (n : ℕ) → n ≤ suc last → agree_before gold gate s t ins n ≡ agree_before gold gate s t others n
    unfolding agree_before
    agree_same s t zero l = refl
    agree_same s t (suc n) l = ap₂ (λ x y. x && not y) (agree_same s t n (omega arith)) (differ_same s t n (omega arith))

-- ---- replay

-- marks alike from a place on
marked-same : (m : ℕ) (claim other : List ℕ) → drop m claim ≡ drop m other → (k : ℕ) (xs ys : List Bool) → m ≤ k → differ_as_marked claim k xs ys ≡ differ_as_marked other k xs ys
unfolding differ_as_marked claim_bit
marked-same m claim other h k [] ys l = refl
marked-same m claim other h k (x ∷ xs) [] l = refl
marked-same m claim other h k (x ∷ xs) (y ∷ ys) l =
    let at : (bytes : List ℕ) → get_or bytes k 0 ≡ get_or (drop m bytes) (k - m) 0 = λ bytes. sym (get_or-drop m bytes (k - m) 0 ∙ ap (λ (i : ℕ). get_or bytes i 0) (omega arith)) in
    let e : get_or claim k 0 ≡ get_or other k 0 = at claim ∙ ap (λ (l : List ℕ). get_or l (k - m) 0) h ∙ sym (at other) in
    rw (e, marked-same m claim other h (suc k) xs ys (omega arith))

module _ (gold gate : Design) (cycle : ℕ) (claim other : List ℕ) (h : SameClaim gold cycle claim other) where
  claimed_same : (xs ys : List Bool) → differ_as_claimed gold cycle claim xs ys ≡ differ_as_claimed gold cycle other xs ys
  unfolding differ_as_claimed
  claimed_same xs ys = ap (λ (b : Bool). bits_differ xs ys && b) (marked-same (suc cycle * input_count gold) claim other h.marks _ xs ys (omega arith))

  fault_same : replay_fault gold gate cycle claim ≡ replay_fault gold gate cycle other
  unfolding replay_fault bad_claim
  fault_same = rw (h.as_long, h.bits, h.other_bits)

module _ (a b : List ℕ) (gold gate : Design) (pair : read_pair a b ≡ both gold gate) (cycle : ℕ) (claim other : List ℕ) (h : SameClaim gold cycle claim other) where
  replays-same : interface_fault gold gate ≡ none → (s t : StoredBits) → replays gold gate s t cycle claim ≡ replays gold gate s t cycle other
  unfolding replays
  replays-same face s t =
      let r = runs_same a b gold gate pair face cycle _ _ h.inputs_same s t in
      ap₂ ◌&&◌ (agree_same a b gold gate pair face cycle _ _ h.inputs_same s t cycle (omega arith))
      (claimed_same gold gate cycle claim other h _ _ ∙ ap₂ (differ_as_claimed gold cycle other) (r.gold_outputs cycle (omega arith)) (r.gate_outputs cycle (omega arith)))

  -- a claim that replay does not refuse stands with a pair that passes 18 to 21
  face_of : replay_fault gold gate cycle other ≡ none → interface_fault gold gate ≡ none
  unfolding replay_fault
  face_of e = (otherwise_none (interface_fault gold gate) _ e).0

  -- a replay answers the same, whatever bits the clock has in the claim
  pub replay-same : replay a b cycle claim ≡ replay a b cycle other
  unfolding replay replay_read replay_pair refused_replay
  replay-same = rw (pair, fault_same gold gate cycle claim other h) (go (replay_fault gold gate cycle other) refl)
    where
      go : (x : Option Refusal) → replay_fault gold gate cycle other ≡ x → replay_pair gold gate cycle claim x ≡ replay_pair gold gate cycle other x
      go (some r) e = refl
      go none e = ap (λ (y : Bool). record { refusal = accepted; yes = y }) (replays-same (face_of e) (initial_bits gold) (initial_bits gate))

  -- ---- one step

  moved_same : interface_fault gold gate ≡ none → (q : Position) → q.cycle ≤ cycle → advance gold gate cycle claim q ≡ advance gold gate cycle other q
  unfolding advance
  moved_same face q l =
      let inp : InputBits = claim_inputs gold claim q.cycle in
      let inp' : InputBits = claim_inputs gold other q.cycle in
      let g = cycle-same gold (gold_valid a b gold gate pair face) inp inp' q.gold (λ k x e p. (gold-alike a b gold gate pair face cycle _ _ h.inputs_same).same q.cycle k x l e p) in
      let k = cycle-same gate (gate_valid a b gold gate pair face) inp inp' q.gate (λ k x e p. (gate-alike a b gold gate pair face cycle _ _ h.inputs_same).same q.cycle k x l e p) in
      rw (g.0, g.1, k.0, k.1, claimed_same gold gate cycle claim other h (output_bits gold (node_values gold inp' q.gold)) (output_bits gate (node_values gate inp' q.gate)))

  past-or-moved : interface_fault gold gate ≡ none → (q : Position) (b : Bool) → ltb cycle q.cycle ≡ b → step_if gold gate cycle claim q b ≡ step_if gold gate cycle other q b
  unfolding step_if
  past-or-moved face q true e = refl
  past-or-moved face q false e = moved_same face q (ltb-false cycle q.cycle e)

  -- and so does a step, which leaves the same position and the same bytes
  pub step_same : (p : LentPosition) (bits : List ℕ) → step a b cycle claim p bits ≡ step a b cycle other p bits
  unfolding step step_read step_pair step_fault refused_step stepped_to Replay.step
  step_same p bits = rw (pair, fault_same gold gate cycle claim other h) (go (step_fault gold gate cycle other bits) refl)
    where
      go : (x : Option Refusal) → step_fault gold gate cycle other bits ≡ x → step_pair gold gate cycle claim p bits x ≡ step_pair gold gate cycle other p bits x
      go (some r) e = refl
      go none e =
          ap (λ (s : Stepped). stepped_to s bits) (past-or-moved (face_of (otherwise_none (replay_fault gold gate cycle other) _ e).0) (position_from gold gate p bits) _ refl)

-- ---- the trace of a check

-- a trace replays yes with any bits of the clock
pub check-replays-clock : (a b : List ℕ) (o : Options) (lent : Lent) (gold gate : Design) (d m : ℕ) (bytes other : List ℕ) → check_refusal a b o lent ≡ none → read_pair a b ≡ both gold gate
    → (check_designs o gold gate (initial_bits gold) (initial_bits gate)).verdict ≡ Search.NotEquivalent d m bytes → SameClaim gold m bytes other → replay a b m other ≡ record { refusal = accepted; yes = true }
check-replays-clock a b o lent gold gate d m bytes other free pair e h = sym (replay-same a b gold gate pair m bytes other h) ∙ check-replays a b o lent gold gate d m bytes free pair e
