-- Refusal 30: the walk finds the lowest Input that clocks a register and is read, and passes a design exactly where there is none. Assumes nothing.
use Prim.Native.Nat.{ℕ, zero, suc, ◌+◌, ◌≤◌, ◌<◌}
use Rattle.std.proofs.Math.Path.{◌≡◌, refl, sym, ap, subst}
use Rattle.std.proofs.Common.{◌∙◌, inl, inr, zero-add, add-suc, suc-add, not-suc-le-zero, le_of_suc-le-suc}
use Rattle.std.specs.Prelude.{◌⊎◌, ◌↔◌, Bool, ◌||◌}
use Rattle.std.proofs.Math.Bool.{true, false}
use mathlib.Core.List.Memᴰ
use mathlib.Core.List.{List, [], ◌∷◌, Memᴰ}
use Rattle.std.proofs.Math.Option.{Option, none, some}
use native.Mathlib.Omega.{arith}
use Rattle.std.proofs.Math.Nat.{add-zero}
use Rattle.std.proofs.Math.ListN.{length, get_elem?}
use Rattle.std.proofs.Math.Dec.{eqb}
use borrow.Author.Tests.{eqb-true, eq-eqb}
use Rattle.model.specs.Answers.{Refusal, accepted}
use Rattle.model.specs.Lists.{member}
use Rattle.model.specs.Netlist.{Node, Register, Design, input_numbers}
use Rattle.model.specs.Record.{Read, parsed, refused_record, parse}
use Rattle.model.specs.Validate.{◌otherwise◌, refuse_if, is_input_at, clock_fault, clocks, nodes_read, data_numbers, registers_read, clock_read, clock_read_fault, validate, judged, validated, read_record, answer_of, read}
use Rattle.facts.specs.Bools.{is_false, and_both, both-and, or-true, or_cases}
use Rattle.facts.specs.Lists.{get_elem_out}
use Rattle.facts.specs.Numbers.{below}
use Rattle.laws.specs.Terms.{fault_to15, ReadAt, by_node, by_register, ClockReadAt, LowestClockRead}
use Rattle.laws.specs.Record.Accepted.{otherwise_none, refuse_if-none}
use Rattle.laws.specs.Record.Valid.{clocks-inputs}
use Rattle.laws.specs.Check.Refusals.{To15, RealRead, parse_real, Every, early_real, validate_splits}

-- a bit is not both
pub contrary : {b : Bool} → b ≡ false → b ≡ true → ⊥
contrary e g = let z : false ≡ true = sym e ∙ g in let n : ◌≡◌ {A = ℕ} 0 1 = cc in omega arith

-- ---- a walk over a list that asks for an element that passes a test

module _ {A : Type 0} (test : A → Bool) (walk : List A → Bool) (empty : walk [] ≡ false) (more : (x : A) (xs : List A) → walk (x ∷ xs) ≡ (test x || walk xs)) where
  -- it says yes where there is one
  finds : (xs : List A) (x : A) → Memᴰ x xs → test x ≡ true → walk xs ≡ true
  finds [] x m e = absurd (Memᴰ.not-nil m)
  finds (y ∷ xs) x m e = more y xs ∙ go (Memᴰ.cases_cons m) (λ n. finds xs x n e)
    where
      go : (x ≡ y) ⊎ Memᴰ x xs → (Memᴰ x xs → walk xs ≡ true) → (test y || walk xs) ≡ true
      go (inl f) rest = rw (subst (λ (z : A). test z ≡ true) f e)
      go (inr n) rest = or-true (test y) (walk xs) (rest n)

  -- and only there
  found : (xs : List A) → walk xs ≡ true → (x : A) × Memᴰ x xs × (test x ≡ true)
  found [] h = absurd (contrary empty h)
  found (y ∷ xs) h = go (or_cases (test y) (walk xs) (sym (more y xs) ∙ h)) (found xs)
    where
      go : (test y ≡ true) ⊎ (walk xs ≡ true) → (walk xs ≡ true → (x : A) × Memᴰ x xs × (test x ≡ true)) → (x : A) × Memᴰ x (y ∷ xs) × (test x ≡ true)
      go (inl e) rest = (y, Memᴰ.head refl, e)
      go (inr e) rest = let f = rest e in (f.0, Memᴰ.tail f.1, f.2)

-- ---- one node

module _ (k : ℕ) where
  member_in : (xs : List ℕ) → member k xs ≡ true → Memᴰ k xs
  unfolding member
  member_in xs h = let f = found (eqb k) (member k) refl (λ x ys. refl) xs h in subst (λ (x : ℕ). Memᴰ x xs) (sym (eqb-true k f.0 f.2)) f.1

  in_member : (xs : List ℕ) → Memᴰ k xs → member k xs ≡ true
  unfolding member
  in_member xs m = finds (eqb k) (member k) refl (λ x ys. refl) xs k m (eq-eqb k k refl)

  -- the register that node k clocks
  clocks-one : (rs : List Register) → clocks k rs ≡ true → (r : Register) × Memᴰ r rs × (r.clock ≡ k)
  unfolding clocks
  clocks-one rs h = let f = found (λ (r : Register). eqb r.clock k) (clocks k) refl (λ x ys. refl) rs h in (f.0, f.1, eqb-true f.0.clock k f.2)

  -- a node that clocks one of the registers is a clock
  pub clocks_of : (rs : List Register) (r : Register) → Memᴰ r rs → r.clock ≡ k → clocks k rs ≡ true
  unfolding clocks
  clocks_of rs r m e = finds (λ (x : Register). eqb x.clock k) (clocks k) refl (λ x ys. refl) rs r m (eq-eqb r.clock k e)

module _ (d : Design) (k : ℕ) where
  read_at : (nodes_read k d.nodes || registers_read k d.registers) ≡ true → ReadAt d k
  unfolding nodes_read registers_read
  read_at h = go (or_cases (nodes_read k d.nodes) (registers_read k d.registers) h)
    where
      go : (nodes_read k d.nodes ≡ true) ⊎ (registers_read k d.registers ≡ true) → ReadAt d k
      go (inl e) =
          let f = found (λ (n : Node). member k (input_numbers n)) (nodes_read k) refl (λ x ys. refl) d.nodes e in
          by_node f.0 f.1 (member_in k (input_numbers f.0) f.2)
      go (inr e) =
          let f = found (λ (r : Register). member k (data_numbers r)) (registers_read k) refl (λ x ys. refl) d.registers e in
          by_register f.0 f.1 (member_in k (data_numbers f.0) f.2)

  -- what a node reads, and what a register reads as data, is read
  pub at_read : ReadAt d k → (nodes_read k d.nodes || registers_read k d.registers) ≡ true
  unfolding nodes_read registers_read
  at_read (by_node n m i) = rw (finds (λ (x : Node). member k (input_numbers x)) (nodes_read k) refl (λ x ys. refl) d.nodes n m (in_member k (input_numbers n) i))
  at_read (by_register r m i) =
      or-true (nodes_read k d.nodes) _ (finds (λ (x : Register). member k (data_numbers x)) (registers_read k) refl (λ x ys. refl) d.registers r m (in_member k (data_numbers r) i))

  read-clock : clock_fault d.nodes 0 d.registers ≡ none → clock_read d k ≡ true → ClockReadAt d k
  unfolding clock_read
  read-clock c h =
      let b = and_both (clocks k d.registers) _ h in
      let f = clocks-one k d.registers b.0 in
      record {
        input = subst (λ (x : ℕ). is_input_at (get_elem? d.nodes x) ≡ true) f.2 (clocks-inputs d.nodes 0 d.registers c f.0 f.1);
        register = f.0;
        held = f.1;
        clocked = f.2;
        reading = read_at b.1;
      }

  clock-read : ClockReadAt d k → clock_read d k ≡ true
  unfolding clock_read
  clock-read h = both-and (clocks k d.registers) _ (clocks_of k d.registers h.register h.held h.clocked) (at_read h.reading)

  -- it is one of the design's nodes
  clock-below : ClockReadAt d k → k < length d.nodes
  unfolding is_input_at
  clock-below h = go (below k (length d.nodes))
    where
      go : (k < length d.nodes) ⊎ (length d.nodes ≤ k) → k < length d.nodes
      go (inl l) = l
      go (inr l) = absurd (contrary refl (rw (get_elem_out d.nodes k l) at h.input))

-- ---- the walk from the lowest node on

module _ (d : Design) where
  -- no node of these numbers is a clock that is read
  abbrev Unread : ℕ → ℕ → Type 0
  Unread i k = (j : ℕ) → i ≤ j → j < k → clock_read d j ≡ false

  unread_more : (i k : ℕ) → clock_read d i ≡ false → Unread (suc i) k → Unread i k
  unread_more i k e rest j l m = go (below i j)
    where
      go : (i < j) ⊎ (j ≤ i) → clock_read d j ≡ false
      go (inl q) = rest j q m
      go (inr q) = subst (λ (x : ℕ). clock_read d x ≡ false) (omega arith) e

  -- what the walk refuses at
  record WalkFound (i : ℕ) (r : Refusal) : Type 0 where
    number : ℕ
    refused : r ≡ record { number = 30; side = 0; place = number }
    is_read : clock_read d number ≡ true
    lower : Unread i number

  walk-found : (i : ℕ) (ns : List Node) (r : Refusal) → clock_read_fault d i ns ≡ some r → WalkFound i r
  unfolding clock_read_fault refuse_if ◌otherwise◌
  walk-found i [] r h = absurd (let z : ◌≡◌ {A = ℕ} 0 1 = cc in omega arith)
  walk-found i (n ∷ ns) r h = go (clock_read d i) refl h (walk-found (suc i) ns r)
    where
      go : (b : Bool) → clock_read d i ≡ b → refuse_if 30 0 i b otherwise clock_read_fault d (suc i) ns ≡ some r → (clock_read_fault d (suc i) ns ≡ some r → WalkFound (suc i) r) → WalkFound i r
      go true e f rest = record { number = i; refused = cc; is_read = e; lower = λ j l m. absurd (omega arith) }
      go false e f rest =
          let w = rest f in
          record { number = w.number; refused = w.refused; is_read = w.is_read; lower = unread_more i w.number e w.lower }

  walk-finds : (i : ℕ) (ns : List Node) (k : ℕ) → i ≤ k → k < i + length ns → clock_read d k ≡ true → Unread i k → clock_read_fault d i ns ≡ some (record { number = 30; side = 0; place = k })
  unfolding clock_read_fault refuse_if ◌otherwise◌
  walk-finds i [] k l m e u = absurd (omega arith)
  walk-finds i (n ∷ ns) k l m e u = go (below i k) (λ q. walk-finds (suc i) ns k q (omega arith) e (λ j a b. u j (omega arith) b))
    where
      go : (i < k) ⊎ (k ≤ i) → (i < k → clock_read_fault d (suc i) ns ≡ some (record { number = 30; side = 0; place = k }))
          → (refuse_if 30 0 i (clock_read d i) otherwise clock_read_fault d (suc i) ns) ≡ some (record { number = 30; side = 0; place = k })
      go (inl q) rest = rw (u i (omega arith) q) (rest q)
      go (inr q) rest = let f : k ≡ i = omega arith in rw (← f, e)

  -- no node is a clock that is read
  unread_nodes : (i : ℕ) (ns : List Node) → clock_read_fault d i ns ≡ none → (k : ℕ) → k < length ns → clock_read d (i + k) ≡ false
  unfolding clock_read_fault
  unread_nodes i [] h k l = absurd (not-suc-le-zero l)
  unread_nodes i (n ∷ ns) h zero l = rw add-zero (refuse_if-none 30 0 i _ (otherwise_none (refuse_if 30 0 i _) _ h).0)
  unread_nodes i (n ∷ ns) h (suc k) l = rw (add-suc, ← suc-add) (unread_nodes (suc i) ns (otherwise_none (refuse_if 30 0 i _) _ h).1 k (le_of_suc-le-suc l))

  walk-passes : (i : ℕ) (ns : List Node) → ((j : ℕ) → clock_read d j ≡ false) → clock_read_fault d i ns ≡ none
  unfolding clock_read_fault refuse_if ◌otherwise◌
  walk-passes i [] u = refl
  walk-passes i (n ∷ ns) u = rw (u i) (walk-passes (suc i) ns u)

-- ---- a design, and a record

module _ (d : Design) (early : fault_to15 d ≡ none) where
  clocks_fine : clock_fault d.nodes 0 d.registers ≡ none
  unfolding fault_to15
  clocks_fine = (otherwise_none _ _ (otherwise_none _ _ (otherwise_none _ _ (otherwise_none _ _ early).1).1).1).1

  lowest-finds : (k : ℕ) → LowestClockRead d k → validate d ≡ some (record { number = 30; side = 0; place = k })
  unfolding ◌otherwise◌
  lowest-finds k h =
      rw (validate_splits d, early)
      (walk-finds d 0 d.nodes k (omega arith) (omega (arith, clock-below d k h.here)) (clock-read d k h.here) (λ j a b. is_false (clock_read d j) (λ e. h.lowest j b (read-clock d j clocks_fine e))))

  found-lowest : (r : Refusal) → validate d ≡ some r → (k : ℕ) × (r ≡ record { number = 30; side = 0; place = k }) × LowestClockRead d k
  unfolding ◌otherwise◌
  found-lowest r h =
      let f = walk-found d 0 d.nodes r (rw (validate_splits d, early) at h) in
      (f.number, f.refused, record { here = read-clock d f.number clocks_fine f.is_read; lowest = λ j l c. contrary (f.lower j (omega arith) l) (clock-read d j c) })

  -- no clock is read where the walk finds none
  unread_none : clock_read_fault d 0 d.nodes ≡ none → (k : ℕ) → ClockReadAt d k → ⊥
  unread_none h k c = contrary (rw (zero-add k) at (unread_nodes d 0 d.nodes h k (clock-below d k c))) (clock-read d k c)

-- a design passes every check exactly where it passes those before 30 and reads none of its clocks
pub reads_no-clock : (d : Design) → (validate d ≡ none) ↔ ((fault_to15 d ≡ none) × ((k : ℕ) → ClockReadAt d k → ⊥))
unfolding ◌otherwise◌
reads_no-clock d = (
  λ h. let o = otherwise_none (fault_to15 d) _ (sym (validate_splits d) ∙ h) in (o.0, unread_none d o.0 o.1),
  λ h. rw (validate_splits d, h.0) (walk-passes d 0 d.nodes (λ j. is_false (clock_read d j) (λ e. h.1 j (read-clock d j (clocks_fine d h.0) e)))),
)

-- what an accepted design reads clocks none of its registers
pub read-apart : (d : Design) → validate d ≡ none → (k : ℕ) → ReadAt d k → clocks k d.registers ≡ false
unfolding clock_read
read-apart d h k a =
    let o = (reads_no-clock d).0 h in
    is_false (clocks k d.registers) (λ c. o.1 k (read-clock d k (clocks_fine d o.0) (both-and (clocks k d.registers) _ c (at_read d k a))))

-- and what clocks a register of it is an Input
pub clock-input : (d : Design) → validate d ≡ none → (k : ℕ) → clocks k d.registers ≡ true → is_input_at (get_elem? d.nodes k) ≡ true
clock-input d h k c =
    let f = clocks-one k d.registers c in
    subst (λ (x : ℕ). is_input_at (get_elem? d.nodes x) ≡ true) f.2 (clocks-inputs d.nodes 0 d.registers (clocks_fine d ((reads_no-clock d).0 h).0) f.0 f.1)

module _ (s : List ℕ) (k : ℕ) where
  -- the record's design passes every check before 30, and k is the lowest of its clocks that is read
  abbrev ReadsClock : Type 0
  ReadsClock = (d : Design) × (parse s ≡ parsed d) × (fault_to15 d ≡ none) × LowestClockRead d k

  of_parsed : (d : Design) → parse s ≡ parsed d → (x : Option Refusal) → fault_to15 d ≡ x → answer_of (judged d (validate d)) ≡ record { number = 30; side = 0; place = k } → ReadsClock
  unfolding judged answer_of accepted ◌otherwise◌
  of_parsed d p (some r) e h =
      let real : To15 r = subst (Every To15) e (early_real d) in
      let q : answer_of (judged d (validate d)) ≡ r = rw (validate_splits d, e) in
      absurd (omega (arith, real.high, ap (λ (x : Refusal). x.number) (sym q ∙ h)))
  of_parsed d p none e h = go (validate d) refl
    where
      go : (x : Option Refusal) → validate d ≡ x → ReadsClock
      go none f = let q : answer_of (judged d (validate d)) ≡ accepted = rw f in absurd (omega (arith, ap (λ (x : Refusal). x.number) (sym q ∙ h)))
      go (some r) f =
          let l = found-lowest d e r f in
          let q : answer_of (judged d (validate d)) ≡ r = rw f in
          let same : l.0 ≡ k = ap (λ (x : Refusal). x.place) (sym l.1 ∙ sym q ∙ h) in
          (d, p, e, subst (LowestClockRead d) same l.2)

  of_read : (r : Read) → parse s ≡ r → answer_of (validated r) ≡ record { number = 30; side = 0; place = k } → ReadsClock
  unfolding validated answer_of
  of_read (parsed d) p h = of_parsed d p (fault_to15 d) refl h
  of_read (refused_record r) p h =
      let real : To15 r = subst RealRead p (parse_real s) in
      absurd (omega (arith, real.high, ap (λ (x : Refusal). x.number) h))

  -- read answers 30 exactly where the design passes every check before it and reads a clock; the place is the lowest that is read
  pub clock-refused : (read s ≡ record { number = 30; side = 0; place = k }) ↔ ((d : Design) × (parse s ≡ parsed d) × (fault_to15 d ≡ none) × LowestClockRead d k)
  unfolding read read_record validated judged answer_of
  clock-refused = (of_read (parse s) refl, λ h. rw (h.1, lowest-finds h.0 h.2 k h.3))
