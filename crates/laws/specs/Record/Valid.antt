-- What the walks of 10 and 12 to 15 leave: the facts of an accepted design that its run rests on. Assumes nothing.
use Rattle.std.specs.Prelude.{ℕ, zero, suc, ◌+◌, ◌<◌, ◌≡◌, ◌⊎◌, true, false, ◌&&◌, length, get_or}
use Rattle.std.proofs.Common.{sym, subst, inl, inr, zero-add, add-zero, suc-add, add-suc, not-suc-le-zero, le_of_suc-le-suc}
use mathlib.Core.List.Memᴰ
use mathlib.Core.List.{List, [], ◌∷◌, Memᴰ}
use Rattle.std.proofs.Math.Option.{none}
use Rattle.std.proofs.Math.ListN.{get_elem?}
use Rattle.std.proofs.lemmas.Bool.{not-false}
use Rattle.model.specs.Names.{Name}
use Rattle.model.specs.Netlist.{Node, RegisterOutput, Register, Design, is_register_output, input_numbers}
use Rattle.model.specs.Validate.{refuse_if, all_below, nodes_fault, is_register_output_at, is_input_at, register_numbers, register_fault, registers_fault, driver, undriven, connection_fault, late_driver, reset_fault, clock_fault, validate}
use Rattle.laws.specs.Record.Accepted.{otherwise_none, refuse_if-none, nodes_fault-below}

-- 10 and 12 of one register
pub record Connected (nodes : List Node) (r : Register) : Type 0 where
  pub output : is_register_output_at (get_elem? nodes r.output) ≡ true
  pub numbers : all_below (length nodes) (register_numbers r) ≡ true

register-connected : (nodes : List Node) (i : ℕ) (names : List Name) (taken : List ℕ) (r : Register) → register_fault nodes i names taken r ≡ none → Connected nodes r
unfolding register_fault
register-connected nodes i names taken r h =
    let a = otherwise_none (refuse_if 9 0 i _) _ h in
    let b = otherwise_none (refuse_if 10 0 i _) _ a.1 in
    let c = otherwise_none (refuse_if 11 0 i _) _ b.1 in
    record { output = not-false _ (refuse_if-none 10 0 i _ b.0); numbers = not-false _ (refuse_if-none 12 0 i _ c.1) }

registers-connected : (nodes : List Node) (i : ℕ) (names : List Name) (taken : List ℕ) (rs : List Register) → registers_fault nodes i names taken rs ≡ none → (r : Register) → Memᴰ r rs → Connected nodes r
unfolding registers_fault
registers-connected nodes i names taken [] h r m = absurd (Memᴰ.not-nil m)
registers-connected nodes i names taken (q ∷ rs) h r m =
    let o = otherwise_none (register_fault nodes i names taken q) _ h in
    go (register-connected nodes i names taken q o.0) (registers-connected nodes (suc i) (q.name ∷ names) (q.output ∷ taken) rs o.1 r) (Memᴰ.cases_cons m)
  where
    go : Connected nodes q → (Memᴰ r rs → Connected nodes r) → (r ≡ q) ⊎ Memᴰ r rs → Connected nodes r
    go c f (inl e) = subst (Connected nodes) (sym e) c
    go c f (inr e) = f e

-- every register's clock is an Input
pub clocks-inputs : (nodes : List Node) (i : ℕ) (rs : List Register) → clock_fault nodes i rs ≡ none → (r : Register) → Memᴰ r rs → is_input_at (get_elem? nodes r.clock) ≡ true
unfolding clock_fault
clocks-inputs nodes i [] h r m = absurd (Memᴰ.not-nil m)
clocks-inputs nodes i (q ∷ rs) h r m =
    let o = otherwise_none (refuse_if 15 0 i _) _ h in
    go (not-false _ (refuse_if-none 15 0 i _ o.0)) (clocks-inputs nodes (suc i) rs o.1 r) (Memᴰ.cases_cons m)
  where
    go : is_input_at (get_elem? nodes q.clock) ≡ true → (Memᴰ r rs → is_input_at (get_elem? nodes r.clock) ≡ true) → (r ≡ q) ⊎ Memᴰ r rs → is_input_at (get_elem? nodes r.clock) ≡ true
    go c f (inl e) = subst (λ (x : Register). is_input_at (get_elem? nodes x.clock) ≡ true) (sym e) c
    go c f (inr e) = f e

connected-nodes : (rs : List Register) (i : ℕ) (ns : List Node) → connection_fault rs i ns ≡ none → (k : ℕ) → k < length ns → (is_register_output (get_or ns k RegisterOutput) && undriven (driver rs (i + k))) ≡ false
unfolding connection_fault
connected-nodes rs i [] h k l = absurd (not-suc-le-zero l)
connected-nodes rs i (n ∷ ns) h zero l = rw add-zero (refuse_if-none 13 0 i _ (otherwise_none (refuse_if 13 0 i _) _ h).0)
connected-nodes rs i (n ∷ ns) h (suc k) l = rw (add-suc, ← suc-add) (connected-nodes rs (suc i) ns (otherwise_none (refuse_if 13 0 i _) _ h).1 k (le_of_suc-le-suc l))

early_resets : (rs : List Register) (i : ℕ) (ns : List Node) → reset_fault rs i ns ≡ none → (k : ℕ) → k < length ns → (is_register_output (get_or ns k RegisterOutput) && late_driver (i + k) (driver rs (i + k))) ≡ false
unfolding reset_fault
early_resets rs i [] h k l = absurd (not-suc-le-zero l)
early_resets rs i (n ∷ ns) h zero l = rw add-zero (refuse_if-none 14 0 i _ (otherwise_none (refuse_if 14 0 i _) _ h).0)
early_resets rs i (n ∷ ns) h (suc k) l = rw (add-suc, ← suc-add) (early_resets rs (suc i) ns (otherwise_none (refuse_if 14 0 i _) _ h).1 k (le_of_suc-le-suc l))

-- the facts of a design that no check refuses
pub record Valid (d : Design) : Type 0 where
  pub below : (k : ℕ) → k < length d.nodes → all_below k (input_numbers (get_or d.nodes k RegisterOutput)) ≡ true
  pub connected : (r : Register) → Memᴰ r d.registers → Connected d.nodes r
  pub driven : (k : ℕ) → k < length d.nodes → (is_register_output (get_or d.nodes k RegisterOutput) && undriven (driver d.registers k)) ≡ false
  pub early : (k : ℕ) → k < length d.nodes → (is_register_output (get_or d.nodes k RegisterOutput) && late_driver k (driver d.registers k)) ≡ false
  pub clocks : (r : Register) → Memᴰ r d.registers → is_input_at (get_elem? d.nodes r.clock) ≡ true

-- an accepted design has these facts
pub valid_of : (d : Design) → validate d ≡ none → Valid d
unfolding validate
valid_of d h =
    let a = otherwise_none (nodes_fault 0 [] d.nodes) _ h in
    let b = otherwise_none (registers_fault d.nodes 0 [] [] d.registers) _ a.1 in
    let c = otherwise_none (connection_fault d.registers 0 d.nodes) _ b.1 in
    let e = otherwise_none (reset_fault d.registers 0 d.nodes) _ c.1 in
    let f = otherwise_none (clock_fault d.nodes 0 d.registers) _ e.1 in
    record {
      below = λ k l. rw (zero-add k) at (nodes_fault-below 0 [] d.nodes a.0 k l);
      connected = registers-connected d.nodes 0 [] [] d.registers b.0;
      driven = λ k l. rw (zero-add k) at (connected-nodes d.registers 0 d.nodes c.0 k l);
      early = λ k l. rw (zero-add k) at (early_resets d.registers 0 d.nodes e.0 k l);
      clocks = clocks-inputs d.nodes 0 d.registers f.0;
    }
