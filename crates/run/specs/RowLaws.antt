-- Laws of the rows that a cycle writes: next stored bits, initial bits and outputs. Assumes nothing.
use Rattle.std.specs.Prelude.{ℕ, zero, suc, ◌+◌, ◌<◌, ◌≤◌, ◌≡◌, refl, Bool, false, cond, List, [], ◌∷◌, ◌++◌, map, eqb, length, take, drop, get_or, set}
use Rattle.std.proofs.Common.{sym, ap, ◌∙◌, append-nil, arith, add-one, length-take, drop_of_length-le, drop-set-lt, drop-drop, get_or-take}
use Rattle.std.proofs.Math.Option.{some}
use Rattle.std.proofs.lemmas.List.{length-map, map-append, take_more, take_more_set}
use Rattle.model.specs.Names.{Place}
use Rattle.model.specs.Netlist.{Register}
use Rattle.model.specs.Record.{bit, level_of}
use Rattle.model.specs.Run.{bit_at, asserted, enabled_bit, reset_bit, next_bit, next_from, initial_bit}
use Rattle.struo_ir.specs.Decoded.{decoded_enable, decoded_reset, cell_enable, cell_reset, decoded_register, decoded}
use Rattle.struo_ir.specs.Orders.{no_entry, place_of, held, places}
use Rattle.struo_ir.specs.Registers.{no_register}
use Rattle.struo_ir.specs.declared.netlist.RegisterCell.{RegisterCell}
use Rattle.struo_ir.specs.declared.design.Order.{Order}
use Rattle.struo_ir.specs.declared.netlist.Netlist.{Netlist}
use Rattle.struo_ir.specs.ListLaws.{drop-map_cons}
use Rattle.run.specs.RunTables.{next_of}
use Rattle.run.specs.RunLaws.{some-reset, written-more}

-- ---- a control signal

-- a signal read at its number and asserted by its level
pub signal-asserted : (values : List Bool) (level signal : ℕ) {i : ℕ} {b r : Bool} → i ≡ signal → b ≡ bit_at values i → r ≡ asserted (level_of level) b → r ≡ asserted (level_of level) (bit_at values signal)
signal-asserted values level signal p q h = h ∙ ap (λ (x : Bool). asserted (level_of level) x) (q ∙ ap (λ (k : ℕ). bit_at values k) p)

-- ---- a register's next bit

-- a code that is not 0 says an enable
some-enable : (c signal : ℕ) → (c ≡ 0 → ⊥) → decoded_enable c signal ≡ some (record { signal = signal; active = level_of c })
unfolding decoded_enable
some-enable zero signal n = absurd (n refl)
some-enable (suc c) signal n = refl

module _ (values : List Bool) (b input : Bool) (r : RegisterCell) where
  -- no enable
  pub enabled-none : r.enable ≡ 0 → enabled_bit values b input (cell_enable r) ≡ input
  unfolding cell_enable enabled_bit decoded_enable
  enabled-none e = rw e

  -- an enable
  pub enabled-some : (r.enable ≡ 0 → ⊥) → enabled_bit values b input (cell_enable r) ≡ cond (asserted (level_of r.enable) (bit_at values r.enable_signal)) input b
  unfolding cell_enable enabled_bit
  enabled-some n = rw (some-enable r.enable r.enable_signal n)

  -- no reset
  pub reset-none : r.reset ≡ 0 → reset_bit values b (cell_reset r) ≡ b
  unfolding cell_reset reset_bit decoded_reset
  reset-none e = rw e

  -- a reset
  pub reset-some : (r.reset ≡ 0 → ⊥) → reset_bit values b (cell_reset r) ≡ cond (asserted (level_of r.reset) (bit_at values r.reset_signal)) (eqb r.reset_value 1) b
  unfolding cell_reset reset_bit bit
  reset-some n = rw (some-reset r.reset r.reset_signal r.reset_kind r.reset_value n)

-- the initial bit without a reset
pub initial_none : (r : RegisterCell) → r.reset ≡ 0 → initial_bit (cell_reset r) ≡ false
unfolding cell_reset initial_bit decoded_reset
initial_none r e = rw e

-- the initial bit with a reset
pub initial_some : (r : RegisterCell) → (r.reset ≡ 0 → ⊥) → initial_bit (cell_reset r) ≡ eqb r.reset_value 1
unfolding cell_reset initial_bit bit
initial_some r n = rw (some-reset r.reset r.reset_signal r.reset_kind r.reset_value n)

-- ---- rows, element by element

module _ {A B : Type 0} (f : A → B) (xs : List A) (row : List B) (k : ℕ) where
  -- one more element is written
  pub mapped_more : (a : A) (x : B) → drop k xs ≡ a ∷ drop (suc k) xs → x ≡ f a → k < length row
      → take k row ++ map f (drop k xs) ≡ take (k + 1) (set row k x) ++ map f (drop (k + 1) xs)
  mapped_more a x d e h = rw (add-one, d, ← e) (sym (rw add-one at (written-more row k x (map f (drop (suc k) xs)) h)))

  -- none is left
  pub mapped_done : length xs ≤ k → take k row ++ map f (drop k xs) ≡ take k row
  mapped_done h = rw drop_of_length-le (append-nil (take k row))

-- one more bit is written, of the element in hand
pub mapped_next : {A : Type 0} (f : A → Bool) (xs : List A) (row : List Bool) (k : ℕ) (x : A) (b : Bool) → k < length xs → k < length row → x ≡ get_or xs k x → b ≡ f x
    → take k row ≡ map f (take k xs) → take (k + 1) (set row k b) ≡ map f (take (k + 1) xs)
mapped_next f xs row k x b h w i e t =
    take_more_set row k b w ∙ rw (t, e) (sym (ap (map f) (take_more xs k x h ∙ ap (λ (y : _). take k xs ++ (y ∷ [])) (sym i)) ∙ map-append f (take k xs) (x ∷ [])))

-- past what is written a row stays the old one
pub kept_more : (new old : List Bool) (k : ℕ) (x : Bool) → drop k new ≡ drop k old → drop (k + 1) (set new k x) ≡ drop (k + 1) old
kept_more new old k x e =
    let h : k < k + 1 = omega arith in
    rw drop-set-lt (sym (drop-drop 1 k new) ∙ ap (drop 1) e ∙ drop-drop 1 k old)

-- ---- next stored bits

-- the register of a number, in front of those behind it
register-at : (s : List ℕ) (n : Netlist) (k : ℕ) → k < n.register_count → n.register_count ≤ length n.registers
    → drop k (decoded s n).registers ≡ decoded_register s (get_or n.registers k no_register) ∷ drop (suc k) (decoded s n).registers
unfolding decoded
register-at s n k h l = drop-map_cons (decoded_register s) n.registers n.register_count k no_register h l

stored_at : (old : List Bool) (m k : ℕ) → k < m → bit_at (take m old) k ≡ get_or old k false
unfolding bit_at
stored_at old m k h = get_or-take m old k false h

next_of_lem : (s : List ℕ) (values : List Bool) (b : Bool) (cell : RegisterCell) → next_bit values b (decoded_register s cell) ≡ next_of values b cell
unfolding next_bit decoded_register next_of cell_enable cell_reset
next_of_lem s values b cell = refl

next_cons : (values st : List Bool) (k : ℕ) (r : Register) (rs : List Register) (front : List Bool) (x : Bool) → next_bit values (bit_at st k) r ≡ x
    → front ++ next_from values st k (r ∷ rs) ≡ front ++ (x ∷ next_from values st (suc k) rs)
unfolding next_from
next_cons values st k r rs front x e = rw e

-- one more next bit
pub next_more : (s : List ℕ) (n : Netlist) (values old new : List Bool) (k : ℕ) (x : Bool) → k < n.register_count → n.register_count ≤ length n.registers → k < length new
    → x ≡ next_of values (get_or old k false) (get_or n.registers k no_register)
    → take k new ++ next_from values (take n.register_count old) k (drop k (decoded s n).registers)
    ≡ take (k + 1) (set new k x) ++ next_from values (take n.register_count old) (k + 1) (drop (k + 1) (decoded s n).registers)
next_more s n values old new k x h l w e =
    let cell = get_or n.registers k no_register in
    let st = take n.register_count old in
    let d : drop k (decoded s n).registers ≡ decoded_register s cell ∷ drop (suc k) (decoded s n).registers = register-at s n k h l in
    let g : next_bit values (bit_at st k) (decoded_register s cell) ≡ x = ap (λ (b : Bool). next_bit values b (decoded_register s cell)) (stored_at old n.register_count k h) ∙ next_of_lem s values (get_or old k false) cell ∙ sym e in
    ap (λ (rs : List Register). take k new ++ next_from values st k rs) d ∙ next_cons values st k (decoded_register s cell) (drop (suc k) (decoded s n).registers) (take k new) x g
    ∙ sym (written-more new k x (next_from values st (suc k) (drop (suc k) (decoded s n).registers)) w)
    ∙ rw add-one

-- no register is left
pub next-done : (s : List ℕ) (n : Netlist) (values st new : List Bool) (k : ℕ) → n.register_count ≤ k → take k new ++ next_from values st k (drop k (decoded s n).registers) ≡ take k new
unfolding decoded next_from
next-done s n values st new k h =
    let l : length (map (decoded_register s) (take n.register_count n.registers)) ≤ k = simp (length-map, length-take) (omega arith) in
    rw drop_of_length-le (append-nil (take k new))

-- ---- initial bits and outputs

-- one more initial bit
pub initial_more : (s : List ℕ) (n : Netlist) (row : List Bool) (k : ℕ) (x : Bool) → k < n.register_count → n.register_count ≤ length n.registers → k < length row
    → x ≡ initial_bit (cell_reset (get_or n.registers k no_register))
    → take k row ++ map (λ (r : Register). initial_bit r.reset) (drop k (decoded s n).registers)
    ≡ take (k + 1) (set row k x) ++ map (λ (r : Register). initial_bit r.reset) (drop (k + 1) (decoded s n).registers)
unfolding cell_reset decoded_register
initial_more s n row k x h l w e =
    mapped_more (λ (r : Register). initial_bit r.reset) (decoded s n).registers row k (decoded_register s (get_or n.registers k no_register)) x (register-at s n k h l) e w

-- one more output
pub output-more : (s : List ℕ) (o : Order) (values row : List Bool) (k : ℕ) (x : Bool) → k < o.count → o.count ≤ length o.entries → k < length row
    → x ≡ bit_at values (get_or o.entries k no_entry).number
    → take k row ++ map (λ (p : Place). bit_at values p.number) (drop k (places s o)) ≡ take (k + 1) (set row k x) ++ map (λ (p : Place). bit_at values p.number) (drop (k + 1) (places s o))
unfolding places held place_of
output-more s o values row k x h l w e =
    mapped_more (λ (p : Place). bit_at values p.number) (map (place_of s) (take o.count o.entries)) row k (place_of s (get_or o.entries k no_entry)) x
    (drop-map_cons (place_of s) o.entries o.count k no_entry h l) e w
