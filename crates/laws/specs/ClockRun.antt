-- The run of an accepted design is the same whatever bits its clocks have: node by node, in one cycle, in every cycle. Assumes nothing.
use Prim.Native.Nat.{ℕ, zero, suc, ◌+◌, ◌≤◌, ◌<◌}
use Rattle.std.proofs.Math.Path.{◌≡◌, refl, sym, ap, ap₂}
use Rattle.std.proofs.Common.{subst, ◌∙◌, inl, inr, zero-add, add-zero}
use Rattle.std.specs.Prelude.{◌⊎◌, Bool}
use Rattle.std.proofs.Math.Bool.{true, false}
use mathlib.Core.List.Memᴰ
use mathlib.Core.List.{List, [], ◌∷◌, ◌++◌, Memᴰ}
use Rattle.std.proofs.Math.Option.{Option, none, some}
use native.Mathlib.Omega.{arith}
use Rattle.std.proofs.Math.ListN.{length, get_or, get_elem?, get_or-eq_default}
use Rattle.std.proofs.Math.Dec.{eqb}
use Rattle.model.specs.Lists.{snoc}
use Rattle.model.specs.Names.{Name, Place}
use Rattle.model.specs.Netlist.{Node, Input, Constant, RegisterOutput, Not, Output, And, Or, Xor, Mux, Enable, Reset, Register, Design, input_name, output_name, input_numbers, place_if, ports_from, outputs}
use Rattle.model.specs.Validate.{is_input, is_input_at, enable_numbers, reset_numbers, Driver, driver_from, driver, clocks, data_numbers, validate}
use Rattle.model.specs.Run.{InputBits, StoredBits, InputSequence, bit_at, shown_bit, shown, node_value, values_from, node_values, enabled_bit, reset_bit, next_bit, next_from, next_stored, output_bits, stored_at, outputs_at}
use Rattle.facts.specs.Bools.{is_false}
use Rattle.facts.specs.Lists.{All, all_map}
use Rattle.facts.specs.Numbers.{below}
use Rattle.laws.specs.Lists.{length-snoc, get_or-snoc-old, get_or-snoc-new}
use Rattle.laws.specs.Terms.{by_node, by_register, AlikeButClocks}
use Rattle.laws.specs.Record.ClockRead.{contrary, read-apart, clock-input}
use Rattle.laws.specs.Lowering.Rows.{all_sorted, map_same}

module _ (d : Design) (valid : validate d ≡ none) where
  -- a number that clocks none of the registers
  abbrev Plain : ℕ → Type 0
  Plain k = clocks k d.registers ≡ false

  -- values of as many nodes, the same at every number that is no clock
  record Alike (xs ys : List Bool) : Type 0 where
    as_long : length xs ≡ length ys
    same : (k : ℕ) → Plain k → bit_at xs k ≡ bit_at ys k

  alike-snoc : (xs ys : List Bool) (x y : Bool) → Alike xs ys → (Plain (length xs) → x ≡ y) → Alike (xs ++ (x ∷ [])) (ys ++ (y ∷ []))
  unfolding bit_at snoc
  alike-snoc xs ys x y h e = record { as_long = length-snoc xs x ∙ ap suc h.as_long ∙ sym (length-snoc ys y); same = λ k p. at k p (below k (length xs)) }
    where
      at : (k : ℕ) → Plain k → (k < length xs) ⊎ (length xs ≤ k) → get_or (snoc xs x) k false ≡ get_or (snoc ys y) k false
      at k p (inl l) = get_or-snoc-old xs x false k l ∙ h.same k p ∙ sym (get_or-snoc-old ys y false k (omega (arith, h.as_long)))
      at k p (inr l) = past (below (length xs) k)
        where
          past : (length xs < k) ⊎ (k ≤ length xs) → get_or (snoc xs x) k false ≡ get_or (snoc ys y) k false
          past (inl m) =
              get_or-eq_default (snoc xs x) false {n = k} (omega (arith, length-snoc xs x)) ∙ sym (get_or-eq_default (snoc ys y) false {n = k} (omega (arith, length-snoc ys y, h.as_long)))
          past (inr m) =
              let q : k ≡ length xs = omega arith in
              let r : k ≡ length ys = omega (arith, h.as_long) in
              ap (λ (i : ℕ). get_or (snoc xs x) i false) q ∙ get_or-snoc-new xs x false ∙ e (subst Plain q p) ∙ sym (ap (λ (i : ℕ). get_or (snoc ys y) i false) r ∙ get_or-snoc-new ys y false)

  -- ---- one node

  -- what a node reads is no clock
  node_plain : (n : Node) → Memᴰ n d.nodes → (k : ℕ) → Memᴰ k (input_numbers n) → Plain k
  node_plain n m k i = read-apart d valid k (by_node n m i)

  -- nor is what a register reads as data
  register_plain : (r : Register) → Memᴰ r d.registers → (k : ℕ) → Memᴰ k (data_numbers r) → Plain k
  register_plain r m k i = read-apart d valid k (by_register r m i)

  -- a driver is one of the registers
  driver-held : (k net : ℕ) (rs : List Register) (x : Driver) → driver_from k net rs ≡ some x → Memᴰ x.register rs
  unfolding driver_from
  driver-held k net [] x h = absurd (let z : ◌≡◌ {A = ℕ} 0 1 = cc in omega arith)
  driver-held k net (r ∷ rs) x h = go (eqb r.output net) refl (driver-held (suc k) net rs x)
    where
      go : (b : Bool) → eqb r.output net ≡ b → (driver_from (suc k) net rs ≡ some x → Memᴰ x.register rs) → Memᴰ x.register (r ∷ rs)
      go true e rest =
          let z : some (record { number = k; register = r }) ≡ some x = rw e at h in
          let q : record { number = k; register = r } ≡ x = cc in
          Memᴰ.head (sym (ap (λ (y : Driver). y.register) q))
      go false e rest = Memᴰ.tail (rest (rw e at h))

  -- a register's data, its enable and its reset are no clocks
  data_plain : (r : Register) → Memᴰ r d.registers → Plain r.«data»
  unfolding data_numbers
  data_plain r m = register_plain r m r.«data» (Memᴰ.head refl)

  enable_plain : (r : Register) → Memᴰ r d.registers → (e : Enable) → r.enable ≡ some e → Plain e.signal
  unfolding data_numbers enable_numbers
  enable_plain r m e q = register_plain r m e.signal (Memᴰ.tail (Memᴰ.append_left {s = enable_numbers r.enable} (reset_numbers r.reset) (rw q (Memᴰ.head refl))))

  reset_plain : (r : Register) → Memᴰ r d.registers → (z : Reset) → r.reset ≡ some z → Plain z.signal
  unfolding data_numbers reset_numbers
  reset_plain r m z q = register_plain r m z.signal (Memᴰ.tail (Memᴰ.append_right (enable_numbers r.enable) {t = reset_numbers r.reset} (rw q (Memᴰ.head refl))))

  module _ (xs ys : List Bool) (alike : Alike xs ys) where
    -- what a register's RegisterOutput shows
    shown-same : (stored : Bool) (r : Register) → Memᴰ r d.registers → shown_bit xs stored r.reset ≡ shown_bit ys stored r.reset
    unfolding shown_bit
    shown-same stored r m = go r.reset refl
      where
        go : (reset : Option Reset) → r.reset ≡ reset → shown_bit xs stored reset ≡ shown_bit ys stored reset
        go none e = refl
        go (some z) e = rw (alike.same z.signal (reset_plain r m z e))

    driver-same : (stored : StoredBits) (x : Option Driver) → ((y : Driver) → x ≡ some y → Memᴰ y.register d.registers) → shown xs stored x ≡ shown ys stored x
    unfolding shown
    driver-same stored none h = refl
    driver-same stored (some y) h = shown-same (bit_at stored y.number) y.register (h y refl)

    enabled-same : (stored : Bool) (r : Register) → Memᴰ r d.registers → enabled_bit xs stored (bit_at xs r.«data») r.enable ≡ enabled_bit ys stored (bit_at ys r.«data») r.enable
    unfolding enabled_bit
    enabled-same stored r m = go r.enable refl
      where
        go : (enable : Option Enable) → r.enable ≡ enable → enabled_bit xs stored (bit_at xs r.«data») enable ≡ enabled_bit ys stored (bit_at ys r.«data») enable
        go none e = alike.same r.«data» (data_plain r m)
        go (some z) e = rw (alike.same z.signal (enable_plain r m z e), alike.same r.«data» (data_plain r m))

    reset-same : (b c : Bool) (r : Register) → Memᴰ r d.registers → b ≡ c → reset_bit xs b r.reset ≡ reset_bit ys c r.reset
    unfolding reset_bit
    reset-same b c r m q = go r.reset refl
      where
        go : (reset : Option Reset) → r.reset ≡ reset → reset_bit xs b reset ≡ reset_bit ys c reset
        go none e = q
        go (some z) e = rw (alike.same z.signal (reset_plain r m z e), q)

    -- the next stored bits
    next-same : (stored : StoredBits) (k : ℕ) (rs : List Register) → ((r : Register) → Memᴰ r rs → Memᴰ r d.registers) → next_from xs stored k rs ≡ next_from ys stored k rs
    unfolding next_from next_bit
    next-same stored k [] held = refl
    next-same stored k (r ∷ rs) held =
        let m = held r (Memᴰ.head refl) in
        ap₂ ◌∷◌ (reset-same _ _ r m (enabled-same (bit_at stored k) r m)) (next-same stored (suc k) rs (λ q l. held q (Memᴰ.tail l)))

    -- the value of a node that is no clock: two rows of input bits that agree at its name, where it is an Input
    node-same : (inp other : InputBits) (stored : StoredBits) (i : ℕ) (n : Node) → Memᴰ n d.nodes → ((x : Name) → n ≡ Input x → inp x ≡ other x)
        → node_value d.registers inp stored xs i n ≡ node_value d.registers other stored ys i n
    unfolding node_value input_numbers driver
    node-same inp other stored i (Input x) m e = e x refl
    node-same inp other stored i (Constant b) m e = refl
    node-same inp other stored i RegisterOutput m e = driver-same stored (driver d.registers i) (driver-held 0 i d.registers)
    node-same inp other stored i (Not a) m e = rw (alike.same a (node_plain (Not a) m a (Memᴰ.head refl)))
    node-same inp other stored i (Output x a) m e = alike.same a (node_plain (Output x a) m a (Memᴰ.head refl))
    node-same inp other stored i (And a b) m e =
        rw (alike.same a (node_plain (And a b) m a (Memᴰ.head refl)), alike.same b (node_plain (And a b) m b (Memᴰ.tail (Memᴰ.head refl))))
    node-same inp other stored i (Or a b) m e =
        rw (alike.same a (node_plain (Or a b) m a (Memᴰ.head refl)), alike.same b (node_plain (Or a b) m b (Memᴰ.tail (Memᴰ.head refl))))
    node-same inp other stored i (Xor a b) m e =
        rw (alike.same a (node_plain (Xor a b) m a (Memᴰ.head refl)), alike.same b (node_plain (Xor a b) m b (Memᴰ.tail (Memᴰ.head refl))))
    node-same inp other stored i (Mux c a b) m e =
        rw (
          alike.same c (node_plain (Mux c a b) m c (Memᴰ.head refl)),
          alike.same a (node_plain (Mux c a b) m a (Memᴰ.tail (Memᴰ.head refl))),
          alike.same b (node_plain (Mux c a b) m b (Memᴰ.tail (Memᴰ.tail (Memᴰ.head refl)))),
        )

  -- ---- one cycle

  -- rows of input bits that agree at every Input that is no clock
  abbrev SameInputs : InputBits → InputBits → Type 0
  SameInputs inp other = (k : ℕ) (x : Name) → get_elem? d.nodes k ≡ some (Input x) → Plain k → inp x ≡ other x

  module _ (inp other : InputBits) (stored : StoredBits) where
    values-alike : (i : ℕ) (ns : List Node) (xs ys : List Bool) → ((n : Node) → Memᴰ n ns → Memᴰ n d.nodes)
        → ((j : ℕ) (x : Name) → get_elem? ns j ≡ some (Input x) → Plain (i + j) → inp x ≡ other x) → length xs ≡ i → Alike xs ys
        → Alike (values_from d.registers inp stored i ns xs) (values_from d.registers other stored i ns ys)
    unfolding values_from snoc
    values-alike i [] xs ys held agree l h = h
    values-alike i (n ∷ ns) xs ys held agree l h =
        values-alike (suc i) ns (xs ++ (_ ∷ [])) (ys ++ (_ ∷ [])) (λ m q. held m (Memᴰ.tail q)) (λ j x e p. agree (suc j) x e (subst Plain (omega arith) p)) (length-snoc xs _ ∙ ap suc l)
        (alike-snoc xs ys _ _ h (λ p. node-same xs ys h inp other stored i n (held n (Memᴰ.head refl)) (λ x e. agree zero x (ap some e) (subst Plain (omega (arith, l)) p))))

    -- the values of all nodes
    nodes-alike : SameInputs inp other → Alike (node_values d inp stored) (node_values d other stored)
    unfolding node_values
    nodes-alike same = values-alike 0 d.nodes [] [] (λ n m. m) (λ j x e p. same j x e (subst Plain (zero-add j) p)) refl (record { as_long = refl; same = λ k p. refl })

  -- ---- outputs

  -- an Output is no Input
  output-no-input : (n : Node) (x : Name) → output_name n ≡ some x → is_input (input_name n) ≡ false
  unfolding output_name input_name is_input
  output-no-input (Input y) x e = absurd (let z : ◌≡◌ {A = ℕ} 0 1 = cc in omega arith)
  output-no-input (Constant b) x e = refl
  output-no-input RegisterOutput x e = refl
  output-no-input (Not a) x e = refl
  output-no-input (Output y a) x e = refl
  output-no-input (And a b) x e = refl
  output-no-input (Or a b) x e = refl
  output-no-input (Xor a b) x e = refl
  output-no-input (Mux c a b) x e = refl

  -- so it is no clock
  output_plain : (i : ℕ) (n : Node) (x : Name) → get_elem? d.nodes i ≡ some n → output_name n ≡ some x → Plain i
  unfolding is_input_at
  output_plain i n x e o = is_false (clocks i d.registers) (λ c. contrary (output-no-input n x o) (rw e at (clock-input d valid i c)))

  outputs_plain : (i : ℕ) (ns : List Node) → ((j : ℕ) → get_elem? d.nodes (i + j) ≡ get_elem? ns j) → All (λ (p : Place). Plain p.number) (ports_from output_name i ns)
  unfolding ports_from place_if
  outputs_plain i [] h = tt
  outputs_plain i (n ∷ ns) h = go (output_name n) refl (outputs_plain (suc i) ns (λ j. ap (get_elem? d.nodes) (omega arith) ∙ h (suc j)))
    where
      go : (r : Option Name) → output_name n ≡ r → All (λ (p : Place). Plain p.number) (ports_from output_name (suc i) ns) → All (λ (p : Place). Plain p.number) (place_if i r (ports_from output_name (suc i) ns))
      go none e rest = rest
      go (some x) e rest = (output_plain i n x (ap (get_elem? d.nodes) (sym (add-zero i)) ∙ h zero) e, rest)

  outputs-same : (xs ys : List Bool) → Alike xs ys → output_bits d xs ≡ output_bits d ys
  unfolding output_bits outputs
  outputs-same xs ys h =
      map_same (λ (p : Place). bit_at xs p.number) (λ (p : Place). bit_at ys p.number) (outputs d)
      (all_map (λ (p : Place). Plain p.number) (λ (p : Place). bit_at xs p.number ≡ bit_at ys p.number) (λ p q. h.same p.number q) (outputs d)
      (all_sorted (λ (p : Place). Plain p.number) (ports_from output_name 0 d.nodes) (outputs_plain 0 d.nodes (λ j. ap (get_elem? d.nodes) (zero-add j)))))

  -- ---- one cycle, and every cycle

  -- from the same stored bits, rows of input bits that differ at clocks alone give the same outputs and the same next bits
  pub cycle-same : (inp other : InputBits) (stored : StoredBits) → ((k : ℕ) (x : Name) → get_elem? d.nodes k ≡ some (Input x) → clocks k d.registers ≡ false → inp x ≡ other x)
      → (output_bits d (node_values d inp stored) ≡ output_bits d (node_values d other stored)) × (next_stored d (node_values d inp stored) stored ≡ next_stored d (node_values d other stored) stored)
  unfolding next_stored
  cycle-same inp other stored same =
      let h = nodes-alike inp other stored same in
      (outputs-same _ _ h, next-same _ _ h stored 0 d.registers (λ r m. m))

  module _ (start : StoredBits) (last : ℕ) (ins others : InputSequence) (h : AlikeButClocks d last ins others) where
    -- the stored bits, up to the cycle after the last
    pub stored_same : (c : ℕ) → c ≤ suc last → stored_at d start ins c ≡ stored_at d start others c
    unfolding stored_at
    stored_same zero l = refl
    stored_same (suc c) l =
        ap (λ (s : StoredBits). next_stored d (node_values d (ins c) s) s) (stored_same c (omega arith))
        ∙ (cycle-same (ins c) (others c) (stored_at d start others c) (λ k x e p. h.same c k x (omega arith) e p)).1

    -- the outputs, through the last cycle
    pub run-outputs-same : (c : ℕ) → c ≤ last → outputs_at d start ins c ≡ outputs_at d start others c
    unfolding outputs_at
    run-outputs-same c l =
        ap (λ (s : StoredBits). output_bits d (node_values d (ins c) s)) (stored_same c (omega arith))
        ∙ (cycle-same (ins c) (others c) (stored_at d start others c) (λ k x e p. h.same c k x l e p)).0
