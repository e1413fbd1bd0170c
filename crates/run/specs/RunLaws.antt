-- Laws of one cycle of the run on rows by value. Assumes nothing.
use Rattle.std.specs.Prelude.{ℕ, zero, suc, ◌+◌, ◌-◌, ◌<◌, ◌≤◌, ◌%◌, ◌≡◌, refl, Bool, true, false, cond, not, List, [], ◌∷◌, ◌++◌, map, eqb, length, take, drop, get_or, set, replicate}
use Rattle.std.proofs.Common.{sym, ap, ◌∙◌, arith, add-one, length-take, take-append-drop, drop_of_length-le, drop-cons, take-suc-set, drop-set-lt, get_or-take, length-take-le}
use Rattle.std.proofs.Math.Bool.{xor, beq}
use Rattle.std.proofs.Math.Option.{Option, none, some}
use borrow.Author.Tests.{eq-eqb, ne_eqb, eqb-true}
use Rattle.std.proofs.lemmas.List.{length-map}
use Rattle.std.proofs.Math.Seq.{append_snoc}
use Rattle.model.specs.Kinds.{input_kind, by_kind}
use Rattle.model.specs.Names.{Place}
use Rattle.model.specs.Netlist.{Reset, Register}
use Rattle.model.specs.Record.{bit, level_of, node_of}
use Rattle.model.specs.Validate.{driver}
use Rattle.model.specs.Replay.{claim_bit}
use Rattle.model.specs.Run.{InputBits, StoredBits, bit_at, asserted, shown_bit, shown, node_value, values_from}
use Rattle.drivers.specs.Drivers.{driver_by, Drivers}
use Rattle.struo_ir.specs.Decoded.{name_at, decoded_reset, cell_reset, decoded_node, decoded_register, decoded}
use Rattle.struo_ir.specs.Nodes.{no_node}
use Rattle.struo_ir.specs.Registers.{no_register}
use Rattle.laws.specs.Record.Kinds.{by_kind_lem}
use Rattle.struo_ir.specs.ListLaws.{drop-map_cons}
use Rattle.run.specs.RunTables.{value_of, node_by, shown_by, input_rank, Ranked, row_inputs, padded}
use Rattle.struo_ir.specs.declared.netlist.Node.{Node}
use Rattle.struo_ir.specs.declared.netlist.RegisterCell.{RegisterCell}
use Rattle.struo_ir.specs.declared.netlist.Netlist.{Netlist}

-- ---- what a register shows

-- a code that is not 0 says a reset
pub some-reset : (c signal kind value : ℕ) → (c ≡ 0 → ⊥) → decoded_reset c signal kind value ≡ some (record { signal = signal; active = level_of c; asynchronous = bit kind; value = bit value })
unfolding decoded_reset
some-reset zero signal kind value n = absurd (n refl)
some-reset (suc c) signal kind value n = refl

module _ (values : List Bool) (stored : Bool) (r : RegisterCell) where
  -- no reset
  pub shown-none : r.reset ≡ 0 → shown_bit values stored (cell_reset r) ≡ stored
  unfolding cell_reset shown_bit decoded_reset
  shown-none e = rw e

  -- a synchronous reset
  pub shown_synchronous : (r.reset ≡ 0 → ⊥) → (r.reset_kind ≡ 1 → ⊥) → shown_bit values stored (cell_reset r) ≡ stored
  unfolding cell_reset shown_bit bit
  shown_synchronous n k = rw (some-reset r.reset r.reset_signal r.reset_kind r.reset_value n, ne_eqb r.reset_kind 1 k)

  -- an asynchronous reset
  pub shown-asynchronous : (r.reset ≡ 0 → ⊥) → r.reset_kind ≡ 1
      → shown_bit values stored (cell_reset r) ≡ cond (asserted (level_of r.reset) (bit_at values r.reset_signal)) (eqb r.reset_value 1) stored
  unfolding cell_reset shown_bit bit
  shown-asynchronous n k = rw (some-reset r.reset r.reset_signal r.reset_kind r.reset_value n, eq-eqb r.reset_kind 1 k)

-- ---- exclusive or

-- two bits differ
pub xor_apart : (a b : Bool) → not (beq a b) ≡ xor a b
unfolding xor
xor_apart true true = refl
xor_apart true false = refl
xor_apart false true = refl
xor_apart false false = refl

-- ---- rows

-- past what is written a row stays as it was
pub rest_more : {A : Type 0} (row : List A) (i n : ℕ) (x z : A) → i < length row → i < n → drop i row ≡ replicate (n - i) z → drop (i + 1) (set row i x) ≡ replicate (n - (i + 1)) z
rest_more row i n x z h l e =
    let m : n - i ≡ suc (n - suc i) = omega arith in
    let k : i < suc i = omega arith in
    let c : get_or row i z ∷ drop (suc i) row ≡ z ∷ replicate (n - suc i) z = sym (drop-cons row i z h) ∙ e ∙ ap (λ (j : ℕ). replicate j z) m in
    let d : drop (suc i) row ≡ replicate (n - suc i) z = cc in
    rw (add-one, drop-set-lt) d

-- what is written, then what is left: one more element is written
pub written-more : {A : Type 0} (row : List A) (i : ℕ) (x : A) (left : List A) → i < length row → take (i + 1) (set row i x) ++ left ≡ take i row ++ (x ∷ left)
written-more row i x left h = rw (add-one, take-suc-set, append_snoc)

-- bits followed by false read as the bits
pub bit_at_append : (bits : List Bool) (m k : ℕ) → bit_at (bits ++ replicate m false) k ≡ bit_at bits k
unfolding bit_at
bit_at_append [] zero k = refl
bit_at_append [] (suc m) zero = refl
bit_at_append [] (suc m) (suc k) = bit_at_append [] m k
bit_at_append (b ∷ bits) m zero = refl
bit_at_append (b ∷ bits) m (suc k) = bit_at_append bits m k

-- the first bits of a row read as the row
pub bit_at-taken : (row : List Bool) (m k : ℕ) → k < m → bit_at row k ≡ bit_at (take m row) k
unfolding bit_at
bit_at-taken row m k h = sym (get_or-take m row k false h)

-- two rows read alike
abbrev pub Alike : List Bool → List Bool → Type 0
Alike u v = (k : ℕ) → bit_at u k ≡ bit_at v k

-- a row whose bits from i on are false reads as its first i bits
pub alike-taken : (row : List Bool) (i m : ℕ) → drop i row ≡ replicate m false → Alike row (take i row)
alike-taken row i m e k =
    ap (λ (l : List Bool). bit_at l k) (sym (take-append-drop i row) ∙ ap (λ (l : List Bool). take i row ++ l) e) ∙ bit_at_append (take i row) m k

-- ---- the value of a node

module _ (rs : List Register) (inp : InputBits) (stored : StoredBits) (values : List Bool) (i : ℕ) (s : List ℕ) (n : Node) where
  -- a decoded node's value goes by its kind byte
  node_by_lem : node_value rs inp stored values i (decoded_node s n) ≡ node_by values n (inp (name_at s n.detail)) (shown values stored (driver rs i))
  unfolding decoded_node node_of node_by value_of node_value
  node_by_lem = by_kind_lem (node_value rs inp stored values i) n.kind _ _ _ _ _ _ _ _ _ _

-- the input bit counts for an Input alone
input-alike : (values : List Bool) (n : Node) (x y sh : Bool) → (n.kind ≡ input_kind → x ≡ y) → node_by values n x sh ≡ node_by values n y sh
unfolding node_by value_of by_kind
input-alike values n x y sh h = go (eqb n.kind input_kind) _ refl
  where
    go : (b z : Bool) → eqb n.kind input_kind ≡ b → cond b x z ≡ cond b y z
    go true z e = h (eqb-true n.kind input_kind e)
    go false z e = refl

-- a node reads rows that read alike the same way
node_alike : (u v : List Bool) (n : Node) (x sh : Bool) → Alike u v → node_by u n x sh ≡ node_by v n x sh
unfolding node_by
node_alike u v n x sh h = rw (h n.first, h n.second, h n.third)

shown-alike : (u v : List Bool) (b : Bool) (r : Option Reset) → Alike u v → shown_bit u b r ≡ shown_bit v b r
unfolding shown_bit
shown-alike u v b none h = refl
shown-alike u v b (some r) h = rw (h r.signal)

-- ---- the driver of a node

-- what a RegisterOutput shows is what the register that the table names shows
shown-driver : (values : List Bool) (row : StoredBits) (s : List ℕ) (registers : List RegisterCell) (n k : ℕ) (cell : RegisterCell) → k ≤ n → k ≤ 128
    → cell ≡ get_or registers ((k + 127) % 128) no_register → shown_by values row k cell ≡ shown values (take n row) (driver_by s registers k)
unfolding shown_by shown driver_by cell_reset decoded_register
shown-driver values row s registers n zero cell h l q = refl
shown-driver values row s registers n (suc k) cell h l q =
    let e : (suc k + 127) % 128 ≡ k = omega arith in
    rw (q, e, bit_at-taken row n k (omega arith))

shown_by_alike : (u v : List Bool) (row : StoredBits) (k : ℕ) (cell : RegisterCell) → Alike u v → shown_by u row k cell ≡ shown_by v row k cell
unfolding shown_by
shown_by_alike u v row zero cell h = refl
shown_by_alike u v row (suc k) cell h = shown-alike u v (bit_at row k) (cell_reset cell) h

-- the bit of an Input by its rank
input-right : (s : List ℕ) (ins : List Place) (claim : List ℕ) (at : ℕ) (nd : Node) (k : ℕ) → k ≡ input_rank s ins nd → nd.kind ≡ input_kind → claim_bit claim (at + k) ≡ row_inputs claim at ins (name_at s nd.detail)
unfolding row_inputs input_rank
input-right s ins claim at nd k e h = ap (λ (j : ℕ). claim_bit claim (at + j)) (e ∙ rw (eq-eqb nd.kind input_kind h))

-- ---- the values of all nodes

-- the value that the tables give a node is the one that the run gives it
pub value-right : (s : List ℕ) (ins : List Place) (n : Netlist) (ranks drivers claim : List ℕ) (at : ℕ) (row : List Bool) (values : List Bool) (i m : ℕ)
    → i < n.node_count → i < 1024 → Ranked s ins n ranks → Drivers n drivers
    → drop i values ≡ replicate m false → (cell : RegisterCell) → cell ≡ get_or n.registers ((get_or drivers i 0 + 127) % 128) no_register
    → node_by values (get_or n.nodes i no_node) (claim_bit claim (at + get_or ranks i 0)) (shown_by values row (get_or drivers i 0) cell)
    ≡ node_value (decoded s n).registers (row_inputs claim at ins) (take n.register_count row) (take i values) i (decoded_node s (get_or n.nodes i no_node))
value-right s ins n ranks drivers claim at row values i m h b r d e cell q =
    let nd = get_or n.nodes i no_node in
    let rs = (decoded s n).registers in
    let st = take n.register_count row in
    let a : Alike values (take i values) = alike-taken values i m e in
    let k = get_or drivers i 0 in
    let y : shown_by values row k cell ≡ shown (take i values) st (driver rs i) =
    shown_by_alike values (take i values) row k cell a ∙ shown-driver (take i values) row s n.registers n.register_count k cell (d.below i) (d.small i) q
    ∙ ap (shown (take i values) st) (d.drives s i b) in
    node_alike values (take i values) nd _ _ a
    ∙ input-alike (take i values) nd _ (row_inputs claim at ins (name_at s nd.detail)) _ (input-right s ins claim at nd (get_or ranks i 0) (r i h))
    ∙ ap (node_by (take i values) nd (row_inputs claim at ins (name_at s nd.detail))) y
    ∙ sym (node_by_lem rs (row_inputs claim at ins) st (take i values) i s nd)

-- one more value
pub values-more : (s : List ℕ) (n : Netlist) (inp : InputBits) (stored : StoredBits) (values : List Bool) (i : ℕ) (x : Bool) → i < n.node_count → n.node_count ≤ length n.nodes → i < length values
    → x ≡ node_value (decoded s n).registers inp stored (take i values) i (decoded_node s (get_or n.nodes i no_node))
    → values_from (decoded s n).registers inp stored i (drop i (decoded s n).nodes) (take i values)
    ≡ values_from (decoded s n).registers inp stored (i + 1) (drop (i + 1) (decoded s n).nodes) (take (i + 1) (set values i x))
unfolding values_from decoded
values-more s n inp stored values i x h l k e =
    rw (add-one, take-suc-set, drop-map_cons (decoded_node s) n.nodes n.node_count i no_node h l, e)

-- a row of which n bits are written is those bits and false past them
pub padded-row : (row bits : List Bool) (n m : ℕ) → n ≤ m → length row ≡ m → drop n row ≡ replicate (m - n) false → bits ≡ take n row → row ≡ padded m bits
unfolding padded
padded-row row bits n m h l e b =
    let k : length bits ≡ n = ap length b ∙ length-take-le n row (omega arith) in
    sym (take-append-drop n row) ∙ rw (e, b) (ap (λ (j : ℕ). take n row ++ replicate (m - j) false) (sym (sym (ap length b) ∙ k)))

-- no node is left
pub values-done : (s : List ℕ) (n : Netlist) (inp : InputBits) (stored : StoredBits) (values : List Bool) (i : ℕ) → n.node_count ≤ i
    → values_from (decoded s n).registers inp stored i (drop i (decoded s n).nodes) values ≡ values
unfolding decoded values_from
values-done s n inp stored values i h =
    let l : length (map (decoded_node s) (take n.node_count n.nodes)) ≤ i = simp (length-map, length-take) (omega arith) in
    rw drop_of_length-le
