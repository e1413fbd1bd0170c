-- Laws of one step of a replay. Assumes nothing.
use Rattle.std.specs.Prelude.{min, ℕ, suc, ◌+◌, ◌-◌, ◌*◌, ◌<◌, ◌≤◌, ◌≡◌, refl, Bool, true, not, ◌&&◌, List, [], ◌∷◌, map, length, take, drop, get_or, eqb}
use Rattle.std.proofs.Common.{arith, length-drop, sym, ap, ap₂, ◌∙◌, mul-le-mul, add-one, take_at}
use Rattle.std.proofs.Math.Bool.{false, beq}
use Rattle.std.specs.Bool.{xor}
use Rattle.std.proofs.Math.Option.{Option, none, some}
use Rattle.std.proofs.Math.Nat.{add-suc}
use Rattle.std.proofs.lemmas.List.{length-map}
use Rattle.std.proofs.Math.Seq.{drop-cons}
use Rattle.model.specs.Names.{Place}
use Rattle.model.specs.Netlist.{Enable, Reset, Register, Design, inputs, outputs, input_count}
use Rattle.model.specs.Run.{InputBits, StoredBits, node_values, bit_at, enabled_bit, reset_bit, next_bit, next_from, next_stored, output_bits}
use Rattle.model.specs.Replay.{Position, Stepped, claim_bit, claim_inputs, bits_differ, differ_as_marked, differ_as_claimed, advance}
use Rattle.run.specs.RunTables.{row_inputs, padded}
use Rattle.run.specs.RunLaws.{Alike, bit_at_append, xor_apart}

-- ---- rows that read alike

-- a padded row reads as its bits
pub alike-padded : (n : ℕ) (bits : List Bool) → Alike (padded n bits) bits
unfolding padded
alike-padded n bits k = bit_at_append bits (n - length bits) k

enabled-alike : (u v : List Bool) (b x : Bool) (e : Option Enable) → Alike u v → enabled_bit u b x e ≡ enabled_bit v b x e
unfolding enabled_bit
enabled-alike u v b x none h = refl
enabled-alike u v b x (some e) h = rw (h e.signal)

reset-alike : (u v : List Bool) (b : Bool) (r : Option Reset) → Alike u v → reset_bit u b r ≡ reset_bit v b r
unfolding reset_bit
reset-alike u v b none h = refl
reset-alike u v b (some r) h = rw (h r.signal)

next-alike : (u v : List Bool) (b : Bool) (r : Register) → Alike u v → next_bit u b r ≡ next_bit v b r
unfolding next_bit
next-alike u v b r h =
    reset-alike u v _ r.reset h
    ∙ ap (λ (x : Bool). reset_bit v x r.reset) (enabled-alike u v b _ r.enable h ∙ ap (λ (x : Bool). enabled_bit v b x r.enable) (h r.«data»))

next_from-alike : (u v : List Bool) (st : StoredBits) (k : ℕ) (rs : List Register) → Alike u v → next_from u st k rs ≡ next_from v st k rs
unfolding next_from
next_from-alike u v st k [] h = refl
next_from-alike u v st k (r ∷ rs) h = ap₂ ◌∷◌ (next-alike u v (bit_at st k) r h) (next_from-alike u v st (suc k) rs h)

-- next stored bits by rows that read alike
pub next_stored-alike : (d : Design) (u v : List Bool) (st : StoredBits) → Alike u v → next_stored d u st ≡ next_stored d v st
unfolding next_stored
next_stored-alike d u v st h = next_from-alike u v st 0 d.registers h

map-alike : (u v : List Bool) (ps : List Place) → Alike u v → map (λ (p : Place). bit_at u p.number) ps ≡ map (λ (p : Place). bit_at v p.number) ps
map-alike u v [] h = refl
map-alike u v (p ∷ ps) h = ap₂ ◌∷◌ (h p.number) (map-alike u v ps h)

-- outputs by rows that read alike
pub output_bits-alike : (d : Design) (u v : List Bool) (ps : List Place) → Alike u v → ps ≡ outputs d → map (λ (p : Place). bit_at u p.number) ps ≡ output_bits d v
unfolding output_bits
output_bits-alike d u v ps h e = map-alike u v ps h ∙ ap (map (λ (p : Place). bit_at v p.number)) e

-- ---- comparing rows

module _ (x y : Bool) (xs ys us vs : List Bool) (p : us ≡ x ∷ xs) (q : vs ≡ y ∷ ys) where
  -- the first two bits differ
  pub differ-here : not (beq x y) ≡ true → bits_differ us vs ≡ true
  unfolding bits_differ
  differ-here e = rw (p, q, ← xor_apart, e)

  -- the first two bits are alike
  pub differ-more : not (beq x y) ≡ false → bits_differ us vs ≡ bits_differ xs ys
  unfolding bits_differ
  differ-more e = rw (p, q, ← xor_apart, e)

-- a row has ended
pub differ-end : (us vs : List Bool) → min (length us) (length vs) ≡ 0 → bits_differ us vs ≡ false
unfolding bits_differ
differ-end [] vs h = refl
differ-end (x ∷ us) [] h = refl
differ-end (x ∷ us) (y ∷ vs) h = absurd (omega arith)

-- no pair is left
marked-none : (claim : List ℕ) (n : ℕ) (xs ys : List Bool) → min (length xs) (length ys) ≡ 0 → differ_as_marked claim n xs ys ≡ true
unfolding differ_as_marked
marked-none claim n [] ys h = refl
marked-none claim n (x ∷ xs) [] h = refl
marked-none claim n (x ∷ xs) (y ∷ ys) h = absurd (omega arith)

-- a test of two bits and their mark, as the definition has it
marks-apart : (a b m : Bool) → not (beq (not (beq a b)) m) ≡ xor (xor a b) m
marks-apart a b m = xor_apart (not (beq a b)) m ∙ ap (λ (x : Bool). xor x m) (xor_apart a b)

module _ (claim : List ℕ) (place : ℕ) (xs ys : List Bool) (k : ℕ) where
  -- two bits are not marked as they differ
  pub marked_wrong : k < length xs → k < length ys → not (beq (not (beq (get_or xs k false) (get_or ys k false))) (claim_bit claim (place + k))) ≡ true → differ_as_marked claim (place + k) (drop k xs) (drop k ys) ≡ false
  unfolding differ_as_marked
  marked_wrong h l e = rw (drop-cons xs k false, drop-cons ys k false, ← marks-apart, e)

  -- two bits are marked as they differ
  pub marked_more : k < length xs → k < length ys → not (beq (not (beq (get_or xs k false) (get_or ys k false))) (claim_bit claim (place + k))) ≡ false
      → differ_as_marked claim (place + k) (drop k xs) (drop k ys) ≡ differ_as_marked claim (place + (k + 1)) (drop (k + 1) xs) (drop (k + 1) ys)
  unfolding differ_as_marked
  marked_more h l e = rw (add-one, add-suc, drop-cons xs k false, drop-cons ys k false, ← marks-apart, e)

  -- a row has ended
  pub marked-end : min (length xs) (length ys) ≤ k → differ_as_marked claim (place + k) (drop k xs) (drop k ys) ≡ true
  marked-end h = marked-none claim (place + k) (drop k xs) (drop k ys) (simp length-drop (omega arith))

-- ---- the step

-- as many bits of a padded row as it has are the bits
pub padded-taken : (m n : ℕ) (row bits : List Bool) → row ≡ padded m bits → n ≡ length bits → take n row ≡ bits
unfolding padded
padded-taken m n row bits e f = rw e (take_at bits _ n (sym f))

-- as many output bits as outputs
pub length-output_bits : (d : Design) (v : List Bool) → length (output_bits d v) ≡ length (outputs d)
unfolding output_bits
length-output_bits d v = length-map (outputs d) (λ (p : Place). bit_at v p.number)

-- at most 65 rows of the claim of at most 128 bytes each
pub rows-small : (rows inputs : ℕ) → rows ≤ 65 → inputs ≤ 128 → rows * inputs ≤ 8320
rows-small rows inputs h l = mul-le-mul h l

-- a row of the claim gives the cycle's input bits
pub inputs-right : (d : Design) (claim : List ℕ) (at c count : ℕ) → at ≡ c * count → count ≡ input_count d → row_inputs claim at (inputs d) ≡ claim_inputs d claim c
unfolding row_inputs claim_inputs
inputs-right d claim at c count e f = rw (e, f)

module _ (gold gate : Design) (cycle : ℕ) (claim : List ℕ) (p : Position) (inp : InputBits) (gold_outputs gate_outputs gold_next_lem gate_next_lem : List Bool) (differ marked : Bool) (q : inp ≡ claim_inputs gold claim p.cycle) where
  -- the parts of a step are the definition's
  pub advance-right : gold_outputs ≡ output_bits gold (node_values gold inp p.gold) → gate_outputs ≡ output_bits gate (node_values gate inp p.gate) → differ ≡ bits_differ gold_outputs gate_outputs
      → marked ≡ differ_as_marked claim (suc cycle * input_count gold) gold_outputs gate_outputs → gold_next_lem ≡ next_stored gold (node_values gold inp p.gold) p.gold → gate_next_lem ≡ next_stored gate (node_values gate inp p.gate) p.gate
      → ◌≡◌ {A = Stepped} (record { position = record { cycle = p.cycle + 1; agreed = p.agreed && not differ; gold = gold_next_lem; gate = gate_next_lem }; yes = eqb p.cycle cycle && (p.agreed && (differ && marked)) })
      (advance gold gate cycle claim p)
  unfolding advance differ_as_claimed
  advance-right f g h k l m = rw (add-one, k, h, l, m, f, g, q)
