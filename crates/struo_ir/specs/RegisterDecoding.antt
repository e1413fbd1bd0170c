-- A register as the reader keeps it stands for the definition's register. Assumes nothing.
use Prim.Native.Nat.{ℕ, zero, suc}
use Rattle.std.specs.Prelude.{◌≡◌, List, [], ◌∷◌, get_or}
use Rattle.std.proofs.Math.Path.{refl, ap}
use Rattle.std.proofs.Common.{◌∙◌}
use Rattle.std.proofs.Math.Option.{Option, some}
use Rattle.model.specs.Names.{Name}
use Rattle.model.specs.Netlist.{Enable, Reset, Register}
use Rattle.model.specs.Record.{Step, got, refused, Reader, pure, go_on, ◌>>=◌, name, number, code_below, numbers, edge_of, level_of, bit, enable_for, reset_for, register}
use Rattle.struo_ir.specs.declared.netlist.RegisterCell.{RegisterCell}
use Rattle.struo_ir.specs.Decoded.{name_at, decoded_enable, decoded_reset, decoded_register}
use Rattle.fields.specs.Fields.{map_step, placed}
use Rattle.struo_ir.specs.Nodes.{three}
use Rattle.struo_ir.specs.Registers.{fixed, enabled, resettable, reset_value, reset_kind, reset_fields, reset_if, register_reset, register_signal, enable_if, register_enable, register_edge, nets_at, place_at, register_nets, register_at}
use Rattle.struo_ir.specs.StepLaws.{bind_map, bind_last, name-at}

-- the definition's register from its reset on
from_reset : Name → ℕ → ℕ → ℕ → ℕ → Option Enable → Option Reset → Reader Register
from_reset n output input clock edge enable reset = pure (record { name = n; output = output; «data» = input; clock = clock; edge = edge_of edge; enable = enable; reset = reset })

-- from its reset's code on
from_code : Name → ℕ → ℕ → ℕ → ℕ → Option Enable → Reader Register
from_code n output input clock edge enable = do
  r ← code_below 3
  reset ← reset_for r
  from_reset n output input clock edge enable reset

-- from its enable's code on
from_enable : Name → ℕ → ℕ → ℕ → ℕ → Reader Register
from_enable n output input clock edge = do
  e ← code_below 3
  enable ← enable_for e
  from_code n output input clock edge enable

-- from its edge on
from_edge : Name → ℕ → ℕ → ℕ → Reader Register
from_edge n output input clock = do
  edge ← code_below 2
  from_enable n output input clock edge

-- from its nets on
from_nets : Name → Reader Register
from_nets n = do
  output ← number
  input ← number
  clock ← number
  from_edge n output input clock

module _ (s : List ℕ) where
  -- the value of a reset
  reset-decoded : (c : RegisterCell) (r i : ℕ) → c.reset ≡ 0 → map_step (decoded_register s) (reset_if c r s i) ≡ go_on (from_reset (name_at s c.name) c.output c.«data» c.clock c.edge (decoded_enable c.enable c.enable_signal)) s (reset_for r s i)
  unfolding reset_if reset_for pure go_on from_reset map_step decoded_register decoded_reset reset_fields reset_kind reset_value resettable ◌>>=◌
  reset-decoded c zero i e = rw e
  reset-decoded c (suc r) i e = go (number s i)
    where
      value : (n k : ℕ) (x : Step ℕ) → map_step (decoded_register s) (go_on (λ v. pure (resettable c (suc r) n k v)) s x) ≡ go_on (from_reset (name_at s c.name) c.output c.«data» c.clock c.edge (decoded_enable c.enable c.enable_signal)) s (go_on (λ v. pure (some (record { signal = n; active = level_of (suc r); asynchronous = bit k; value = bit v }))) s x)
      value n k (got v j) = refl
      value n k (refused x) = refl

      kind : (n : ℕ) (x : Step ℕ) → map_step (decoded_register s) (go_on (reset_value c (suc r) n) s x) ≡ go_on (from_reset (name_at s c.name) c.output c.«data» c.clock c.edge (decoded_enable c.enable c.enable_signal)) s (go_on (λ k. ◌>>=◌ (code_below 2) (λ v. pure (some (record { signal = n; active = level_of (suc r); asynchronous = bit k; value = bit v })))) s x)
      kind n (got k j) = value n k (code_below 2 s j)
      kind n (refused x) = refl

      go : (x : Step ℕ) → map_step (decoded_register s) (go_on (reset_kind c (suc r)) s x) ≡ go_on (from_reset (name_at s c.name) c.output c.«data» c.clock c.edge (decoded_enable c.enable c.enable_signal)) s (go_on (λ n. ◌>>=◌ (code_below 2) (λ k. ◌>>=◌ (code_below 2) (λ v. pure (some (record { signal = n; active = level_of (suc r); asynchronous = bit k; value = bit v }))))) s x)
      go (got n j) = kind n (code_below 2 s j)
      go (refused x) = refl

  code-decoded : (c : RegisterCell) (i : ℕ) → c.reset ≡ 0 → map_step (decoded_register s) (register_reset c s i) ≡ from_code (name_at s c.name) c.output c.«data» c.clock c.edge (decoded_enable c.enable c.enable_signal) s i
  unfolding register_reset from_code ◌>>=◌
  code-decoded c i e =
      bind_last (decoded_register s) (reset_if c) (λ r. ◌>>=◌ (reset_for r) (from_reset (name_at s c.name) c.output c.«data» c.clock c.edge (decoded_enable c.enable c.enable_signal))) s (code_below 3 s i)
      (λ r j h. reset-decoded c r j e)

  -- the enable
  enable-decoded : (n : ℕ) (nets : List ℕ) (edge e i : ℕ) → map_step (decoded_register s) (enable_if (fixed n nets edge) e s i) ≡ go_on (from_code (name_at s n) (get_or nets 0 0) (get_or nets 1 0) (get_or nets 2 0) edge) s (enable_for e s i)
  unfolding enable_if enable_for pure go_on fixed enabled register_signal decoded_enable ◌>>=◌ map_step
  enable-decoded n nets edge zero i = code-decoded (fixed n nets edge) i refl
  enable-decoded n nets edge (suc e) i = go (number s i)
    where
      go : (x : Step ℕ) → map_step (decoded_register s) (go_on (register_signal (fixed n nets edge) (suc e)) s x) ≡ go_on (from_code (name_at s n) (get_or nets 0 0) (get_or nets 1 0) (get_or nets 2 0) edge) s (go_on (λ signal. pure (some (record { signal = signal; active = level_of (suc e) }))) s x)
      go (got m j) = code-decoded (enabled (fixed n nets edge) (suc e) m) j refl
      go (refused x) = refl

  edge-decoded : (n : ℕ) (nets : List ℕ) (i : ℕ) → map_step (decoded_register s) (register_edge n nets s i) ≡ from_edge (name_at s n) (get_or nets 0 0) (get_or nets 1 0) (get_or nets 2 0) s i
  unfolding register_edge register_enable from_edge from_enable ◌>>=◌
  edge-decoded n nets i =
      bind_last (decoded_register s) (λ e. register_enable (fixed n nets e)) (from_enable (name_at s n) (get_or nets 0 0) (get_or nets 1 0) (get_or nets 2 0)) s (code_below 2 s i)
      (λ e j h. bind_last (decoded_register s) (enable_if (fixed n nets e)) (λ x. ◌>>=◌ (enable_for x) (from_code (name_at s n) (get_or nets 0 0) (get_or nets 1 0) (get_or nets 2 0) e)) s (code_below 3 s j) (λ x k g. enable-decoded n nets e x k))

  -- the nets, one by one
  nets-decoded : (n i : ℕ) → map_step (decoded_register s) (register_nets n s i) ≡ from_nets (name_at s n) s i
  unfolding register_nets nets_at from_nets numbers ◌>>=◌ go_on map_step three pure
  nets-decoded n i = first (number s i)
    where
      third : (a b : ℕ) (x : Step ℕ) → map_step (decoded_register s) (go_on (register_edge n) s (map_step three (go_on (λ ns. pure (a ∷ ns)) s (go_on (λ ns. pure (b ∷ ns)) s (go_on (λ c. ◌>>=◌ (pure []) (λ ns. pure (c ∷ ns))) s x))))) ≡ go_on (λ c. from_edge (name_at s n) a b c) s x
      third a b (got c j) = edge-decoded n (a ∷ b ∷ c ∷ []) j
      third a b (refused r) = refl

      second : (a : ℕ) (x : Step ℕ) → map_step (decoded_register s) (go_on (register_edge n) s (map_step three (go_on (λ ns. pure (a ∷ ns)) s (go_on (λ b. ◌>>=◌ (numbers 1) (λ ns. pure (b ∷ ns))) s x)))) ≡ go_on (λ b. ◌>>=◌ number (λ c. from_edge (name_at s n) a b c)) s x
      second a (got b j) = third a b (number s j)
      second a (refused r) = refl

      first : (x : Step ℕ) → map_step (decoded_register s) (go_on (register_edge n) s (map_step three (go_on (λ a. ◌>>=◌ (numbers 2) (λ ns. pure (a ∷ ns))) s x))) ≡ go_on (λ a. ◌>>=◌ number (λ b. ◌>>=◌ number (λ c. from_edge (name_at s n) a b c))) s x
      first (got a j) = second a (number s j)
      first (refused r) = refl

  pub register-decoded : (i : ℕ) → map_step (decoded_register s) (register_at s i) ≡ register s i
  unfolding register_at register place_at placed ◌>>=◌ from_nets from_edge from_enable from_code from_reset
  register-decoded i =
      bind_map (decoded_register s) (λ n. i) register_nets from_nets s (name s i)
      (λ n j h. nets-decoded i j ∙ ap (λ (m : Name). from_nets m s j) (name-at s i n j h))
