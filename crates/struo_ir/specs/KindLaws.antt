-- What the definitions say of a decoded node, by its kind byte. Assumes nothing.
use Rattle.std.specs.Prelude.{ℕ, ◌≡◌, refl, true, List, [], ◌∷◌}
use Rattle.std.proofs.Math.Bool.{cond}
use Rattle.std.proofs.Math.Option.{none, some}
use Rattle.std.proofs.Math.ListN.{take}
use Rattle.std.proofs.Math.Dec.{eqb}
use Rattle.std.proofs.Common.{ne_eqb}
use Rattle.model.specs.Kinds.{by_kind, input_kind, register_output_kind, output_kind}
use Rattle.model.specs.Netlist.{input_numbers, is_register_output, input_name}
use Rattle.model.specs.Record.{kinds, listed_kind, inputs_per_kind, has_name, node_of}
use Rattle.model.specs.Validate.{port_name, is_input}
use Rattle.laws.specs.Record.Kinds.{of_listed}
use Rattle.struo_ir.specs.declared.netlist.Node.{Node}
use Rattle.struo_ir.specs.Decoded.{name_at, decoded_node}

module _ (s : List ℕ) (c : Node) (listed : listed_kind c.kind ≡ true) where
  pub numbers_are : input_numbers (decoded_node s c) ≡ take (inputs_per_kind c.kind) (c.first ∷ c.second ∷ c.third ∷ [])
  unfolding kinds input_numbers decoded_node node_of by_kind inputs_per_kind
  numbers_are =
      of_listed (λ (k : ℕ). input_numbers (node_of k (name_at s c.detail) c.detail (c.first ∷ c.second ∷ c.third ∷ [])) ≡ take (inputs_per_kind k) (c.first ∷ c.second ∷ c.third ∷ [])) c.kind listed
      (refl, (refl, (refl, (refl, (refl, (refl, (refl, (refl, (refl, tt)))))))))

  pub port_is : port_name (decoded_node s c) ≡ cond (has_name c.kind) (some (name_at s c.detail)) none
  unfolding kinds port_name decoded_node node_of by_kind has_name
  port_is =
      of_listed (λ (k : ℕ). port_name (node_of k (name_at s c.detail) c.detail (c.first ∷ c.second ∷ c.third ∷ [])) ≡ cond (has_name k) (some (name_at s c.detail)) none) c.kind listed
      (refl, (refl, (refl, (refl, (refl, (refl, (refl, (refl, (refl, tt)))))))))

  pub register-output-is : is_register_output (decoded_node s c) ≡ eqb c.kind register_output_kind
  unfolding kinds is_register_output decoded_node node_of by_kind
  register-output-is =
      of_listed (λ (k : ℕ). is_register_output (node_of k (name_at s c.detail) c.detail (c.first ∷ c.second ∷ c.third ∷ [])) ≡ eqb k register_output_kind) c.kind listed
      (refl, (refl, (refl, (refl, (refl, (refl, (refl, (refl, (refl, tt)))))))))

  pub input-is : is_input (input_name (decoded_node s c)) ≡ eqb c.kind input_kind
  unfolding kinds is_input input_name decoded_node node_of by_kind
  input-is =
      of_listed (λ (k : ℕ). is_input (input_name (node_of k (name_at s c.detail) c.detail (c.first ∷ c.second ∷ c.third ∷ []))) ≡ eqb k input_kind) c.kind listed
      (refl, (refl, (refl, (refl, (refl, (refl, (refl, (refl, (refl, tt)))))))))

-- ---- the kinds with a name

pub port_input : (k : ℕ) → k ≡ input_kind → true ≡ has_name k
unfolding has_name
port_input k e = rw e

pub port_output : (k : ℕ) → (k ≡ input_kind → ⊥) → eqb k output_kind ≡ has_name k
unfolding has_name
port_output k h = rw (ne_eqb k input_kind h)
