-- The table from a kind byte to a meaning: a function of what it chooses is the table of the function's values. The listed kinds: what holds of each, and how many inputs they have. Assumes nothing.
use Rattle.std.specs.Prelude.{ℕ, ◌/◌, ◌≤◌, ◌≡◌, refl, Bool, true, false, cond, List, length, eqb}
use Rattle.std.proofs.Common.{arith}
use Rattle.model.specs.Kinds.{input_kind, constant_kind, register_output_kind, not_kind, output_kind, and_kind, or_kind, xor_kind, mux_kind, by_kind}
use Rattle.model.specs.Names.{Name}
use Rattle.model.specs.Netlist.{input_numbers}
use Rattle.model.specs.Record.{kinds, listed_kind, inputs_per_kind, node_of}
use Rattle.facts.specs.Lists.{All}
use Rattle.laws.specs.Lists.{member-all}

-- a function of a choice is the choice of its values
of_choice : {A B : Type 0} (f : A → B) (b : Bool) (x y : A) (z : B) → f y ≡ z → f (cond b x y) ≡ cond b (f x) z
of_choice f true x y z e = refl
of_choice f false x y z e = e

-- a function goes into the table
pub by_kind_lem : {A B : Type 0} (f : A → B) (k : ℕ) (input constant register_output not output and or xor mux other : A)
    → f (by_kind k input constant register_output not output and or xor mux other)
    ≡ by_kind k (f input) (f constant) (f register_output) (f not) (f output) (f and) (f or) (f xor) (f mux) (f other)
unfolding by_kind
by_kind_lem f k input constant register_output not output and or xor mux other =
    of_choice f (eqb k input_kind) input _ _
    (of_choice f (eqb k constant_kind) constant _ _
    (of_choice f (eqb k register_output_kind) register_output _ _
    (of_choice f (eqb k not_kind) not _ _
    (of_choice f (eqb k output_kind) output _ _
    (of_choice f (eqb k and_kind) and _ _
    (of_choice f (eqb k or_kind) or _ _
    (of_choice f (eqb k xor_kind) xor _ _
    (of_choice f (eqb k mux_kind) mux other _ refl))))))))

-- ---- the listed kinds

-- what holds of each holds of a listed one
pub of_listed : (P : ℕ → Type 0) (k : ℕ) → listed_kind k ≡ true → All P kinds → P k
unfolding listed_kind
of_listed P k h p = member-all P kinds k h p

-- a node of a listed kind has as many inputs as its kind byte divided by 16
pub inputs-counted : (k : ℕ) (n : Name) (v : ℕ) (ins : List ℕ) → listed_kind k ≡ true → length (input_numbers (node_of k n v ins)) ≡ k / 16
unfolding kinds input_numbers node_of by_kind
inputs-counted k n v ins h =
    of_listed (λ (j : ℕ). length (input_numbers (node_of j n v ins)) ≡ j / 16) k h (refl, (refl, (refl, (refl, (refl, (refl, (refl, (refl, (refl, tt)))))))))

-- a listed kind has at most three inputs
pub few_inputs : (k : ℕ) → listed_kind k ≡ true → inputs_per_kind k ≤ 3
unfolding kinds inputs_per_kind
few_inputs k h =
    of_listed (λ (j : ℕ). inputs_per_kind j ≤ 3) k h (omega arith, (omega arith, (omega arith, (omega arith, (omega arith, (omega arith, (omega arith, (omega arith, (omega arith, tt)))))))))
