-- The ports among the nodes: the name that a node has as a port, by its kind; and the ports counted. Assumes nothing.
use Rattle.std.specs.Prelude.{ℕ, suc, ◌+◌, ◌≡◌, refl, Bool, true, false, cond, length, eqb}
use Rattle.std.proofs.Common.{◌∙◌, arith, eqb-true}
use mathlib.Core.List.{List, [], ◌∷◌, ◌++◌}
use Rattle.std.proofs.Math.Option.{Option, none, some}
use Rattle.model.specs.Kinds.{input_kind, output_kind, by_kind}
use Rattle.model.specs.Names.{Name, Place}
use Rattle.model.specs.Netlist.{Node, input_name, output_name, place_if, ports_from}
use Rattle.model.specs.Record.{node_of}
use Rattle.facts.specs.Bools.{cond_same}
use Rattle.laws.specs.Record.Kinds.{by_kind_lem}

-- ---- the name of a node as a port

-- a table with one meaning for Input, and another for every other byte
input_alone : {A : Type 0} (k : ℕ) (x y : A) → by_kind k x y y y y y y y y y ≡ cond (eqb k input_kind) x y
unfolding by_kind
input_alone k x y = simp cond_same

-- the same of Output
output_alone : {A : Type 0} (k : ℕ) (x y : A) → by_kind k y y y y x y y y y y ≡ cond (eqb k output_kind) x y
unfolding by_kind
output_alone k x y = go (eqb k output_kind) refl
  where
    go : (b : Bool) → eqb k output_kind ≡ b → by_kind k y y y y x y y y y y ≡ cond (eqb k output_kind) x y
    go true h = rw (eqb-true k output_kind h)
    go false h = rw h (simp cond_same)

module _ (k : ℕ) (n : Name) (v : ℕ) (ins : List ℕ) where
  -- a node of Input's kind alone is an Input
  pub input-name : input_name (node_of k n v ins) ≡ cond (eqb k input_kind) (some n) none
  unfolding node_of input_name
  input-name = by_kind_lem input_name k _ _ _ _ _ _ _ _ _ _ ∙ input_alone k (some n) none

  -- a node of Output's kind alone is an Output
  pub output-name : output_name (node_of k n v ins) ≡ cond (eqb k output_kind) (some n) none
  unfolding node_of output_name
  output-name = by_kind_lem output_name k _ _ _ _ _ _ _ _ _ _ ∙ output_alone k (some n) none

-- ---- the ports counted

-- one more place where there is a name
place-more : (i : ℕ) (b : Bool) (n : Name) (ps : List Place) → length (place_if i (cond b (some n) none) ps) ≡ cond b 1 0 + length ps
unfolding place_if
place-more i true n ps = omega arith
place-more i false n ps = omega arith

-- a place in front counts alike before any two lists
place-alike : (i : ℕ) (r : Option Name) (k : ℕ) (ps qs : List Place) → length ps ≡ length qs + k → length (place_if i r ps) ≡ length (place_if i r qs) + k
unfolding place_if
place-alike i none k ps qs h = h
place-alike i (some n) k ps qs h = omega arith

module _ (named : Node → Option Name) (x : Node) (b : Bool) (n : Name) (e : named x ≡ cond b (some n) none) where
  ports_append : (i : ℕ) (ns : List Node) → length (ports_from named i (ns ++ (x ∷ []))) ≡ length (ports_from named i ns) + cond b 1 0
  unfolding ports_from
  ports_append i [] = rw e (omega (arith, place-more i b n []))
  ports_append i (m ∷ ns) = place-alike i (named m) (cond b 1 0) (ports_from named (suc i) (ns ++ (x ∷ []))) (ports_from named (suc i) ns) (ports_append (suc i) ns)

module _ (k : ℕ) (n : Name) (v : ℕ) (ins : List ℕ) (i : ℕ) (ns : List Node) where
  -- one more Input after a node of its kind
  pub inputs_append : length (ports_from input_name i (ns ++ (node_of k n v ins ∷ []))) ≡ length (ports_from input_name i ns) + cond (eqb k input_kind) 1 0
  inputs_append = ports_append input_name (node_of k n v ins) (eqb k input_kind) n (input-name k n v ins) i ns

  -- one more Output after a node of its kind
  pub outputs_append : length (ports_from output_name i (ns ++ (node_of k n v ins ∷ []))) ≡ length (ports_from output_name i ns) + cond (eqb k output_kind) 1 0
  outputs_append = ports_append output_name (node_of k n v ins) (eqb k output_kind) n (output-name k n v ins) i ns
