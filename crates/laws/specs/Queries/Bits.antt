-- The bits that an environment gives a query: inputs, free states, and what comparisons of them mean. Assumes nothing.
use Prim.Native.Nat.{ℕ, zero, suc, ◌+◌}
use native.Mathlib.Omega.{arith}
use Rattle.std.specs.Prelude.{◌≡◌, refl, Bool, true, cond}
use Rattle.std.proofs.Math.Path.{sym}
use Rattle.std.proofs.Common.{ap₂, ◌∙◌}
use Rattle.std.proofs.Math.Bool.{false, ◌||◌, xor as xor_bool, or_assoc, or-false}
use mathlib.Core.List.{List, [], ◌∷◌, ◌++◌, append_assoc, append-nil}
use Rattle.std.proofs.Math.Option.{Option, none, some}
use Rattle.std.proofs.Math.ListN.{length}
use Rattle.model.specs.Literal.{Literal, FALSE}
use Rattle.model.specs.Lists.{snoc, zip}
use Rattle.model.specs.Aig.{Aig, Variable, Built, variable, xor}
use Rattle.model.specs.Names.{Name, same_name}
use Rattle.model.specs.Transition.{StateBit, TransitionSystem}
use Rattle.model.specs.Equivalence.{Problem, state_literal, cons_pair, named_pairs, compare_named_state, LiteralList, with_built, new_variables, proof_inputs, or_mismatch, any_difference, compare_pairs, Base, counterexample_cycle, named_state_cycle, Induction, matched, induction_cycle}
use Rattle.laws.specs.Lists.{length-snoc}
use Rattle.laws.specs.Lowering.SystemRun.{pairs_differ}
use Rattle.laws.specs.Pairwise.{Pairwise, pairs-snoc, pairs_weaken}
use Rattle.laws.specs.Graph.Operations.{Formed, Means, variable_means, or_means, xor_means, after, meaning}
use Rattle.laws.specs.Queries.Frame.{Has, Grown, grown-refl, grown_trans, grown, has, has-later, list_later, has-false}

-- the bits of k variables from number n on
unfoldable pub bits_from : (ℕ → Bool) → ℕ → ℕ → List Bool
bits_from environment n zero = []
bits_from environment n (suc k) = environment n ∷ bits_from environment (suc n) k

-- so many new variables
pub variables-length : {A : Type 0} (v : LiteralList) (zs : List A) → length (new_variables v zs).aig ≡ length v.aig + length zs
unfolding new_variables with_built variable
variables-length v [] = omega arith
variables-length v (z ∷ zs) =
    omega (arith, variables-length (with_built v.literals (variable v.aig)) zs, length-snoc v.aig (Variable (length v.aig)))

-- and as many literals
pub literals-length : {A : Type 0} (v : LiteralList) (zs : List A) → length (new_variables v zs).literals ≡ length v.literals + length zs
unfolding new_variables with_built
literals-length v [] = omega arith
literals-length v (z ∷ zs) =
    omega (arith, literals-length (with_built v.literals (variable v.aig)) zs, length-snoc v.literals (variable v.aig).literal)

-- the input bits of n cycles of query 1, from the variables that each cycle makes
unfoldable pub input_rows : (ℕ → Bool) → Problem → ℕ → Base → List (List Bool)
input_rows environment p zero b = []
input_rows environment p (suc n) b =
    bits_from environment (length b.aig) (length p.gold.inputs) ∷ input_rows environment p n (counterexample_cycle p b)

-- the input bits of n cycles of query 2
unfoldable pub state_rows : (ℕ → Bool) → Problem → ℕ → Base → List (List Bool)
state_rows environment p zero b = []
state_rows environment p (suc n) b =
    bits_from environment (length (or_mismatch b.any_mismatch (compare_named_state p b.aig b.gold_state b.gate_state)).aig) (length p.gold.inputs)
    ∷ state_rows environment p n (named_state_cycle p b)

-- the input bits of query 3 and 4 in n cycles before the last
unfoldable pub induction_rows : (ℕ → Bool) → Problem → Bool → ℕ → Induction → List (List Bool)
induction_rows environment p include zero b = []
induction_rows environment p include (suc n) b =
    bits_from environment (length b.aig) (length p.gold.inputs) ∷ induction_rows environment p include n (induction_cycle p include false b)

-- and in the last one
unfoldable pub induction_last : (ℕ → Bool) → Problem → Bool → ℕ → Induction → List Bool
induction_last environment p include zero b = bits_from environment (length b.aig) (length p.gold.inputs)
induction_last environment p include (suc n) b = induction_last environment p include n (induction_cycle p include false b)

-- a shared bit, or a new variable's
unfoldable pub shared_bit : Option Bool → Bool → Bool
shared_bit none x = x
shared_bit (some y) x = y

-- the number of the next new variable
unfoldable pub shared_number : Option Bool → ℕ → ℕ
shared_number none n = suc n
shared_number (some y) n = n

-- gate's free bits: gold's where they are shared, else those of the variables from n on
unfoldable pub gate_bits : (ℕ → Bool) → Bool → List StateBit → List Bool → ℕ → List StateBit → List Bool
gate_bits environment share gold xs n [] = []
gate_bits environment share gold xs n (s ∷ ss) =
    shared_bit (matched share s.name gold xs) (environment n) ∷ gate_bits environment share gold xs (shared_number (matched share s.name gold xs) n) ss

module _ (environment : ℕ → Bool) where
  -- ---- comparisons

  step_means : (m : Built) (b : Bool) → Formed m.aig → Has environment m.aig m.literal b → (l k : Literal) (x y : Bool)
      → Has environment m.aig l x → Has environment m.aig k y → Means environment m.aig (b || xor_bool x y) (or_mismatch m.literal (xor m.aig l k))
  unfolding or_mismatch
  step_means m b w h l k x y p q =
      let e = meaning environment (ap₂ xor_bool p.0 q.0) (xor_means environment m.aig w l k p.1 q.1) in
      let f = has-later environment (grown environment e) m.literal b h in
      let o = or_means environment (xor m.aig l k).aig e.formed m.literal (xor m.aig l k).literal f.1 e.inside in
      after environment e (meaning environment (ap₂ ◌||◌ f.0 e.value) o)

  -- a pair of literals with these values
  abbrev pub HasBoth : Aig → (Literal × Literal) → (Bool × Bool) → Type 0
  HasBoth g p q = Has environment g p.0 q.0 × Has environment g p.1 q.1

  -- a pair keeps its bits
  pub both_later : {g h : Aig} → Grown environment g h → (p : Literal × Literal) (q : Bool × Bool) → HasBoth g p q → HasBoth h p q
  both_later r p q h = (has-later environment r p.0 q.0 h.0, has-later environment r p.1 q.1 h.1)

  any_means : (m : Built) (b : Bool) → Formed m.aig → Has environment m.aig m.literal b → (ps : List (Literal × Literal)) (qs : List (Bool × Bool))
      → Pairwise (HasBoth m.aig) ps qs → Means environment m.aig (b || pairs_differ qs) (any_difference m ps)
  unfolding any_difference pairs_differ
  any_means m b w h [] [] k = record { keeps = λ l _. refl; value = h.0 ∙ sym (or-false b); formed = w; inside = h.1; grows = omega arith }
  any_means m b w h [] (q ∷ qs) k = absurd k
  any_means m b w h (p ∷ ps) [] k = absurd k
  any_means m b w h (p ∷ ps) (q ∷ qs) k =
      let s = step_means m b w h p.0 p.1 q.0 q.1 k.0.0 k.0.1 in
      let n = or_mismatch m.literal (xor m.aig p.0 p.1) in
      let r = any_means n (b || xor_bool q.0 q.1) s.formed (has environment s) ps qs
      (pairs_weaken (HasBoth m.aig) (HasBoth n.aig) (both_later (grown environment s)) ps qs k.1) in
      after environment s (meaning environment (or_assoc b (xor_bool q.0 q.1) (pairs_differ qs)) r)

  -- the mismatch literal of pairs is true exactly where a pair's values differ
  pub compare_means : (g : Aig) → Formed g → (ps : List (Literal × Literal)) (qs : List (Bool × Bool)) → Pairwise (HasBoth g) ps qs
      → Means environment g (pairs_differ qs) (compare_pairs g ps)
  unfolding compare_pairs
  compare_means g w ps qs k = any_means (record { aig = g; literal = FALSE }) false w (has-false environment g w) ps qs k

  -- pairs of literals have the pairs of bits
  pub zip_both : (g : Aig) (ls : List Literal) (xs : List Bool) (ks : List Literal) (ys : List Bool)
      → Pairwise (Has environment g) ls xs → Pairwise (Has environment g) ks ys → Pairwise (HasBoth g) (zip ls ks) (zip xs ys)
  unfolding zip
  zip_both g [] [] ks ys p q = tt
  zip_both g [] (x ∷ xs) ks ys p q = absurd p
  zip_both g (l ∷ ls) [] ks ys p q = absurd p
  zip_both g (l ∷ ls) (x ∷ xs) [] [] p q = tt
  zip_both g (l ∷ ls) (x ∷ xs) [] (y ∷ ys) p q = absurd q
  zip_both g (l ∷ ls) (x ∷ xs) (k ∷ ks) [] p q = absurd q
  zip_both g (l ∷ ls) (x ∷ xs) (k ∷ ks) (y ∷ ys) p q = ((p.0, q.0), zip_both g ls xs ks ys p.1 q.1)

  -- what a name finds among literals and among their values
  abbrev pub Alike : Aig → Option Literal → Option Bool → Type 0
  Alike g none none = Unit {0}
  Alike g none (some x) = ⊥
  Alike g (some l) none = ⊥
  Alike g (some l) (some x) = Has environment g l x

  alike-cond : (g : Aig) (t : Bool) (l : Literal) (x : Bool) (o : Option Literal) (u : Option Bool) → Has environment g l x → Alike g o u → Alike g (cond t (some l) o) (cond t (some x) u)
  alike-cond g true l x o u h k = h
  alike-cond g false l x o u h k = k

  -- the literal of a name has the bit of that name
  pub found_alike : (g : Aig) (n : Name) (ss : List StateBit) (ls : List Literal) (xs : List Bool) → Pairwise (Has environment g) ls xs
      → Alike g (state_literal n ss ls) (state_literal n ss xs)
  unfolding state_literal
  found_alike g n [] ls xs h = tt
  found_alike g n (s ∷ ss) [] [] h = tt
  found_alike g n (s ∷ ss) [] (x ∷ xs) h = absurd h
  found_alike g n (s ∷ ss) (l ∷ ls) [] h = absurd h
  found_alike g n (s ∷ ss) (l ∷ ls) (x ∷ xs) h = alike-cond g (same_name n s.name) l x _ _ h.0 (found_alike g n ss ls xs h.1)

  cons_both : (g : Aig) (l : Literal) (x : Bool) (o : Option Literal) (u : Option Bool) (ps : List (Literal × Literal)) (qs : List (Bool × Bool))
      → Has environment g l x → Alike g o u → Pairwise (HasBoth g) ps qs → Pairwise (HasBoth g) (cons_pair l o ps) (cons_pair x u qs)
  unfolding cons_pair
  cons_both g l x none none ps qs h k r = r
  cons_both g l x none (some y) ps qs h k r = absurd k
  cons_both g l x (some y) none ps qs h k r = absurd k
  cons_both g l x (some k') (some y) ps qs h k r = ((h, k), r)

  -- so the pairs of states named alike have their pairs of bits
  pub named-both : (g : Aig) (ss : List StateBit) (ls : List Literal) (xs : List Bool) (ts : List StateBit) (ks : List Literal) (ys : List Bool)
      → Pairwise (Has environment g) ls xs → Pairwise (Has environment g) ks ys → Pairwise (HasBoth g) (named_pairs ss ls ts ks) (named_pairs ss xs ts ys)
  unfolding named_pairs
  named-both g [] ls xs ts ks ys p q = tt
  named-both g (s ∷ ss) [] [] ts ks ys p q = tt
  named-both g (s ∷ ss) [] (x ∷ xs) ts ks ys p q = absurd p
  named-both g (s ∷ ss) (l ∷ ls) [] ts ks ys p q = absurd p
  named-both g (s ∷ ss) (l ∷ ls) (x ∷ xs) ts ks ys p q =
      cons_both g l x _ _ _ _ p.0 (found_alike g s.name ts ks ys q) (named-both g ss ls xs ts ks ys p.1 q)

  -- ---- inputs

  -- new literals have these bits
  pub record NewBits (g : Aig) (v : LiteralList) (xs : List Bool) : Type 0 where
    pub since : Grown environment g v.aig
    pub literals : Pairwise (Has environment v.aig) v.literals xs

  -- new variables have the environment's bits
  pub variables_mean : {A : Type 0} (g : Aig) (v : LiteralList) (xs : List Bool) (zs : List A) → NewBits g v xs
      → NewBits g (new_variables v zs) (xs ++ bits_from environment (length v.aig) (length zs))
  unfolding new_variables with_built bits_from variable snoc
  variables_mean g v xs [] h = record { since = h.since; literals = rw (append-nil xs) h.literals }
  variables_mean g v xs (z ∷ zs) h =
      let m = variable_means environment v.aig h.since.formed in
      let u = with_built v.literals (variable v.aig) in
      let x = environment (length v.aig) in
      let e : length u.aig ≡ suc (length v.aig) = length-snoc v.aig (Variable (length v.aig)) in
      let k : NewBits g u (snoc xs x) =
      record {
        since = grown_trans environment h.since (grown environment m);
        literals =
            pairs-snoc (Has environment u.aig) v.literals xs (variable v.aig).literal x
            (list_later environment (grown environment m) v.literals xs h.literals)
            (has environment m);
      } in
      let r = variables_mean g u (snoc xs x) zs k in
      let q : snoc xs x ++ bits_from environment (length u.aig) (length zs) ≡ xs ++ (x ∷ bits_from environment (suc (length v.aig)) (length zs))
      = append_assoc xs (x ∷ []) _ ∙ rw e in
      rw (← q) r

  -- and so have the inputs of a cycle
  pub inputs_mean : (g : Aig) → Formed g → (system : TransitionSystem) → NewBits g (proof_inputs g system) (bits_from environment (length g) (length system.inputs))
  unfolding proof_inputs
  inputs_mean g w system = variables_mean g (record { aig = g; literals = [] }) [] system.inputs (record { since = grown-refl environment g w; literals = tt })
