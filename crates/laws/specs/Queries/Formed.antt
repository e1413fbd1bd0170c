-- The graphs of the queries are in order, their variables have their places for names, and their assumptions are literals of them. Assumes nothing.
use Prim.Native.Nat.{ℕ, zero, suc, ◌+◌, ◌<◌}
use Rattle.std.specs.Prelude.{Bool}
use Rattle.std.proofs.Math.Bool.{true, false}
use mathlib.Core.List.{List, [], ◌∷◌}
use Rattle.std.proofs.Math.ListN.{length}
use Rattle.model.specs.Literal.{Literal, node}
use Rattle.model.specs.Aig.{Aig, new}
use Rattle.model.specs.Equivalence.{Problem, LiteralList, new_variables, Query, Base, Induction, base_start, base_query, counterexample_cycle, counterexample_cycles, base_counterexample, named_state_cycle, named_state_cycles, base_preserves_named_state, free_product_state, induction_cycle, induction_cycles, induction_query, induction_closes}
use Rattle.laws.specs.Queries.Cycles.{BaseMeans, InductionMeans, base-cycle, named-cycle, start_means, induction_step, gate_mean, new-formed, query_1_means, query_2_means}
use Rattle.facts.specs.Lists.{All}
use Rattle.laws.specs.Pairwise.{Pairwise}
use Rattle.laws.specs.Graph.Operations.{Formed}
use Rattle.laws.specs.Queries.Frame.{Has, grown-refl}
use Rattle.laws.specs.Queries.Bits.{bits_from, gate_bits, variables-length, variables_mean}
use Rattle.laws.specs.Queries.Variables.{Named, query_1_named, query_2_named, query_3_4_named}

-- a query that a solver may be asked
pub record Askable (q : Query) : Type 0 where
  pub formed : Formed q.aig
  pub named : Named q.aig
  pub inside : All (λ (l : Literal). node l < length q.aig) q.assumptions

-- any environment serves: none is asked for its values
abbrev none_true : ℕ → Bool
none_true n = false

literals-inside : (e : ℕ → Bool) (g : Aig) (ls : List Literal) (xs : List Bool) → Pairwise (Has e g) ls xs → All (λ (l : Literal). node l < length g) ls
literals-inside e g [] [] h = tt
literals-inside e g [] (x ∷ xs) h = absurd h
literals-inside e g (l ∷ ls) [] h = absurd h
literals-inside e g (l ∷ ls) (x ∷ xs) h = (h.0.1, literals-inside e g ls xs h.1)

module _ (p : Problem) where
  base-formed : (n : ℕ) (b : Base) (xs ys : List Bool) (m : Bool) → BaseMeans none_true p b xs ys m → Formed (counterexample_cycles p n b).aig
  unfolding counterexample_cycles
  base-formed zero b xs ys m h = h.formed
  base-formed (suc n) b xs ys m h = base-formed n (counterexample_cycle p b) _ _ _ (base-cycle none_true p b xs ys m h)

  -- query 1
  pub query_1_askable : (depth : ℕ) → Askable (base_counterexample p depth)
  unfolding base_counterexample base_query
  query_1_askable depth =
      record { formed = base-formed (suc depth) (base_start p) _ _ _ (start_means none_true p); named = query_1_named p depth; inside = ((query_1_means none_true p depth).1, tt) }

  named-formed : (n : ℕ) (b : Base) (xs ys : List Bool) (m : Bool) → BaseMeans none_true p b xs ys m → Formed (named_state_cycles p n b).aig
  unfolding named_state_cycles
  named-formed zero b xs ys m h = h.formed
  named-formed (suc n) b xs ys m h = named-formed n (named_state_cycle p b) _ _ _ (named-cycle none_true p b xs ys m h)

  -- query 2
  pub query_2_askable : (depth : ℕ) → Askable (base_preserves_named_state p depth)
  unfolding base_preserves_named_state base_query
  query_2_askable depth =
      record { formed = named-formed (suc depth) (base_start p) _ _ _ (start_means none_true p); named = query_2_named p depth; inside = ((query_2_means none_true p depth).1, tt) }

  free_means : (include : Bool)
      → (let xs = bits_from none_true 1 (length p.gold.states) in
      InductionMeans none_true p (free_product_state p include) xs (gate_bits none_true include p.gold.states xs (1 + length p.gold.states) p.gate.states) [])
  unfolding free_product_state new
  free_means include =
      let v : LiteralList = record { aig = new; literals = [] } in
      let gold = new_variables v p.gold.states in
      let xs = bits_from none_true 1 (length p.gold.states) in
      let a = variables_mean none_true new v [] p.gold.states (record { since = grown-refl none_true new (new-formed none_true p); literals = tt }) in
      let n = variables-length v p.gold.states in
      let u : LiteralList = record { aig = gold.aig; literals = [] } in
      let s = gate_mean none_true p include new p.gold.states gold.literals xs u [] (1 + length p.gold.states) p.gate.states n
      (record { bits = record { since = a.since; literals = tt }; gold = a.literals }) in
      record { formed = s.bits.since.formed; gold = s.gold; gate = s.bits.literals; assumptions = tt }

  induction_askable : (include : Bool) (n : ℕ) (b : Induction) (xs ys as_bits : List Bool) → InductionMeans none_true p b xs ys as_bits
      → Formed (induction_cycles p include n b).aig × All (λ (l : Literal). node l < length (induction_cycles p include n b).aig) (induction_cycles p include n b).assumptions
  unfolding induction_cycles
  induction_askable include zero b xs ys as_bits h =
      let r = induction_step none_true p include true b xs ys as_bits h in
      (r.formed, literals-inside none_true _ (induction_cycle p include true b).assumptions _ r.assumptions)
  induction_askable include (suc n) b xs ys as_bits h = induction_askable include n (induction_cycle p include false b) _ _ _ (induction_step none_true p include false b xs ys as_bits h)

  -- queries 3 and 4
  pub query_3_4_askable : (include : Bool) (depth : ℕ) → Askable (induction_closes p include depth)
  unfolding induction_closes induction_query
  query_3_4_askable include depth =
      let r = induction_askable include depth (free_product_state p include) _ _ _ (free_means include) in
      record { formed = r.0; named = query_3_4_named p include depth; inside = r.1 }
