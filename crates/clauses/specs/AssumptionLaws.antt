-- The clauses of the assumptions. Assumes nothing.
use Rattle.std.specs.Prelude.{◌≡◌, refl, true, List, [], ◌∷◌, ℕ, ◌+◌, ◌<◌, ◌≤◌, Float, get_or, length, take}
use Rattle.std.proofs.Math.Path.{sym}
use Rattle.std.proofs.Common.{◌∙◌, arith, add-one}
use Rattle.std.proofs.Math.Seq.{slice, slice-cons, slice_empty}
use Rattle.model.specs.Sat as Sat
use Rattle.model.specs.Sat.{Solver}
use Rattle.assignment.specs.ScoreLaws.{others-both}
use Rattle.assignment.specs.StateLaws.{unchanged_none, unchanged_both}
use Rattle.assignment.specs.declared.state.Trail.{Trail}
use Rattle.clauses.specs.declared.state.Store.{Store}
use Rattle.clauses.specs.declared.state.Encoding.{Encoding}
use Rattle.clauses.specs.State.{solver_of, scored, flagged, encoded_of, AddedList, Roomy, Grows, add_regions}
use Rattle.clauses.specs.EncodeLaws.{one-clause}

-- nothing grows
none_added : (m : Store) (t : Trail) (w : List ℕ) (x : List Float) (c l : ℕ) → Roomy m t w x c l → Grows m t w x c l m w x
none_added m t w x c l r = record { frame = unchanged_none add_regions w; sound = r.sound; clauses = omega arith; literals = omega arith; others = record { long = refl; same = refl }; cached = λ a c. c }

module _ (e : Encoding) (t : Trail) (w : List ℕ) (x : List Float) (l : ℕ) (r : Roomy e.store t w x 1 1) where
  -- the false literal
  pub assume_false : l ≡ 0 → Grows e.store t w x 1 1 e.store w x × ((s : Solver) → encoded_of s (record { store = e.store; inconsistent = true }) t w x ≡ Sat.add_aig_clause (encoded_of s e t w x) (l ∷ []))
  unfolding encoded_of solver_of flagged Sat.add_aig_clause Sat.clause_literals Sat.add_some Sat.add_clause Sat.sort_literals Sat.add_sorted
  assume_false z = (none_added e.store t w x 1 1 r, λ s. rw z)

  -- the true one
  pub assume_true : l ≡ 1 → Grows e.store t w x 1 1 e.store w x × ((s : Solver) → encoded_of s e t w x ≡ Sat.add_aig_clause (encoded_of s e t w x) (l ∷ []))
  unfolding Sat.add_aig_clause Sat.clause_literals Sat.add_some
  assume_true z = (none_added e.store t w x 1 1 r, λ s. rw z)

  -- a literal of a variable
  pub assume_literal : (l ≡ 0 → ⊥) → (l ≡ 1 → ⊥) → (m' : Store) (w' : List ℕ) (x' : List Float) → AddedList e.store t w x (l ∷ []) m' w' x'
      → Grows e.store t w x 1 1 m' w' x' × ((s : Solver) → encoded_of s (record { store = m'; inconsistent = e.inconsistent }) t w' x' ≡ Sat.add_aig_clause (encoded_of s e t w x) (l ∷ []))
  unfolding encoded_of solver_of scored flagged
  assume_literal n k m' w' x' a = (
    record { frame = a.frame; sound = a.sound; clauses = omega (arith, a.clauses); literals = omega (arith, a.literals); others = a.others; cached = a.cached },
    λ s. a.is (flagged s e.inconsistent) ∙ sym (one-clause (encoded_of s e t w x) l (omega arith)),
  )

-- ---- all of them

-- while they are added: those left are to be added
pub record Assuming (t : Trail) (ls : List ℕ) (count : ℕ) (e₀ : Encoding) (w₀ : List ℕ) (x₀ : List Float) (e : Encoding) (w : List ℕ) (x : List Float) (i : ℕ) : Type 0 where
  pub most : i ≤ count
  pub grown : Grows e₀.store t w₀ x₀ i i e.store w x
  pub left : (s : Solver) → Sat.add_assumptions (encoded_of s e t w x) (slice i count ls) ≡ Sat.add_assumptions (encoded_of s e₀ t w₀ x₀) (take count ls)

module _ (t : Trail) (ls : List ℕ) (count : ℕ) (e₀ : Encoding) (w₀ : List ℕ) (x₀ : List Float) (r : Roomy e₀.store t w₀ x₀ count count) (b : count ≤ length ls) where
  module _ (e : Encoding) (w : List ℕ) (x : List Float) (i : ℕ) (a : Assuming t ls count e₀ w₀ x₀ e w x i) where
    pub assuming_next : i < count → (e' : Encoding) (w' : List ℕ) (x' : List Float) → Grows e.store t w x 1 1 e'.store w' x'
        → ((s : Solver) → encoded_of s e' t w' x' ≡ Sat.add_aig_clause (encoded_of s e t w x) (get_or ls i 0 ∷ [])) → Assuming t ls count e₀ w₀ x₀ e' w' x' (i + 1)
    unfolding Sat.add_assumptions
    assuming_next h e' w' x' g k = record {
      most = omega arith;
      grown = record {
        frame = unchanged_both add_regions a.grown.frame g.frame;
        sound = g.sound;
        clauses = omega (arith, a.grown.clauses, g.clauses);
        literals = omega (arith, a.grown.literals, g.literals);
        others = others-both _ a.grown.others g.others;
        cached = λ y c. g.cached y (a.grown.cached y c);
      };
      left = λ s. rw (k s, add-one) (rw (slice-cons i count ls 0 h b) at (a.left s));
    }

    pub assuming_done : count ≤ i → Grows e₀.store t w₀ x₀ count count e.store w x × ((s : Solver) → encoded_of s e t w x ≡ Sat.add_assumptions (encoded_of s e₀ t w₀ x₀) (take count ls))
    unfolding Sat.add_assumptions
    assuming_done h =
        let z : i ≡ count = omega (arith, a.most) in
        (rw z at a.grown, λ s. rw (z, slice_empty count ls) at (a.left s))
