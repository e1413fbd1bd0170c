-- Laws of clauses that are read: their literals in the pool, and the search for a literal to watch instead. Assumes nothing.
use Rattle.std.specs.Prelude.{◌≡◌, refl, Bool, List, ◌∷◌, eqb, take, drop}
use Rattle.std.proofs.Math.Path.{ap, sym}
use Rattle.std.proofs.Common.{◌∙◌, eq-eqb, ne_eqb, eqb-true, length-take, drop_of_length-le, get_or-take, get_or-drop, drop-cons}
use Rattle.std.proofs.Math.Bool.{true, false}
use Rattle.std.proofs.Math.Option.{none, some}
use Prim.Native.Nat.{ℕ, suc, ◌+◌, ◌-◌, ◌*◌, ◌<◌, ◌≤◌}
use native.Mathlib.Omega.{arith}
use Rattle.std.proofs.lemmas.Bool.{eqb-false}
use Rattle.std.proofs.Math.ListN.{get_or, length, get_or-eq_default}
use Rattle.std.proofs.Math.Seq.{slice, length-slice}
use Rattle.words.specs.Layout.{LENT, POOL, CLAUSE-STARTS, WATCHED, LITERALS}
use Rattle.words.specs.Region.{region, length-region}
use Rattle.model.specs.Sat as Sat
use Rattle.model.specs.Sat.{Assignment}
use Rattle.laws.specs.Search.State.{Apart}
use Rattle.assignment.specs.State.{assignment_of}
use Rattle.assignment.specs.declared.state.Trail.{Trail}
use Rattle.clauses.specs.declared.state.Clause.{Clause}
use Rattle.clauses.specs.Clauses.{clause_at, literals_of, place_in, Stands, stands_at, place_at}
use Rattle.clauses.specs.State.{span_of, clause_of, can_watch, Watchable}

-- ---- a literal at a place

pub slice_in : (s e p : ℕ) (xs : List ℕ) → s + p < e → get_or (slice s e xs) p 0 ≡ get_or xs (s + p) 0
slice_in s e p xs h = get_or-drop s (take e xs) p 0 ∙ get_or-take e xs (s + p) 0 h

pub slice_out : (s e p : ℕ) (xs : List ℕ) → e ≤ s + p → get_or (slice s e xs) p 0 ≡ 0
slice_out s e p xs h = get_or-drop s (take e xs) p 0 ∙ get_or-eq_default (take e xs) 0 (simp length-take (omega arith))

module _ (c : Clause) (w : List ℕ) where
  -- a literal of the pool, by its place in the clause
  pub span_in : (at : ℕ) → c.start ≤ at → at < c.end → get_or (span_of c w) (at - c.start) 0 ≡ get_or (region LITERALS w) at 0
  unfolding span_of
  span_in at h k =
      let e : c.start + (at - c.start) ≡ at = omega arith in
      slice_in c.start c.end (at - c.start) (region LITERALS w) (omega arith) ∙ ap (λ (i : ℕ). get_or (region LITERALS w) i 0) e

  -- how many literals a clause has
  pub length_span : LENT ≤ length w → c.end ≤ POOL → length (span_of c w) ≡ c.end - c.start
  unfolding span_of
  length_span h k = length-slice c.start c.end (region LITERALS w) (omega (arith, length-region LITERALS w (omega arith)))

  -- a clause that was read is the one that the words hold
  pub read_span : (i : ℕ) → c.start ≡ get_or (region CLAUSE-STARTS w) i 0 → c.end ≡ get_or (region CLAUSE-STARTS w) (i + 1) 0 → span_of c w ≡ literals_of w i
  unfolding span_of literals_of
  read_span i a b = rw (a, b)

  pub read-clause : (i : ℕ) → span_of c w ≡ literals_of w i → c.first.0 ≡ get_or (region WATCHED w) (i * 2) 0 → c.second.0 ≡ get_or (region WATCHED w) (i * 2 + 1) 0 → clause_of c w ≡ clause_at w i
  unfolding clause_of clause_at
  read-clause i e a b = rw (e, a, b)

-- ---- whether a literal can be watched instead

-- among distinct literals, the place of one that stands there is told by the literal
same_place : (ls : List ℕ) (f i : ℕ) → Apart ls → Stands f ls → i < length ls → eqb i (place_in f ls) ≡ eqb (get_or ls i 0) f
same_place ls f i a s h = go (eqb (get_or ls i 0) f) refl
  where
    go : (b : Bool) → eqb (get_or ls i 0) f ≡ b → eqb i (place_in f ls) ≡ b
    go true e = eq-eqb i (place_in f ls) (sym (place_at ls a i h) ∙ ap (λ (l : ℕ). place_in l ls) (eqb-true (get_or ls i 0) f e))
    go false e = ne_eqb i (place_in f ls) (λ z. eqb-false (get_or ls i 0) f e (ap (λ (k : ℕ). get_or ls k 0) z ∙ s))

-- ---- the search for a place

here : (t : Assignment) (c : Sat.Clause) (i l : ℕ) (ls : List ℕ) → Sat.can_replace t c i l ≡ true → Sat.replacement_from t c i (l ∷ ls) ≡ some i
unfolding Sat.replacement_from
here t c i l ls e = rw (e, Sat.replacement_from)

further : (t : Assignment) (c : Sat.Clause) (i l : ℕ) (ls : List ℕ) → Sat.can_replace t c i l ≡ false → Sat.replacement_from t c i (l ∷ ls) ≡ Sat.replacement_from t c (suc i) ls
unfolding Sat.replacement_from
further t c i l ls e = rw (e, Sat.replacement_from)

module _ (t : Trail) (w : List ℕ) (c : Clause) (k : Watchable t w c) where
  -- whether the definition takes a place is told by its literal
  can_replace_lem : (i : ℕ) → i < length (span_of c w) → Sat.can_replace (assignment_of t w) (clause_of c w) i (get_or (span_of c w) i 0) ≡ can_watch (assignment_of t w) c (get_or (span_of c w) i 0)
  unfolding Sat.can_replace can_watch clause_of
  can_replace_lem i h = rw (same_place (span_of c w) c.first.0 i k.apart k.first h, same_place (span_of c w) c.second.0 i k.apart k.second h)

  -- the definition's answer from a place of the pool on
  unfoldable pub Left : ℕ → Type 0
  Left at = Sat.replacement_from (assignment_of t w) (clause_of c w) (at - c.start) (drop (at - c.start) (span_of c w)) ≡ Sat.replacement (assignment_of t w) (clause_of c w)

  pub spare_start : Left c.start
  unfolding Left Sat.replacement clause_of
  spare_start = let e : c.start - c.start ≡ 0 = omega arith in rw e

  module _ (at l : ℕ) (low : c.start ≤ at) (high : at < c.end) (e : l ≡ get_or (region LITERALS w) at 0) where
    is-literal : get_or (span_of c w) (at - c.start) 0 ≡ l
    is-literal = span_in c w at low high ∙ sym e

    inside : at - c.start < length (span_of c w)
    inside = omega (arith, length_span c w k.ready.words k.inside)

    pub spare_range : l < t.variables * 2
    spare_range = rw (← is-literal) (k.range (at - c.start))

    pub spare_stands : Stands l (span_of c w)
    spare_stands = rw is-literal at (stands_at (span_of c w) (at - c.start) inside)

    taken : (b : Bool) → b ≡ can_watch (assignment_of t w) c l → Sat.can_replace (assignment_of t w) (clause_of c w) (at - c.start) (get_or (span_of c w) (at - c.start) 0) ≡ b
    taken b g = can_replace_lem (at - c.start) inside ∙ rw is-literal (sym g)

    pub spare_found : true ≡ can_watch (assignment_of t w) c l → Left at → some (place_in l (span_of c w)) ≡ Sat.replacement (assignment_of t w) (clause_of c w)
    unfolding Left
    spare_found g z =
        ap (λ (i : ℕ). some i) (ap (λ (x : ℕ). place_in x (span_of c w)) (sym is-literal) ∙ place_at (span_of c w) k.apart (at - c.start) inside)
        ∙ sym (rw (drop-cons (span_of c w) (at - c.start) 0 inside) (here (assignment_of t w) (clause_of c w) (at - c.start) _ _ (taken true g))) ∙ z

    pub spare_next : false ≡ can_watch (assignment_of t w) c l → Left at → Left (at + 1)
    unfolding Left
    spare_next g z =
        let n : at + 1 - c.start ≡ suc (at - c.start) = omega arith in
        rw n (sym (rw (drop-cons (span_of c w) (at - c.start) 0 inside) (further (assignment_of t w) (clause_of c w) (at - c.start) _ _ (taken false g))) ∙ z)

  pub spare_none : (at : ℕ) → c.end ≤ at → Left at → none ≡ Sat.replacement (assignment_of t w) (clause_of c w)
  unfolding Left Sat.replacement_from
  spare_none at h z =
      let n : length (span_of c w) ≤ at - c.start = omega (arith, length_span c w k.ready.words k.inside) in
      rw (drop_of_length-le (span_of c w) n) at z
