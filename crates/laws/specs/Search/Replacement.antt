-- A watched pair of literals when one of its literals becomes false: kept, moved to a replacement, or unaffected. Assumes nothing.
use Rattle.std.specs.Prelude.{ℕ, zero, suc, ◌+◌, ◌<◌, ◌≡◌, refl, ◌≢◌, ◌⊎◌, Bool, true, false, cond, List, [], ◌∷◌, length, get_or, eqb}
use Rattle.std.proofs.Common.{arith, add-zero, add-suc, suc-add, subst, ◌∙◌, inl, inr, eqb-true}
use Rattle.std.proofs.Math.Path.{sym, ap}
use Rattle.std.proofs.Math.Bool.{false≢true}
use Rattle.std.proofs.Math.Option.{Option, none, some}
use Rattle.std.proofs.lemmas.Bool.{eqb-false}
use Rattle.model.specs.Literal.{Literal, negate}
use Rattle.laws.specs.Search.Trail.{entry, TrailInv}
use Rattle.laws.specs.Search.Values.{negate-false, clash}
use Rattle.laws.specs.Search.Watches.{TrueBy, Pair, safe_more}
use Rattle.model.specs.Sat.{Value, False, Unassigned, True, Clause, Assignment, value}
use Rattle.model.specs.Sat.{Slot, slot0, slot1, neither, watched0, watched1, false_slot, not_false, can_replace, replacement_from}

-- ---- one pair

module _ (t : Assignment) (p : ℕ) (f : Literal) (here : f ≡ negate (entry t p)) (k l : Literal) (w : Pair t p k l) where
  -- the other watched literal is true
  pub extend : k ≡ f → k ≢ l → TrueBy t p l → Pair t (suc p) k l
  extend e d tb =
      record {
        safe0 = safe_more t p f k l here w.safe0 (λ _. tb);
        safe1 = safe_more t p f l k here w.safe1 (λ q. absurd (d (e ∙ sym q)));
      }

  -- neither watched literal is f
  pub unaffected : k ≢ f → l ≢ f → Pair t (suc p) k l
  unaffected a b =
      record {
        safe0 = safe_more t p f k l here w.safe0 (λ q. absurd (a q));
        safe1 = safe_more t p f l k here w.safe1 (λ q. absurd (b q));
      }

  -- the watch moved to a literal that is not false
  pub replaced : (n : ℕ) → TrailInv n t → p < length t.trail → k ≡ f → k ≢ l → (m : Literal) → not_false (value t m) ≡ true → Pair t (suc p) m l
  unfolding not_false
  replaced n inv hp e d m nf =
      record {
        safe0 =
            λ q lt z.
            absurd
            (let v : value t m ≡ False = ap (value t) z ∙ negate-false t (entry t q) (inv.true_at q (omega arith)) in
            false≢true (rw v at nf));
        safe1 =
            safe_more t p f l m here
            (λ q lt z.
            let o = w.safe1 q lt z in
            absurd
            (clash (value t (entry t o.0)) (inv.true_at o.0 o.1)
            (ap (value t) (o.2 ∙ e ∙ here) ∙ negate-false t (entry t p) (inv.true_at p hp))))
            (λ q. absurd (d (e ∙ sym q)));
      }

-- ---- the slot

-- the slot's literal is f
abbrev pub Faces : Literal → Clause → Slot → Type 0
Faces f c slot0 = watched0 c ≡ f
Faces f c slot1 = watched1 c ≡ f
Faces f c neither = (watched0 c ≢ f) × (watched1 c ≢ f)

-- the slot found faces f
pub slot_faces : (f : Literal) (c : Clause) → Faces f c (false_slot f c)
unfolding false_slot
slot_faces f c = go (eqb (watched0 c) f) (eqb (watched1 c) f) refl refl
  where
    go : (a b : Bool) → eqb (watched0 c) f ≡ a → eqb (watched1 c) f ≡ b → Faces f c (cond (eqb (watched0 c) f) slot0 (cond (eqb (watched1 c) f) slot1 neither))
    go true b e q = rw e (eqb-true (watched0 c) f e)
    go false true e q = rw (e, q) (eqb-true (watched1 c) f q)
    go false false e q = rw (e, q) (eqb-false (watched0 c) f e, eqb-false (watched1 c) f q)

-- the places of a replacement
pub record Replaces (t : Assignment) (c : Clause) (i : ℕ) (l : Literal) : Type 0 where
  pub not0 : i ≢ c.watched.0
  pub not1 : i ≢ c.watched.1
  pub free : not_false (value t l) ≡ true

can_replaces : (t : Assignment) (c : Clause) (i : ℕ) (l : Literal) → can_replace t c i l ≡ true → Replaces t c i l
unfolding can_replace
can_replaces t c i l e = go (eqb i c.watched.0) (eqb i c.watched.1) refl refl
  where
    go : (a b : Bool) → eqb i c.watched.0 ≡ a → eqb i c.watched.1 ≡ b → Replaces t c i l
    go true b p q = absurd (false≢true (rw p at e))
    go false true p q = absurd (false≢true (rw (p, q) at e))
    go false false p q = record { not0 = eqb-false i c.watched.0 p; not1 = eqb-false i c.watched.1 q; free = rw (p, q) at e }

-- a place that is watched, or whose literal is false
abbrev pub Taken : Assignment → Clause → ℕ → Literal → Type 0
Taken t c i l = (i ≡ c.watched.0) ⊎ ((i ≡ c.watched.1) ⊎ (value t l ≡ False))

not_replaces : (t : Assignment) (c : Clause) (i : ℕ) (l : Literal) → can_replace t c i l ≡ false → Taken t c i l
unfolding can_replace
not_replaces t c i l e = go (eqb i c.watched.0) (eqb i c.watched.1) refl refl
  where
    value-false : (v : Value) → not_false v ≡ false → v ≡ False
    value-false False q = refl
    value-false Unassigned q = absurd (false≢true (sym (unfold not_false in q)))
    value-false True q = absurd (false≢true (sym (unfold not_false in q)))

    go : (a b : Bool) → eqb i c.watched.0 ≡ a → eqb i c.watched.1 ≡ b → Taken t c i l
    go true b p q = inl (eqb-true i c.watched.0 p)
    go false true p q = inr (inl (eqb-true i c.watched.1 q))
    go false false p q = inr (inr (value-false (value t l) (rw (p, q) at e)))

-- what `replacement_from` may answer
abbrev pub Found : Assignment → Clause → ℕ → List Literal → Option ℕ → Type 0
Found t c k ls none = (j : ℕ) → j < length ls → Taken t c (k + j) (get_or ls j 0)
Found t c k ls (some i) = (j : ℕ) × (j < length ls) × (i ≡ k + j) × Replaces t c i (get_or ls j 0)

-- what the walk over the places finds
pub found_from : (t : Assignment) (c : Clause) (k : ℕ) (ls : List Literal) → Found t c k ls (replacement_from t c k ls)
unfolding replacement_from
found_from t c k [] = λ j h. absurd (omega arith)
found_from t c k (l ∷ ls) = go (can_replace t c k l) refl (found_from t c (suc k) ls)
  where
    cons : Taken t c k l → ((j : ℕ) → j < length ls → Taken t c (suc k + j) (get_or ls j 0)) → (j : ℕ) → j < length (l ∷ ls) → Taken t c (k + j) (get_or (l ∷ ls) j 0)
    cons a f zero h = rw add-zero a
    cons a f (suc j) h = subst (λ i. Taken t c i (get_or ls j 0)) (suc-add k j ∙ sym (add-suc k j)) (f j (omega arith))

    next : Taken t c k l → (o : Option ℕ) → Found t c (suc k) ls o → Found t c k (l ∷ ls) o
    next a none h = cons a h
    next a (some i) h = (suc h.0, omega (arith, h.1), omega (arith, h.2), h.3)

    go : (b : Bool) → can_replace t c k l ≡ b → Found t c (suc k) ls (replacement_from t c (suc k) ls) → Found t c k (l ∷ ls) (replacement_from t c k (l ∷ ls))
    go true e h = rw (e, replacement_from) (0, omega arith, omega arith, can_replaces t c k l e)
    go false e h = rw (e, replacement_from) (next (not_replaces t c k l e) (replacement_from t c (suc k) ls) h)
