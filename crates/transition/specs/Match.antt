-- The matches of an order's names in another order, and that they are the matches of the states. Assumes nothing.
use Rattle.std.specs.Prelude.{◌≡◌, refl, Bool, true, false, cond, List, [], ◌∷◌, map, length, get_or, drop}
use Rattle.std.proofs.Math.Path.{ap, sym}
use Rattle.std.proofs.Common.{◌∙◌, arith, add-one, drop-cons}
use Rattle.std.proofs.Math.Option.{Option, none, some}
use Prim.Native.Nat.{ℕ, suc, ◌+◌, ◌≤◌, ◌<◌}
use Rattle.std.proofs.Math.ListN.{drop_of_length-le}
use Rattle.model.specs.Lists.{position, next_place}
use Rattle.model.specs.Names.{Name, Place, same_name}
use Rattle.model.specs.Netlist.{registers_by_name}
use Rattle.model.specs.Transition.{StateBit, from_netlist}
use Rattle.laws.specs.Pairwise.{Pairwise, pairs-map}
use Rattle.laws.specs.Lowering.Run.{states-named}
use Rattle.struo_ir.specs.Decoded.{name_at, decoded}
use Rattle.struo_ir.specs.Orders.{no_entry, entry_name, place_of, held, places}
use Rattle.struo_ir.specs.Orders as Orders
use Rattle.name_order.specs.PlaceLaws.{length-held, held_at}
use Rattle.struo_ir.specs.Designs.{Sided}
use Rattle.struo_ir.specs.declared.design.Design.{Design}
use Rattle.struo_ir.specs.declared.design.Entry.{Entry}
use Rattle.struo_ir.specs.declared.design.Order.{Order}
use Rattle.lowering.specs.Firsts.{firsts}
use Rattle.transition.specs.Gather.{Gathered, gathered_list, gathered_below}
use Rattle.transition.specs.Namesakes.{match_of, match_in, namesakes}
use Rattle.transition.specs.Named.{MatchesMade}

-- one more than the place of the first element that passes, counted from k; 0 for none
unfoldable pub first_from : {A : Type 0} → (A → Bool) → ℕ → List A → ℕ
first_from p k [] = 0
first_from p k (x ∷ xs) = let rest = first_from p (suc k) xs in cond (p x) (suc k) rest

unfoldable shifted : ℕ → Option ℕ → ℕ
shifted k none = 0
shifted k (some i) = suc (k + i)

first-shifted : {A : Type 0} (p : A → Bool) (k : ℕ) (xs : List A) → first_from p k xs ≡ shifted k (position p xs)
unfolding first_from position next_place shifted
first-shifted p k [] = refl
first-shifted p k (x ∷ xs) = go (p x) (position p xs) (first-shifted p (suc k) xs)
  where
    go : (t : Bool) (o : Option ℕ) → first_from p (suc k) xs ≡ shifted (suc k) o → cond t (suc k) (first_from p (suc k) xs) ≡ shifted k (cond t (some 0) (next_place o))
    go true o e = omega arith
    go false none e = e
    go false (some i) e = e ∙ omega arith

-- from 0 on it is the match of the place
pub first_match : {A : Type 0} (p : A → Bool) (xs : List A) → first_from p 0 xs ≡ match_of (position p xs)
unfolding shifted match_of
first_match p xs = first-shifted p 0 xs ∙ go (position p xs)
  where
    go : (o : Option ℕ) → shifted 0 o ≡ match_of o
    go none = refl
    go (some i) = omega arith

-- the entry has the name x in the record t
abbrev pub named : Name → List ℕ → Entry → Bool
named x t e = same_name x (entry_name t e)

-- the match of the name at a place of s among an order's names in t
unfoldable pub match_at : List ℕ → ℕ → List ℕ → Order → ℕ
match_at s place t o = first_from (named (name_at s place) t) 0 (held o)

module _ (p : Entry → Bool) (es : List Entry) (k : ℕ) where
  -- found here
  pub first-here : k < length es → p (get_or es k no_entry) ≡ true → first_from p k (drop k es) ≡ k + 1
  unfolding first_from
  first-here h e = rw (drop-cons es k no_entry h, e, add-one)

  -- not here
  pub first-later : k < length es → p (get_or es k no_entry) ≡ false → first_from p k (drop k es) ≡ first_from p (k + 1) (drop (k + 1) es)
  unfolding first_from
  first-later h e = rw (drop-cons es k no_entry h, e, add-one)

  -- not at all
  pub first-none : length es ≤ k → first_from p k (drop k es) ≡ 0
  unfolding first_from
  first-none h = rw drop_of_length-le

-- the test of an order's entry at a rank
pub match_test : (s : List ℕ) (place : ℕ) (t : List ℕ) (o : Order) (k i j : ℕ) (r : Bool) → k < o.count → i ≡ place → j ≡ (get_or o.entries k no_entry).name → r ≡ same_name (name_at s i) (name_at t j)
    → named (name_at s place) t (get_or (held o) k no_entry) ≡ r
unfolding entry_name
match_test s place t o k i j r h p q e = rw (held_at o k h, ← p, ← q) (sym e)

first_below : {A : Type 0} (p : A → Bool) (k : ℕ) (xs : List A) → first_from p k xs < k + length xs + 1
unfolding first_from
first_below p k [] = omega arith
first_below p k (x ∷ xs) = go (p x) (first_below p (suc k) xs)
  where
    go : (t : Bool) → first_from p (suc k) xs < suc k + length xs + 1 → cond t (suc k) (first_from p (suc k) xs) < k + suc (length xs) + 1
    go true h = omega arith
    go false h = omega arith

-- elements with the same names are found at the same places
same_first : {A B : Type 0} (f : A → Name) (g : B → Name) (x : Name) (xs : List A) (ys : List B) (k : ℕ) → Pairwise (λ (a : A) (b : B). f a ≡ g b) xs ys
    → first_from (λ (a : A). same_name x (f a)) k xs ≡ first_from (λ (b : B). same_name x (g b)) k ys
unfolding first_from
same_first f g x [] [] k h = refl
same_first f g x [] (b ∷ ys) k h = absurd h
same_first f g x (a ∷ xs) [] k h = absurd h
same_first f g x (a ∷ xs) (b ∷ ys) k h = rw (h.0, same_first f g x xs ys (suc k) h.1)

first_entries : (x : Name) (t : List ℕ) (es : List Entry) (k : ℕ) → first_from (λ (p : Place). same_name x p.name) k (map (place_of t) es) ≡ first_from (named x t) k es
unfolding first_from place_of entry_name
first_entries x t [] k = refl
first_entries x t (e ∷ es) k = rw (first_entries x t es (suc k))

module _ (s : List ℕ) (a : Design) (t : List ℕ) (b : Design) (ms : List ℕ) (fa : Orders.Formed a.registers) (fb : Orders.Formed b.registers)
    (g : Gathered (λ (e : Entry). match_at s e.name t b.registers) a.registers.entries a.registers.count ms) where
  matches_are : Sided s a → Sided t b → firsts a.registers.count ms ≡ namesakes (from_netlist (decoded s a.netlist)).states (from_netlist (decoded t b.netlist)).states
  unfolding place_of match_at namesakes match_in places
  matches_are v w =
      let F : Place → ℕ = λ x. first_from (named x.name t) 0 (held b.registers) in
      let ts = (from_netlist (decoded t b.netlist)).states in
      let one : (x : Name) → match_of (position (λ (y : StateBit). same_name x y.name) ts) ≡ first_from (named x t) 0 (held b.registers) =
      λ x. sym (first_match (λ (y : StateBit). same_name x y.name) ts)
      ∙ same_first (λ (y : StateBit). y.name) (λ (z : Place). z.name) x ts (registers_by_name (decoded t b.netlist)) 0 (states-named (decoded t b.netlist) w.valid.valid)
      ∙ ap (first_from (λ (z : Place). same_name x z.name) 0) (sym w.ordered.registers_are) ∙ first_entries x t (held b.registers) 0 in
      gathered_list F s a.registers ms fa g ∙ ap (map F) v.ordered.registers_are
      ∙ sym
      (pairs-map (λ (y : StateBit) (z : Place). y.name ≡ z.name) (match_in ts) F (λ y z e. one y.name ∙ ap (λ (x : Name). first_from (named x t) 0 (held b.registers)) e)
      (from_netlist (decoded s a.netlist)).states (registers_by_name (decoded s a.netlist)) (states-named (decoded s a.netlist) v.valid.valid))

  -- the matches of all entries
  pub matches-made : MatchesMade s a t b ms
  unfolding match_at
  matches-made =
      record { below = gathered_below _ _ (b.registers.count + 1) a.registers.count ms (λ e. omega (arith, first_below (named (name_at s e.name) t) 0 (held b.registers), length-held b.registers fb)) g; is = matches_are }
