-- Arrays that are read by the entries of an order, and the lists that they hold. Assumes nothing.
use Rattle.std.specs.Prelude.{◌≡◌, refl, List, [], ◌∷◌, map, ℕ, zero, suc, ◌≤◌, ◌<◌, length, get_or, take}
use Rattle.std.proofs.Common.{ap, ap₂, sym, ◌∙◌, arith, take-suc, get_or-take, length-take}
use Rattle.model.specs.Names.{Place}
use Rattle.model.specs.Lists.{snoc}
use Rattle.struo_ir.specs.Orders.{no_entry, place_of, held, places}
use Rattle.struo_ir.specs.Orders as Orders
use Rattle.struo_ir.specs.declared.design.Entry.{Entry}
use Rattle.struo_ir.specs.declared.design.Order.{Order}
use Rattle.lowering.specs.Firsts.{firsts, Below, map_snoc}

-- the first n elements of xs are what f says of the first n entries
pub record Gathered (f : Entry → ℕ) (es : List Entry) (n : ℕ) (xs : List ℕ) : Type 0 where
  pub at : (i : ℕ) → i < n → get_or xs i 0 ≡ f (get_or es i no_entry)

-- what a function says of an entry's number
abbrev pub by_number : (ℕ → ℕ) → Entry → ℕ
by_number g e = g e.number

module _ (f : Entry → ℕ) (es : List Entry) where
  -- by the entries taken
  pub gathered_taken : (n : ℕ) (xs : List ℕ) → n ≤ length es → ((i : ℕ) → i < length (take n es) → get_or xs i 0 ≡ f (get_or (take n es) i no_entry)) → Gathered f es n xs
  gathered_taken n xs l h = record { at = λ i j. rw get_or-take at (h i (omega (arith, length-take n es))) }

  -- a bound of what f says
  pub gathered_below : (k n : ℕ) (xs : List ℕ) → ((e : Entry) → f e < k) → Gathered f es n xs → Below k n xs
  gathered_below k n xs h g = record { at = λ i l. rw (g.at i l) (h (get_or es i no_entry)) }

-- one map after another
pub map-map : {A B C : Type 0} (f : B → C) (g : A → B) (xs : List A) → map f (map g xs) ≡ map (λ (x : A). f (g x)) xs
map-map f g [] = refl
map-map f g (x ∷ xs) = ap (λ zs. f (g x) ∷ zs) (map-map f g xs)

-- the list of the first n elements
gathered_first : (F : Place → ℕ) (s : List ℕ) (es : List Entry) (n : ℕ) (xs : List ℕ) → n ≤ length es → Gathered (λ (e : Entry). F (place_of s e)) es n xs
    → firsts n xs ≡ map F (map (place_of s) (take n es))
unfolding firsts snoc
gathered_first F s es zero xs h g = refl
gathered_first F s es (suc n) xs h g =
    ap₂ (λ (zs : List ℕ) (z : ℕ). snoc zs z) (gathered_first F s es n xs (omega arith) (record { at = λ i l. g.at i (omega arith) })) (g.at n (omega arith))
    ∙ sym
    (ap (λ (ys : List Entry). map F (map (place_of s) ys)) (take-suc es n no_entry (omega arith))
    ∙ ap (map F) (map_snoc (place_of s) (take n es) (get_or es n no_entry)) ∙ map_snoc F (map (place_of s) (take n es)) (place_of s (get_or es n no_entry)))

-- the array of an order is what F says of its places
pub gathered_list : (F : Place → ℕ) (s : List ℕ) (o : Order) (xs : List ℕ) → Orders.Formed o → Gathered (λ (e : Entry). F (place_of s e)) o.entries o.count xs
    → firsts o.count xs ≡ map F (places s o)
unfolding places held
gathered_list F s o xs f g = gathered_first F s o.entries o.count xs (omega (arith, f.fits, f.long)) g
