-- Laws of the table that is made once for a netlist. Assumes nothing.
use Rattle.std.specs.Prelude.{ℕ, suc, ◌+◌, ◌<◌, ◌≤◌, ◌≡◌, refl, Bool, true, false, not, cond, Option, List, [], ◌∷◌, map, length, get_or, set, position}
use Rattle.std.specs.List.{position_or_len}
use Rattle.std.specs.Option.{unwrap_or}
use Rattle.std.proofs.Common.{sym, ap, ◌∙◌, ⊎_elim, eq-or-lt_of_le, arith, get_or-set_same, get_or-set_other}
use Rattle.std.proofs.lemmas.List.Sums.{prefix_len-le-length}
use Rattle.model.specs.Names.{Name, same_name, rank}
use Rattle.struo_ir.specs.Decoded.{name_at}
use Rattle.struo_ir.specs.Orders.{place_of, held, places, Formed}
use Rattle.name_order.specs.PlaceLaws.{length-held, position-or}
use Rattle.struo_ir.specs.declared.design.Entry.{Entry}
use Rattle.struo_ir.specs.declared.design.Order.{Order}

-- ---- a table, entry by entry

-- what holds of every entry below i and of the one that is written holds of every entry below i + 1
pub filled_more : (row : List ℕ) (i v : ℕ) (f : ℕ → ℕ) → i < length row → v ≡ f i → ((k : ℕ) → k < i → get_or row k 0 ≡ f k) → (k : ℕ) → k < i + 1 → get_or (set row i v) k 0 ≡ f k
filled_more row i v f h e g k l =
    let m : k ≤ i = omega arith in
    ⊎_elim (λ (q : k ≡ i). rw (q, get_or-set_same) e) (λ (q : k < i). get_or-set_other row i k v 0 (λ (z : k ≡ i). omega arith) ∙ g k q) (eq-or-lt_of_le m)

-- ---- ranks

-- the rank of a name is the place of the first entry that has it
pub rank-position : (x : Name) (s : List ℕ) (es : List Entry) → rank x (map (place_of s) es) ≡ position_or_len (λ (e : Entry). same_name x (name_at s e.name)) es
unfolding rank place_of
rank-position x s [] = refl
rank-position x s (e ∷ es) = go (same_name x (name_at s e.name)) (rank-position x s es)
  where
    go : (b : Bool) → rank x (map (place_of s) es) ≡ position_or_len (λ (e : Entry). same_name x (name_at s e.name)) es
        → cond b 0 (suc (rank x (map (place_of s) es))) ≡ cond (not b) (1 + position_or_len (λ (e : Entry). same_name x (name_at s e.name)) es) 0
    go true h = refl
    go false h = omega arith

-- the place of the first entry that has a name, and the order's count where none has it
pub rank-found : (x : Name) (s : List ℕ) (o : Order) (r : Option ℕ) (k : ℕ) → Formed o → r ≡ position (λ (e : Entry). same_name x (name_at s e.name)) (held o) → k ≡ unwrap_or r o.count
    → (k ≤ 128) × (k ≡ rank x (places s o))
unfolding places
rank-found x s o r k f p u =
    let same = λ (e : Entry). same_name x (name_at s e.name) in
    let l : length (held o) ≡ o.count = length-held o f in
    let n : k ≡ position_or_len same (held o) = u ∙ ap (λ (q : Option ℕ). unwrap_or q o.count) p ∙ position-or same (held o) o.count l in
    (omega (arith, f.fits, prefix_len-le-length (λ (e : Entry). not (same e)) (held o)), n ∙ sym (rank-position x s (held o)))
