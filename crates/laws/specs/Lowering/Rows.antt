-- Bits by name: a row of bits is some input bits by name, and bits in byte order of names are some stored bits. Assumes nothing.
use Rattle.std.specs.Prelude.{ℕ, suc, ◌≡◌, refl, Bool, cond, ◌||◌, length}
use Rattle.std.proofs.Common.{arith, sym, ap, ap₂, ◌∙◌, subst, length-append}
use Rattle.std.proofs.Math.Bool.{true, false}
use mathlib.Core.List.{List, [], ◌∷◌, ◌++◌, map, append_assoc}
use Rattle.std.proofs.Math.Option.{none}
use Rattle.std.proofs.Math.Seq.{get_or-append_seam}
use Rattle.model.specs.Names.{Name, Place, same_name, before, member_name, insert_by_name, sort_by_name, sort, names_of, rank}
use Rattle.model.specs.Netlist.{Node, Register, Design, register_places, ports_from, input_name, inputs, registers_by_name}
use Rattle.model.specs.Validate.{validate, nodes_fault, registers_fault}
use Rattle.model.specs.Run.{InputBits, StoredBits, bit_at, by_name}
use Rattle.facts.specs.Bools.{or-true}
use Rattle.facts.specs.Lists.{All, all_map}
use Rattle.laws.specs.Names.Order.{same_eq, same_refl, Above, Increasing, Distinct, sort_increasing}
use Rattle.laws.specs.Names.Sets.{before_irreflexive, before_trans, inputs-distinct}
use Rattle.laws.specs.Record.Accepted.{register-new, otherwise_none}
use Rattle.laws.specs.Lowering.Run.{row_of}

-- ---- increasing places

above-all : (x : Name) (ps : List Place) → Above x ps → Increasing ps → All (λ (q : Place). before x q.name ≡ true) ps
above-all x [] a i = tt
above-all x (p ∷ ps) a i =
    (a, all_map (λ (q : Place). before p.name q.name ≡ true) (λ (q : Place). before x q.name ≡ true) (λ q b. before_trans x p.name q.name a b) ps (above-all p.name ps i.0 i.1))

apart : (x y : Name) → before x y ≡ true → same_name y x ≡ false
apart x y h = go (same_name y x) refl
  where
    go : (b : Bool) → same_name y x ≡ b → same_name y x ≡ false
    go false e = e
    go true e =
        let f : before x x ≡ true = subst (λ (n : Name). before x n ≡ true) (same_eq y x e) h in
        let g = before_irreflexive x in
        absurd (let z : ◌≡◌ {A = ℕ} 0 1 = cc in omega arith)

later_ranks : (p : Place) (ps : List Place) (x : Bool) (bits : List Bool) (qs : List Place) → All (λ (q : Place). before p.name q.name ≡ true) qs
    → map (λ (q : Place). bit_at (x ∷ bits) (rank q.name (p ∷ ps))) qs ≡ map (λ (q : Place). bit_at bits (rank q.name ps)) qs
unfolding rank bit_at
later_ranks p ps x bits [] h = refl
later_ranks p ps x bits (q ∷ qs) h = ap₂ ◌∷◌ (rw (apart p.name q.name h.0)) (later_ranks p ps x bits qs h.1)

-- bits read at their names' ranks are the bits
ranked : (ps : List Place) (bits : List Bool) → Increasing ps → length bits ≡ length ps → map (λ (p : Place). bit_at bits (rank p.name ps)) ps ≡ bits
unfolding rank bit_at
ranked [] [] i h = refl
ranked [] (x ∷ bits) i h = absurd (omega arith)
ranked (p ∷ ps) [] i h = absurd (omega arith)
ranked (p ∷ ps) (x ∷ bits) i h =
    ap₂ ◌∷◌ (rw (same_refl p.name))
    (later_ranks p ps x bits ps (above-all p.name ps i.0 i.1) ∙ ranked ps bits i.1 (omega arith))

-- ---- inputs

-- the input bits that a row gives by name
unfoldable pub bits_of_row : Design → List Bool → InputBits
bits_of_row d row n = bit_at row (rank n (inputs d))

-- bits read at the inputs' ranks are the bits
pub ranked-inputs : (d : Design) → validate d ≡ none → (row : List Bool) → length row ≡ length (inputs d) → map (λ (p : Place). bit_at row (rank p.name (inputs d))) (inputs d) ≡ row
unfolding inputs
ranked-inputs d v row h = ranked (inputs d) row (sort_increasing (ports_from input_name 0 d.nodes) (inputs-distinct d v)) h

-- every row of the right length is that of some input bits
pub row_back : (d : Design) → validate d ≡ none → (row : List Bool) → length row ≡ length (inputs d) → row_of d (bits_of_row d row) ≡ row
unfolding row_of bits_of_row
row_back d v row h = ranked-inputs d v row h

-- ---- registers

-- a name taken before is no later register's
not-later : (nodes : List Node) (i : ℕ) (names : List Name) (taken : List ℕ) (rs : List Register) → registers_fault nodes i names taken rs ≡ none → (x : Name) → member_name x names ≡ true
    → member_name x (names_of (register_places i rs)) ≡ false
unfolding register_places member_name names_of
not-later nodes i names taken [] h x m = refl
not-later nodes i names taken (r ∷ rs) h x m =
    let n = register-new nodes i names taken r rs h in
    go (same_name x r.name) refl n.0 (not-later nodes (suc i) (r.name ∷ names) (r.output ∷ taken) rs n.1 x (or-true (same_name x r.name) (member_name x names) m))
  where
    go : (b : Bool) → same_name x r.name ≡ b → member_name r.name names ≡ false → member_name x (map (λ p. p.name) (register_places (suc i) rs)) ≡ false
        → (b || member_name x (map (λ p. p.name) (register_places (suc i) rs))) ≡ false
    go true e k l =
        let f : member_name r.name names ≡ true = subst (λ (n : Name). member_name n names ≡ true) (same_eq x r.name e) m in
        absurd (let z : ◌≡◌ {A = ℕ} 0 1 = cc in omega arith)
    go false e k l = l

registers-distinct : (nodes : List Node) (i : ℕ) (names : List Name) (taken : List ℕ) (rs : List Register) → registers_fault nodes i names taken rs ≡ none → Distinct (register_places i rs)
unfolding register_places member_name
registers-distinct nodes i names taken [] h = tt
registers-distinct nodes i names taken (r ∷ rs) h =
    let n = register-new nodes i names taken r rs h in
    (not-later nodes (suc i) (r.name ∷ names) (r.output ∷ taken) rs n.1 r.name (rw (same_refl r.name)), registers-distinct nodes (suc i) (r.name ∷ names) (r.output ∷ taken) rs n.1)

-- the registers by name are increasing
registers_increasing : (d : Design) → validate d ≡ none → Increasing (registers_by_name d)
unfolding validate registers_by_name
registers_increasing d v =
    let a = otherwise_none (nodes_fault 0 [] d.nodes) _ v in
    sort_increasing (register_places 0 d.registers) (registers-distinct d.nodes 0 [] [] d.registers (otherwise_none (registers_fault d.nodes 0 [] [] d.registers) _ a.1).0)

module _ (P : Place → Type 0) where
  all_insert : (x : Place) (ys : List Place) → P x → All P ys → All P (insert_by_name (λ (p : Place). p.name) x ys)
  unfolding insert_by_name
  all_insert x [] p h = (p, tt)
  all_insert x (y ∷ ys) p h = place (before y.name x.name) (all_insert x ys p h.1)
    where
      place : (b : Bool) → All P (insert_by_name (λ (p : Place). p.name) x ys) → All P (cond b (y ∷ insert_by_name (λ (p : Place). p.name) x ys) (x ∷ y ∷ ys))
      place true k = (h.0, k)
      place false k = (p, h)

  -- what holds of every place holds of the places in order
  pub all_sorted : (xs : List Place) → All P xs → All P (sort xs)
  unfolding sort_by_name
  all_sorted [] h = tt
  all_sorted (x ∷ xs) h = all_insert x (sort xs) h.0 (all_sorted xs h.1)

-- two functions that agree on all elements map alike
pub map_same : {A B : Type 0} (f g : A → B) (xs : List A) → All (λ (x : A). f x ≡ g x) xs → map f xs ≡ map g xs
map_same f g [] h = refl
map_same f g (x ∷ xs) h = ap₂ ◌∷◌ h.0 (map_same f g xs h.1)

-- the stored bits whose order by name is the given one
unfoldable pub stored_of : Design → List Bool → StoredBits
stored_of d bits = map (λ (r : Register). bit_at bits (rank r.name (registers_by_name d))) d.registers

placed : (bits : List Bool) (R : List Place) (S done : List Bool) (k : ℕ) (rs : List Register) → length done ≡ k
    → S ≡ done ++ map (λ (r : Register). bit_at bits (rank r.name R)) rs → All (λ (p : Place). bit_at S p.number ≡ bit_at bits (rank p.name R)) (register_places k rs)
unfolding register_places
placed bits R S done k [] h e = tt
placed bits R S done k (r ∷ rs) h e =
    let x = bit_at bits (rank r.name R) in (
      ap (λ (l : List Bool). bit_at l k) e ∙ seam x _,
      placed bits R S (done ++ (x ∷ [])) (suc k) rs (omega (arith, length-append done (x ∷ []))) (e ∙ sym (append_assoc done (x ∷ []) _)),
    )
  where
    seam : (x : Bool) (rest : List Bool) → bit_at (done ++ (x ∷ rest)) k ≡ x
    seam x rest = unfold bit_at in rw (← h) (get_or-append_seam done x rest false)

-- every list of bits of the right length is that of some stored bits
pub stored_back : (d : Design) → validate d ≡ none → (bits : List Bool) → length bits ≡ length (registers_by_name d) → by_name d (stored_of d bits) ≡ bits
unfolding by_name stored_of registers_by_name
stored_back d v bits h =
    let R = registers_by_name d in
    let S = stored_of d bits in
    map_same (λ (p : Place). bit_at S p.number) (λ (p : Place). bit_at bits (rank p.name R)) R
    (all_sorted (λ (p : Place). bit_at S p.number ≡ bit_at bits (rank p.name R)) (register_places 0 d.registers) (placed bits R S [] 0 d.registers refl refl))
    ∙ ranked R bits (registers_increasing d v) h
