-- Swapping gold and gate: what k-induction says of two accepted designs stays. Assumes nothing.
use Rattle.std.specs.Prelude.{ℕ, suc, ◌≡◌, refl, ◌⊎◌, Bool, false, cond}
use Rattle.std.proofs.Common.{sym, ap, ◌∙◌, subst, inl, inr, arith}
use Rattle.std.proofs.Math.Path.{ap₂}
use Rattle.std.proofs.Math.Bool.{true, ◌||◌}
use Rattle.std.specs.Bool.{xor}
use mathlib.Core.List.Memᴰ
use mathlib.Core.List.{List, [], ◌∷◌, Memᴰ, Permᴰ}
use Rattle.std.proofs.Math.Option.{Option, none, some}
use Rattle.model.specs.Answers.{Status}
use Rattle.model.specs.Names.{Name, Place, same_name, member_name}
use Rattle.facts.specs.Bools.{both_ways, or_cases, or_left, or_right, or-true, xor_swap}
use Rattle.laws.specs.Names.Order.{same_eq, same_refl, sort_perm}
use Rattle.model.specs.Netlist.{Node, Register, Design, register_places, registers_by_name}
use Rattle.model.specs.Validate.{registers_fault, nodes_fault, validate}
use Rattle.laws.specs.Record.Accepted.{register-new, otherwise_none}
use Rattle.model.specs.Run.{InputSequence, StoredBits, bit_at}
use Rattle.model.specs.Replay.{bits_differ, differ_at}
use Rattle.model.specs.Induction.{Alike, alike_if, number_of, alike_in, named_alike, stored_differ, named_differ_at, either_differ_at, Query1, Query2, Query3, Query4, Closes, UndecidedBelow, Says, not_equivalent, equivalent, inconclusive}

bits_swap : (xs ys : List Bool) → bits_differ xs ys ≡ bits_differ ys xs
unfolding bits_differ
bits_swap [] [] = refl
bits_swap [] (y ∷ ys) = refl
bits_swap (x ∷ xs) [] = refl
bits_swap (x ∷ xs) (y ∷ ys) = ap₂ ◌||◌ (xor_swap x y) (bits_swap xs ys)

-- ---- membership in a permutation

perm_mem : {A : Type 0} {a : A} {l m : List A} → Permᴰ l m → Memᴰ a l → Memᴰ a m
perm_mem Permᴰ.nil h = h
perm_mem {a} (Permᴰ.cons {a = x} {b = b} {l₁ = l₁} {l₂ = l₂} e d) h = go (perm_mem d) (Memᴰ.cases_cons h)
  where
    go : (Memᴰ a l₁ → Memᴰ a l₂) → (a ≡ x) ⊎ Memᴰ a l₁ → Memᴰ a (b ∷ l₂)
    go f (inl p) = Memᴰ.head (p ∙ e)
    go f (inr p) = Memᴰ.tail (f p)
perm_mem {a} (Permᴰ.swap {a = x} {b = y} {a' = u} {b' = v} {l = l} p q) h = go (Memᴰ.cases_cons h)
  where
    next : (a ≡ y) ⊎ Memᴰ a l → Memᴰ a (u ∷ v ∷ l)
    next (inl e) = Memᴰ.head (e ∙ q)
    next (inr e) = Memᴰ.tail (Memᴰ.tail e)

    go : (a ≡ x) ⊎ Memᴰ a (y ∷ l) → Memᴰ a (u ∷ v ∷ l)
    go (inl e) = Memᴰ.tail (Memᴰ.head (e ∙ p))
    go (inr e) = next (Memᴰ.cases_cons e)
perm_mem (Permᴰ.trans d e) h = perm_mem e (perm_mem d h)

-- ---- registers named alike

-- a place of each list with the same name, whose bits differ
pub record Difference (ps qs : List Place) (s t : StoredBits) : Type 0 where
  pub p : Place
  pub q : Place
  pub in_p : Memᴰ p ps
  pub in_q : Memᴰ q qs
  pub same : p.name ≡ q.name
  pub differ : xor (bit_at s p.number) (bit_at t q.number) ≡ true

-- places of one name have one number
abbrev pub Unique : List Place → Type 0
Unique qs = (p q : Place) → Memᴰ p qs → Memᴰ q qs → p.name ≡ q.name → p.number ≡ q.number

swap_difference : {ps qs : List Place} {s t : StoredBits} → Difference ps qs s t → Difference qs ps t s
swap_difference {ps} {qs} {s} {t} d =
    record {
      p = d.q;
      q = d.p;
      in_p = d.in_q;
      in_q = d.in_p;
      same = sym d.same;
      differ = xor_swap (bit_at t d.q.number) (bit_at s d.p.number) ∙ d.differ;
    }

-- the place that a name is found at
pub record Found (x : Name) (qs : List Place) (m : ℕ) : Type 0 where
  pub q : Place
  pub in_q : Memᴰ q qs
  pub same : x ≡ q.name
  pub number : q.number ≡ m

number_of-found : (x : Name) (qs : List Place) (m : ℕ) → number_of x qs ≡ some m → Found x qs m
unfolding number_of
number_of-found x [] m h = absurd (let z : ◌≡◌ {A = ℕ} 0 1 = cc in omega arith)
number_of-found x (q ∷ qs) m h = go (number_of-found x qs m) (same_name x q.name) refl h
  where
    go : (number_of x qs ≡ some m → Found x qs m) → (b : Bool) → same_name x q.name ≡ b → cond b (some q.number) (number_of x qs) ≡ some m → Found x (q ∷ qs) m
    go f true e k = record { q = q; in_q = Memᴰ.head refl; same = same_eq x q.name e; number = cc }
    go f false e k = let r : Found x qs m = f k in record { q = r.q; in_q = Memᴰ.tail r.in_q; same = r.same; number = r.number }

-- a name that is there is found
number_of_there : (x : Name) (qs : List Place) (q : Place) → Memᴰ q qs → x ≡ q.name → (m : ℕ) × (number_of x qs ≡ some m)
unfolding number_of
number_of_there x [] q h e = absurd (Memᴰ.not-nil h)
number_of_there x (r ∷ qs) q h e = go (number_of_there x qs q) (same_name x r.name) refl
  where
    rest : same_name x r.name ≡ false → (q ≡ r) ⊎ Memᴰ q qs → Memᴰ q qs
    rest f (inl p) =
        let g : same_name x r.name ≡ true = subst (λ (n : Name). same_name x n ≡ true) (e ∙ ap (λ (a : Place). a.name) p) (same_refl x) in
        absurd (let z : ◌≡◌ {A = ℕ} 0 1 = cc in omega arith)
    rest f (inr p) = p

    go : (Memᴰ q qs → x ≡ q.name → (m : ℕ) × (number_of x qs ≡ some m)) → (b : Bool) → same_name x r.name ≡ b → (m : ℕ) × (cond b (some r.number) (number_of x qs) ≡ some m)
    go f true k = (r.number, refl)
    go f false k = f (rest k (Memᴰ.cases_cons h)) e

-- the test is true exactly when such places exist
alike_if_difference : (p : Place) (ps qs : List Place) (s t : StoredBits) (r : Option ℕ) → number_of p.name qs ≡ r → (stored_differ (alike_in qs ps) s t ≡ true → Difference ps qs s t) → stored_differ (alike_if p.number r (alike_in qs ps)) s t ≡ true → Difference (p ∷ ps) qs s t
unfolding alike_if stored_differ
alike_if_difference p ps qs s t none e f h = let d : Difference ps qs s t = f h in record { p = d.p; q = d.q; in_p = Memᴰ.tail d.in_p; in_q = d.in_q; same = d.same; differ = d.differ }
alike_if_difference p ps qs s t (some m) e f h = go (or_cases _ _ h)
  where
    go : (xor (bit_at s p.number) (bit_at t m) ≡ true) ⊎ (stored_differ (alike_in qs ps) s t ≡ true) → Difference (p ∷ ps) qs s t
    go (inl k) =
        let r : Found p.name qs m = number_of-found p.name qs m e in
        record { p = p; q = r.q; in_p = Memᴰ.head refl; in_q = r.in_q; same = r.same; differ = subst (λ (n : ℕ). xor (bit_at s p.number) (bit_at t n) ≡ true) (sym r.number) k }
    go (inr k) = let d : Difference ps qs s t = f k in record { p = d.p; q = d.q; in_p = Memᴰ.tail d.in_p; in_q = d.in_q; same = d.same; differ = d.differ }

difference_of : (ps qs : List Place) (s t : StoredBits) → stored_differ (alike_in qs ps) s t ≡ true → Difference ps qs s t
unfolding alike_in stored_differ
difference_of [] qs s t h = absurd (let z : ◌≡◌ {A = ℕ} 0 1 = cc in omega arith)
difference_of (p ∷ ps) qs s t h = alike_if_difference p ps qs s t (number_of p.name qs) refl (difference_of ps qs s t) h

-- the rest of the list still counts
alike_if-rest : (k : ℕ) (r : Option ℕ) (l : List Alike) (s t : StoredBits) → stored_differ l s t ≡ true → stored_differ (alike_if k r l) s t ≡ true
unfolding alike_if stored_differ
alike_if-rest k none l s t h = h
alike_if-rest k (some m) l s t h = or-true (xor (bit_at s k) (bit_at t m)) (stored_differ l s t) h

alike_if-first : (k m : ℕ) (r : Option ℕ) (l : List Alike) (s t : StoredBits) → r ≡ some m → xor (bit_at s k) (bit_at t m) ≡ true → stored_differ (alike_if k r l) s t ≡ true
unfolding alike_if stored_differ
alike_if-first k m none l s t e h = absurd (let z : ◌≡◌ {A = ℕ} 0 1 = cc in omega arith)
alike_if-first k m (some n) l s t e h =
    let f : m ≡ n = cc in
    let g : xor (bit_at s k) (bit_at t n) ≡ true = subst (λ (x : ℕ). xor (bit_at s k) (bit_at t x) ≡ true) f h in
    rw g

differ_of : (ps qs : List Place) (s t : StoredBits) → Unique qs → (p q : Place) → Memᴰ p ps → Memᴰ q qs → p.name ≡ q.name → xor (bit_at s p.number) (bit_at t q.number) ≡ true → stored_differ (alike_in qs ps) s t ≡ true
unfolding alike_in
differ_of [] qs s t u p q i j e h = absurd (Memᴰ.not-nil i)
differ_of (r ∷ ps) qs s t u p q i j e h = go (λ m. differ_of ps qs s t u p q m j e h) (Memᴰ.cases_cons i)
  where
    go : (Memᴰ p ps → stored_differ (alike_in qs ps) s t ≡ true) → (p ≡ r) ⊎ Memᴰ p ps → stored_differ (alike_if r.number (number_of r.name qs) (alike_in qs ps)) s t ≡ true
    go f (inl w) =
        let e' : r.name ≡ q.name = ap (λ (a : Place). a.name) (sym w) ∙ e in
        let o = number_of_there r.name qs q j e' in
        let d : Found r.name qs o.0 = number_of-found r.name qs o.0 o.1 in
        let same : q.number ≡ o.0 = u q d.q j d.in_q (sym e' ∙ d.same) ∙ d.number in
        let at : p.number ≡ r.number = ap (λ (a : Place). a.number) w in
        alike_if-first r.number o.0 (number_of r.name qs) (alike_in qs ps) s t o.1
        (subst (λ (x : ℕ). xor (bit_at s x) (bit_at t o.0) ≡ true) at (subst (λ (x : ℕ). xor (bit_at s p.number) (bit_at t x) ≡ true) same h))
    go f (inr w) = alike_if-rest r.number (number_of r.name qs) (alike_in qs ps) s t (f w)

module _ (gold gate : Design) (ug : Unique (registers_by_name gold)) (uh : Unique (registers_by_name gate)) where
  -- registers named alike differ whichever side is named first
  pub stored_swap : (s t : StoredBits) → stored_differ (named_alike gold gate) s t ≡ stored_differ (named_alike gate gold) t s
  unfolding named_alike
  stored_swap s t = both_ways _ _ to back
    where
      to : stored_differ (alike_in (registers_by_name gate) (registers_by_name gold)) s t ≡ true → stored_differ (alike_in (registers_by_name gold) (registers_by_name gate)) t s ≡ true
      to h =
          let d : Difference (registers_by_name gold) (registers_by_name gate) s t = difference_of (registers_by_name gold) (registers_by_name gate) s t h in
          let e : Difference (registers_by_name gate) (registers_by_name gold) t s = swap_difference d in
          differ_of (registers_by_name gate) (registers_by_name gold) t s ug e.p e.q e.in_p e.in_q e.same e.differ

      back : stored_differ (alike_in (registers_by_name gold) (registers_by_name gate)) t s ≡ true → stored_differ (alike_in (registers_by_name gate) (registers_by_name gold)) s t ≡ true
      back h =
          let d : Difference (registers_by_name gate) (registers_by_name gold) t s = difference_of (registers_by_name gate) (registers_by_name gold) t s h in
          let e : Difference (registers_by_name gold) (registers_by_name gate) s t = swap_difference d in
          differ_of (registers_by_name gold) (registers_by_name gate) s t uh e.p e.q e.in_p e.in_q e.same e.differ

  differ_swap : (s t : StoredBits) (ins : InputSequence) (c : ℕ) → differ_at gold gate s t ins c ≡ differ_at gate gold t s ins c
  unfolding differ_at
  differ_swap s t ins c = bits_swap _ _

  named_swap : (s t : StoredBits) (ins : InputSequence) (c : ℕ) → named_differ_at gold gate s t ins c ≡ named_differ_at gate gold t s ins c
  unfolding named_differ_at
  named_swap s t ins c = stored_swap _ _

  either_swap : (s t : StoredBits) (ins : InputSequence) (c : ℕ) → either_differ_at gold gate s t ins c ≡ either_differ_at gate gold t s ins c
  unfolding either_differ_at
  either_swap s t ins c = ap₂ ◌||◌ (differ_swap s t ins c) (named_swap s t ins c)

  query1_swap : (s t : StoredBits) (d : ℕ) → Query1 gate gold t s d → Query1 gold gate s t d
  query1_swap s t d q = record { ins = q.ins; cycle = q.cycle; within = q.within; differ = differ_swap s t q.ins q.cycle ∙ q.differ }

  query2_swap : (s t : StoredBits) (d : ℕ) → Query2 gate gold t s d → Query2 gold gate s t d
  query2_swap s t d q = record { ins = q.ins; cycle = q.cycle; within = q.within; differ = named_swap s t q.ins q.cycle ∙ q.differ }

  query3_swap : (d : ℕ) → Query3 gate gold d → Query3 gold gate d
  query3_swap d q =
      record {
        s = q.t;
        t = q.s;
        ins = q.ins;
        shared = stored_swap q.t q.s ∙ q.shared;
        equal = λ c l. either_swap q.t q.s q.ins c ∙ q.equal c l;
        differ = either_swap q.t q.s q.ins d ∙ q.differ;
      }

  query4_swap : (d : ℕ) → Query4 gate gold d → Query4 gold gate d
  query4_swap d q =
      record {
        s = q.t;
        t = q.s;
        ins = q.ins;
        equal = λ c l. differ_swap q.t q.s q.ins c ∙ q.equal c l;
        differ = differ_swap q.t q.s q.ins d ∙ q.differ;
      }

  closes_swap : (s t : StoredBits) (d : ℕ) → Closes gold gate s t d → Closes gate gold t s d
  closes_swap s t d (inl h) = inl (λ q. h.0 (query2_swap s t d q), λ q. h.1 (query3_swap d q))
  closes_swap s t d (inr h) = inr (λ q. h (query4_swap d q))

-- what k-induction says of designs with unique register names stays when they are swapped, start bits and all
module _ (gold gate : Design) (ug : Unique (registers_by_name gold)) (uh : Unique (registers_by_name gate)) (s t : StoredBits) where
  below_swap : (d : ℕ) → UndecidedBelow gold gate s t d → UndecidedBelow gate gold t s d
  below_swap d u e l m =
      record {
        same = λ q. (u e l m).same (query1_swap gold gate ug uh s t e q);
        open_ended = λ c. (u e l m).open_ended (closes_swap gate gold uh ug t s e c);
      }

  -- what k-induction says stays when the two sides are swapped
  pub says_swap : (D : ℕ) {p : Status} {d : ℕ} → Says gold gate s t D p d → Says gate gold t s D p d
  says_swap D (not_equivalent {d = k} l a u q) = not_equivalent l a (below_swap k u) (query1_swap gate gold uh ug t s k q)
  says_swap D (equivalent {d = k} l a u n c) = equivalent l a (below_swap k u) (λ q. n (query1_swap gold gate ug uh s t k q)) (closes_swap gold gate ug uh s t k c)
  says_swap D (inconclusive u) = inconclusive (below_swap (suc D) u)

-- ---- an accepted design has unique register names

later-new : (nodes : List Node) (i : ℕ) (names : List Name) (taken : List ℕ) (rs : List Register) → registers_fault nodes i names taken rs ≡ none → (q : Place) → Memᴰ q (register_places i rs) → member_name q.name names ≡ false
unfolding register_places member_name
later-new nodes i names taken [] h q m = absurd (Memᴰ.not-nil m)
later-new nodes i names taken (r ∷ rs) h q m =
    let n = register-new nodes i names taken r rs h in
    go n.0 (later-new nodes (suc i) (r.name ∷ names) (r.output ∷ taken) rs n.1 q) (Memᴰ.cases_cons m)
  where
    first : Place
    first = record { name = r.name; number = i }

    go : member_name r.name names ≡ false → (Memᴰ q (register_places (suc i) rs) → (same_name q.name r.name || member_name q.name names) ≡ false) → (q ≡ first) ⊎ Memᴰ q (register_places (suc i) rs) → member_name q.name names ≡ false
    go k f (inl e) = subst (λ (a : Place). member_name a.name names ≡ false) (sym e) k
    go k f (inr e) = or_right (same_name q.name r.name) (member_name q.name names) (f e)

unique_from : (nodes : List Node) (i : ℕ) (names : List Name) (taken : List ℕ) (rs : List Register) → registers_fault nodes i names taken rs ≡ none → Unique (register_places i rs)
unfolding register_places member_name
unique_from nodes i names taken [] h p q a b e = absurd (Memᴰ.not-nil a)
unique_from nodes i names taken (r ∷ rs) h p q a b e =
    let n = register-new nodes i names taken r rs h in
    go (later-new nodes (suc i) (r.name ∷ names) (r.output ∷ taken) rs n.1) (unique_from nodes (suc i) (r.name ∷ names) (r.output ∷ taken) rs n.1) (Memᴰ.cases_cons a) (Memᴰ.cases_cons b)
  where
    first : Place
    first = record { name = r.name; number = i }

    clash : (x : Place) → r.name ≡ x.name → (same_name x.name r.name || member_name x.name names) ≡ false → ⊥
    clash x k f =
        let g : same_name x.name r.name ≡ false = or_left (same_name x.name r.name) _ f in
        let o : same_name x.name r.name ≡ true = subst (λ (y : Name). same_name x.name y ≡ true) (sym k) (same_refl x.name) in
        let z : ◌≡◌ {A = ℕ} 0 1 = cc in
        omega arith

    go : ((x : Place) → Memᴰ x (register_places (suc i) rs) → (same_name x.name r.name || member_name x.name names) ≡ false) → Unique (register_places (suc i) rs) → (p ≡ first) ⊎ Memᴰ p (register_places (suc i) rs) → (q ≡ first) ⊎ Memᴰ q (register_places (suc i) rs) → p.number ≡ q.number
    go new u (inl k) (inl l) = ap (λ (x : Place). x.number) (k ∙ sym l)
    go new u (inl k) (inr l) = absurd (clash q (ap (λ (x : Place). x.name) (sym k) ∙ e) (new q l))
    go new u (inr k) (inl l) = absurd (clash p (ap (λ (x : Place). x.name) (sym l) ∙ sym e) (new p k))
    go new u (inr k) (inr l) = u p q k l e

-- an accepted design's registers have distinct names
pub unique_registers : (d : Design) → validate d ≡ none → Unique (registers_by_name d)
unfolding validate registers_by_name
unique_registers d h p q a b e =
    let o = (otherwise_none (registers_fault d.nodes 0 [] [] d.registers) _ (otherwise_none (nodes_fault 0 [] d.nodes) _ h).1).0 in
    unique_from d.nodes 0 [] [] d.registers o p q (perm_mem (sort_perm _) a) (perm_mem (sort_perm _) b) e
