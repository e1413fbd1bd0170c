-- Laws of a reader's steps: a step whose value is changed, and a name by its place. Assumes nothing.
use Rattle.std.specs.Prelude.{ℕ, suc, ◌+◌, ◌≡◌, refl, Bool, true, false, cond, List, length, get_or, take, drop, leb}
use Rattle.std.proofs.Common.{sym, ap, ◌∙◌, subst, add-one}
use Rattle.model.specs.Names.{Name}
use Rattle.model.specs.Record.{Step, got, refused, Reader, refuse, pure, go_on, ◌>>=◌, tested, guard, bytes, byte, code, listed_kind, name_bytes, name}
use Rattle.laws.specs.Record.Reader.{got≢refused}
use Rattle.struo_ir.specs.declared.netlist.Node.{Node}
use Rattle.fields.specs.Fields.{map_step, room_for, kind_at}
use Rattle.struo_ir.specs.Nodes.{cell_of, cell_inputs, cell_detail, cell_at}
use Rattle.struo_ir.specs.Decoded.{name_at}

-- ---- two steps in a row, the values changed

-- the first value by u, the last by g
pub bind_map : {A A' B C : Type 0} (g : B → C) (u : A → A') (f : A' → Reader B) (h : A → Reader C) (s : List ℕ) (x : Step A) → ((a : A) (j : ℕ) → x ≡ got a j → map_step g (f (u a) s j) ≡ h a s j) → map_step g (go_on f s (map_step u x)) ≡ go_on h s x
unfolding map_step go_on
bind_map g u f h s (got a j) e = e a j refl
bind_map g u f h s (refused r) e = refl

-- the last value by g
pub bind_last : {A B C : Type 0} (g : B → C) (f : A → Reader B) (h : A → Reader C) (s : List ℕ) (x : Step A) → ((a : A) (j : ℕ) → x ≡ got a j → map_step g (f a s j) ≡ h a s j) → map_step g (go_on f s x) ≡ go_on h s x
unfolding map_step go_on
bind_last g f h s (got a j) e = e a j refl
bind_last g f h s (refused r) e = refl

-- ---- what a step that succeeds has read

cond-got : {A : Type 0} (t : Bool) (a b : A) (i j k n : ℕ) → cond t (got a j) (refuse n i) ≡ got b k → (a ≡ b) × (j ≡ k)
unfolding refuse
cond-got true a b i j k n h = (cc, cc)
cond-got false a b i j k n h = absurd (got≢refused h)

tested-got : {A : Type 0} (n : ℕ) (ok : A → Bool) (i : ℕ) (b : A) (k : ℕ) (r : Step A) → tested n ok i r ≡ got b k → r ≡ got b k
unfolding tested
tested-got n ok i b k (got a j) h = let u : (a ≡ b) × (j ≡ k) = cond-got (ok a) a b i j k n h in cc
tested-got n ok i b k (refused r) h = absurd (got≢refused h)

cond-true : {A : Type 0} (t : Bool) (a b : A) (i j k n : ℕ) → cond t (got a j) (refuse n i) ≡ got b k → t ≡ true
unfolding refuse
cond-true true a b i j k n h = refl
cond-true false a b i j k n h = absurd (got≢refused h)

tested-true : {A : Type 0} (n : ℕ) (ok : A → Bool) (i : ℕ) (b : A) (k : ℕ) (r : Step A) → tested n ok i r ≡ got b k → ok b ≡ true
unfolding tested
tested-true n ok i b k (got a j) h = subst (λ (x : _). ok x ≡ true) (cond-got (ok a) a b i j k n h).0 (cond-true (ok a) a b i j k n h)
tested-true n ok i b k (refused r) h = absurd (got≢refused h)

go_on-got : {A B : Type 0} (f : A → Reader B) (s : List ℕ) (b : B) (k : ℕ) (x : Step A) → go_on f s x ≡ got b k → (a : A) × ((j : ℕ) × ((x ≡ got a j) × (f a s j ≡ got b k)))
unfolding go_on
go_on-got f s b k (got a j) h = (a, (j, (refl, h)))
go_on-got f s b k (refused r) h = absurd (got≢refused h)

-- a name is the one at its place
pub name-at : (s : List ℕ) (i : ℕ) (n : Name) (k : ℕ) → name s i ≡ got n k → name_at s i ≡ n
unfolding name ◌>>=◌ guard byte bytes name_at
name-at s i n k h =
    let u = go_on-got _ s n k _ h in
    let a : (get_or s i 0 ≡ u.0) × (i + 1 ≡ u.1.0) = cond-got (leb (i + 1) (length s)) (get_or s i 0) u.0 i (i + 1) u.1.0 3 (tested-got 5 _ i u.0 u.1.0 _ u.1.1.0) in
    let b : (take u.0 (drop u.1.0 s) ≡ n) × (u.1.0 + u.0 ≡ k) = cond-got (leb (u.1.0 + u.0) (length s)) (take u.0 (drop u.1.0 s)) n u.1.0 (u.1.0 + u.0) k 3 (tested-got 5 name_bytes u.1.0 n k _ u.1.1.1) in
    let c : suc i ≡ u.1.0 = sym (add-one i) ∙ a.1 in
    rw (a.0, c) b.0

-- a kind that was read is listed
pub kind_listed : (inputs outputs : ℕ) (s : List ℕ) (i k j : ℕ) → got k j ≡ kind_at inputs outputs s i → listed_kind k ≡ true
unfolding kind_at code guard
kind_listed inputs outputs s i k j h = tested-true 4 listed_kind i k j (byte s i) (tested-got 6 (room_for inputs outputs) i k j _ (sym h))

-- a node that was read has a listed kind
pub cell-listed : (inputs outputs : ℕ) (s : List ℕ) (i : ℕ) (n : Node) (end : ℕ) → got n end ≡ cell_at inputs outputs s i → listed_kind n.kind ≡ true
unfolding cell_at cell_detail cell_inputs ◌>>=◌ pure cell_of
cell-listed inputs outputs s i n end h =
    let u = go_on-got cell_detail s n end _ (sym h) in
    let v = go_on-got (cell_inputs u.0) s n end _ u.1.1.1 in
    let w = go_on-got (λ ins. pure (cell_of u.0 v.0 ins)) s n end _ v.1.1.1 in
    let e : cell_of u.0 v.0 w.0 ≡ n = ended w.1.1.1 in
    let f : u.0 ≡ n.kind = ap (λ (x : Node). x.kind) e in
    subst (λ (k : ℕ). listed_kind k ≡ true) f (kind_listed inputs outputs s i u.0 u.1.0 (sym u.1.1.0))
  where
    ended : {a b : Node} {j k : ℕ} → got a j ≡ got b k → a ≡ b
    ended g = cc
