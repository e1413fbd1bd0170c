-- The reader: what follows from a step that succeeds, and that a parsed design is within the limits. Assumes nothing.
use Rattle.std.specs.Prelude.{ℕ, zero, suc, ◌+◌, ◌*◌, ◌≤◌, ◌<◌, ◌≡◌, refl, Bool, true, false, cond, List, [], ◌∷◌, ◌++◌, length, get_or, eqb, leb}
use Rattle.std.proofs.Common.{ap, subst, arith, length-append, leb-true, le-leb}
use Rattle.std.proofs.Math.Option.{none, some}
use Rattle.std.proofs.lemmas.Bool.{lt-leb}
use Rattle.model.specs.Answers.{Refusal}
use Rattle.model.specs.Netlist.{Node, Design}
use Rattle.model.specs.Record.{Step, got, refused, Reader, pure, go_on, ◌>>=◌, tested, guard, refuse, number, node, nodes_from, nodes, register, registers, end, name, listed_kind, version1, version_of, parsed, length_fits, finished, parse_fields, parse_sized, parse}

-- a step is not both
pub got≢refused : {A : Type 0} {a : A} {i : ℕ} {r : Refusal} → refused r ≡ got a i → ⊥
got≢refused h = let z : ◌≡◌ {A = ℕ} 0 1 = cc in omega arith

-- ---- two readers in a row

-- both readers of a sequence got something
pub record Both {A B : Type 0} (p : Reader A) (f : A → Reader B) (s : List ℕ) (i : ℕ) (b : B) (k : ℕ) : Type 0 where
  pub value : A
  pub at : ℕ
  pub first : p s i ≡ got value at
  pub second : f value s at ≡ got b k

bind_at : {A B : Type 0} (p : Reader A) (f : A → Reader B) (s : List ℕ) (i : ℕ) (b : B) (k : ℕ) (r : Step A) → p s i ≡ r → go_on f s r ≡ got b k → Both p f s i b k
unfolding go_on
bind_at p f s i b k (got a j) e h = record { value = a; at = j; first = e; second = h }
bind_at p f s i b k (refused r) e h = absurd (got≢refused h)

-- where a sequence got something, both did
pub bind_got : {A B : Type 0} (p : Reader A) (f : A → Reader B) (s : List ℕ) (i : ℕ) (b : B) (k : ℕ) → ◌>>=◌ p f s i ≡ got b k → Both p f s i b k
unfolding ◌>>=◌
bind_got p f s i b k h = bind_at p f s i b k (p s i) refl h

-- ---- a tested field

tested-cond : {A : Type 0} (t : Bool) (a b : A) (i j k n : ℕ) → cond t (got a j) (refuse n i) ≡ got b k → (t ≡ true) × (a ≡ b) × (j ≡ k)
unfolding refuse
tested-cond true a b i j k n h = (refl, cc, cc)
tested-cond false a b i j k n h = absurd (got≢refused h)

-- the reader got a value that passes the test
pub record Passed {A : Type 0} (ok : A → Bool) (p : Reader A) (s : List ℕ) (i : ℕ) (b : A) (k : ℕ) : Type 0 where
  pub field : p s i ≡ got b k
  pub passes : ok b ≡ true

tested_at : {A : Type 0} (n : ℕ) (ok : A → Bool) (p : Reader A) (s : List ℕ) (i : ℕ) (b : A) (k : ℕ) (r : Step A) → p s i ≡ r → tested n ok i r ≡ got b k → Passed ok p s i b k
unfolding tested
tested_at n ok p s i b k (got a j) e h =
    let u : (ok a ≡ true) × (a ≡ b) × (j ≡ k) = tested-cond (ok a) a b i j k n h in
    let v : a ≡ b = u.1 in
    let w : j ≡ k = u.2 in
    record { field = cc; passes = subst (λ (x : _). ok x ≡ true) v u.0 }
tested_at n ok p s i b k (refused r) e h = absurd (got≢refused h)

-- where a guarded reader got something, it passes
pub guard-got : {A : Type 0} (n : ℕ) (ok : A → Bool) (p : Reader A) (s : List ℕ) (i : ℕ) (b : A) (k : ℕ) → guard n ok p s i ≡ got b k → Passed ok p s i b k
unfolding guard
guard-got n ok p s i b k h = tested_at n ok p s i b k (p s i) refl h

-- ---- the counts

-- so many nodes are read
pub nodes_from-length : (listed : ℕ → Bool) (k : ℕ) (ns ms : List Node) (s : List ℕ) (i j : ℕ) → nodes_from listed k ns s i ≡ got ms j → length ms ≡ length ns + k
unfolding nodes_from pure
nodes_from-length listed zero ns ms s i j h = let e : ns ≡ ms = cc in omega (arith, ap length e)
nodes_from-length listed (suc k) ns ms s i j h =
    let b : Both (node listed ns) _ s i ms j = bind_got (node listed ns) _ s i ms j h in
    omega (arith, nodes_from-length listed k (ns ++ (b.value ∷ [])) ms s b.at j b.second, length-append ns (b.value ∷ []))

-- at most 1,024
pub nodes-length : (listed : ℕ → Bool) (ms : List Node) (s : List ℕ) (i j : ℕ) → nodes listed s i ≡ got ms j → length ms ≤ 1024
unfolding nodes
nodes-length listed ms s i j h =
    let b : Both _ (λ n. nodes_from listed n []) s i ms j = bind_got _ (λ n. nodes_from listed n []) s i ms j h in
    let g : Passed (λ n. leb n 1024) number s i b.value b.at = guard-got 6 (λ n. leb n 1024) number s i b.value b.at b.first in
    omega (arith, nodes_from-length listed b.value [] ms s b.at j b.second, leb-true b.value 1024 g.passes)

-- the design of a record has at most 1,024 nodes
version1-nodes : (s : List ℕ) (i k : ℕ) (d : Design) → version1 s i ≡ got d k → length d.nodes ≤ 1024
unfolding version1 pure
version1-nodes s i k d h =
    let a : Both name _ s i d k = bind_got name _ s i d k h in
    let b : Both (nodes listed_kind) _ s a.at d k = bind_got (nodes listed_kind) _ s a.at d k a.second in
    let c : Both (registers register) _ s b.at d k = bind_got (registers register) _ s b.at d k b.second in
    let e : Both end _ s c.at d k = bind_got end _ s c.at d k c.second in
    let f : record { name = a.value; nodes = b.value; registers = c.value } ≡ d = cc in
    subst (λ (x : Design). length x.nodes ≤ 1024) f (nodes-length listed_kind b.value s a.at b.at b.first)

-- a record that is parsed was read to its end
pub finished-parsed : (r : Step Design) (d : Design) → finished r ≡ parsed d → (k : ℕ) × (r ≡ got d k)
unfolding finished
finished-parsed (got x k) d h = (k, let e : x ≡ d = cc in cc)
finished-parsed (refused x) d h = absurd (let z : ◌≡◌ {A = ℕ} 0 1 = cc in omega arith)

version-parsed : (s : List ℕ) (b : Bool) (d : Design) → parse_fields s (cond b (some version1) none) ≡ parsed d → finished (version1 s 5) ≡ parsed d
unfolding parse_fields finished refuse
version-parsed s true d h = h
version-parsed s false d h = absurd (let z : ◌≡◌ {A = ℕ} 0 1 = cc in omega arith)

sized-parsed : (s : List ℕ) (b : Bool) (d : Design) → parse_sized s b ≡ parsed d → finished (version1 s 5) ≡ parsed d
unfolding parse_sized version_of finished refuse
sized-parsed s true d h = version-parsed s (eqb (get_or s 0 0) 1) d h
sized-parsed s false d h = absurd (let z : ◌≡◌ {A = ℕ} 0 1 = cc in omega arith)

-- a parsed record is one that version 1's reader reads from offset 5 on
pub parse-version1 : (s : List ℕ) (d : Design) → parse s ≡ parsed d → (k : ℕ) × (version1 s 5 ≡ got d k)
unfolding parse
parse-version1 s d h = finished-parsed (version1 s 5) d (sized-parsed s (length_fits s) d h)

-- a parsed design has at most 1,024 nodes
pub parse-nodes : (s : List ℕ) (d : Design) → parse s ≡ parsed d → length d.nodes ≤ 1024
parse-nodes s d h = let v = parse-version1 s d h in version1-nodes s 5 v.0 d v.1

-- ---- one field, as the code reads it

-- a number that is cut off is refused with 3 at its place
pub number_cut : (s : List ℕ) (i : ℕ) → length s < i + 2 → number s i ≡ refuse 3 i
unfolding number
number_cut s i h = rw (lt-leb (i + 2) (length s) h)

-- and one that is there is read
pub number-got : (s : List ℕ) (i n : ℕ) → i + 2 ≤ length s → n ≡ get_or s i 0 * 256 + get_or s (i + 1) 0 → got n (i + 2) ≡ number s i
unfolding number
number-got s i n h e = rw (le-leb (i + 2) (length s) h, e)
