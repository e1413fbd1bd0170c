-- Laws of single fields: what a field gives, by the tests that the reader makes. Assumes nothing.
use Rattle.std.specs.Prelude.{ℕ, ◌+◌, ◌*◌, ◌≤◌, ◌<◌, ◌≡◌, refl, Bool, true, false, not, cond, ◌&&◌, ◌||◌, List, [], ◌∷◌, length, get_or, take, drop, leb, ltb, Result, Ok, Err}
use Rattle.std.specs.Result.{IsErrAnd}
use Rattle.std.specs.List.{list_all}
use Rattle.std.proofs.Common.{sym, ap, ◌∙◌, arith, le-leb, lt-ltb, le-ltb, leb-true, leb-false}
use Rattle.std.proofs.lemmas.Bool.{lt-leb}
use Rattle.model.specs.Answers.{Refusal}
use Rattle.model.specs.Record.{Step, got, refused, Reader, refuse, go_on, ◌>>=◌, tested, guard, bytes, byte, number, name_byte, name_bytes, name}
use Rattle.calls.specs.Causes.{numbers_of}
use Rattle.calls.specs.declared.refusal.Refusal as Code
use Rattle.fields.specs.Fields.{step_of, map_step, placed}

-- ---- a byte, a 2-byte number

pub byte-got : (s : List ℕ) (i : ℕ) → i < length s → got (get_or s i 0) (i + 1) ≡ byte s i
unfolding byte
byte-got s i h = let l : i + 1 ≤ length s = omega arith in rw (le-leb (i + 1) (length s) l)

pub byte_cut : (s : List ℕ) (i : ℕ) → length s ≤ i → refuse 3 i ≡ byte s i
unfolding byte
byte_cut s i h = let l : length s < i + 1 = omega arith in rw (lt-leb (i + 1) (length s) l)

-- what a byte that was read says of the record
pub byte_read : (s : List ℕ) (i b j : ℕ) → got b j ≡ byte s i → (i < length s) × (b ≡ get_or s i 0) × (j ≡ i + 1)
unfolding byte refuse
byte_read s i b j e = go (leb (i + 1) (length s)) refl e
  where
    go : (t : Bool) → leb (i + 1) (length s) ≡ t → got b j ≡ cond t (got (get_or s i 0) (i + 1)) (refuse 3 i) → (i < length s) × (b ≡ get_or s i 0) × (j ≡ i + 1)
    go true f g = (omega (arith, leb-true (i + 1) (length s) f), cc, cc)
    go false f g = absurd cc

pub number-got : (s : List ℕ) (i n : ℕ) → i + 1 < length s → n ≡ get_or s i 0 * 256 + get_or s (i + 1) 0 → got n (i + 2) ≡ number s i
unfolding number
number-got s i n h e = let l : i + 2 ≤ length s = omega arith in rw (le-leb (i + 2) (length s) l, e)

pub number_cut : (s : List ℕ) (i : ℕ) → length s ≤ i + 1 → refuse 3 i ≡ number s i
unfolding number
number_cut s i h = let l : length s < i + 2 = omega arith in rw (lt-leb (i + 2) (length s) l)

-- what a call says of its answer, said of the answer's case
pub known : {A B : Type 0} (f : A → B) {x y : A} {z : B} → x ≡ y → f x ≡ z → f y ≡ z
known f e h = ap f (sym e) ∙ h

-- a refusal that is passed on
pub passed_on : {A : Type 0} (r : Result (A × ℕ) Code.Refusal) (x : Code.Refusal) → IsErrAnd r (λ y. y ≡ x) → step_of r ≡ refused (numbers_of x)
unfolding step_of
passed_on (Ok f) x h = absurd h
passed_on (Err y) x h = ap (λ (z : Code.Refusal). refused (numbers_of z)) h

-- ---- two readers in a row

pub bind_refused : {A B : Type 0} (p : Reader A) (f : A → Reader B) (s : List ℕ) (i : ℕ) (r : Refusal) → refused r ≡ p s i → refused r ≡ ◌>>=◌ p f s i
unfolding ◌>>=◌ go_on
bind_refused p f s i r e = rw (← e)

pub bind_got : {A B : Type 0} (p : Reader A) (f : A → Reader B) (s : List ℕ) (i : ℕ) (a : A) (j : ℕ) → got a j ≡ p s i → f a s j ≡ ◌>>=◌ p f s i
unfolding ◌>>=◌ go_on
bind_got p f s i a j e = rw (← e)

-- ---- a tested field

pub guard-refused : {A : Type 0} (n : ℕ) (ok : A → Bool) (p : Reader A) (s : List ℕ) (i : ℕ) (r : Refusal) → refused r ≡ p s i → refused r ≡ guard n ok p s i
unfolding guard tested
guard-refused n ok p s i r e = rw (← e)

pub guard_passed : {A : Type 0} (n : ℕ) (ok : A → Bool) (p : Reader A) (s : List ℕ) (i : ℕ) (a : A) (j : ℕ) → got a j ≡ p s i → true ≡ ok a → got a j ≡ guard n ok p s i
unfolding guard tested
guard_passed n ok p s i a j e t = rw (← e, ← t)

pub guard_failed : {A : Type 0} (n : ℕ) (ok : A → Bool) (p : Reader A) (s : List ℕ) (i : ℕ) (a : A) (j : ℕ) → got a j ≡ p s i → false ≡ ok a → refuse n i ≡ guard n ok p s i
unfolding guard tested
guard_failed n ok p s i a j e t = rw (← e, ← t)

-- ---- room for a port

pub or_false : (b : Bool) → b ≡ (b || false)
or_false true = refl
or_false false = refl

pub and_true : (b : Bool) → b ≡ (b && true)
and_true true = refl
and_true false = refl

pub below_not : (n k : ℕ) → ltb n k ≡ not (leb k n)
below_not n k = go (leb k n) refl
  where
    go : (b : Bool) → leb k n ≡ b → ltb n k ≡ not (leb k n)
    go true e = rw (e, le-ltb n k (leb-true k n e))
    go false e = rw (e, lt-ltb n k (leb-false k n e))

-- ---- the bytes of a name

-- the definition's recursion is the library's test of each element
pub all_name_bytes : (s : List ℕ) → list_all name_byte s ≡ name_bytes s
unfolding name_bytes
all_name_bytes [] = refl
all_name_bytes (b ∷ bs) = ap (λ (t : Bool). name_byte b && t) (all_name_bytes bs)

-- ---- a name

pub name-field : (s : List ℕ) (i : ℕ) → placed i (name s i) ≡ cond (leb (i + 1) (length s)) (cond (leb 1 (get_or s i 0) && leb (get_or s i 0) 32) (cond (leb (i + 1 + get_or s i 0) (length s)) (cond (name_bytes (take (get_or s i 0) (drop (i + 1) s))) (got i (i + 1 + get_or s i 0)) (refuse 5 (i + 1))) (refuse 3 (i + 1))) (refuse 5 i)) (refuse 3 i)
unfolding name ◌>>=◌ guard byte bytes go_on tested placed map_step refuse
name-field s i = all (leb (i + 1) (length s))
  where
    n : ℕ
    n = get_or s i 0

    last : Step ℕ
    last = cond (name_bytes (take n (drop (i + 1) s))) (got i (i + 1 + n)) (refuse 5 (i + 1))

    text : (d : Bool) → placed i (cond d (got (take n (drop (i + 1) s)) (i + 1 + n)) (refuse 5 (i + 1))) ≡ cond d (got i (i + 1 + n)) (refuse 5 (i + 1))
    text true = refl
    text false = refl

    fits : (c : Bool) → placed i (tested 5 name_bytes (i + 1) (cond c (got (take n (drop (i + 1) s)) (i + 1 + n)) (refuse 3 (i + 1)))) ≡ cond c last (refuse 3 (i + 1))
    fits true = text (name_bytes (take n (drop (i + 1) s)))
    fits false = refl

    sized : (b : Bool) → placed i (go_on (λ n. guard 5 name_bytes (bytes n)) s (cond b (got n (i + 1)) (refuse 5 i))) ≡ cond b (cond (leb (i + 1 + n) (length s)) last (refuse 3 (i + 1))) (refuse 5 i)
    sized true = fits (leb (i + 1 + n) (length s))
    sized false = refl

    all : (a : Bool) → placed i (go_on (λ n. guard 5 name_bytes (bytes n)) s (tested 5 (λ n. leb 1 n && leb n 32) i (cond a (got n (i + 1)) (refuse 3 i)))) ≡ cond a (cond (leb 1 n && leb n 32) (cond (leb (i + 1 + n) (length s)) last (refuse 3 (i + 1))) (refuse 5 i)) (refuse 3 i)
    all true = sized (leb 1 n && leb n 32)
    all false = refl

module _ (s : List ℕ) (i : ℕ) where
  pub name-cut : length s ≤ i → refuse 3 i ≡ placed i (name s i)
  name-cut h = let a : length s < i + 1 = omega arith in rw (name-field s i, lt-leb (i + 1) (length s) a)

  pub name-empty : i < length s → get_or s i 0 < 1 → refuse 5 i ≡ placed i (name s i)
  name-empty h l = let a : i + 1 ≤ length s = omega arith in rw (name-field s i, le-leb (i + 1) (length s) a, lt-leb 1 (get_or s i 0) l)

  pub name-long : i < length s → 32 < get_or s i 0 → refuse 5 i ≡ placed i (name s i)
  name-long h l =
      let a : i + 1 ≤ length s = omega arith in
      let b : 1 ≤ get_or s i 0 = omega arith in
      rw (name-field s i, le-leb (i + 1) (length s) a, le-leb 1 (get_or s i 0) b, lt-leb (get_or s i 0) 32 l)

  module _ (b : 1 ≤ get_or s i 0) (l : get_or s i 0 ≤ 32) where
    pub name-bytes-cut : i < length s → length s < i + 1 + get_or s i 0 → refuse 3 (i + 1) ≡ placed i (name s i)
    name-bytes-cut h f =
        let a : i + 1 ≤ length s = omega arith in
        rw (name-field s i, le-leb (i + 1) (length s) a, le-leb 1 (get_or s i 0) b, le-leb (get_or s i 0) 32 l, lt-leb (i + 1 + get_or s i 0) (length s) f)

    pub name-refused : i + 1 + get_or s i 0 ≤ length s → false ≡ name_bytes (take (get_or s i 0) (drop (i + 1) s)) → refuse 5 (i + 1) ≡ placed i (name s i)
    name-refused f t =
        let a : i + 1 ≤ length s = omega arith in
        rw (name-field s i, le-leb (i + 1) (length s) a, le-leb 1 (get_or s i 0) b, le-leb (get_or s i 0) 32 l, le-leb (i + 1 + get_or s i 0) (length s) f, ← t)

    pub name-got : i + 1 + get_or s i 0 ≤ length s → true ≡ name_bytes (take (get_or s i 0) (drop (i + 1) s)) → got i (i + 1 + get_or s i 0) ≡ placed i (name s i)
    name-got f t =
        let a : i + 1 ≤ length s = omega arith in
        rw (name-field s i, le-leb (i + 1) (length s) a, le-leb 1 (get_or s i 0) b, le-leb (get_or s i 0) 32 l, le-leb (i + 1 + get_or s i 0) (length s) f, ← t)
