-- Laws of the assignment in lent words: what a read finds, and what a store makes of it. Assumes nothing.
use Rattle.std.specs.Prelude.{◌≡◌, refl, Bool, true, false, not, cond, List, [], ◌∷◌, ◌++◌, map, ℕ, zero, suc, ◌+◌, ◌-◌, ◌*◌, ◌%◌, ◌<◌, ◌≤◌, eqb, length, take, set, get_or, Option, Some, None, unwrap_or}
use Rattle.std.proofs.Common.{ap, sym, ◌∙◌, ⊎_elim, arith, eqb-true, length-take, get_or-take, length-take-le}
use Rattle.std.specs.Bool.{beq}
use mir.Val.{bool_byte}
use Rattle.std.proofs.lemmas.List.{length-map, take-set-le}
use Rattle.std.proofs.Math.ListN.{get_or-map, get_or-eq_default}
use Rattle.std.proofs.Math.Seq.{take-set-lt, set_out}
use Rattle.facts.specs.Bools.{and_left, and_right, both-and}
use Rattle.facts.specs.Numbers.{below}
use Rattle.words.specs.Layout.{LENT, SMALL, VALUES, LEVELS, REASONS, PHASES, TRAIL, LIMITS}
use Rattle.words.specs.Region.{region, size_of, apart, stored, stores, stored_out, cleared, cleared_out, push, length-region}
use Rattle.model.specs.Literal as Literals
use Rattle.model.specs.Lists as Lists
use Rattle.model.specs.Sat as Sat
use Rattle.assignment.specs.State.{word_value, word_reason, word_bit, value_of, assignment_of, column, apart_from, lists, within, spares, Unchanged, TrailReady, assignment_regions, Assigns}
use Rattle.assignment.specs.declared.state.Trail.{Trail}

-- ---- lists

-- a store commutes with a cut, wherever it goes
pub take-set : {A : Type 0} (n : ℕ) (l : List A) (i : ℕ) (a : A) → take n (set l i a) ≡ set (take n l) i a
take-set n l i a =
    ⊎_elim (λ (h : i < n). take-set-lt n l i a h)
    (λ (h : n ≤ i). take-set-le n l i a h ∙ sym (set_out (take n l) i a (simp length-take (omega arith))))
    (below i n)

-- a store commutes with a map
pub map-set : {A B : Type 0} (f : A → B) (l : List A) (i : ℕ) (a : A) → map f (set l i a) ≡ set (map f l) i (f a)
map-set f [] i a = refl
map-set f (x ∷ xs) zero a = refl
map-set f (x ∷ xs) (suc i) a = ap (λ ys. f x ∷ ys) (map-set f xs i a)

-- past a cut there is nothing
pub get_or-past : (n : ℕ) (l : List ℕ) (i : ℕ) → n ≤ i → 0 ≡ get_or (take n l) i 0
get_or-past n l i h = sym (get_or-eq_default (take n l) 0 (simp length-take (omega arith)))

-- ---- literals

-- a sign as a number is 0 or 1
pub sign_low : (b : Bool) → bool_byte b ≤ 1
sign_low true = omega arith
sign_low false = omega arith

-- the word that makes a literal true; the argument: inverted
pub making_true_lem : (b : Bool) → word_value (bool_byte b + 1) ≡ Sat.making_true b
unfolding word_value Sat.making_true
making_true_lem true = refl
making_true_lem false = refl

-- the phase of a literal that is made true
pub phase_of : (b : Bool) → word_bit (1 - bool_byte b) ≡ not b
unfolding word_bit
phase_of true = refl
phase_of false = refl

-- the word 0: no literal of the variable has a value
pub word_unassigned : (v : ℕ) (b : Bool) → v ≡ 0 → Sat.literal_value b (word_value v) ≡ Sat.Unassigned
unfolding word_value Sat.literal_value
word_unassigned v b e = rw e

-- a variable that is true, or not: its literal is true just where it is inverted and the variable is not, or the other way round
sign_value : (q b : Bool) → value_of (Some (not (beq q b))) ≡ Sat.literal_value b (cond q Sat.True Sat.False)
unfolding Sat.literal_value
sign_value true true = refl
sign_value true false = refl
sign_value false true = refl
sign_value false false = refl

-- a word of an assigned variable: whether the literal is true
pub word_known : (v : ℕ) (b : Bool) → (v ≡ 0 → ⊥) → value_of (Some (not (beq (eqb (v % 2) 1) b))) ≡ Sat.literal_value b (word_value v)
unfolding word_value
word_known zero b n = absurd (n refl)
word_known (suc k) b n = sign_value (eqb (suc k % 2) 1) b

-- a value that is none counts as not false
pub unless_false : (o : Option Bool) → unwrap_or o true ≡ Sat.not_false (value_of o)
unfolding Sat.not_false
unless_false None = refl
unless_false (Some true) = refl
unless_false (Some false) = refl

-- ---- reads

-- a mark's word that is not 0
pub bit-true : (p : ℕ) → (p ≡ 0 → ⊥) → word_bit p ≡ true
unfolding word_bit
bit-true zero n = absurd (n refl)
bit-true (suc p) n = refl

-- the value of a literal of the variables, from the word of its variable
pub value-is : (t : Trail) (w : List ℕ) (l v x : ℕ) → l < t.variables * 2 → v ≡ Literals.node l → x ≡ get_or (region VALUES w) v 0
    → Sat.value (assignment_of t w) l ≡ Sat.literal_value (Literals.inverted l) (word_value x)
unfolding Sat.value assignment_of word_value Literals.node
value-is t w l v x b e r =
    ap (λ (y : Sat.Value). Sat.literal_value (Literals.inverted l) y) (get_or-map word_value (column t.variables VALUES w) (Literals.node l) 0)
    ∙ ap (λ (y : ℕ). Sat.literal_value (Literals.inverted l) (word_value y))
    (get_or-take t.variables (region VALUES w) (Literals.node l) 0 (omega (arith, b)) ∙ ap (λ (i : ℕ). get_or (region VALUES w) i 0) (sym e) ∙ sym r)

-- ---- the frame

-- a region apart from all those listed is apart from each
apart_of : (listed : List ℕ) (b c : ℕ) → lists c listed ≡ true → apart_from listed b ≡ true → apart b c ≡ true
apart_of [] b c m e = absurd (let z : ◌≡◌ {A = ℕ} 0 1 = cc m in omega arith)
apart_of (x ∷ xs) b c m e = go (eqb c x) refl (λ (k : lists c xs ≡ true). apart_of xs b c k (and_right (apart b x) (apart_from xs b) e))
  where
    go : (q : Bool) → eqb c x ≡ q → (lists c xs ≡ true → apart b c ≡ true) → apart b c ≡ true
    go true q f = rw (eqb-true c x q) (and_left (apart b x) (apart_from xs b) e)
    go false q f = f (rw q at m)

pub unchanged_none : (listed w : List ℕ) → Unchanged listed w w
unchanged_none listed w = record { same = λ b e. refl }

pub unchanged_both : (listed : List ℕ) {u v w : List ℕ} → Unchanged listed u v → Unchanged listed v w → Unchanged listed u w
unchanged_both listed f g = record { same = λ b e. g.same b e ∙ f.same b e }

apart-within : (xs ys : List ℕ) (b : ℕ) → within xs ys ≡ true → apart_from ys b ≡ true → apart_from xs b ≡ true
apart-within [] ys b m e = refl
apart-within (x ∷ xs) ys b m e =
    both-and (apart b x) (apart_from xs b) (apart_of ys b x (and_left (lists x ys) (within xs ys) m) e)
    (apart-within xs ys b (and_right (lists x ys) (within xs ys) m) e)

-- what is unchanged apart from a few regions is so apart from more
pub unchanged_within : (xs ys : List ℕ) {u w : List ℕ} → within xs ys ≡ true → Unchanged xs u w → Unchanged ys u w
unchanged_within xs ys m f = record { same = λ b e. f.same b (apart-within xs ys b m e) }

-- one more store into a listed region
pub unchanged_stored : (listed : List ℕ) (c i v : ℕ) {u w w' : List ℕ} → lists c listed ≡ true → Unchanged listed u w → w' ≡ stored c w i v → Unchanged listed u w'
unchanged_stored listed c i v {u} {w} {w'} m f e =
    record { same = λ b k. ap (λ (x : List ℕ). region b x) e ∙ stored_out b w c i v (apart_of listed b c m k) ∙ f.same b k }

-- the first words of a listed region cleared
pub unchanged_cleared : (listed : List ℕ) (c n : ℕ) {u w w' : List ℕ} → lists c listed ≡ true → Unchanged listed u w → w' ≡ cleared c w n → Unchanged listed u w'
unchanged_cleared listed c n {u} {w} {w'} m f e =
    record { same = λ b k. ap (λ (x : List ℕ). region b x) e ∙ cleared_out b w c n (apart_of listed b c m k) ∙ f.same b k }

-- the assignment is as it was where other regions are written
pub assignment-kept : (listed : List ℕ) (t : Trail) {w w' : List ℕ} → spares listed assignment_regions ≡ true → Unchanged listed w w' → assignment_of t w' ≡ assignment_of t w
unfolding assignment_of
assignment-kept listed t {w} {w'} m f =
    let p = apart_from listed in
    let m₁ = and_right (p VALUES) _ m in
    let m₂ = and_right (p LEVELS) _ m₁ in
    let m₃ = and_right (p REASONS) _ m₂ in
    let m₄ = and_right (p PHASES) _ m₃ in
    let m₅ = and_right (p TRAIL) _ m₄ in
    rw (
      f.same VALUES (and_left _ _ m),
      f.same LEVELS (and_left _ _ m₁),
      f.same REASONS (and_left _ _ m₂),
      f.same PHASES (and_left _ _ m₃),
      f.same TRAIL (and_left _ _ m₄),
      f.same LIMITS (and_left _ _ m₅),
    )

-- ---- the numbers of an assignment

length-column : (b n : ℕ) (w : List ℕ) → b + size_of b ≤ length w → n ≤ size_of b → length (column n b w) ≡ n
length-column b n w h k = length-take-le n (region b w) (omega (arith, length-region b w h))

pub trail-length : (t : Trail) (w : List ℕ) → TrailReady t w → length (assignment_of t w).trail ≡ t.length
unfolding assignment_of
trail-length t w r = length-column TRAIL t.length w (omega arith) r.literals

pub level-is : (t : Trail) (w : List ℕ) → TrailReady t w → Sat.decision_level (assignment_of t w) ≡ t.level
unfolding assignment_of Sat.decision_level
level-is t w r = length-column LIMITS t.level w (omega arith) r.levels

pub variables_are : (t : Trail) (w : List ℕ) → TrailReady t w → length (assignment_of t w).assignments ≡ t.variables
unfolding assignment_of
variables_are t w r = length-map (column t.variables VALUES w) word_value ∙ length-column VALUES t.variables w (omega arith) r.variables

-- ---- assign

-- the words of `assign`
abbrev pub assign_words : List ℕ → ℕ → ℕ → ℕ → ℕ → List ℕ
assign_words w n level l reason =
    let v = Literals.node l in
    let b = bool_byte (Literals.inverted l) in
    stored TRAIL (stored PHASES (stored REASONS (stored LEVELS (stored VALUES w v (b + 1)) v level) v reason) v (1 - b)) n l

-- a store at the end of the first n words
pub set-end : (b : ℕ) (w : List ℕ) (n v : ℕ) → n < size_of b → b + size_of b ≤ length w → set (column (n + 1) b w) n v ≡ column n b w ++ (v ∷ [])
set-end b w n v h k = sym (take-set (n + 1) (region b w) n v) ∙ push b w n v h k

pub assign-is : (t : Trail) (w : List ℕ) (l reason : ℕ) → TrailReady t w → t.length < SMALL
    → assignment_of (record { variables = t.variables; length = t.length + 1; head = t.head; level = t.level }) (assign_words w t.length t.level l reason)
    ≡ Sat.assign (assignment_of t w) l (word_reason reason)
unfolding assignment_of Sat.assign Sat.decision_level Lists.snoc
assign-is t w l reason r h =
    let k : TRAIL + SMALL ≤ length w = omega arith in
    let lv : length (column t.level LIMITS w) ≡ t.level = length-column LIMITS t.level w (omega arith) r.levels in
    simp (stores, take-set, map-set, making_true_lem, phase_of, set-end TRAIL w t.length l h k, lv)

-- the five stores of `assign`
module _ (t : Trail) (l reason v b : ℕ) {w w₁ w₂ w₃ w₄ w₅ : List ℕ} where
  pub assigns : TrailReady t w → t.length < SMALL → v ≡ Literals.node l → b ≡ bool_byte (Literals.inverted l) → w₁ ≡ stored VALUES w v (b + 1) → w₂ ≡ stored LEVELS w₁ v t.level → w₃ ≡ stored REASONS w₂ v reason
      → w₄ ≡ stored PHASES w₃ v (1 - b) → w₅ ≡ stored TRAIL w₄ t.length l → LENT ≤ length w₅
      → Assigns t w l reason (record { variables = t.variables; length = t.length + 1; head = t.head; level = t.level }) w₅
  assigns r h e f e₁ e₂ e₃ e₄ e₅ k =
      let listed = assignment_regions in
      let s : w₅ ≡ assign_words w t.length t.level l reason = cc in
      record {
        is = rw s (assign-is t w l reason r h);
        frame = unchanged_stored listed TRAIL _ _ refl (unchanged_stored listed PHASES _ _ refl (unchanged_stored listed REASONS _ _ refl
            (unchanged_stored listed LEVELS _ _ refl (unchanged_stored listed VALUES _ _ refl (unchanged_none listed w) e₁) e₂) e₃) e₄) e₅;
        ready = record { words = k; variables = r.variables; literals = omega arith; levels = r.levels };
        variables = refl;
        level = refl;
      }
