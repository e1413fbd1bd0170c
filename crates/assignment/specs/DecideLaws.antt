-- Laws of a decision and of the start in lent words. Assumes nothing.
use Rattle.std.specs.Prelude.{◌≡◌, refl, Bool, true, false, cond, List, [], ◌∷◌, map, ℕ, zero, suc, ◌+◌, ◌*◌, ◌/◌, ◌<◌, ◌≤◌, length, get_or, replicate}
use Rattle.std.proofs.Common.{ap, ◌∙◌, arith, eq-eqb}
use Rattle.std.proofs.Math.ListN.{get_or-map}
use Rattle.words.specs.Layout.{LENT, SMALL, DOUBLE, MOST-NODES, VALUES, LEVELS, REASONS, PHASES, TRAIL, LIMITS, BLOCKS, BLOCK}
use Rattle.words.specs.Fill.{take-filled}
use Rattle.words.specs.Region.{region, size_of, stored, stores, cleared, cleared_in, length-region}
use Rattle.literals.specs.LiteralLaws.{negate-even}
use Rattle.model.specs.Literal as Literals
use Rattle.model.specs.Lists as Lists
use Rattle.model.specs.Sat as Sat
use Rattle.assignment.specs.State.{word_value, word_reason, word_bit, assignment_of, column, lists, TrailReady, assignment_regions, Becomes, Assigns, decided, Cleared}
use Rattle.assignment.specs.Blocks.{News}
use Rattle.assignment.specs.KnownLaws.{known-nothing, cleared_blocks}
use Rattle.assignment.specs.StateLaws.{bit-true, set-end, take-set, unchanged_none, unchanged_both, unchanged_stored, unchanged_cleared, unchanged_within, trail-length}
use Rattle.assignment.specs.declared.state.Trail.{Trail}

-- ---- a decision

-- the phase of a variable, from its word
phase_is : (t : Trail) (w : List ℕ) (v : ℕ) → get_or (assignment_of t w).phases v false ≡ word_bit (get_or (column t.variables PHASES w) v 0)
unfolding assignment_of word_bit
phase_is t w v = get_or-map word_bit (column t.variables PHASES w) v 0

-- a decision on a variable of the layout is a literal of it
pub decision-near : (a : Sat.Assignment) (v : ℕ) → v < MOST-NODES → Sat.decision a v < DOUBLE
unfolding Sat.decision
decision-near a v h = go (get_or a.phases v false)
  where
    go : (b : Bool) → cond b (v * 2) (v * 2 + 1) < DOUBLE
    go true = omega arith
    go false = omega arith

pub decision-false : (t : Trail) (w : List ℕ) (v p : ℕ) → p ≡ get_or (column t.variables PHASES w) v 0 → p ≡ 0 → Literals.negate (v * 2) ≡ Sat.decision (assignment_of t w) v
unfolding Sat.decision word_bit
decision-false t w v p e z = negate-even (v * 2) (omega arith) ∙ rw (phase_is t w v, ← e, z)

pub decision-true : (t : Trail) (w : List ℕ) (v p : ℕ) → p ≡ get_or (column t.variables PHASES w) v 0 → (p ≡ 0 → ⊥) → v * 2 ≡ Sat.decision (assignment_of t w) v
unfolding Sat.decision
decision-true t w v p e n = rw (phase_is t w v, ← e, bit-true p n)

push_limit-is : (t : Trail) (w : List ℕ) → TrailReady t w → t.level < SMALL
    → assignment_of (record { variables = t.variables; length = t.length; head = t.head; level = t.level + 1 }) (stored LIMITS w t.level t.length) ≡ Sat.push_limit (assignment_of t w)
unfolding Sat.push_limit assignment_of Lists.snoc
push_limit-is t w r h =
    let k : LIMITS + SMALL ≤ length w = omega arith in
    let e : length (column t.length TRAIL w) ≡ t.length = trail-length t w r in
    simp (stores, take-set, set-end LIMITS w t.level t.length h k, e)

pub pushes_limit : (t : Trail) (w w' : List ℕ) → TrailReady t w → t.level < SMALL → w' ≡ stored LIMITS w t.level t.length → LENT ≤ length w'
    → Becomes t w (Sat.push_limit (assignment_of t w)) (record { variables = t.variables; length = t.length; head = t.head; level = t.level + 1 }) w'
pushes_limit t w w' r h e k =
    record {
      is = rw e (push_limit-is t w r h);
      frame = unchanged_stored assignment_regions LIMITS _ _ refl (unchanged_none assignment_regions w) e;
      ready = record { words = k; variables = r.variables; literals = r.literals; levels = omega arith };
      variables = refl;
    }

pub decides : (t u r : Trail) (w w₁ w₂ : List ℕ) (v l : ℕ) → l ≡ Sat.decision (assignment_of t w) v → Becomes t w (Sat.push_limit (assignment_of t w)) u w₁
    → Assigns u w₁ l 0 r w₂ → Becomes t w (decided (assignment_of t w) v) r w₂
unfolding decided word_reason
decides t u r w w₁ w₂ v l e p a =
    record {
      is = a.is ∙ rw (p.is, e);
      frame = unchanged_both assignment_regions p.frame a.frame;
      ready = a.ready;
      variables = a.variables ∙ p.variables;
    }

-- ---- the start

listed_alone : (b : ℕ) → lists b (b ∷ []) ≡ true
listed_alone b = rw (eq-eqb b b refl)

-- the first n words of a region cleared
pub clears : (base n : ℕ) (w w' : List ℕ) → n ≤ size_of base → base + size_of base ≤ length w → w' ≡ cleared base w n → LENT ≤ length w' → Cleared base n w w'
clears base n w w' h k e l =
    record {
      zeros = rw (e, cleared_in base w n) (take-filled 0 n (region base w) (omega (arith, length-region base w k)));
      frame = unchanged_cleared (base ∷ []) base n (listed_alone base) (unchanged_none (base ∷ []) w) e;
      words = l;
    }

pub map-replicate : {A B : Type 0} (f : A → B) (n : ℕ) (a : A) → map f (replicate n a) ≡ replicate n (f a)
map-replicate f zero a = refl
map-replicate f (suc n) a = ap (λ xs. f a ∷ xs) (map-replicate f n a)

-- the four regions of `new`, and the blocks, one after another
pub news : (n : ℕ) (w w₁ w₂ w₃ w₄ w₅ : List ℕ) → n ≤ MOST-NODES → Cleared VALUES n w w₁ → Cleared LEVELS n w₁ w₂ → Cleared REASONS n w₂ w₃ → Cleared PHASES n w₃ w₄
    → w₅ ≡ cleared BLOCKS w₄ (n / BLOCK + 1) → LENT ≤ length w₅ → News n w (record { variables = n; length = 0; head = 0; level = 0 }) w₅
unfolding assignment_of Sat.new word_value word_reason word_bit
news n w w₁ w₂ w₃ w₄ w₅ h c₁ c₂ c₃ c₄ e l =
    let listed = BLOCKS ∷ assignment_regions in
    let f = unchanged_cleared (BLOCKS ∷ []) BLOCKS (n / BLOCK + 1) refl (unchanged_none (BLOCKS ∷ []) w₄) e in
    record {
      is = rw (
        f.same VALUES refl,
        f.same LEVELS refl,
        f.same REASONS refl,
        f.same PHASES refl,
        c₄.zeros,
        c₄.frame.same VALUES refl,
        c₄.frame.same LEVELS refl,
        c₄.frame.same REASONS refl,
        c₃.frame.same VALUES refl,
        c₃.frame.same LEVELS refl,
        c₃.zeros,
        c₂.frame.same VALUES refl,
        c₂.zeros,
        c₁.zeros,
      )
          (simp map-replicate);
      frame = unchanged_both listed (unchanged_within (VALUES ∷ []) listed refl c₁.frame)
          (unchanged_both listed (unchanged_within (LEVELS ∷ []) listed refl c₂.frame)
          (unchanged_both listed (unchanged_within (REASONS ∷ []) listed refl c₃.frame)
          (unchanged_both listed (unchanged_within (PHASES ∷ []) listed refl c₄.frame) (unchanged_within (BLOCKS ∷ []) listed refl f))));
      ready = record { words = l; variables = h; literals = omega arith; levels = omega arith };
      variables = refl;
      known = λ s. known-nothing n _ _ _ (cleared_blocks w₄ w₅ n e);
    }
