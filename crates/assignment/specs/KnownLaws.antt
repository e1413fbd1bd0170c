-- Laws of the words of the blocks: what keeps them true of the assignment and the scores. Assumes nothing.
use Rattle.std.specs.Prelude.{◌≡◌, refl, Bool, true, false, cond, List, [], ◌∷◌, ◌⊎◌, ℕ, zero, suc, ◌+◌, ◌-◌, ◌*◌, ◌/◌, ◌%◌, ◌<◌, ◌≤◌, eqb, length, take, set, get_or, Float}
use Rattle.std.proofs.Common.{ap, sym, subst, ◌∙◌, inl, inr, arith, get_or-set_other}
use Rattle.std.proofs.Math.Option.{Option}
use Rattle.std.proofs.Math.ListN.{get_or-map}
use Rattle.facts.specs.Bools.{and_left, and_right}
use Rattle.facts.specs.Numbers.{by_eq}
use Rattle.facts.specs.Lists.{get_or-set_default}
use Rattle.words.specs.Layout.{LENT, BLOCK, BLOCKS, VALUES}
use Rattle.words.specs.Fill.{get_or-filled}
use Rattle.words.specs.Region.{region, stored, stored_in, cleared, cleared_in}
use Rattle.model.specs.Literal as Literals
use Rattle.model.specs.Sat as Sat
use Rattle.assignment.specs.State.{assignment_of, assignment_regions, apart_from, spares, column, word_value, word_reason, Unchanged, TrailReady, Assigns, Becomes, decided}
use Rattle.assignment.specs.StateLaws.{unchanged_none, unchanged_stored, unchanged_cleared, assignment-kept}
use Rattle.assignment.specs.Blocks.{score, Free, Ahead, Leads, Unsigned, first_of, end_of, Known, Cached, Grown, Forgets, ForgetsAll}
use Rattle.assignment.specs.declared.state.Activity.{Activity}
use Rattle.assignment.specs.declared.state.Trail.{Trail}

-- ---- what keeps the words of the blocks true

-- a variable stands where it stood: where it is unassigned it was so, with the same score
pub record Stays (vs vs' : List Sat.Value) (xs xs' : List Float) (x : ℕ) : Type 0 where
  pub free : Free vs' x → Free vs x
  pub score : Free vs' x → score xs' x ≡ score xs x

-- a block is unknown, or its word and its variables stand where they stood
abbrev pub Follows : ℕ → List Sat.Value → List Sat.Value → List Float → List Float → List ℕ → List ℕ → ℕ → Type 0
Follows n vs vs' xs xs' words words' b =
    (get_or words' b 0 ≡ 0) ⊎ ((get_or words' b 0 ≡ get_or words b 0) × ((x : ℕ) → x / BLOCK ≡ b → x < n → Stays vs vs' xs xs' x))

-- the block of a variable of a range
in_block : (n b x : ℕ) → first_of b ≤ x → x < end_of n b → x / BLOCK ≡ b
in_block n b x h k = omega arith

module _ (n : ℕ) (vs vs' : List Sat.Value) (xs xs' : List Float) where
  ahead_stays : (v x : ℕ) → score xs' v ≡ score xs v → score xs' x ≡ score xs x → Ahead xs v x → Ahead xs' v x
  ahead_stays v x e f a = record { higher = λ h. rw (e, f) (a.higher h); level = λ h. rw (e, f) (a.level h) }

  leads_stays : (b v : ℕ) → ((x : ℕ) → x / BLOCK ≡ b → x < n → Stays vs vs' xs xs' x) → (0 < v → Free vs' v) → Leads vs xs (first_of b) (end_of n b) v → Leads vs' xs' (first_of b) (end_of n b) v
  leads_stays b v s f l =
      record {
        own = λ p. let o = l.own p in (o.0, o.1, f p);
        all = λ x i j g.
            let z = s x (in_block n b x i j) (omega arith) in
            let a = l.all x i j (z.free g) in
            let o = l.own a.0 in
            let y = s v (in_block n b v o.0 o.1) (omega (arith, o.1)) in
            (a.0, ahead_stays v x (y.score (f a.0)) (z.score g) a.1);
      }

  pub known_follows : (words words' : List ℕ) → ((b : ℕ) → b * BLOCK < n → Follows n vs vs' xs xs' words words' b) → Known n vs xs words → Known n vs' xs' words'
  known_follows words words' s k =
      record {
        inside = λ b h p. at b h p (s b h);
        leads = λ b h p f. lead b h p f (s b h);
      }
    where
      at : (b : ℕ) → b * BLOCK < n → 1 < get_or words' b 0 → Follows n vs vs' xs xs' words words' b → ((get_or words' b 0 - 1) / BLOCK ≡ b) × (get_or words' b 0 ≤ n)
      at b h p (inl z) = absurd (omega arith)
      at b h p (inr z) = rw z.0 (k.inside b h (rw z.0 at p))

      lead : (b : ℕ) → b * BLOCK < n → 0 < get_or words' b 0 → (1 < get_or words' b 0 → Free vs' (get_or words' b 0 - 1)) → Follows n vs vs' xs xs' words words' b
          → Leads vs' xs' (first_of b) (end_of n b) (get_or words' b 0 - 1)
      lead b h p f (inl z) = absurd (omega arith)
      lead b h p f (inr z) =
          let q : 0 < get_or words b 0 = omega (arith, z.0) in
          let g : 1 < get_or words b 0 → Free vs (get_or words b 0 - 1) = λ r. let i = k.inside b h r in (z.1 (get_or words b 0 - 1) i.0 (omega (arith, i.1))).free (rw (← z.0) (f (omega (arith, z.0)))) in
          rw z.0 (leads_stays b (get_or words b 0 - 1) z.1 (λ r. rw (← z.0) (f (omega (arith, z.0)))) (k.leads b h q g))

-- ---- what a word says

-- the value of a variable, from its word
variable-is : (t : Trail) (w : List ℕ) (v : ℕ) → get_or (assignment_of t w).assignments v Sat.Unassigned ≡ word_value (get_or (column t.variables VALUES w) v 0)
unfolding assignment_of word_value
variable-is t w v = get_or-map word_value (column t.variables VALUES w) v 0

word_assigned : (k : ℕ) → (k ≡ 0 → ⊥) → word_value k ≡ Sat.Unassigned → ⊥
unfolding word_value
word_assigned zero n e = n refl
word_assigned (suc k) n e = go (eqb (suc k % 2) 1) e
  where
    go : (q : Bool) → cond q Sat.True Sat.False ≡ Sat.Unassigned → ⊥
    go true e = absurd (let z : ◌≡◌ {A = ℕ} 0 1 = cc e in omega arith)
    go false e = absurd (let z : ◌≡◌ {A = ℕ} 0 1 = cc e in omega arith)

pub free_word : (t : Trail) (w : List ℕ) (v k : ℕ) → k ≡ get_or (column t.variables VALUES w) v 0 → k ≡ 0 → Free (assignment_of t w).assignments v
unfolding word_value
free_word t w v k e z = rw (variable-is t w v, ← e, z)

pub assigned_word : (t : Trail) (w : List ℕ) (v k : ℕ) → k ≡ get_or (column t.variables VALUES w) v 0 → (k ≡ 0 → ⊥) → Free (assignment_of t w).assignments v → ⊥
assigned_word t w v k e n f = word_assigned k n (rw (variable-is t w v, ← e) at f)

-- ---- forgetting

-- the words of the other blocks are as they were
pub stored_block : (w : List ℕ) (c b : ℕ) → (b ≡ c → ⊥) → get_or (region BLOCKS (stored BLOCKS w c 0)) b 0 ≡ get_or (region BLOCKS w) b 0
stored_block w c b d = rw (stored_in BLOCKS w c 0) (get_or-set_other (region BLOCKS w) c b 0 0 d)

pub unknown_block : (w : List ℕ) (b : ℕ) → get_or (region BLOCKS (stored BLOCKS w b 0)) b 0 ≡ 0
unknown_block w b = rw (stored_in BLOCKS w b 0) (get_or-set_default (region BLOCKS w) b 0)

module _ (t : Trail) (w w' : List ℕ) (v : ℕ) (r : TrailReady t w) where
  pub forgets : (e : w' ≡ stored BLOCKS w (v / BLOCK) 0) → LENT ≤ length w' → Forgets t w v w'
  forgets e l =
      let f : Unchanged (BLOCKS ∷ []) w w' = unchanged_stored (BLOCKS ∷ []) BLOCKS (v / BLOCK) 0 refl (unchanged_none (BLOCKS ∷ []) w) e in
      let a : assignment_of t w' ≡ assignment_of t w = assignment-kept (BLOCKS ∷ []) t refl f in
      record {
        frame = f;
        ready = record { words = l; variables = r.variables; literals = r.literals; levels = r.levels };
        known = λ s s' h. known_follows t.variables _ _ _ _ _ _ (λ b k.
            by_eq b (v / BLOCK)
            (λ q. inl (rw (e, ← q) (unknown_block w b)))
            (λ q. inr (rw e (stored_block w (v / BLOCK) b q), λ x i j. record { free = λ z. rw a at z; score = λ z. h x (λ y. q (sym i ∙ ap (λ (m : ℕ). m / BLOCK) y)) })));
      }

pub forgets_not : (t : Trail) (w : List ℕ) (v : ℕ) → TrailReady t w → (k : ℕ) → k ≡ get_or (column t.variables VALUES w) v 0 → (k ≡ 0 → ⊥) → Forgets t w v w
forgets_not t w v r k e n =
    record {
      frame = unchanged_none (BLOCKS ∷ []) w;
      ready = r;
      known = λ s s' h. known_follows t.variables _ _ _ _ _ _ (λ b m. inr (refl, λ x i j. record { free = λ z. z; score = λ z. h x (λ y. assigned_word t w v k e n (rw y at z)) }));
    }

-- all words 0 say nothing
pub known-nothing : (n : ℕ) (vs : List Sat.Value) (xs : List Float) (words : List ℕ) → ((b : ℕ) → b * BLOCK < n → get_or words b 0 ≡ 0) → Known n vs xs words
known-nothing n vs xs words z =
    record { inside = λ b h p. absurd (omega (arith, z b h)); leads = λ b h p f. absurd (omega (arith, z b h)) }

pub cleared_blocks : (w w' : List ℕ) (n : ℕ) → w' ≡ cleared BLOCKS w (n / BLOCK + 1) → (b : ℕ) → b * BLOCK < n → get_or (region BLOCKS w') b 0 ≡ 0
cleared_blocks w w' n e b h = rw (e, cleared_in BLOCKS w (n / BLOCK + 1)) (get_or-filled 0 (n / BLOCK + 1) (region BLOCKS w) b (omega arith))

pub forgets_all : (t : Trail) (w w' : List ℕ) → TrailReady t w → w' ≡ cleared BLOCKS w (t.variables / BLOCK + 1) → LENT ≤ length w' → ForgetsAll t w w'
forgets_all t w w' r e l =
    record {
      frame = unchanged_cleared (BLOCKS ∷ []) BLOCKS (t.variables / BLOCK + 1) refl (unchanged_none (BLOCKS ∷ []) w) e;
      ready = record { words = l; variables = r.variables; literals = r.literals; levels = r.levels };
      known = λ s. known-nothing t.variables _ _ _ (cleared_blocks w w' t.variables e);
    }

-- ---- the frame

-- what is known stays so where other regions are written
pub cached-kept : (listed : List ℕ) (t : Trail) {w w' : List ℕ} (a : Activity) (s : List Float) → spares listed (BLOCKS ∷ assignment_regions) ≡ true → Unchanged listed w w' → Cached t w a s → Cached t w' a s
cached-kept listed t a s m f c =
    let e = assignment-kept listed t (and_right (apart_from listed BLOCKS) _ m) f in
    let b = f.same BLOCKS (and_left (apart_from listed BLOCKS) _ m) in
    record { known = rw (e, b) c.known; scores = c.scores; increment = c.increment }

-- ---- assignments

making_some : (b : Bool) → Sat.making_true b ≡ Sat.Unassigned → ⊥
unfolding Sat.making_true
making_some true e = absurd (let z : ◌≡◌ {A = ℕ} 0 1 = cc e in omega arith)
making_some false e = absurd (let z : ◌≡◌ {A = ℕ} 0 1 = cc e in omega arith)

set-grows : (vs : List Sat.Value) (i : ℕ) (y : Sat.Value) → (y ≡ Sat.Unassigned → ⊥) → (x : ℕ) → Free (set vs i y) x → Free vs x
set-grows [] i y n x f = f
set-grows (v ∷ vs) zero y n zero f = absurd (n f)
set-grows (v ∷ vs) zero y n (suc x) f = f
set-grows (v ∷ vs) (suc i) y n zero f = f
set-grows (v ∷ vs) (suc i) y n (suc x) f = set-grows vs i y n x f

assigned_values : (a : Sat.Assignment) (l : ℕ) (r : Option ℕ) → (Sat.assign a l r).assignments ≡ set a.assignments (Literals.node l) (Sat.making_true (Literals.inverted l))
unfolding Sat.assign
assigned_values a l r = refl

-- a literal made true
pub assign-grows : (t : Trail) (w : List ℕ) (l reason : ℕ) (r : Trail) (w' : List ℕ) → Assigns t w l reason r w' → Grown t w r w'
assign-grows t w l reason r w' a x f =
    set-grows (assignment_of t w).assignments (Literals.node l) (Sat.making_true (Literals.inverted l)) (making_some (Literals.inverted l)) x
    (rw (a.is, assigned_values (assignment_of t w) l (word_reason reason)) at f)

-- what is known stays so where variables are assigned
pub cached-grown : (t : Trail) (w : List ℕ) (r : Trail) (w' : List ℕ) (a : Activity) (s : List Float) → r.variables ≡ t.variables → region BLOCKS w' ≡ region BLOCKS w → Grown t w r w'
    → Cached t w a s → Cached r w' a s
cached-grown t w r w' a s e b g c =
    let k : Known t.variables (assignment_of r w').assignments (take t.variables s) (region BLOCKS w)
    = known_follows t.variables _ _ _ _ _ _ (λ i h. inr (refl, λ x j z. record { free = g x; score = λ y. refl })) c.known in
    record {
      known = subst (λ (n : ℕ). Known n (assignment_of r w').assignments (take n s) (region BLOCKS w')) (sym e) (rw b k);
      scores = subst (λ (n : ℕ). Unsigned (take n s)) (sym e) c.scores;
      increment = c.increment;
    }

decided-values : (a : Sat.Assignment) (v : ℕ) → (decided a v).assignments ≡ set a.assignments (Literals.node (Sat.decision a v)) (Sat.making_true (Literals.inverted (Sat.decision a v)))
unfolding decided Sat.assign Sat.push_limit
decided-values a v = refl

-- a variable decided
pub decide-grows : (t : Trail) (w : List ℕ) (v : ℕ) (r : Trail) (w' : List ℕ) → Becomes t w (decided (assignment_of t w) v) r w' → Grown t w r w'
decide-grows t w v r w' b x f =
    let l = Sat.decision (assignment_of t w) v in
    set-grows (assignment_of t w).assignments (Literals.node l) (Sat.making_true (Literals.inverted l)) (making_some (Literals.inverted l)) x
    (rw (b.is, decided-values (assignment_of t w) v) at f)
