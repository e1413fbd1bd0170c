-- Laws of backtracking in lent words: a literal unassigned, the literals of the trail from a place on, and the cut. Assumes nothing.
use Rattle.std.specs.Prelude.{◌≡◌, refl, List, [], ◌∷◌, ℕ, ◌+◌, ◌/◌, ◌<◌, ◌≤◌, min, length, take, drop, set, get_or, Float}
use Rattle.std.proofs.Common.{ap, sym, ◌∙◌, inl, inr, ⊎_elim, arith, add-one, le-leb, drop_of_length-le, length-take, drop-cons, take-take, take_all, get_or-take, get_or-set_other}
use Rattle.std.proofs.lemmas.Bool.{lt-leb}
use Rattle.facts.specs.Numbers.{below, by_eq}
use Rattle.words.specs.Layout.{LENT, VALUES, LEVELS, REASONS, TRAIL, LIMITS, BLOCKS, BLOCK}
use Rattle.words.specs.Region.{region, stored, stores}
use Rattle.model.specs.Literal as Literals
use Rattle.model.specs.Sat as Sat
use Rattle.assignment.specs.State.{word_value, word_reason, assignment_of, column, Unchanged, TrailReady, assignment_regions}
use Rattle.assignment.specs.Blocks.{Free, KnownIn, Undoes}
use Rattle.assignment.specs.StateLaws.{take-set, map-set, unchanged_none, unchanged_both, unchanged_within, unchanged_stored, assignment-kept, trail-length, level-is}
use Rattle.assignment.specs.KnownLaws.{known_follows, stored_block, unknown_block}
use Rattle.assignment.specs.declared.state.Trail.{Trail}

-- ---- one literal

unassign-is : (t : Trail) (w : List ℕ) (l : ℕ)
    → assignment_of t (stored REASONS (stored LEVELS (stored VALUES w (Literals.node l) 0) (Literals.node l) 0) (Literals.node l) 0) ≡ Sat.unassign (assignment_of t w) l
unfolding assignment_of Sat.unassign word_value word_reason
unassign-is t w l = simp (stores, take-set, map-set)

unassigned-values : (a : Sat.Assignment) (l : ℕ) → (Sat.unassign a l).assignments ≡ set a.assignments (Literals.node l) Sat.Unassigned
unfolding Sat.unassign
unassigned-values a l = refl

-- the four stores of `unassign`
module _ (t : Trail) (l v : ℕ) {w w₁ w₂ w₃ w₄ : List ℕ} (r : TrailReady t w) (e : v ≡ Literals.node l)
    (e₁ : w₁ ≡ stored VALUES w v 0) (e₂ : w₂ ≡ stored LEVELS w₁ v 0) (e₃ : w₃ ≡ stored REASONS w₂ v 0) (e₄ : w₄ ≡ stored BLOCKS w₃ (v / BLOCK) 0) where
  three-frame : Unchanged assignment_regions w w₃
  three-frame =
      let listed = assignment_regions in
      unchanged_stored listed REASONS _ _ refl (unchanged_stored listed LEVELS _ _ refl (unchanged_stored listed VALUES _ _ refl (unchanged_none listed w) e₁) e₂) e₃

  last_frame : Unchanged (BLOCKS ∷ []) w₃ w₄
  last_frame = unchanged_stored (BLOCKS ∷ []) BLOCKS (v / BLOCK) 0 refl (unchanged_none (BLOCKS ∷ []) w₃) e₄

  after : assignment_of t w₄ ≡ Sat.unassign (assignment_of t w) l
  after =
      let s : w₃ ≡ stored REASONS (stored LEVELS (stored VALUES w (Literals.node l) 0) (Literals.node l) 0) (Literals.node l) 0 = cc in
      assignment-kept (BLOCKS ∷ []) t refl last_frame ∙ rw s (unassign-is t w l)

  blocks_before : region BLOCKS w₃ ≡ region BLOCKS w
  blocks_before = three-frame.same BLOCKS refl

  -- a variable of another block is unassigned where it was
  elsewhere : (x b : ℕ) → (b ≡ v / BLOCK → ⊥) → x / BLOCK ≡ b → Free (assignment_of t w₄).assignments x → Free (assignment_of t w).assignments x
  elsewhere x b q i f =
      let d : x ≡ Literals.node l → ⊥ = λ y. q (sym i ∙ ap (λ (m : ℕ). m / BLOCK) (y ∙ sym e)) in
      sym (get_or-set_other (assignment_of t w).assignments (Literals.node l) x Sat.Unassigned Sat.Unassigned d) ∙ (rw (after, unassigned-values (assignment_of t w) l) at f)

  pub unassigns : LENT ≤ length w₄ → Undoes t w (Sat.unassign (assignment_of t w) l) t w₄
  unassigns k =
      let listed = BLOCKS ∷ assignment_regions in
      record {
        is = after;
        frame = unchanged_both listed (unchanged_within assignment_regions listed refl three-frame) (unchanged_within (BLOCKS ∷ []) listed refl last_frame);
        ready = record { words = k; variables = r.variables; literals = r.literals; levels = r.levels };
        variables = refl;
        known = λ s. known_follows t.variables _ _ _ _ _ _ (λ b h.
            by_eq b (v / BLOCK)
            (λ q. inl (rw (e₄, ← q) (unknown_block w₃ b)))
            (λ q. inr (rw (e₄, ← blocks_before) (stored_block w₃ (v / BLOCK) b q), λ x i j. record { free = elsewhere x b q i; score = λ z. refl })));
      }

-- ---- the trail from a place on

-- what is left of `unassign_from` at place i, the words being w
pub record Undoing (t : Trail) (w₀ : List ℕ) (from i : ℕ) (w : List ℕ) : Type 0 where
  pub inside : i ≤ t.length
  pub long : length w ≡ length w₀
  pub trail : (assignment_of t w).trail ≡ (assignment_of t w₀).trail
  pub left : Sat.unassign_all (assignment_of t w) (drop i (assignment_of t w₀).trail) ≡ Sat.unassign_all (assignment_of t w₀) (drop from (assignment_of t w₀).trail)
  pub frame : Unchanged (BLOCKS ∷ assignment_regions) w₀ w
  pub ready : TrailReady t w
  pub known : (s : List Float) → KnownIn t w₀ s → KnownIn t w s

unassign-trail : (a : Sat.Assignment) (l : ℕ) → (Sat.unassign a l).trail ≡ a.trail
unfolding Sat.unassign
unassign-trail a l = refl

-- the trail's word at a place
trail-at : (t : Trail) (w : List ℕ) (i : ℕ) → i < t.length → get_or (region TRAIL w) i 0 ≡ get_or (assignment_of t w).trail i 0
unfolding assignment_of
trail-at t w i h = sym (get_or-take t.length (region TRAIL w) i 0 h)

unassign-next : (a : Sat.Assignment) (ls : List ℕ) (i : ℕ) → i < length ls → Sat.unassign_all a (drop i ls) ≡ Sat.unassign_all (Sat.unassign a (get_or ls i 0)) (drop (i + 1) ls)
unfolding Sat.unassign_all
unassign-next a ls i h = rw (drop-cons ls i 0, add-one)

pub undoing_step : (t : Trail) (w₀ w w' : List ℕ) (from i l : ℕ) → TrailReady t w₀ → Undoing t w₀ from i w → i < t.length → l ≡ get_or (region TRAIL w) i 0
    → Undoes t w (Sat.unassign (assignment_of t w) l) t w' → length w' ≡ length w → Undoing t w₀ from (i + 1) w'
undoing_step t w₀ w w' from i l r u h e b k =
    let ls = (assignment_of t w₀).trail in
    let f : get_or ls i 0 ≡ l = ap (λ (x : List ℕ). get_or x i 0) (sym u.trail) ∙ sym (trail-at t w i h) ∙ sym e in
    let n : i < length ls = omega (arith, trail-length t w₀ r) in
    record {
      inside = omega arith;
      long = k ∙ u.long;
      trail = ap (λ (a : Sat.Assignment). a.trail) b.is ∙ unassign-trail (assignment_of t w) l ∙ u.trail;
      left = rw (b.is, ← f) (sym (unassign-next (assignment_of t w) ls i n) ∙ u.left);
      frame = unchanged_both (BLOCKS ∷ assignment_regions) u.frame b.frame;
      ready = b.ready;
      known = λ s k. b.known s (u.known s k);
    }

pub undoing_end : (t : Trail) (w₀ w : List ℕ) (from i : ℕ) → TrailReady t w₀ → Undoing t w₀ from i w → t.length ≤ i
    → Undoes t w₀ (Sat.unassign_all (assignment_of t w₀) (drop from (assignment_of t w₀).trail)) t w
unfolding Sat.unassign_all
undoing_end t w₀ w from i r u h =
    let n : length (assignment_of t w₀).trail ≤ i = omega (arith, trail-length t w₀ r) in
    record {
      is = rw (drop_of_length-le (assignment_of t w₀).trail n) at u.left;
      frame = u.frame;
      ready = u.ready;
      variables = refl;
      known = u.known;
    }

-- ---- the cut

drop_min : (n : ℕ) (ls : List ℕ) → drop (min n (length ls)) ls ≡ drop n ls
drop_min n ls =
    ⊎_elim (λ (h : n < length ls). let e : min n (length ls) ≡ n = omega arith in rw e)
    (λ (h : length ls ≤ n). let e : min n (length ls) ≡ length ls = omega arith in let k : length ls ≤ length ls = omega arith in rw (e, drop_of_length-le ls h, drop_of_length-le ls k))
    (below n (length ls))

take_min : (n m : ℕ) (ls : List ℕ) → take (min n m) ls ≡ take n (take m ls)
take_min n m ls =
    ⊎_elim (λ (h : n < m). let e : min n m ≡ n = omega arith in let k : n ≤ m = omega arith in rw (e, take-take n m ls k))
    (λ (h : m ≤ n). let e : min n m ≡ m = omega arith in let k : length (take m ls) ≤ n = simp length-take (omega arith) in rw (e, take_all n (take m ls) k))
    (below n m)

cut-is : (t : Trail) (w : List ℕ) (n level : ℕ) → level ≤ t.level
    → assignment_of (record { variables = t.variables; length = min n t.length; head = n; level = level }) w ≡ Sat.cut_trail (assignment_of t w) n level
unfolding assignment_of Sat.cut_trail
cut-is t w n level h = rw (take_min, take-take level t.level (region LIMITS w) h)

-- what is known does not hang on the trail
cut-known : (t : Trail) (w : List ℕ) (n m level : ℕ) (s : List Float) → KnownIn t w s → KnownIn (record { variables = t.variables; length = m; head = n; level = level }) w s
unfolding assignment_of
cut-known t w n m level s k = k

pub backtracks_not : (t : Trail) (w : List ℕ) (level : ℕ) → TrailReady t w → t.level ≤ level → Undoes t w (Sat.backtrack (assignment_of t w) level) t w
unfolding Sat.backtrack Sat.backtrack_unless
backtracks_not t w level r h =
    record {
      is = rw (level-is t w r, le-leb t.level level h);
      frame = unchanged_none (BLOCKS ∷ assignment_regions) w;
      ready = r;
      variables = refl;
      known = λ s k. k;
    }

limit_is : (t : Trail) (w : List ℕ) (level : ℕ) → get_or (column t.level LIMITS w) level 0 ≡ get_or (assignment_of t w).trail_limits level 0
unfolding assignment_of
limit_is t w level = refl

pub backtracks : (t : Trail) (w w' : List ℕ) (level n m : ℕ) → TrailReady t w → level < t.level → n ≡ get_or (column t.level LIMITS w) level 0 → m ≡ min n t.length
    → Undoes t w (Sat.unassign_all (assignment_of t w) (drop m (assignment_of t w).trail)) t w'
    → Undoes t w (Sat.backtrack (assignment_of t w) level) (record { variables = t.variables; length = m; head = n; level = level }) w'
unfolding Sat.backtrack Sat.backtrack_unless
backtracks t w w' level n m r h e k b =
    let ls = (assignment_of t w).trail in
    let g : drop m ls ≡ drop n ls = ap (λ (x : ℕ). drop x ls) (k ∙ ap (λ (y : ℕ). min n y) (sym (trail-length t w r))) ∙ drop_min n ls in
    record {
      is = rw (level-is t w r, lt-leb t.level level h, ← limit_is t w level, ← e, k) (cut-is t w' n level (omega arith) ∙ ap (λ (a : Sat.Assignment). Sat.cut_trail a n level) (b.is ∙ ap (λ (x : List ℕ). Sat.unassign_all (assignment_of t w) x) g));
      frame = b.frame;
      ready = record { words = b.ready.words; variables = r.variables; literals = omega arith; levels = omega arith };
      variables = refl;
      known = λ s q. cut-known t w' n m level s (b.known s q);
    }
