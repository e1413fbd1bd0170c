-- The trail with its reasons: each literal is a decision, or the other literals of its reason are false at earlier places; those of level 0 follow from the original clauses. Assumes nothing.
use Rattle.std.specs.Prelude.{ℕ, ◌≤◌, ◌<◌, ◌≡◌, ◌⊎◌, Bool, true, List, set}
use Rattle.std.proofs.Common.{arith, sym, ◌∙◌, get_or-set_same}
use Rattle.std.proofs.Math.Path.{ap, subst}
use Rattle.std.proofs.Math.Logic.{inl, inr}
use Rattle.std.proofs.Math.Option.{Option, none, some}
use Rattle.std.proofs.Math.ListN.{length, get_or}
use Rattle.std.proofs.Math.Seq.{get_or-set_other}
use Rattle.model.specs.Literal.{Literal, node, negate}
use Rattle.model.specs.Lists.{snoc}
use Rattle.model.specs.Aig.{evaluate}
use Rattle.laws.specs.Search.Backtrack.{cut, cut_place, cut_fits, cut-length, cut-entry, cut-levels, cut-limit, cut_stays, cut-reason, cut-inv, cut-strict}
use Rattle.facts.specs.Lists.{set_any}
use Rattle.facts.specs.Numbers.{by_eq, by_lt}
use Rattle.laws.specs.Lists.{get_or-snoc-old, get_or-snoc-new, snoc-all, length-snoc}
use Rattle.laws.specs.Search.Clauses.{lits, clause_value, Satisfied, true-literal, not-both}
use Rattle.laws.specs.Search.Values.{unset-apart}
use Rattle.laws.specs.Search.Trail.{entry, limit_at, Low, Strict, Range, TrailInv, assign-inv, push_inv}
use Rattle.model.specs.Sat.{Unassigned, Clause, Assignment, value, assign, push_limit}

-- the literal is false since a place before p
abbrev pub Earlier : Assignment → ℕ → Literal → Type 0
Earlier t p l = (q : ℕ) × (q < p) × (entry t q ≡ negate l)

-- every literal of a clause is l, or false since a place before p
abbrev pub Before : Assignment → ℕ → List Literal → Literal → Type 0
Before t p ls l = (i : ℕ) → i < length ls → (get_or ls i 0 ≡ l) ⊎ Earlier t p (get_or ls i 0)

-- place p begins a level
abbrev pub Begins : Assignment → ℕ → Type 0
Begins t p = (i : ℕ) × (i < length t.trail_limits) × (limit_at t i ≡ p)

-- the reason of place p
pub record Because (t : Assignment) (cs : List Clause) (p : ℕ) : Type 0 where
  pub id : ℕ
  pub inside : id < length cs
  pub reason : get_or t.reasons (node (entry t p)) none ≡ some id
  pub before : Before t p (lits cs id) (entry t p)

-- every literal of the trail begins a level or has a reason
abbrev pub Reasoned : Assignment → List Clause → Type 0
Reasoned t cs = (p : ℕ) → p < length t.trail → Begins t p ⊎ Because t cs p

-- place p is of level 0
abbrev pub Bottom : Assignment → ℕ → Type 0
Bottom t p = (i : ℕ) → i < length t.trail_limits → p < limit_at t i

-- the literals of level 0 are true
abbrev pub Ground : List Bool → Assignment → Type 0
Ground vs t = (p : ℕ) → p < length t.trail → Bottom t p → evaluate vs (entry t p) ≡ true

-- every reason is the number of a clause
abbrev pub ReasonsIn : Assignment → ℕ → Type 0
ReasonsIn t k = (v id : ℕ) → get_or t.reasons v none ≡ some id → id < k

-- what holds of the assignment at all times, over n variables, the original clauses C and the clauses cs
pub record Justified (n : ℕ) (C cs : List Clause) (t : Assignment) : Type 0 where
  pub trail_inv : TrailInv n t
  pub strict : Strict t
  pub reasoned : Reasoned t cs
  pub reasons_in : ReasonsIn t (length cs)
  pub grounding : (vs : List Bool) → Satisfied vs C → Ground vs t

-- the clauses follow from the original ones
abbrev pub Follow : List Clause → List Clause → Type 0
Follow C cs = (vs : List Bool) → Satisfied vs C → Satisfied vs cs

-- ---- a clause whose other literals are false

-- a literal that is false since a place of level 0 is false
pub bottom_false : (vs : List Bool) (t : Assignment) (p : ℕ) (l : Literal) → Ground vs t → p ≤ length t.trail → ((q : ℕ) → q < p → Bottom t q) → Earlier t p l → evaluate vs l ≡ true → ⊥
bottom_false vs t p l g h b e x = not-both vs l x (subst (λ k. evaluate vs k ≡ true) e.2 (g e.0 (omega (arith, e.1)) (b e.0 e.1)))

-- at level 0 the literal left of a true clause is true
unit_true : (vs : List Bool) (t : Assignment) (ls : List Literal) (l : Literal) → Ground vs t → Bottom t (length t.trail) → Before t (length t.trail) ls l → clause_value vs ls ≡ true
    → evaluate vs l ≡ true
unit_true vs t ls l g b f e = let x = true-literal vs ls e in go x (f x.0 x.1)
  where
    go : (x : (i : ℕ) × (i < length ls) × (evaluate vs (get_or ls i 0) ≡ true)) → (get_or ls x.0 0 ≡ l) ⊎ Earlier t (length t.trail) (get_or ls x.0 0) → evaluate vs l ≡ true
    go x (inl z) = subst (λ k. evaluate vs k ≡ true) z x.2
    go x (inr z) = absurd (bottom_false vs t (length t.trail) (get_or ls x.0 0) g (omega arith) (λ q h i k. omega (arith, b i k)) z x.2)

-- ---- more clauses

-- more clauses, with the same literals in the old ones
pub justified-clauses : (n : ℕ) (C cs ds : List Clause) (t : Assignment) → length cs ≤ length ds → ((id : ℕ) → id < length cs → lits ds id ≡ lits cs id)
    → Justified n C cs t → Justified n C ds t
justified-clauses n C cs ds t h same w =
    record {
      trail_inv = w.trail_inv;
      strict = w.strict;
      reasoned = λ p q. go p (w.reasoned p q);
      reasons_in = λ v id e. omega (arith, w.reasons_in v id e);
      grounding = w.grounding;
    }
  where
    go : (p : ℕ) → Begins t p ⊎ Because t cs p → Begins t p ⊎ Because t ds p
    go p (inl b) = inl b
    go p (inr b) =
        inr
        (record {
          id = b.id;
          inside = omega (arith, b.inside);
          reason = b.reason;
          before = subst (λ ls. Before t p ls (entry t p)) (sym (same b.id b.inside)) b.before;
        })

-- ---- one more literal

-- what the new literal rests on
abbrev pub Rests : List Clause → Assignment → Literal → Option ℕ → Type 0
Rests cs t l r = (id : ℕ) × (id < length cs) × (r ≡ some id) × Before t (length t.trail) (lits cs id) l

module _ (n : ℕ) (t : Assignment) (cs : List Clause) (l : Literal) (r : Option ℕ) (w : TrailInv n t) (h : Range n l) (u : value t l ≡ Unassigned) where
  earlier-assign : (k : ℕ) (x : Literal) → k ≤ length t.trail → Earlier t k x → Earlier (assign t l r) k x
  unfolding assign
  earlier-assign k x hk e = (e.0, e.1, get_or-snoc-old t.trail l 0 e.0 (omega (arith, e.1)) ∙ e.2)

  before-assign : (k : ℕ) (x : Literal) (ls : List Literal) → k ≤ length t.trail → Before t k ls x → Before (assign t l r) k ls x
  before-assign k x ls hk b i hi = side (b i hi)
    where
      side : (get_or ls i 0 ≡ x) ⊎ Earlier t k (get_or ls i 0) → (get_or ls i 0 ≡ x) ⊎ Earlier (assign t l r) k (get_or ls i 0)
      side (inl e) = inl e
      side (inr e) = inr (earlier-assign k (get_or ls i 0) hk e)

  reasoned-assign : Reasoned t cs → Begins t (length t.trail) ⊎ Rests cs t l r → Reasoned (assign t l r) cs
  unfolding assign
  reasoned-assign old new p hp = by_lt p (length t.trail) (λ lt. go_old lt (old p lt)) (λ ge. go_new (omega (arith, length-snoc t.trail l)) new)
    where
      go_old : p < length t.trail → Begins t p ⊎ Because t cs p → Begins (assign t l r) p ⊎ Because (assign t l r) cs p
      go_old lt (inl b) = inl b
      go_old lt (inr b) =
          let e : entry (assign t l r) p ≡ entry t p = get_or-snoc-old t.trail l 0 p lt in
          inr
          (record {
            id = b.id;
            inside = b.inside;
            reason =
                ap (λ k. get_or (set t.reasons (node l) r) (node k) none) e
                ∙ get_or-set_other t.reasons (node l) (node (entry t p)) r none (unset-apart t l (entry t p) u (w.true_at p lt)) ∙ b.reason;
            before = subst (λ k. Before (assign t l r) p (lits cs b.id) k) (sym e) (before-assign p (entry t p) (lits cs b.id) (omega arith) b.before);
          })

      go_new : length t.trail ≡ p → Begins t (length t.trail) ⊎ Rests cs t l r → Begins (assign t l r) p ⊎ Because (assign t l r) cs p
      go_new z (inl b) = inl (b.0, b.1, b.2 ∙ z)
      go_new z (inr b) =
          let e : entry (assign t l r) p ≡ l = subst (λ i. get_or (snoc t.trail l) i 0 ≡ l) z (get_or-snoc-new t.trail l 0) in
          inr
          (record {
            id = b.0;
            inside = b.1;
            reason = ap (λ k. get_or (set t.reasons (node l) r) (node k) none) e ∙ get_or-set_same t.reasons (node l) r none (omega (arith, h.1, w.reason_size)) ∙ b.2;
            before =
                subst (λ k. Before (assign t l r) p (lits cs b.0) k) (sym e)
                (subst (λ k. Before (assign t l r) k (lits cs b.0) l) z (before-assign (length t.trail) l (lits cs b.0) (omega arith) b.3));
          })

  strict-assign : Low (length t.trail) t → Strict (assign t l r)
  unfolding assign
  strict-assign f i q = omega (arith, f i q, length-snoc t.trail l)

  reasons-assign : (k : ℕ) → ((id : ℕ) → r ≡ some id → id < k) → ReasonsIn t k → ReasonsIn (assign t l r) k
  unfolding assign
  reasons-assign k f g v = set_any (λ o. (id : ℕ) → o ≡ some id → id < k) t.reasons (node l) v r none (g v) f

  -- old places of level 0 are so still; the new one is asked for
  grounding-assign : (vs : List Bool) → Ground vs t → (Bottom t (length t.trail) → evaluate vs l ≡ true) → Ground vs (assign t l r)
  unfolding assign
  grounding-assign vs g f p hp b =
      snoc-all 0 (λ q x. ((i : ℕ) → i < length t.trail_limits → q < limit_at t i) → evaluate vs x ≡ true) t.trail l g f p hp b

some_same : (a b : ℕ) → some a ≡ some b → a ≡ b
some_same a b e = cc

-- an unassigned literal made true by a clause whose other literals are false
pub justified-assign : (n : ℕ) (C cs : List Clause) (t : Assignment) (l : Literal) (r : Option ℕ) → Follow C cs → Justified n C cs t → Range n l → value t l ≡ Unassigned → Rests cs t l r
    → Justified n C cs (assign t l r)
justified-assign n C cs t l r follow w h u b =
    let inv = w.trail_inv in
    record {
      trail_inv = assign-inv n t l r inv h u;
      strict = strict-assign n t cs l r inv h u inv.fits;
      reasoned = reasoned-assign n t cs l r inv h u w.reasoned (inr b);
      reasons_in = reasons-assign n t cs l r inv h u (length cs) (λ id e. subst (λ k. k < length cs) (some_same b.0 id (sym b.2 ∙ e)) b.1) w.reasons_in;
      grounding =
          λ vs sat.
          grounding-assign n t cs l r inv h u vs (w.grounding vs sat)
          (λ bottom. unit_true vs t (lits cs b.0) l (w.grounding vs sat) bottom b.3 (follow vs sat b.0 b.1));
    }

-- ---- a decision

none-some : {C : Type 0} (id : ℕ) → none ≡ some id → C
none-some id e = absurd (let z : ◌≡◌ {A = ℕ} 0 1 = cc in omega arith)

module _ (n : ℕ) (t : Assignment) where
  reasoned_push : (cs : List Clause) → Reasoned t cs → Reasoned (push_limit t) cs
  unfolding push_limit
  reasoned_push cs r p h = go (r p h)
    where
      go : Begins t p ⊎ Because t cs p → Begins (push_limit t) p ⊎ Because (push_limit t) cs p
      go (inl b) =
          inl
          (b.0, omega (arith, b.1, length-snoc t.trail_limits (length t.trail)), get_or-snoc-old t.trail_limits (length t.trail) 0 b.0 b.1 ∙ b.2)
      go (inr b) = inr (record { id = b.id; inside = b.inside; reason = b.reason; before = b.before })

  push_begins : Begins (push_limit t) (length t.trail)
  unfolding push_limit
  push_begins = (length t.trail_limits, omega (arith, length-snoc t.trail_limits (length t.trail)), get_or-snoc-new t.trail_limits (length t.trail) 0)

  ground_push : (vs : List Bool) → Ground vs t → Ground vs (push_limit t)
  unfolding push_limit
  ground_push vs g p h b =
      g p h
      (λ i q.
      subst (λ x. p < x) (get_or-snoc-old t.trail_limits (length t.trail) 0 i q)
      (b i (omega (arith, length-snoc t.trail_limits (length t.trail)))))

  -- the place after the trail is not of level 0 once a level begins there
  not_bottom : Bottom (push_limit t) (length (push_limit t).trail) → ⊥
  unfolding push_limit
  not_bottom b =
      let q = b (length t.trail_limits) (omega (arith, length-snoc t.trail_limits (length t.trail))) in
      let e = get_or-snoc-new t.trail_limits (length t.trail) 0 in
      omega (arith, q, e)

  -- a new level that begins with an unassigned literal
  pub justified-decide : (C cs : List Clause) (l : Literal) → Justified n C cs t → Range n l → value (push_limit t) l ≡ Unassigned → Justified n C cs (assign (push_limit t) l none)
  unfolding push_limit
  justified-decide C cs l w h u =
      let inv = push_inv n t w.trail_inv w.strict in
      record {
        trail_inv = assign-inv n (push_limit t) l none inv h u;
        strict = strict-assign n (push_limit t) cs l none inv h u inv.fits;
        reasoned = reasoned-assign n (push_limit t) cs l none inv h u (reasoned_push cs w.reasoned) (inl push_begins);
        reasons_in = reasons-assign n (push_limit t) cs l none inv h u (length cs) (λ id e. none-some id e) w.reasons_in;
        grounding = λ vs sat. grounding-assign n (push_limit t) cs l none inv h u vs (ground_push vs (w.grounding vs sat)) (λ b. absurd (not_bottom b));
      }

-- ---- the cut

module _ (n : ℕ) (C cs : List Clause) (t : Assignment) (w : Justified n C cs t) (level : ℕ) (inside : level < length t.trail_limits) where
  -- the trail's invariant
  abbrev inv : TrailInv n t
  inv = w.trail_inv

  -- the number of literals that stay
  abbrev place : ℕ
  place = cut_place n t inv level inside

  -- the assignment after the cut
  abbrev after : Assignment
  after = cut n t inv level inside

  reasoned-cut : Reasoned after cs
  reasoned-cut p h =
      let lt : p < place = omega (arith, cut-length n t inv level inside) in
      go lt (w.reasoned p (omega (arith, cut_fits n t inv level inside)))
    where
      begins : p < place → Begins t p → Begins after p
      begins lt b =
          by_lt b.0 level (λ q. (b.0, omega (arith, cut-levels n t inv level inside), cut-limit n t inv level inside b.0 q ∙ b.2))
          (λ q.
          absurd
          (by_eq b.0 level (λ e. omega (arith, ap (limit_at t) e, b.2)) (λ e. omega (arith, inv.rise level b.0 (omega arith) b.1, b.2))))

      go : p < place → Begins t p ⊎ Because t cs p → Begins after p ⊎ Because after cs p
      go lt (inl b) = inl (begins lt b)
      go lt (inr b) =
          let e : entry after p ≡ entry t p = cut-entry n t inv level inside p lt in
          inr
          (record {
            id = b.id;
            inside = b.inside;
            reason = ap (λ k. get_or after.reasons (node k) none) e ∙ (cut_stays n t inv level inside p lt).1 ∙ b.reason;
            before = subst (λ k. Before after p (lits cs b.id) k) (sym e) (λ i hi. side lt b.id i (b.before i hi));
          })
        where
          side : p < place → (id i : ℕ) → (get_or (lits cs id) i 0 ≡ entry t p) ⊎ Earlier t p (get_or (lits cs id) i 0) → (get_or (lits cs id) i 0 ≡ entry t p) ⊎ Earlier after p (get_or (lits cs id) i 0)
          side lt id i (inl e) = inl e
          side lt id i (inr e) = inr (e.0, e.1, cut-entry n t inv level inside e.0 (omega (arith, e.1)) ∙ e.2)

  grounding-cut : (vs : List Bool) → Ground vs t → Ground vs after
  grounding-cut vs g p h b =
      let lt : p < place = omega (arith, cut-length n t inv level inside) in
      subst (λ k. evaluate vs k ≡ true) (sym (cut-entry n t inv level inside p lt)) (g p (omega (arith, cut_fits n t inv level inside)) (bottom lt))
    where
      bottom : p < place → Bottom t p
      bottom lt i hi =
          by_lt i level (λ q. subst (λ x. p < x) (cut-limit n t inv level inside i q) (b i (omega (arith, cut-levels n t inv level inside))))
          (λ q. by_eq i level (λ e. omega (arith, ap (limit_at t) e)) (λ e. omega (arith, inv.rise level i (omega arith) hi)))

  -- the cut keeps what holds of the assignment
  pub justified-cut : Justified n C cs after
  justified-cut =
      record {
        trail_inv = cut-inv n t inv level inside;
        strict = cut-strict n t inv level inside;
        reasoned = reasoned-cut;
        reasons_in = λ v id e. w.reasons_in v id (cut-reason n t inv level inside v id e);
        grounding = λ vs sat. grounding-cut vs (w.grounding vs sat);
      }
