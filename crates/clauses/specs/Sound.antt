-- Sound watch queues: each ends at its tail, and no cell stands twice, in queues or among the pending cells, which are new or taken and still to be pushed. Assumes nothing.
use Rattle.std.specs.Prelude.{◌≡◌, refl, Bool, true, false, ◌⊎◌, eqb, get_or, length}
use Rattle.std.proofs.Math.Path.{sym}
use Rattle.std.proofs.Common.{◌∙◌, eqb-true}
use mathlib.Core.List.{List, [], ◌∷◌, ◌++◌}
use Rattle.std.proofs.Math.Logic.{inl, inr, ⊎_elim}
use Prim.Native.Nat.{ℕ, zero, suc, ◌+◌, ◌<◌, ◌≤◌}
use native.Mathlib.Omega.{arith}
use Rattle.std.proofs.lemmas.Bool.{eqb-false}
use Rattle.std.proofs.Math.Seq.{get_or-set_same, get_or-set_other}
use Rattle.clauses.specs.Members.{In, Free, Once, EndsIn, free, in_snoc, once-snoc, ends_in_snoc, end_in, few}
use Rattle.clauses.specs.Queue.{Queues, queue, pushed, taken, walk, Pushable, push_own, push_other, push_walk, take_own, take_other, length-queue, queue-some, tails-pushed}

-- the pending cells, and after them the queue of each literal
unfoldable pub lists : Queues → List ℕ → ℕ → List ℕ
lists q p zero = p
lists q p (suc l) = queue q l

-- the queues are sound; n: how many cells there are, p: the pending ones
pub record SoundQueues (q : Queues) (n : ℕ) (p : List ℕ) : Type 0 where
  pub ends : (l : ℕ) → EndsIn (get_or q.tails l 0) (queue q l)
  pub apart : (a b c : ℕ) → In c (lists q p a) → In c (lists q p b) → a ≡ b
  pub once : (a : ℕ) → Once (lists q p a)
  pub below : (a c : ℕ) → In c (lists q p a) → c < n

-- a claim over all numbers, by whether it is one of them
pub by_number : (l : ℕ) (P : ℕ → Type 0) → P l → ((k : ℕ) → (k ≡ l → ⊥) → P k) → (k : ℕ) → P k
by_number l P p f k = go (eqb k l) refl
  where
    go : (b : Bool) → eqb k l ≡ b → P k
    go true e = rw (eqb-true k l e) p
    go false e = f k (eqb-false k l e)

module _ (q : Queues) (n : ℕ) (p : List ℕ) (s : SoundQueues q n p) where
  -- a queue with cells has its tail among them
  tail_in : (l : ℕ) → 0 < get_or q.counts l 0 → In (get_or q.tails l 0) (queue q l)
  tail_in l h = end_in _ (queue q l) (queue-some q l h) (s.ends l)

  -- the tail of a queue with cells is in no other list
  pub tail-free : (l a : ℕ) → (a ≡ suc l → ⊥) → 0 < get_or q.counts l 0 → Free (get_or q.tails l 0) (lists q p a)
  unfolding lists
  tail-free l a h k = free _ (lists q p a) (λ i. h (sym (s.apart (suc l) a _ (tail_in l k) i)))

  pub ready : (l : ℕ) → n ≤ length q.links → l < length q.heads → l < length q.counts → Pushable q l
  unfolding lists
  ready l r h k = record {
    room = (h, k);
    cell = λ m. omega (arith, s.below (suc l) _ (tail_in l m));
    own = s.ends l;
    others = λ m k d. tail-free l (suc k) (λ z. d (omega arith)) m;
  }

  -- no queue has more cells than there are
  pub short : (l : ℕ) → get_or q.counts l 0 ≤ n
  unfolding lists
  short l = rw (← length-queue q l) (few n (queue q l) (s.once (suc l)) (λ c i. s.below (suc l) c i))

-- ---- a pending cell dropped

module _ (q : Queues) (n x : ℕ) (p : List ℕ) (s : SoundQueues q n (x ∷ p)) where
  stays : (a c : ℕ) → In c (lists q p a) → In c (lists q (x ∷ p) a) × (c ≡ x → ⊥)
  unfolding lists
  stays zero c i = (inr i, λ e. (s.once 0).0 (rw e at i))
  stays (suc l) c i = (i, λ e. let z : suc l ≡ 0 = s.apart (suc l) 0 c i (inl (sym e)) in omega arith)

  pub drop-sound : SoundQueues q n p
  unfolding lists
  drop-sound = record {
    ends = s.ends;
    apart = λ a b c i j. s.apart a b c (stays a c i).0 (stays b c j).0;
    once = once;
    below = λ a c i. s.below a c (stays a c i).0;
  }
    where
      once : (a : ℕ) → Once (lists q p a)
      once zero = (s.once 0).1
      once (suc l) = s.once (suc l)

-- ---- the first pending cell pushed to the queue of l

module _ (q : Queues) (n l x : ℕ) (p : List ℕ) (s : SoundQueues q n (x ∷ p)) (r : n ≤ length q.links)
    (hh : l < length q.heads) (ht : l < length q.tails) (hc : l < length q.counts) where
  pub own : queue (pushed q l x) l ≡ queue q l ++ (x ∷ [])
  own = push_own q l x (ready q n (x ∷ p) s l r hh hc)

  pub other : (k : ℕ) → (k ≡ l → ⊥) → queue (pushed q l x) k ≡ queue q k
  unfolding lists
  other k d = push_other q l x k d (λ m. tail-free q n (x ∷ p) s l (suc k) (λ z. d (omega arith)) m)

  new : (l : ℕ) → In x (queue q l) → ⊥
  unfolding lists
  new l i = let z : suc l ≡ 0 = s.apart (suc l) 0 x i (inl refl) in omega arith

  -- a cell of the lists after the push was in the same list before, or is the one pushed
  old-or-new : (a c : ℕ) → In c (lists (pushed q l x) p a) → (In c (lists q p a)) ⊎ ((a ≡ suc l) × (x ≡ c))
  unfolding lists
  old-or-new zero c i = inl i
  old-or-new (suc k) c i = by_number l (λ (k : ℕ). In c (queue (pushed q l x) k) → In c (queue q k) ⊎ ((suc k ≡ suc l) × (x ≡ c)))
      (λ i. ⊎_elim (λ j. inl j) (λ e. inr (refl, e)) (in_snoc c x (queue q l) (rw own at i)))
      (λ k d i. inl (rw (other k d) at i))
      k i

  pushed-once : (a : ℕ) → Once (lists (pushed q l x) p a)
  unfolding lists
  pushed-once zero = (s.once 0).1
  pushed-once (suc k) = by_number l (λ (k : ℕ). Once (queue (pushed q l x) k))
      (rw own (once-snoc x (queue q l) (s.once (suc l)) (new l)))
      (λ k d. rw (other k d) (s.once (suc k)))
      k

  -- a push keeps the queues sound
  pub push_sound : SoundQueues (pushed q l x) n p
  unfolding lists
  push_sound = record {
    ends = by_number l (λ (k : ℕ). EndsIn (get_or (pushed q l x).tails k 0) (queue (pushed q l x) k))
        (rw (own, tails-pushed q l x, get_or-set_same q.tails l x 0 ht) (ends_in_snoc x (queue q l) (new l)))
        (λ k d. rw (other k d, tails-pushed q l x, get_or-set_other q.tails l k x 0 d) (s.ends k));
    apart = λ a b c i j. ⊎_elim
        (λ (u : In c (lists q p a)). ⊎_elim
        (λ (v : In c (lists q p b)). s.apart a b c (stays q n x p s a c u).0 (stays q n x p s b c v).0)
        (λ (v : (b ≡ suc l) × (x ≡ c)). absurd ((stays q n x p s a c u).1 (sym v.1))) (old-or-new b c j))
        (λ (u : (a ≡ suc l) × (x ≡ c)). ⊎_elim
        (λ (v : In c (lists q p b)). absurd ((stays q n x p s b c v).1 (sym u.1)))
        (λ (v : (b ≡ suc l) × (x ≡ c)). u.0 ∙ sym v.0) (old-or-new b c j))
        (old-or-new a c i);
    once = pushed-once;
    below = λ a c i. ⊎_elim (λ (u : In c (lists q p a)). s.below a c (stays q n x p s a c u).0) (λ (u : (a ≡ suc l) × (x ≡ c)). s.below 0 c (inl u.1)) (old-or-new a c i);
  }

  -- the walk of the pending cells is not changed by a push
  pub push_pending : (m c : ℕ) → p ≡ walk q.links m c → walk (pushed q l x).links m c ≡ p
  unfolding lists
  push_pending m c e = push_walk q l x m c (λ k. rw (← e) (tail-free q n (x ∷ p) s l 0 (λ z. omega arith) k).1) ∙ sym e

-- ---- a queue taken: its cells become the pending ones

module _ (q : Queues) (n l : ℕ) (s : SoundQueues q n []) (hc : l < length q.counts) where
  -- where a cell was before
  was : (a c : ℕ) → In c (lists (taken q l) (queue q l) a) → ((a ≡ 0) × In c (lists q [] (suc l))) ⊎ ((a ≡ suc l → ⊥) × (0 < a) × In c (lists q [] a))
  unfolding lists
  was zero c i = inl (refl, i)
  was (suc k) c i = by_number l (λ (k : ℕ). In c (queue (taken q l) k) → ((suc k ≡ 0) × In c (queue q l)) ⊎ ((suc k ≡ suc l → ⊥) × (0 < suc k) × In c (queue q k)))
      (λ i. absurd (rw (take_own q l hc) at i))
      (λ k d i. inr ((λ z. d (omega arith)), omega arith, rw (take_other q l k d) at i))
      k i

  taken-once : (a : ℕ) → Once (lists (taken q l) (queue q l) a)
  unfolding lists
  taken-once zero = s.once (suc l)
  taken-once (suc k) = by_number l (λ (k : ℕ). Once (queue (taken q l) k)) (rw (take_own q l hc) tt) (λ k d. rw (take_other q l k d) (s.once (suc k))) k

  pub take-sound : SoundQueues (taken q l) n (queue q l)
  unfolding taken
  take-sound = record {
    ends = by_number l (λ (k : ℕ). EndsIn (get_or q.tails k 0) (queue (taken q l) k)) (rw (take_own q l hc) tt) (λ k d. rw (take_other q l k d) (s.ends k));
    apart = λ a b c i j. go a b c (was a c i) (was b c j);
    once = taken-once;
    below = λ a c i. ⊎_elim (λ u. s.below (suc l) c u.1) (λ u. s.below a c u.2) (was a c i);
  }
    where
      go : (a b c : ℕ) → ((a ≡ 0) × In c (lists q [] (suc l))) ⊎ ((a ≡ suc l → ⊥) × (0 < a) × In c (lists q [] a))
          → ((b ≡ 0) × In c (lists q [] (suc l))) ⊎ ((b ≡ suc l → ⊥) × (0 < b) × In c (lists q [] b)) → a ≡ b
      go a b c (inl u) (inl v) = u.0 ∙ sym v.0
      go a b c (inl u) (inr v) = absurd (v.0 (sym (s.apart (suc l) b c u.1 v.2)))
      go a b c (inr u) (inl v) = absurd (u.0 (s.apart a (suc l) c u.2 v.1))
      go a b c (inr u) (inr v) = s.apart a b c u.2 v.2

-- ---- two new cells

module _ (q : Queues) (n : ℕ) (s : SoundQueues q n []) where
  fresh-below : (a c : ℕ) → In c (lists q (n ∷ (n + 1) ∷ []) a) → ((a ≡ 0) × (n ≤ c) × (c < n + 2)) ⊎ ((c < n) × (0 < a) × In c (lists q [] a))
  unfolding lists
  fresh-below zero c (inl e) = inl (refl, omega arith, omega arith)
  fresh-below zero c (inr (inl e)) = inl (refl, omega arith, omega arith)
  fresh-below zero c (inr (inr e)) = absurd e
  fresh-below (suc l) c i = inr (s.below (suc l) c i, omega arith, i)

  pub fresh-sound : SoundQueues q (n + 2) (n ∷ (n + 1) ∷ [])
  unfolding lists
  fresh-sound = record {
    ends = s.ends;
    apart = λ a b c i j. go a b c (fresh-below a c i) (fresh-below b c j);
    once = once;
    below = λ a c i. ⊎_elim (λ u. u.2) (λ u. omega (arith, u.0)) (fresh-below a c i);
  }
    where
      go : (a b c : ℕ) → ((a ≡ 0) × (n ≤ c) × (c < n + 2)) ⊎ ((c < n) × (0 < a) × In c (lists q [] a))
          → ((b ≡ 0) × (n ≤ c) × (c < n + 2)) ⊎ ((c < n) × (0 < b) × In c (lists q [] b)) → a ≡ b
      go a b c (inl u) (inl v) = u.0 ∙ sym v.0
      go a b c (inl u) (inr v) = absurd (omega (arith, u.1, v.0))
      go a b c (inr u) (inl v) = absurd (omega (arith, v.1, u.0))
      go a b c (inr u) (inr v) = s.apart a b c u.2 v.2

      once : (a : ℕ) → Once (lists q (n ∷ (n + 1) ∷ []) a)
      once zero = ((λ i. ⊎_elim (λ e. omega arith) (λ e. e) i), ((λ i. i), tt))
      once (suc l) = s.once (suc l)
