-- Each operation's cases put together: what the code made is what the model's operation gives. Assumes nothing.
use Rattle.std.specs.Prelude.{◌≡◌, refl, Bool, true, false, List, map, eqb, take, get_or}
use Rattle.std.proofs.Common.{ap, ap₂, sym, ◌∙◌, length-take, get_or-take}
use Rattle.std.proofs.Math.Bool.{xor as xorBool}
use Rattle.std.proofs.Math.Option.{Option, none, some}
use Prim.Native.Nat.{ℕ, zero, suc, ◌*◌, ◌%◌, ◌≤◌, ◌<◌, min, max}
use native.Mathlib.Omega.{arith}
use Rattle.std.proofs.Math.ListN.{get_or-eq_default, get_or-map}
use Rattle.words.specs.Layout.{GRAPH-LHS, GRAPH-RHS}
use Rattle.words.specs.Region.{region}
use Rattle.model.specs.Literal.{node, inverted, negate}
use Rattle.model.specs.Lists.{position}
use Rattle.model.specs.Aig.{Aig, Built, is_and, and_found, and_shortcut, and_unless, and, or, xor_shortcut, xor_unless, xor, mux_shortcut, mux_unless, mux, evaluate}
use Rattle.aig.specs.Graph.{graph_at, graph_of}
use Rattle.aig.specs.Index.{place, last_and, first-position, place-some}
use Rattle.aig.specs.Made.{Ready, Made, same_trans, made_none}
use Rattle.aig.specs.Shortcut.{Under, negate-below, and_under, xor_under, mux_under}

-- a word of VALUES is true where it is odd
abbrev pub is_true : ℕ → Bool
is_true v = eqb (v % 2) 1

-- the same work, whose result is said otherwise
pub made-is : {k n : ℕ} {w : List ℕ} {n' : ℕ} {w' : List ℕ} {l : ℕ} {m m' : Built} → Made k n w n' w' l m → m ≡ m' → Made k n w n' w' l m'
made-is d e =
    record { built = d.built ∙ e; ready = d.ready; same = d.same; grows = d.grows; within = d.within; below = d.below }

-- ---- and

place_none : (m : ℕ) → place 0 ≡ place m → m ≡ 0
unfolding place
place_none zero e = refl
place_none (suc m) e = absurd (let z : ◌≡◌ {A = ℕ} 0 1 = cc in omega arith)

-- where the lookup finds nothing, no node is the pair
pub fresh : (n : ℕ) (w : List ℕ) → Ready n w → (l r : ℕ) → place 0 ≡ position (is_and l r) (graph_of n w) → last_and (region GRAPH-LHS w) (region GRAPH-RHS w) l r n ≡ 0
unfolding graph_at
fresh n w ready l r e = place_none _ (e ∙ first-position (region GRAPH-LHS w) (region GRAPH-RHS w) l r n ready.indexed.once)

-- the node that the lookup found
pub found-is : (g : Aig) (l r at : ℕ) → 0 < at → place at ≡ position (is_and l r) g → record { aig = g; literal = at * 2 } ≡ and_found g l r (position (is_and l r) g)
unfolding and_found
found-is g l r at h e = rw (← e, ← (place-some at h))

-- nothing found
pub absent-is : (g : Aig) (l r : ℕ) → place 0 ≡ position (is_and l r) g → and_found g l r none ≡ and_found g l r (position (is_and l r) g)
unfolding place
absent-is g l r e = ap (and_found g l r) e

module _ (g : Aig) (a b : ℕ) where
  pub and-known : (l : ℕ) → some l ≡ and_shortcut a b → record { aig = g; literal = l } ≡ and g a b
  unfolding and and_unless
  and-known l e = rw (← e)

  pub and_lower : none ≡ and_shortcut a b → a ≤ b → and_found g a b (position (is_and a b) g) ≡ and g a b
  unfolding and and_unless
  and_lower e h =
      let p : min a b ≡ a = omega arith in
      let q : max a b ≡ b = omega arith in
      rw (← e, p, q)

  pub and_upper : none ≡ and_shortcut a b → b ≤ a → and_found g b a (position (is_and b a) g) ≡ and g a b
  unfolding and and_unless
  and_upper e h =
      let p : min a b ≡ b = omega arith in
      let q : max a b ≡ a = omega arith in
      rw (← e, p, q)

-- an answer without a node
pub under_is : (m l : ℕ) (o : Option ℕ) → some l ≡ o → Under m o → l < m
under_is m l o e h = rw (← e) at h

module _ (n : ℕ) (w : List ℕ) (ready : Ready n w) (a b : ℕ) (ha : a < n * 2) (hb : b < n * 2) where
  pub made-known : (l : ℕ) → some l ≡ and_shortcut a b → Made 1 n w n w l (and (graph_of n w) a b)
  made-known l e = made_none 1 n w l _ ready (under_is _ l _ e (and_under n ready.positive a b ha hb)) (and-known (graph_of n w) a b l e)

-- ---- or, xor, mux

-- the disjunction by the conjunction of the negations
pub made-or : (n : ℕ) (w : List ℕ) (n' : ℕ) (w' : List ℕ) (l a b x y r : ℕ) → x ≡ negate a → y ≡ negate b → r ≡ negate l
    → Made 1 n w n' w' l (and (graph_of n w) x y) → Made 1 n w n' w' r (or (graph_of n w) a b)
unfolding or
made-or n w n' w' l a b x y r p q e d =
    record {
      built = rw (e, ← p, ← q) (ap (λ (m : Built). record { aig = m.aig; literal = negate m.literal }) d.built);
      ready = d.ready;
      same = d.same;
      grows = d.grows;
      within = d.within;
      below = rw e (negate-below l n' d.below);
    }

-- (a and b) or (c and d), as xor and mux build it
unfoldable pub or_of_ands : Aig → ℕ → ℕ → ℕ → ℕ → Built
or_of_ands g a b c d = let m = and g a b in let k = and m.aig c d in or k.aig m.literal k.literal

pub made-or_of_ands : (n n₁ n₂ n₃ : ℕ) (w w₁ w₂ w₃ : List ℕ) (a b c d l₁ l₂ l₃ : ℕ) → Made 1 n w n₁ w₁ l₁ (and (graph_of n w) a b)
    → Made 1 n₁ w₁ n₂ w₂ l₂ (and (graph_of n₁ w₁) c d) → Made 1 n₂ w₂ n₃ w₃ l₃ (or (graph_of n₂ w₂) l₁ l₂)
    → Made 3 n w n₃ w₃ l₃ (or_of_ands (graph_of n w) a b c d)
unfolding or_of_ands
made-or_of_ands n n₁ n₂ n₃ w w₁ w₂ w₃ a b c d l₁ l₂ l₃ p q r =
    let second : record { aig = graph_of n₂ w₂; literal = l₂ } ≡ and (and (graph_of n w) a b).aig c d =
    q.built ∙ ap (λ (m : Built). and m.aig c d) p.built in
    record {
      built = r.built ∙ ap₂ (λ (m k : Built). or k.aig m.literal k.literal) p.built second;
      ready = r.ready;
      same = same_trans (same_trans p.same q.same) r.same;
      grows = omega (arith, p.grows, q.grows, r.grows);
      within = omega (arith, p.within, q.within, r.within);
      below = r.below;
    }

module _ (g : Aig) where
  pub xor_is : (a b x y : ℕ) → none ≡ xor_shortcut a b → x ≡ negate b → y ≡ negate a → or_of_ands g a x y b ≡ xor g a b
  unfolding xor xor_unless or_of_ands
  xor_is a b x y e p q = rw (← e, p, q)

  pub mux-is : (c t f x : ℕ) → none ≡ mux_shortcut c t f → x ≡ negate c → or_of_ands g c t x f ≡ mux g c t f
  unfolding mux mux_unless or_of_ands
  mux-is c t f x e p = rw (← e, p)

module _ (n : ℕ) (w : List ℕ) (ready : Ready n w) where
  pub xor-made-known : (a b l : ℕ) → some l ≡ xor_shortcut a b → Made 3 n w n w l (xor (graph_of n w) a b)
  unfolding xor xor_unless
  xor-made-known a b l e = made_none 3 n w l _ ready (under_is _ l _ e (xor_under n ready.positive a b)) (rw (← e))

  pub mux-made-known : (c t f l : ℕ) → c < n * 2 → t < n * 2 → f < n * 2 → some l ≡ mux_shortcut c t f → Made 3 n w n w l (mux (graph_of n w) c t f)
  unfolding mux mux_unless
  mux-made-known c t f l p q r e = made_none 3 n w l _ ready (under_is _ l _ e (mux_under n ready.positive c t f p q r)) (rw (← e))

-- ---- evaluate

-- the value of a literal, by its node's word
pub by_word : (values : List ℕ) (l v : ℕ) → v ≡ get_or values (node l) 0 → xorBool (is_true v) (inverted l) ≡ evaluate (map is_true values) l
unfolding evaluate
by_word values l v e = rw e (ap (λ (t : Bool). xorBool t (inverted l)) (sym (get_or-map is_true values (node l) 0)))

-- a node's word among those of the nodes
pub word_of : (nodes : ℕ) (values : List ℕ) (l i v : ℕ) → i ≡ node l → i < nodes → v ≡ get_or values i 0 → v ≡ get_or (take nodes values) (node l) 0
word_of nodes values l i v e h f = f ∙ sym (get_or-take nodes values i 0 h) ∙ ap (λ (k : ℕ). get_or (take nodes values) k 0) e

-- past the nodes
pub past_by_word : (nodes : ℕ) (values : List ℕ) (l : ℕ) → nodes ≤ node l → xorBool false (inverted l) ≡ evaluate (map is_true (take nodes values)) l
past_by_word nodes values l h =
    by_word (take nodes values) l 0 (sym (get_or-eq_default (take nodes values) 0 (simp length-take (omega arith))))

xor-false : (t : Bool) → xorBool false t ≡ t
unfolding xorBool
xor-false true = refl
xor-false false = refl

-- so it is whether the literal is inverted
pub evaluate-past : (nodes : ℕ) (values : List ℕ) (l : ℕ) → nodes ≤ node l → inverted l ≡ evaluate (map is_true (take nodes values)) l
evaluate-past nodes values l h = sym (xor-false (inverted l)) ∙ past_by_word nodes values l h
