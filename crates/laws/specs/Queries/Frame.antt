-- An imported cycle means the plain cycle: its literals have the values of the system's outputs and next states. Assumes nothing.
use Rattle.std.specs.Prelude.{ℕ, ◌≤◌, ◌<◌, ◌≡◌, Bool, not, cond, length, get_or, eqb}
use Rattle.std.proofs.Common.{arith, ap, ap₂, ◌∙◌}
use Rattle.std.proofs.Math.Path.{refl}
use Rattle.std.proofs.Math.Bool.{true, false, ◌&&◌, xor as xor_bool}
use mathlib.Core.List.{List, [], ◌∷◌, ◌++◌, map}
use Rattle.std.proofs.Math.Option.{some}
use Rattle.std.proofs.Math.ListN.{get_elem?}
use Rattle.model.specs.Literal.{Literal, FALSE, node, inverted, negate}
use Rattle.model.specs.Lists.{snoc, zip, lookup}
use Rattle.model.specs.Aig.{Node, Constant, Variable, And, Aig, Built, evaluate, aig_node_value, aig_values_from, aig_node_values}
use Rattle.model.specs.Transition.{Port, StateBit, TransitionSystem}
use Rattle.model.specs.Equivalence.{remap_literal, Import, with_imported, import_node, import_nodes, import_aig, Frame, frame_variables, frame_of, import_frame}
use Rattle.laws.specs.Graph.Values.{lit_0, lit_neg, node-negate}
use Rattle.laws.specs.Lowering.SystemRun.{cycle_values, system_outputs, system_next}
use Rattle.laws.specs.Pairwise.{Pairwise, pairs-snoc, pairs_weaken, pairs_get, pairs_append}
use Rattle.laws.specs.Graph.Operations.{Formed, Means, grounded, same_graph, meaning, and_means}

pair_of_maps : {A B C : Type 0} (P : A → B → Type 0) (f : C → A) (g : C → B) → ((c : C) → P (f c) (g c)) → (cs : List C) → Pairwise P (map f cs) (map g cs)
pair_of_maps P f g h [] = tt
pair_of_maps P f g h (c ∷ cs) = (h c, pair_of_maps P f g h cs)

module _ (environment : ℕ → Bool) where
  -- a literal of the graph with this value
  abbrev pub Has : Aig → Literal → Bool → Type 0
  Has g l x = (evaluate (aig_node_values environment g) l ≡ x) × (node l < length g)

  -- h has g's nodes with their values
  pub record Grown (g h : Aig) : Type 0 where
    pub keeps : (l : Literal) → node l < length g → evaluate (aig_node_values environment h) l ≡ evaluate (aig_node_values environment g) l
    pub formed : Formed h
    pub grows : length g ≤ length h

  -- a graph grows from itself
  pub grown-refl : (g : Aig) → Formed g → Grown g g
  grown-refl g w = record { keeps = λ l _. refl; formed = w; grows = omega arith }

  -- growths follow one another
  pub grown_trans : {g h k : Aig} → Grown g h → Grown h k → Grown g k
  grown_trans a b =
      record { keeps = λ l i. b.keeps l (omega (arith, a.grows)) ∙ a.keeps l i; formed = b.formed; grows = omega (arith, a.grows, b.grows) }

  -- an operation makes the graph grow
  pub grown : {g : Aig} {x : Bool} {m : Built} → Means environment g x m → Grown g m.aig
  grown h = record { keeps = h.keeps; formed = h.formed; grows = h.grows }

  -- and its literal has the value that is meant
  pub has : {g : Aig} {x : Bool} {m : Built} → Means environment g x m → Has m.aig m.literal x
  has h = (h.value, h.inside)

  -- a literal keeps its value
  pub has-later : {g h : Aig} → Grown g h → (l : Literal) (x : Bool) → Has g l x → Has h l x
  has-later r l x p = (r.keeps l p.1 ∙ p.0, omega (arith, p.1, r.grows))

  -- and so do many
  pub list_later : {g h : Aig} → Grown g h → (ls : List Literal) (xs : List Bool) → Pairwise (Has g) ls xs → Pairwise (Has h) ls xs
  list_later {g} {h} r ls xs q = pairs_weaken (Has g) (Has h) (has-later r) ls xs q

  positive : {A : Type 0} (xs : List A) (x : A) → get_elem? xs 0 ≡ some x → 0 < length xs
  positive [] x e = absurd (let z : ◌≡◌ {A = ℕ} 0 1 = cc in omega arith)
  positive (y ∷ xs) x e = omega arith

  -- FALSE has the value false
  pub has-false : (g : Aig) → Formed g → Has g FALSE false
  unfolding node
  has-false g w = (lit_0 (aig_node_values environment g) (grounded environment g w), omega (arith, positive g Constant w.grounding))

  -- a negation has the other value
  pub has-negate : (g : Aig) (l : Literal) (x : Bool) → Has g l x → Has g (negate l) (not x)
  has-negate g l x h = (lit_neg (aig_node_values environment g) l ∙ ap not h.0, rw node-negate h.1)

  xor_is : (x b : Bool) → xor_bool x b ≡ cond b (not x) x
  unfolding xor_bool
  xor_is true true = refl
  xor_is true false = refl
  xor_is false true = refl
  xor_is false false = refl

  -- a literal of the source, remapped, has the value that it has in the source
  remap_has : (g : Aig) → Formed g → (imported : List Literal) (values : List Bool) → Pairwise (Has g) imported values
      → (l : Literal) → Has g (remap_literal imported l) (evaluate values l)
  unfolding remap_literal evaluate
  remap_has g w imported values h l = rw (xor_is (get_or values (node l) false) (inverted l)) (sign (inverted l))
    where
      m : Has g (get_or imported (node l) FALSE) (get_or values (node l) false)
      m = pairs_get (Has g) imported values FALSE false h (has-false g w) (node l)

      sign : (b : Bool) → Has g (cond b (negate (get_or imported (node l) FALSE)) (get_or imported (node l) FALSE)) (cond b (not (get_or values (node l) false)) (get_or values (node l) false))
      sign true = has-negate g _ _ m
      sign false = m

  -- ---- an import

  module _ (variables : List (ℕ × Literal)) (source : ℕ → Bool) (g : Aig) (bound : (v : ℕ) → Has g (lookup FALSE variables v) (source v)) where
    -- the literals so far have the values so far
    pub record Agrees (i : Import) (values : List Bool) : Type 0 where
      pub after : Grown g i.aig
      pub agree : Pairwise (Has i.aig) i.imported values

    agrees_snoc : (i : Import) (values : List Bool) (x : Bool) (m : Built) → Agrees i values → Means environment i.aig x m
        → Agrees (with_imported i m) (snoc values x)
    unfolding with_imported
    agrees_snoc i values x m a h =
        record {
          after = grown_trans a.after (grown h);
          agree =
              pairs-snoc (Has m.aig) i.imported values m.literal x
              (list_later (grown h) i.imported values a.agree)
              (has h);
        }

    node_agrees : (i : Import) (values : List Bool) (n : Node) → Agrees i values → Agrees (import_node variables i n) (snoc values (aig_node_value source values n))
    unfolding import_node aig_node_value
    node_agrees i values Constant a =
        let f = has-false i.aig a.after.formed in
        agrees_snoc i values false _ a (same_graph environment i.aig false FALSE a.after.formed f.1 f.0)
    node_agrees i values (Variable v) a =
        let p = has-later a.after (lookup FALSE variables v) (source v) (bound v) in
        agrees_snoc i values (source v) _ a (same_graph environment i.aig (source v) (lookup FALSE variables v) a.after.formed p.1 p.0)
    node_agrees i values (And l k) a =
        let p = remap_has i.aig a.after.formed i.imported values a.agree l in
        let q = remap_has i.aig a.after.formed i.imported values a.agree k in
        agrees_snoc i values (evaluate values l && evaluate values k) _ a
        (meaning environment (ap₂ ◌&&◌ p.0 q.0) (and_means environment i.aig a.after.formed _ _ p.1 q.1))

    nodes-agree : (i : Import) (values : List Bool) (ns : List Node) → Agrees i values → Agrees (import_nodes variables i ns) (aig_values_from source ns values)
    unfolding import_nodes aig_values_from
    nodes-agree i values [] a = a
    nodes-agree i values (n ∷ ns) a = nodes-agree (import_node variables i n) _ ns (node_agrees i values n a)

    -- the imported literals have the values of the source's nodes, and the target's old values stay
    import_agrees : Formed g → (s : Aig) → Agrees (import_aig variables s g) (aig_node_values source s)
    unfolding import_aig aig_node_values
    import_agrees w s = nodes-agree (record { aig = g; imported = [] }) [] s (record { after = grown-refl g w; agree = tt })

  -- ---- a frame

  -- pairs with the same numbers, whose literals have the bits
  abbrev Bound : Aig → (ℕ × Literal) → (ℕ × Bool) → Type 0
  Bound g p q = (p.0 ≡ q.0) × Has g p.1 q.1

  bound-zip : (g : Aig) (ks : List ℕ) (ls : List Literal) (xs : List Bool) → Pairwise (Has g) ls xs → Pairwise (Bound g) (zip ks ls) (zip ks xs)
  unfolding zip
  bound-zip g [] ls xs h = tt
  bound-zip g (k ∷ ks) [] [] h = tt
  bound-zip g (k ∷ ks) [] (x ∷ xs) h = absurd h
  bound-zip g (k ∷ ks) (l ∷ ls) [] h = absurd h
  bound-zip g (k ∷ ks) (l ∷ ls) (x ∷ xs) h = ((refl, h.0), bound-zip g ks ls xs h.1)

  bound-lookup : (g : Aig) → Formed g → (ps : List (ℕ × Literal)) (qs : List (ℕ × Bool)) → Pairwise (Bound g) ps qs → (v : ℕ) → Has g (lookup FALSE ps v) (lookup false qs v)
  unfolding lookup
  bound-lookup g w [] [] h v = has-false g w
  bound-lookup g w [] (q ∷ qs) h v = absurd h
  bound-lookup g w (p ∷ ps) [] h v = absurd h
  bound-lookup g w (p ∷ ps) (q ∷ qs) h v = rw h.0.0 (pick (eqb q.0 v) (bound-lookup g w ps qs h.1 v))
    where
      pick : (b : Bool) → Has g (lookup FALSE ps v) (lookup false qs v) → Has g (cond b p.1 (lookup FALSE ps v)) (cond b q.1 (lookup false qs v))
      pick true r = h.0.1
      pick false r = r

  -- a frame's literals have the values of the plain cycle, and the graph's old values stay
  pub record FrameMeans (g : Aig) (system : TransitionSystem) (inputs states : List Bool) (f : Frame) : Type 0 where
    pub after : Grown g f.aig
    pub outputs : Pairwise (Has f.aig) f.outputs (system_outputs system inputs states)
    pub next : Pairwise (Has f.aig) f.next (system_next system inputs states)

  -- an imported cycle has the system's outputs and next states
  pub frame_means : (g : Aig) → Formed g → (system : TransitionSystem) (inputs states : List Literal) (xs ys : List Bool)
      → Pairwise (Has g) inputs xs → Pairwise (Has g) states ys → FrameMeans g system xs ys (import_frame system g inputs states)
  unfolding import_frame frame_of frame_variables system_outputs system_next cycle_values
  frame_means g w system inputs states xs ys h k =
      let input-nodes = map (λ (p : Port). node p.literal) system.inputs in
      let state-nodes = map (λ (s : StateBit). s.variable) system.states in
      let ps = zip input-nodes inputs ++ zip state-nodes states in
      let qs = zip input-nodes xs ++ zip state-nodes ys in
      let b = bound-lookup g w ps qs (pairs_append (Bound g) (zip input-nodes inputs) (zip input-nodes xs) (zip state-nodes states) (zip state-nodes ys) (bound-zip g input-nodes inputs xs h) (bound-zip g state-nodes states ys k)) in
      let a = import_agrees ps (lookup false qs) g b w system.aig in
      let i = import_aig ps system.aig g in
      let r = remap_has i.aig a.after.formed i.imported (aig_node_values (lookup false qs) system.aig) a.agree in
      record {
        after = a.after;
        outputs = pair_of_maps (Has i.aig) _ _ (λ (p : Port). r p.literal) system.outputs;
        next = pair_of_maps (Has i.aig) _ _ (λ (s : StateBit). r s.next) system.states;
      }
