-- One node of the walk: what the code leaves is what the model's walk has after the node. Assumes nothing.
use Rattle.std.specs.Prelude.{◌≡◌, refl, Bool, true, false, ◌&&◌, List, ℕ, zero, suc, ◌+◌, ◌*◌, ◌≤◌, ◌<◌, eqb, set}
use Rattle.std.proofs.Math.Path.{ap}
use Rattle.std.proofs.Common.{ap₂, sym, ◌∙◌, arith, eq-eqb, ne_eqb}
use Rattle.std.proofs.lemmas.Bool.{false≢true}
use Rattle.std.proofs.Math.Option.{Option, none, some}
use Rattle.std.proofs.Math.ListN.{length}
use Rattle.facts.specs.Bools.{and_both}
use Rattle.facts.specs.Lists.{set_any}
use Rattle.words.specs.Layout.{LENT, TABLE, NETS, STATES}
use Rattle.words.specs.Region.{region, apart, stored, stores, length-region}
use Rattle.model.specs.Literal.{Literal, constant_literal}
use Rattle.model.specs.Lists.{snoc}
use Rattle.model.specs.Aig.{Aig, Built, variable, mux}
use Rattle.model.specs.Netlist.{Node, Input, Constant, RegisterOutput, Not, Output, And, Or, Xor, Mux, ActiveLevel, High, Low, Reset, Register, is_register_output}
use Rattle.model.specs.Record.{level_of, bit}
use Rattle.model.specs.Validate.{driver}
use Rattle.model.specs.Transition.{Lowering, asserted_literal, net_literal, driver_reset, with_net, with_literal, lower_input, lower_output, reset_mux, shown, lower_shown, lower_register_output, lower_node}
use Rattle.struo_ir.specs.Decoded.{decoded_reset}
use Rattle.aig.specs.Graph.{graph_of}
use Rattle.aig.specs.Shortcut.{negate-below}
use Rattle.aig.specs.Made.{Same, Made, outside, same_trans, ready-stored, graph-stored}
use Rattle.lowering.specs.Gate.{gate_of, gate-alike, Alike, Netted, made_as}
use Rattle.lowering.specs.Walk.{Walked, elsewhere, alike-more, length_more, states-more, fresh-more}
use Rattle.lowering.specs.declared.resets.ResetCell.{ResetCell}

-- the reset that the fields say
abbrev pub reset_of : ResetCell → Option Reset
reset_of r = decoded_reset r.code r.signal r.kind r.value

-- ---- the words after a change of the graph, a net, a state variable

pub netted-made : (k c : ℕ) (w : List ℕ) (c' : ℕ) (w' : List ℕ) (l : ℕ) (m : Built) → Netted c w → Made k c w c' w' l m → Netted c' w'
netted-made k c w c' w' l m n d =
    record {
      ready = d.ready;
      nets = λ a. rw (d.same.at NETS refl) (omega (arith, n.nets a, d.grows));
      states = λ a. rw (d.same.at STATES refl) (omega (arith, n.states a, d.grows));
    }

pub netted_net : (c : ℕ) (w : List ℕ) (i v : ℕ) → Netted c w → v < c * 2 → Netted c (stored NETS w i v)
unfolding net_literal
netted_net c w i v n h =
    record {
      ready = ready-stored NETS c w i v refl n.ready;
      nets = λ a. simp stores (set_any (λ l. l < c * 2) (region NETS w) i a v 0 (n.nets a) h);
      states = λ a. simp stores (n.states a);
    }

pub netted-state : (c : ℕ) (w : List ℕ) (i v : ℕ) → Netted c w → v < c * 2 → Netted c (stored STATES w i v)
unfolding net_literal
netted-state c w i v n h =
    record {
      ready = ready-stored STATES c w i v refl n.ready;
      nets = λ a. simp stores (n.nets a);
      states = λ a. simp stores (set_any (λ l. l < c * 2) (region STATES w) i a v 0 (n.states a) h);
    }

-- the tests of `elsewhere`
pub elsewhere_parts : (b : ℕ) → elsewhere b ≡ true → (outside b ≡ true) × (apart b NETS ≡ true) × (apart b STATES ≡ true)
elsewhere_parts b e =
    let p : (outside b ≡ true) × ((apart b NETS && apart b STATES) ≡ true) = and_both _ _ e in
    let q : (apart b NETS ≡ true) × (apart b STATES ≡ true) = and_both _ _ p.1 in
    (p.0, q.0, q.1)

pub same-elsewhere : {w w' : List ℕ} → Same outside w w' → Same elsewhere w w'
same-elsewhere f = record { at = λ b e. f.at b (elsewhere_parts b e).0 }

pub same_net : (w : List ℕ) (i v : ℕ) → Same elsewhere w (stored NETS w i v)
same_net w i v = record { at = λ b e. let q = elsewhere_parts b e in simp (stores, q.1) }

pub same-state : (w : List ℕ) (i v : ℕ) → Same elsewhere w (stored STATES w i v)
same-state w i v = record { at = λ b e. let q = elsewhere_parts b e in simp (stores, q.2) }

-- ---- a node entered

-- From c nodes in w, net `net` was entered: its built graph and literal are m's, the state variables are ss.
pub record Entered (k net c : ℕ) (w : List ℕ) (c' : ℕ) (w' : List ℕ) (ss : List ℕ) (m : Built) : Type 0 where
  pub netted : Netted c' w'
  pub same : Same elsewhere w w'
  pub grows : c ≤ c'
  pub within : c' ≤ c + k
  pub states : region STATES w' ≡ ss
  pub nets : region NETS w' ≡ set (region NETS w) net m.literal
  pub graph : graph_of c' w' ≡ m.aig

-- a gate's literal
pub entered_gate : (net c : ℕ) (w : List ℕ) (c' : ℕ) (w' : List ℕ) (l : ℕ) (m : Built) → Netted c w → Made 3 c w c' w' l m
    → Entered 3 net c w c' (stored NETS w' net l) (region STATES w) m
entered_gate net c w c' w' l m n d =
    record {
      netted = netted_net c' w' net l (netted-made 3 c w c' w' l m n d) d.below;
      same = same_trans (same-elsewhere d.same) (same_net w' net l);
      grows = d.grows;
      within = d.within;
      states = simp stores (d.same.at STATES refl);
      nets = simp stores (ap₂ (λ (xs : List ℕ) (v : ℕ). set xs net v) (d.same.at NETS refl) (ap (λ (x : Built). x.literal) d.built));
      graph = graph-stored NETS c' w' net l refl ∙ ap (λ (x : Built). x.aig) d.built;
    }

-- a register output: its state's variable, then what it shows
pub entered_register : (net c : ℕ) (w : List ℕ) (c₁ : ℕ) (w₁ : List ℕ) (state c₂ : ℕ) (w₂ : List ℕ) (l : ℕ) (m : Built) (r : Option Reset) → Netted c w
    → Made 1 c w c₁ w₁ state m → Made 3 c₁ (stored STATES w₁ net state) c₂ w₂ l (shown (graph_of c₁ (stored STATES w₁ net state)) (region NETS (stored STATES w₁ net state)) r state)
    → Entered 4 net c w c₂ (stored NETS w₂ net l) (set (region STATES w) net m.literal) (shown m.aig (region NETS w) r m.literal)
entered_register net c w c₁ w₁ state c₂ w₂ l m r n d e =
    let g : graph_of c₁ (stored STATES w₁ net state) ≡ m.aig = graph-stored STATES c₁ w₁ net state refl ∙ ap (λ (x : Built). x.aig) d.built in
    let s : state ≡ m.literal = ap (λ (x : Built). x.literal) d.built in
    let nets : region NETS (stored STATES w₁ net state) ≡ region NETS w = simp stores (d.same.at NETS refl) in
    let n₁ : Netted c₁ (stored STATES w₁ net state) = netted-state c₁ w₁ net state (netted-made 1 c w c₁ w₁ state m n d) d.below in
    let f : Made 3 c₁ (stored STATES w₁ net state) c₂ w₂ l (shown m.aig (region NETS w) r m.literal) =
    made_as (ap₂ (λ (x : Aig) (xs : List ℕ). shown x xs r state) g nets ∙ ap (λ (x : ℕ). shown m.aig (region NETS w) r x) s) e in
    let p = entered_gate net c₁ (stored STATES w₁ net state) c₂ w₂ l (shown m.aig (region NETS w) r m.literal) n₁ f in
    record {
      netted = p.netted;
      same = same_trans (same_trans (same-elsewhere d.same) (same-state w₁ net state)) p.same;
      grows = omega (arith, d.grows, p.grows);
      within = omega (arith, d.within, p.within);
      states = p.states ∙ simp stores (ap₂ (λ (xs : List ℕ) (v : ℕ). set xs net v) (d.same.at STATES refl) s);
      nets = p.nets ∙ ap (λ (xs : List ℕ). set xs net (shown m.aig (region NETS w) r m.literal).literal) nets;
      graph = p.graph;
    }

-- ---- what a register output shows

-- an asserted literal is of the same node
pub asserted-below : (l : ℕ) (a : ActiveLevel) (c : ℕ) → l < c * 2 → asserted_literal l a < c * 2
unfolding asserted_literal
asserted-below l High c h = h
asserted-below l Low c h = negate-below l c h

-- the mux of a reset, by its fields and the nets of the words
abbrev pub reset_mux_by : Aig → List Literal → ResetCell → Literal → Built
reset_mux_by g nets r value =
    mux g (asserted_literal (net_literal nets r.signal) (level_of r.code)) (constant_literal (eqb r.value 1)) value

-- a code that is not 0 is one more than some number
pub by_code : (P : ℕ → Type 0) (c : ℕ) → 0 < c → ((k : ℕ) → P (suc k)) → P c
by_code P zero h f = absurd (omega arith)
by_code P (suc c) h f = f c

module _ (g : Aig) (nets : List Literal) (r : ResetCell) (state : Literal) where
  -- without a reset, its state
  pub shown_plain : r.code ≡ 0 → record { aig = g; literal = state } ≡ shown g nets (reset_of r) state
  unfolding shown decoded_reset
  shown_plain e = rw e

  -- with a synchronous one too
  pub shown_synchronous : 0 < r.code → (r.kind ≡ 1 → ⊥) → record { aig = g; literal = state } ≡ shown g nets (reset_of r) state
  unfolding shown bit decoded_reset
  shown_synchronous h e =
      let m : Built = record { aig = g; literal = state } in
      by_code (λ (c : ℕ). m ≡ shown g nets (decoded_reset c r.signal r.kind r.value) state) r.code h (λ k. rw (ne_eqb r.kind 1 e))

  -- with an asynchronous one, the reset's mux
  pub shown-asynchronous : 0 < r.code → r.kind ≡ 1 → reset_mux_by g nets r state ≡ shown g nets (reset_of r) state
  unfolding shown bit reset_mux decoded_reset
  shown-asynchronous h e =
      by_code
      (λ (c : ℕ). mux g (asserted_literal (net_literal nets r.signal) (level_of c)) (constant_literal (eqb r.value 1)) state ≡ shown g nets (decoded_reset c r.signal r.kind r.value) state)
      r.code h (λ k. rw (eq-eqb r.kind 1 e))

pub reset-alike : (g : Aig) (xs ys : List Literal) (r : Reset) (value : Literal) → Alike xs ys → reset_mux g xs r value ≡ reset_mux g ys r value
unfolding reset_mux
reset-alike g xs ys r value e = rw (e.at r.signal)

shown-alike : (g : Aig) (xs ys : List Literal) (o : Option Reset) (state : Literal) → Alike xs ys → shown g xs o state ≡ shown g ys o state
unfolding shown
shown-alike g xs ys none state e = refl
shown-alike g xs ys (some r) state e = go r.asynchronous
  where
    go : (t : Bool)
        → ◌≡◌ {A = Built} (elim t [ true ↦ reset_mux g xs r state | false ↦ record { aig = g; literal = state } ])
        (elim t [ true ↦ reset_mux g ys r state | false ↦ record { aig = g; literal = state } ])
    go true = reset-alike g xs ys r state e
    go false = refl

-- ---- the walk goes on

-- a node that is no register output adds its gate's literal
gate-step : (rs : List Register) (l : Lowering) (net : ℕ) (n : Node) → is_register_output n ≡ false
    → ((lower_node rs l net n).aig ≡ (gate_of l.aig l.nets n).aig) × ((lower_node rs l net n).nets ≡ snoc l.nets (gate_of l.aig l.nets n).literal)
    × ((lower_node rs l net n).state_variables ≡ l.state_variables)
unfolding lower_node gate_of lower_input lower_output with_net with_literal is_register_output
gate-step rs l net (Input n) e = (refl, refl, refl)
gate-step rs l net (Constant b) e = (refl, refl, refl)
gate-step rs l net RegisterOutput e = absurd (false≢true (sym e))
gate-step rs l net (Not a) e = (refl, refl, refl)
gate-step rs l net (Output n a) e = (refl, refl, refl)
gate-step rs l net (And a b) e = (refl, refl, refl)
gate-step rs l net (Or a b) e = (refl, refl, refl)
gate-step rs l net (Xor a b) e = (refl, refl, refl)
gate-step rs l net (Mux c a b) e = (refl, refl, refl)

module _ (rs : List Register) (l : Lowering) (net c c' : ℕ) (w w' : List ℕ) (k : ℕ) (small : net < TABLE) (long : LENT ≤ length w) (at : Walked l net c w) where
  pub walked-gate : (n : Node) → is_register_output n ≡ false → Entered k net c w c' w' (region STATES w) (gate_of (graph_of c w) (region NETS w) n)
      → Walked (lower_node rs l net n) (net + 1) c' w'
  walked-gate n o e =
      let p = gate-step rs l net n o in
      let m : gate_of (graph_of c w) (region NETS w) n ≡ gate_of l.aig l.nets n =
      ap (λ (g : Aig). gate_of g (region NETS w) n) at.graph ∙ gate-alike l.aig (region NETS w) l.nets n at.nets in
      let room : net < length (region NETS w) = omega (arith, length-region NETS w (omega arith)) in
      record {
        graph = e.graph ∙ ap (λ (x : Built). x.aig) m ∙ sym p.0;
        nets = rw (e.nets, p.1, ← m) (alike-more (region NETS w) l.nets net _ at.nets at.count room);
        count = rw p.1 (length_more l.nets _ net at.count);
        states = λ i. rw (e.states, p.2) (at.states i);
        fresh = λ i h z. rw p.2 (at.fresh i (omega arith) z);
      }

  pub walked-register : Entered k net c w c' w' (set (region STATES w) net (variable (graph_of c w)).literal)
      (shown (variable (graph_of c w)).aig (region NETS w) (driver_reset (driver rs net)) (variable (graph_of c w)).literal)
      → Walked (lower_node rs l net RegisterOutput) (net + 1) c' w'
  unfolding lower_node lower_register_output lower_shown
  walked-register e =
      let v : variable (graph_of c w) ≡ variable l.aig = ap variable at.graph in
      let m : shown (variable (graph_of c w)).aig (region NETS w) (driver_reset (driver rs net)) (variable (graph_of c w)).literal
      ≡ shown (variable l.aig).aig l.nets (driver_reset (driver rs net)) (variable l.aig).literal =
      ap (λ (x : Built). shown x.aig (region NETS w) (driver_reset (driver rs net)) x.literal) v
      ∙ shown-alike _ (region NETS w) l.nets (driver_reset (driver rs net)) _ at.nets in
      let room : net < length (region NETS w) = omega (arith, length-region NETS w (omega arith)) in
      let room' : net < length (region STATES w) = omega (arith, length-region STATES w (omega arith)) in
      record {
        graph = e.graph ∙ ap (λ (x : Built). x.aig) m;
        nets = rw (e.nets, ← m) (alike-more (region NETS w) l.nets net _ at.nets at.count room);
        count = length_more l.nets _ net at.count;
        states = λ i. rw (e.states, v) (states-more (region STATES w) l.state_variables net _ at.states at.fresh room' i);
        fresh = λ i h z. fresh-more (region STATES w) l.state_variables net _ at.states at.fresh room' i h z;
      }
