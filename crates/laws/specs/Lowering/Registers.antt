-- The registers' part of the lowering: each state's next literal has the plain run's next stored bit. Assumes nothing.
use Prim.Native.Nat.{ℕ, suc}
use Rattle.std.proofs.Common.{arith, ap, ◌∙◌, inl, inr, eqb-true, eq-eqb, ne_eqb}
use Rattle.std.specs.Prelude.{◌≡◌, ◌⊎◌, Bool}
use Rattle.std.proofs.Math.Path.{refl, sym}
use Rattle.std.proofs.Math.Bool.{true, false, cond}
use mathlib.Core.List.{List, [], ◌∷◌, ◌++◌, map, append_assoc, append-nil}
use Rattle.std.proofs.Math.Option.{Option, none, some}
use Rattle.std.proofs.Math.ListN.{get_elem?}
use Rattle.std.proofs.Math.Dec.{eqb}
use Rattle.std.proofs.lemmas.Bool.{not-false, eqb-false}
use Rattle.model.specs.Names.{Name, Place}
use Rattle.model.specs.Netlist.{Node, Enable, Reset, Register, register_places}
use Rattle.model.specs.Validate.{Driver, driver, driver_from, refuse_if, is_register_output_at, register_fault, registers_fault}
use Rattle.model.specs.Run.{InputBits, StoredBits, bit_at, enabled_bit, reset_bit, next_bit}
use Rattle.model.specs.Literal.{Literal, FALSE, node}
use Rattle.model.specs.Lists.{snoc, member, lookup}
use Rattle.model.specs.Aig.{Aig, Built}
use Rattle.model.specs.Transition.{StateBit, Lowering, net_literal, enabled, reset_next, Registers, with_state, lower_register, lower_registers}
use Rattle.facts.specs.Lists.{In, All}
use Rattle.laws.specs.Pairwise.{Pairwise, pairs_weaken, pairs_append}
use Rattle.facts.specs.Bools.{or-both}
use Rattle.laws.specs.Graph.Operations.{Formed, Means, same_graph, after}
use Rattle.laws.specs.Record.Accepted.{otherwise_none, refuse_if-none}
use Rattle.laws.specs.Queries.Frame.{Has, Grown, grown_trans, grown, has, has-later, list_later}
use Rattle.laws.specs.Lowering.Lists.{in_map-left, in_map-right}
use Rattle.laws.specs.Lowering.Walk.{asserted-has, net_has, mux-has, reset-mux_means, StateHas}

module _ (e : ℕ → Bool) where
  enabled_means : (g : Aig) → Formed g → (nets : List Literal) (values : List Bool) → Pairwise (Has e g) nets values
      → (o : Option Enable) (l s : Literal) (x b : Bool) → Has e g l x → Has e g s b → Means e g (enabled_bit values b x o) (enabled g nets o l s)
  unfolding enabled enabled_bit
  enabled_means g w nets values h none l s x b p q = same_graph e g x l w p.1 p.0
  enabled_means g w nets values h (some n) l s x b p q =
      mux-has e g w _ _ _ _ _ _ (asserted-has e g _ _ n.active (net_has e g w nets values h n.signal)) p q

  reset-next_means : (g : Aig) (m : Built) (x : Bool) → Means e g x m → (nets : List Literal) (values : List Bool) → Pairwise (Has e m.aig) nets values
      → (o : Option Reset) → Means e g (reset_bit values x o) (reset_next m nets o)
  unfolding reset_next reset_bit
  reset-next_means g m x k nets values h none = k
  reset-next_means g m x k nets values h (some r) = after e k (reset-mux_means e m.aig k.formed nets values h r m.literal x (has e k))

  -- a register's next literal
  next_means : (g : Aig) → Formed g → (nets : List Literal) (values : List Bool) → Pairwise (Has e g) nets values
      → (r : Register) (s : Literal) (b : Bool) → Has e g s b
      → Means e g (next_bit values b r) (reset_next (enabled g nets r.enable (net_literal nets r.«data») s) nets r.reset)
  unfolding next_bit
  next_means g w nets values h r s b p =
      let m = enabled_means g w nets values h r.enable (net_literal nets r.«data») s _ b (net_has e g w nets values h r.«data») p in
      reset-next_means g _ _ m nets values (list_later e (grown e m) nets values h) r.reset

  module _ (stored values next : List Bool) where
    -- a state beside its register's place, with its bits
    pub record StateAt (g : Aig) (s : StateBit) (p : Place) : Type 0 where
      pub name : s.name ≡ p.name
      pub next_bit : Has e g s.next (bit_at next p.number)
      pub variable-bit : e s.variable ≡ bit_at stored p.number

    state-later : {g h : Aig} → Grown e g h → (s : StateBit) (p : Place) → StateAt g s p → StateAt h s p
    state-later r s p k = record { name = k.name; next_bit = has-later e r s.next _ k.next_bit; variable-bit = k.variable-bit }

    -- what is known of register k
    pub record KnownAt (w : Lowering) (k : ℕ) (r : Register) : Type 0 where
      pub state : Has e w.aig (lookup FALSE w.state_variables r.output) (bit_at stored k)
      pub variable : e (node (lookup FALSE w.state_variables r.output)) ≡ bit_at stored k
      pub next-is : bit_at next k ≡ next_bit values (bit_at stored k) r

    -- each register's output has its state variable
    abbrev pub Known : Lowering → ℕ → List Register → Type 0
    Known w k [] = Unit {0}
    Known w k (r ∷ rs) = KnownAt w k r × Known w (suc k) rs

    -- the states made so far mean the plain run's next bits
    pub record RegistersMean (g : Aig) (h : Registers) (ps : List Place) : Type 0 where
      pub since : Grown e g h.aig
      pub states : Pairwise (StateAt h.aig) h.states ps

    one-register : (w : Lowering) (g : Registers) (k : ℕ) (r : Register) (ps : List Place) → Pairwise (Has e w.aig) w.nets values → KnownAt w k r
        → RegistersMean w.aig g ps
        → RegistersMean w.aig (lower_register w.nets g r (lookup FALSE w.state_variables r.output)) (ps ++ (record { name = r.name; number = k } ∷ []))
    unfolding lower_register with_state snoc
    one-register w g k r ps n q h =
        let s = lookup FALSE w.state_variables r.output in
        let m = next_means g.aig h.since.formed w.nets values (list_later e h.since w.nets values n) r s (bit_at stored k) (has-later e h.since s _ q.state) in
        let b = reset_next (enabled g.aig w.nets r.enable (net_literal w.nets r.«data») s) w.nets r.reset in
        let z = has e m in
        record {
          since = grown_trans e h.since (grown e m);
          states =
              pairs_append (StateAt b.aig) g.states ps _ _ (pairs_weaken (StateAt g.aig) (StateAt b.aig) (state-later (grown e m)) g.states ps h.states)
              (record { name = refl; next_bit = (z.0 ∙ sym q.next-is, z.1); variable-bit = q.variable }, tt);
        }

    -- all registers, beside their places in record order
    pub registers_mean : (w : Lowering) (g : Registers) (k : ℕ) (rs : List Register) (ps : List Place) → Pairwise (Has e w.aig) w.nets values → Known w k rs
        → RegistersMean w.aig g ps → RegistersMean w.aig (lower_registers w g rs) (ps ++ register_places k rs)
    unfolding lower_registers register_places
    registers_mean w g k [] ps n q h = rw (append-nil ps) h
    registers_mean w g k (r ∷ rs) ps n q h = rw append_assoc at (registers_mean w (lower_register w.nets g r (lookup FALSE w.state_variables r.output)) (suc k) rs _ n q.1 (one-register w g k r ps n q.0 h))

  -- ---- a register's state variable

  -- a key's literal has its driver's stored bit
  pub lookup-has : (rs : List Register) (inp : InputBits) (stored : StoredBits) (g : Aig) (ps : List (ℕ × Literal)) (k : ℕ)
      → All (StateHas e rs inp stored g) ps → In k (map (λ (p : ℕ × Literal). p.0) ps) → StateHas e rs inp stored g (k, lookup FALSE ps k)
  unfolding lookup
  lookup-has rs inp stored g [] k h i = absurd i
  lookup-has rs inp stored g (p ∷ ps) k h i = go (eqb p.0 k) refl i (lookup-has rs inp stored g ps k h.1)
    where
      go : (b : Bool) → eqb p.0 k ≡ b → (k ≡ p.0) ⊎ In k (map (λ (q : ℕ × Literal). q.0) ps)
          → (In k (map (λ (q : ℕ × Literal). q.0) ps) → StateHas e rs inp stored g (k, lookup FALSE ps k)) → StateHas e rs inp stored g (k, cond b p.1 (lookup FALSE ps k))
      go true q i r = rw (← (eqb-true p.0 k q)) h.0
      go false q (inl d) r = absurd (eqb-false p.0 k q (sym d))
      go false q (inr m) r = r m

-- ---- drivers

-- the register's output is a RegisterOutput, not among those taken
pub record OutputFine (nodes : List Node) (taken : List ℕ) (r : Register) : Type 0 where
  pub register : is_register_output_at (get_elem? nodes r.output) ≡ true
  pub fresh : member r.output taken ≡ false

-- each register's output is a RegisterOutput node that no earlier one drives
abbrev pub OutputsFine : List Node → List ℕ → List Register → Type 0
OutputsFine nodes taken [] = Unit {0}
OutputsFine nodes taken (r ∷ rs) = OutputFine nodes taken r × OutputsFine nodes (r.output ∷ taken) rs

-- 10 and 11
pub outputs_fine : (nodes : List Node) (i : ℕ) (names : List Name) (taken : List ℕ) (rs : List Register) → registers_fault nodes i names taken rs ≡ none → OutputsFine nodes taken rs
unfolding registers_fault register_fault
outputs_fine nodes i names taken [] h = tt
outputs_fine nodes i names taken (r ∷ rs) h =
    let o = otherwise_none (register_fault nodes i names taken r) _ h in
    let a = otherwise_none (refuse_if 9 0 i _) _ o.0 in
    let b = otherwise_none (refuse_if 10 0 i _) _ a.1 in
    let c = otherwise_none (refuse_if 11 0 i _) _ b.1 in
    (record { register = not-false _ (refuse_if-none 10 0 i _ b.0); fresh = refuse_if-none 11 0 i _ c.0 }, outputs_fine nodes (suc i) _ _ rs o.1)

-- a register drives its output
abbrev pub Drives : List Register → ℕ → List Register → Type 0
Drives whole k [] = Unit {0}
Drives whole k (r ∷ rs) = (driver whole r.output ≡ some (record { number = k; register = r })) × Drives whole (suc k) rs

-- so each is its output's driver
pub drives : (nodes : List Node) (whole : List Register) (k : ℕ) (taken : List ℕ) (rs : List Register) → OutputsFine nodes taken rs
    → ((net : ℕ) → member net taken ≡ false → driver whole net ≡ driver_from k net rs) → Drives whole k rs
unfolding driver_from member
drives nodes whole k taken [] h f = tt
drives nodes whole k taken (r ∷ rs) h f = (
  f r.output h.0.fresh ∙ rw (eq-eqb r.output r.output refl),
  drives nodes whole (suc k) (r.output ∷ taken) rs h.1
      (λ net m. let o = or-both (eqb net r.output) _ m in f net o.1 ∙ rw (ne_eqb r.output net (λ d. eqb-false net r.output o.0 (sym d)))),
)

-- a driver's net is some register's output
pub driver-output : (k net : ℕ) (rs : List Register) (d : Driver) → driver_from k net rs ≡ some d → In net (map (λ (r : Register). r.output) rs)
unfolding driver_from
driver-output k net [] d h = absurd (let z : ◌≡◌ {A = ℕ} 0 1 = cc in omega arith)
driver-output k net (r ∷ rs) d h = go (eqb r.output net) refl h (driver-output (suc k) net rs d)
  where
    go : (b : Bool) → eqb r.output net ≡ b → cond b (some (record { number = k; register = r })) (driver_from (suc k) net rs) ≡ some d
        → (driver_from (suc k) net rs ≡ some d → In net (map (λ (q : Register). q.output) rs)) → (net ≡ r.output) ⊎ In net (map (λ (q : Register). q.output) rs)
    go true q h f = inl (sym (eqb-true r.output net q))
    go false q h f = inr (f h)

-- ---- variables of the states

states_keep : (w : Lowering) (g : Registers) (rs : List Register) (k : ℕ) → In k (map (λ (s : StateBit). s.variable) g.states)
    → In k (map (λ (s : StateBit). s.variable) (lower_registers w g rs).states)
unfolding lower_registers lower_register with_state snoc
states_keep w g [] k h = h
states_keep w g (r ∷ rs) k h = states_keep w (lower_register w.nets g r (lookup FALSE w.state_variables r.output)) rs k (in_map-left (λ (s : StateBit). s.variable) k g.states _ h)

-- each register's variable is some state's
pub states-listed : (w : Lowering) (g : Registers) (rs : List Register) (net : ℕ) → In net (map (λ (r : Register). r.output) rs)
    → In (node (lookup FALSE w.state_variables net)) (map (λ (s : StateBit). s.variable) (lower_registers w g rs).states)
unfolding lower_registers lower_register with_state snoc
states-listed w g [] net i = absurd i
states-listed w g (r ∷ rs) net (inl q) =
    states_keep w _ rs _ (in_map-right (λ (s : StateBit). s.variable) _ g.states _ (inl (ap (λ (k : ℕ). node (lookup FALSE w.state_variables k)) q)))
states-listed w g (r ∷ rs) net (inr i) = states-listed w (lower_register w.nets g r (lookup FALSE w.state_variables r.output)) rs net i
