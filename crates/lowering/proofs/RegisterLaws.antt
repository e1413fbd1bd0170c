-- One register is lowered as `Registered` says, and all of them as `Registering` says. Assumes nothing.
use Rattle.std.specs.Prelude.{◌≡◌, ℕ, ◌+◌, ◌*◌, ◌≤◌, ◌<◌, get_or, set}
use Rattle.std.proofs.Math.Path.{refl, ap}
use Rattle.std.proofs.Common.{ap₂, sym, ◌∙◌, arith, take-suc, take-suc-set, get_or-take}
use mathlib.Core.List.{List, [], ◌∷◌, ◌++◌, map}
use Rattle.std.proofs.Math.Option.{Option, none, some}
use Rattle.std.proofs.Math.Numerals.{add-one}
use Rattle.std.proofs.Math.ListN.{length, take, length-take, length-map, get_or-map}
use Rattle.facts.specs.Lists.{set_any}
use Rattle.words.specs.Layout.{NETS, STATES}
use Rattle.words.specs.Region.{region}
use Rattle.model.specs.Literal.{Literal, FALSE, node}
use Rattle.model.specs.Lists.{snoc, lookup}
use Rattle.model.specs.Aig.{Aig, Built}
use Rattle.model.specs.Netlist.{Enable, Reset, Register}
use Rattle.model.specs.Transition.{Lowering, Registers, StateBit, net_literal, enabled, reset_next, with_state, lower_register, lower_registers}
use Rattle.struo_ir.specs.Decoded.{decoded_register, cell_enable, cell_reset, decoded}
use Rattle.struo_ir.specs.declared.netlist.RegisterCell.{RegisterCell}
use Rattle.struo_ir.specs.declared.netlist.Netlist.{Netlist}
use Rattle.aig.specs.Graph.{graph_of}
use Rattle.aig.specs.Made.{Made, outside, same_refl, same_trans}
use Rattle.lowering.specs.declared.resets.ResetCell.{ResetCell}
use Rattle.lowering.specs.Firsts.{map_snoc}
use Rattle.lowering.specs.Gate.{Netted, Alike}
use Rattle.lowering.specs.Walk.{Walked}
use Rattle.lowering.specs.Step.{reset_of, reset-alike, netted-made}
use Rattle.lowering.specs.Registers.{next_of, Registered, Held, no_states, Registering}

-- ---- one register

next-alike : (g : Aig) (xs ys : List Literal) (e : Option Enable) (input : ℕ) (r : Option Reset) (state : Literal) → Alike xs ys → next_of g xs e input r state ≡ next_of g ys e input r state
unfolding next_of enabled reset_next
next-alike g xs ys none input none state a = rw (a.at input)
next-alike g xs ys none input (some r) state a = rw (a.at input) (reset-alike _ xs ys r _ a)
next-alike g xs ys (some e) input none state a = rw (a.at input, a.at e.signal)
next-alike g xs ys (some e) input (some r) state a = rw (a.at input, a.at e.signal) (reset-alike _ xs ys r _ a)

-- the enable's part, then the reset's
pub registered : (r : RegisterCell) (reset : ResetCell) (c : ℕ) (w : List ℕ) (c₁ : ℕ) (w₁ : List ℕ) (l₁ c₂ : ℕ) (w₂ : List ℕ) (l₂ state variable : ℕ) → Netted c w
    → state ≡ get_or (region STATES w) r.output 0 → variable ≡ node state
    → reset_of reset ≡ cell_reset r
    → Made 3 c w c₁ w₁ l₁ (enabled (graph_of c w) (region NETS w) (cell_enable r) (net_literal (region NETS w) r.«data») state)
    → Made 3 c₁ w₁ c₂ w₂ l₂ (reset_next (record { aig = graph_of c₁ w₁; literal = l₁ }) (region NETS w₁) (reset_of reset))
    → Registered r c w c₂ w₂ l₂ variable
unfolding next_of
registered r reset c w c₁ w₁ l₁ c₂ w₂ l₂ state variable n s v q d e =
    record {
      netted = netted-made 3 c₁ w₁ c₂ w₂ l₂ _ (netted-made 3 c w c₁ w₁ l₁ _ n d) e;
      same = same_trans d.same e.same;
      within = omega (arith, d.within, e.within);
      grows = omega (arith, d.grows, e.grows);
      built = e.built ∙ rw (d.same.at NETS refl, ← q, ← s) (ap (λ (m : Built). reset_next m (region NETS w) (reset_of reset)) d.built);
      is_variable = rw (← s) v;
      below = e.below;
    }

-- ---- all registers

lower_more : (l : Lowering) (g : Registers) (rs : List Register) (r : Register)
    → lower_registers l g (rs ++ (r ∷ [])) ≡ lower_register l.nets (lower_registers l g rs) r (lookup FALSE l.state_variables r.output)
unfolding lower_registers
lower_more l g [] r = refl
lower_more l g (x ∷ rs) r = lower_more l (lower_register l.nets g x (lookup FALSE l.state_variables x.output)) rs r

-- one state more
pushed : (f : StateBit → ℕ) (xs : List ℕ) (i v : ℕ) (states : List StateBit) (b : StateBit) → i < length xs → take i xs ≡ map f states → v ≡ f b
    → take (i + 1) (set xs i v) ≡ map f (snoc states b)
unfolding snoc
pushed f xs i v states b h e q =
    rw add-one (take-suc-set xs i v h) ∙ ap₂ (λ (ys : List ℕ) (y : ℕ). ys ++ (y ∷ [])) e q ∙ sym (map_snoc f states b)

module _ (n : Netlist) (c₀ : ℕ) (w₀ : List ℕ) where
  pub registering_none : (next variable : List ℕ) → Netted c₀ w₀ → ((k : ℕ) → get_or next k 0 ≡ 0) → Registering n c₀ w₀ 0 c₀ w₀ next variable
  unfolding lower_registers
  registering_none next variable h z =
      record {
        netted = h;
        grows = omega arith;
        below = λ k. rw (z k) (omega (arith, h.ready.positive));
        same = same_refl outside w₀;
        within = omega arith;
        held = λ s l net at. record { graph = at.graph; next_are = refl; variables_are = refl };
      }

  module _ (i c c' : ℕ) (w w' : List ℕ) (next variable : List ℕ) (l v : ℕ) (d : RegisterCell) (h : i < n.register_count) (k : n.register_count ≤ length n.registers) (hn : i < length next) (hv : i < length variable)
      (a : Registering n c₀ w₀ i c w next variable) (t : Registered (get_or n.registers i d) c w c' w' l v) where
    step : (s : List ℕ) (low : Lowering) → lower_registers low (no_states low) (take (i + 1) (decoded s n).registers)
        ≡ lower_register low.nets (lower_registers low (no_states low) (take i (decoded s n).registers)) (decoded_register s (get_or n.registers i d)) (lookup FALSE low.state_variables (get_or n.registers i d).output)
    unfolding decoded_register decoded
    step s low =
        let R : List Register = (decoded s n).registers in
        let m : i < length R = rw length-map (simp length-take (omega arith)) in
        let p : take (i + 1) R ≡ take i R ++ (decoded_register s (get_or n.registers i d) ∷ []) =
        rw add-one
        (take-suc R i (decoded_register s d) m
        ∙ ap (λ (x : Register). take i R ++ (x ∷ [])) (get_or-map (decoded_register s) (take n.register_count n.registers) i d ∙ ap (decoded_register s) (get_or-take n.register_count n.registers i d h))) in
        ap (λ (x : List Register). lower_registers low (no_states low) x) p ∙ lower_more low (no_states low) (take i R) (decoded_register s (get_or n.registers i d))

    -- what the model makes of the register
    made : (s : List ℕ) (low : Lowering) (net : ℕ) → Walked low net c₀ w₀
        → record { aig = graph_of c' w'; literal = l }
        ≡ next_of (lower_registers low (no_states low) (take i (decoded s n).registers)).aig low.nets (decoded_register s (get_or n.registers i d)).enable (get_or n.registers i d).«data»
        (decoded_register s (get_or n.registers i d)).reset (lookup FALSE low.state_variables (get_or n.registers i d).output)
    unfolding decoded_register cell_enable cell_reset
    made s low net at =
        t.built
        ∙ rw (a.same.at NETS refl, a.same.at STATES refl, at.states (get_or n.registers i d).output, (a.held s low net at).graph)
        (next-alike _ (region NETS w₀) low.nets _ _ _ _ at.nets)

    state-is : (s : List ℕ) (low : Lowering) (net : ℕ) → Walked low net c₀ w₀ → v ≡ node (lookup FALSE low.state_variables (get_or n.registers i d).output)
    state-is s low net at = t.is_variable ∙ rw (a.same.at STATES refl, at.states (get_or n.registers i d).output)

    now_held : (s : List ℕ) (low : Lowering) (net : ℕ) → Walked low net c₀ w₀
        → Held (lower_registers low (no_states low) (take (i + 1) (decoded s n).registers)) (i + 1) c' w' (set next i l) (set variable i v)
    unfolding lower_register with_state next_of decoded_register
    now_held s low net at =
        let g : Registers = lower_registers low (no_states low) (take i (decoded s n).registers) in
        let p = a.held s low net at in
        let m = made s low net at in
        rw (step s low)
        (record {
          graph = ap (λ (x : Built). x.aig) m;
          next_are = pushed (λ (b : StateBit). b.next) next i l g.states _ hn p.next_are (ap (λ (x : Built). x.literal) m);
          variables_are = pushed (λ (b : StateBit). b.variable) variable i v g.states _ hv p.variables_are (state-is s low net at);
        })

    -- one register more
    pub registering_more : Registering n c₀ w₀ (i + 1) c' w' (set next i l) (set variable i v)
    registering_more =
        record {
          netted = t.netted;
          same = same_trans a.same t.same;
          within = omega (arith, a.within, t.within);
          grows = omega (arith, a.grows, t.grows);
          below = λ k. set_any (λ x. x < c' * 2) next i k l 0 (omega (arith, a.below k, t.grows)) t.below;
          held = now_held;
        }
