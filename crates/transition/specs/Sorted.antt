-- The ports and states of a lowered design in byte order of names: read by orders they are the transition system's. Assumes nothing.
use Rattle.std.specs.Prelude.{◌≡◌, length, get_or, take}
use Rattle.std.proofs.Math.Path.{refl, ap, sym}
use Rattle.std.proofs.Common.{◌∙◌, arith, length-append, length-take, get_or-take}
use mathlib.Core.List.{List, [], ◌∷◌, ◌++◌, map, append_assoc, append-nil}
use Prim.Native.Nat.{ℕ, suc, ◌+◌, ◌*◌, ◌≤◌, ◌<◌}
use Rattle.std.proofs.lemmas.List.{length-map}
use Rattle.std.proofs.Math.ListN.{get_or-map}
use Rattle.std.proofs.Math.Seq.{get_or-append_seam}
use Rattle.words.specs.Layout.{SMALL, NETS}
use Rattle.words.specs.Region.{region}
use Rattle.model.specs.Literal.{FALSE, node}
use Rattle.model.specs.Lists.{snoc, lookup}
use Rattle.model.specs.Names.{Place}
use Rattle.model.specs.Netlist.{Register, register_places, registers_by_name}
use Rattle.model.specs.Transition.{Port, StateBit, Lowering, Registers, net_literal, with_state, lower_register, lower_registers, system_of, with_registers, from_netlist}
use Rattle.laws.specs.Pairwise.{Pairwise, pairs_append, pairs-map}
use Rattle.laws.specs.Lowering.Lists.{sort-pairs}
use Rattle.laws.specs.Lowering.Shape.{PortAt}
use Rattle.laws.specs.Lowering.Run.{outputs-at, inputs-named}
use Rattle.struo_ir.specs.Decoded.{decoded}
use Rattle.struo_ir.specs.Orders.{place_of, places}
use Rattle.struo_ir.specs.Orders as Orders
use Rattle.struo_ir.specs.declared.netlist.Netlist.{Netlist}
use Rattle.struo_ir.specs.declared.design.Order.{Order}
use Rattle.struo_ir.specs.declared.design.Design.{Design}
use Rattle.struo_ir.specs.Designs.{Sided}
use Rattle.aig.specs.Graph.{graph_at}
use Rattle.lowering.specs.Firsts.{firsts, Mapped, firsts-map}
use Rattle.transition.specs.Side.{Formed, Stands}
use Rattle.lowering.specs.System.{Lowered, walk_of, registers_lowered}
use Rattle.transition.specs.Gather.{Gathered, by_number, gathered_list, gathered_below, map-map}
use Rattle.transition.specs.Variables.{variables-listed, words-variable, in_either}
use Rattle.transition.specs.Named.{Lowerable, SystemMade}
use Rattle.transition.specs.declared.system.System.{System}

-- ---- states beside their registers' places

-- a state has its place's name
abbrev SameNamed : StateBit → Place → Type 0
SameNamed b p = b.name ≡ p.name

lowered-named : (w : Lowering) (g : Registers) (k : ℕ) (rs : List Register) (ps : List Place) → Pairwise SameNamed g.states ps
    → Pairwise SameNamed (lower_registers w g rs).states (ps ++ register_places k rs)
unfolding lower_registers register_places lower_register with_state snoc
lowered-named w g k [] ps h = rw (append-nil ps) h
lowered-named w g k (r ∷ rs) ps h =
    rw append_assoc at (lowered-named w (lower_register w.nets g r (lookup FALSE w.state_variables r.output)) (suc k) rs (ps ++ (record { name = r.name; number = k } ∷ [])) (pairs_append SameNamed g.states ps _ _ h (refl, tt)))

-- a state past the last
abbrev no_state : StateBit
no_state = record { name = []; next = 0; variable = 0 }

-- a state has its place's name and number among all
record StateAt (whole : List StateBit) (b : StateBit) (p : Place) : Type 0 where
  name : b.name ≡ p.name
  at : b ≡ get_or whole p.number no_state
  inside : p.number < length whole

numbered : (whole done xs : List StateBit) (k : ℕ) (rs : List Register) → whole ≡ done ++ xs → length done ≡ k → Pairwise SameNamed xs (register_places k rs)
    → Pairwise (StateAt whole) xs (register_places k rs)
unfolding register_places
numbered whole done [] k [] e l h = tt
numbered whole done [] k (r ∷ rs) e l h = absurd h
numbered whole done (x ∷ xs) k [] e l h = absurd h
numbered whole done (x ∷ xs) k (r ∷ rs) e l h = (
  record {
    name = h.0;
    at = sym (rw (e, ← l) (get_or-append_seam done x xs no_state));
    inside = rw e (omega (arith, length-append done (x ∷ xs)));
  },
  numbered whole (done ++ (x ∷ [])) xs (suc k) rs (e ∙ sym (append_assoc done (x ∷ []) xs)) (omega (arith, length-append done (x ∷ []))) h.1,
)

module _ (s : List ℕ) (n : Netlist) where
  -- the states in byte order of names beside the registers by name
  states-at : Pairwise (StateAt (registers_lowered s n).states) (from_netlist (decoded s n)).states (registers_by_name (decoded s n))
  unfolding from_netlist with_registers system_of registers_by_name
  states-at =
      let whole = (registers_lowered s n).states in
      let rs = (decoded s n).registers in
      sort-pairs (λ (b : StateBit). b.name) (StateAt whole) (λ b p r. r.name) whole (register_places 0 rs) (numbered whole [] whole 0 rs refl refl (lowered-named _ _ 0 rs [] tt))

  -- what f says of the states, read from an array in record order
  states-read : (f : StateBit → ℕ) (xs : List ℕ) → f no_state ≡ 0 → take n.register_count xs ≡ map f (registers_lowered s n).states
      → map f (from_netlist (decoded s n)).states ≡ map (λ (p : Place). net_literal xs p.number) (registers_by_name (decoded s n))
  unfolding net_literal
  states-read f xs z e = pairs-map (StateAt whole) f _ one (from_netlist (decoded s n)).states (registers_by_name (decoded s n)) states-at
    where
      whole : List StateBit
      whole = (registers_lowered s n).states

      one : (b : StateBit) (p : Place) → StateAt whole b p → f b ≡ get_or xs p.number 0
      one b p r =
          let l : length (take n.register_count xs) ≡ length whole = ap length e ∙ length-map whole f in
          let m : length (take n.register_count xs) ≤ n.register_count = simp length-take (omega arith) in
          ap f r.at ∙ sym (get_or-map f whole p.number no_state) ∙ rw z
          (ap (λ (ys : List ℕ). get_or ys p.number 0) (sym e) ∙ get_or-take n.register_count xs p.number 0 (omega (arith, r.inside)))

-- ---- the side

module _ (d : Design) (base : ℕ) (w₀ w : List ℕ) (count : ℕ) (next variable literals : List ℕ) (y : System)
    (ask : Lowerable d base w₀) (low : Lowered d.netlist base w₀ count next variable w)
    (base_is : y.base ≡ base) (count-is : y.count ≡ count) (input_count_lem : y.input_count ≡ d.inputs.count) (output_count_lem : y.output_count ≡ d.outputs.count) (state_count : y.state_count ≡ d.registers.count)
    (read-inputs : Gathered (by_number (net_literal (region NETS w))) d.inputs.entries d.inputs.count literals) (nodes : Mapped node d.inputs.count literals y.inputs)
    (read-outputs : Gathered (by_number (net_literal (region NETS w))) d.outputs.entries d.outputs.count y.outputs)
    (read_next : Gathered (by_number (net_literal next)) d.registers.entries d.registers.count y.next) (read-variables : Gathered (by_number (net_literal variable)) d.registers.entries d.registers.count y.variables) where
  module _ (s : List ℕ) (o : Sided s d) where
    -- the literals of ports beside their places
    ports_are : (order : Order) (ps : List Port) (qs : List Place) (xs : List ℕ) → Orders.Formed order → places s order ≡ qs
        → Gathered (by_number (net_literal (region NETS w))) order.entries order.count xs → Pairwise (PortAt (decoded s d.netlist).registers (walk_of s d.netlist).nets) ps qs
        → firsts order.count xs ≡ map (λ (p : Port). p.literal) ps
    unfolding place_of
    ports_are order ps qs xs f e g h =
        let F : Place → ℕ = λ p. net_literal (region NETS w) p.number in
        gathered_list F s order xs f g ∙ ap (map F) e
        ∙ sym (pairs-map (PortAt (decoded s d.netlist).registers (walk_of s d.netlist).nets) (λ (p : Port). p.literal) F (λ p q r. r.literal ∙ sym ((low.nets s).at q.number)) ps qs h)

    states_are : (f : StateBit → ℕ) (xs ys : List ℕ) → f no_state ≡ 0 → take d.netlist.register_count xs ≡ map f (registers_lowered s d.netlist).states
        → Gathered (by_number (net_literal xs)) d.registers.entries d.registers.count ys → firsts d.registers.count ys ≡ map f (from_netlist (decoded s d.netlist)).states
    unfolding place_of
    states_are f xs ys z e g =
        let F : Place → ℕ = λ p. net_literal xs p.number in
        gathered_list F s d.registers ys ask.formed_registers g ∙ ap (map F) o.ordered.registers_are ∙ sym (states-read s d.netlist f xs z e)

    stands : Stands y w (from_netlist (decoded s d.netlist))
    stands =
        record {
          aig = rw (base_is, count-is) (low.graph s);
          inputs = rw input_count_lem
              (firsts-map node d.inputs.count literals y.inputs nodes
              ∙ ap (map node) (ports_are d.inputs (from_netlist (decoded s d.netlist)).inputs _ literals ask.formed_inputs o.ordered.inputs_are read-inputs (inputs-named (decoded s d.netlist) o.valid.valid))
              ∙ map-map node (λ (p : Port). p.literal) (from_netlist (decoded s d.netlist)).inputs);
          outputs = rw output_count_lem (ports_are d.outputs (from_netlist (decoded s d.netlist)).outputs _ y.outputs ask.formed_outputs o.ordered.outputs_are read-outputs (outputs-at (decoded s d.netlist) o.valid.valid));
          next = rw state_count (states_are (λ (b : StateBit). b.next) next y.next refl (low.next_are s) read_next);
          variables = rw state_count (states_are (λ (b : StateBit). b.variable) variable y.variables refl (low.variables_are s) read-variables);
        }

    formed : Formed y w
    unfolding net_literal graph_at
    formed =
        record {
          low = rw base_is ask.low;
          high = rw base_is ask.high;
          some = rw count-is low.ready.positive;
          small = omega (arith, low.small, count-is);
          ordered = rw (base_is, count-is) low.ordered;
          input_count_lem = omega (arith, input_count_lem, ask.formed_inputs.fits);
          output_count_lem = omega (arith, output_count_lem, ask.formed_outputs.fits);
          state_count = omega (arith, state_count, ask.formed_registers.fits);
          outputs = rw (count-is, output_count_lem) (gathered_below _ _ (count * 2) d.outputs.count y.outputs (λ e. low.nets_below e.number) read-outputs);
          next = rw (count-is, state_count) (gathered_below _ _ (count * 2) d.registers.count y.next (λ e. low.next_below e.number) read_next);
          covered = λ j p h e. rw (stands.inputs, stands.variables)
              (in_either j (map (λ (p : Port). node p.literal) (from_netlist (decoded s d.netlist)).inputs) (map (λ (b : StateBit). b.variable) (from_netlist (decoded s d.netlist)).states) (variables-listed (decoded s d.netlist) o.valid.valid j
              (rw (← (low.graph s)) (words-variable count (region base w) (region (base + SMALL) w) j p (rw count-is at h) (rw base_is at e)))));
        }

  -- the side is the transition system of the netlist
  pub system-made : SystemMade d base w₀ y w
  system-made =
      record {
        base_is = base_is;
        input_count_lem = input_count_lem;
        output_count_lem = output_count_lem;
        state_count = state_count;
        ready = rw count-is low.ready;
        small = rw count-is low.small;
        same = low.same;
        formed = formed;
        stands = stands;
      }
