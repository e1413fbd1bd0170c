-- The walk, the registers and the copy make what `Lowered` says. Assumes nothing.
use Rattle.std.specs.Prelude.{◌≡◌, refl, true, List, ℕ, ◌+◌, ◌≤◌, length}
use Rattle.std.proofs.Common.{◌∙◌, arith, take_all}
use Rattle.std.proofs.Math.ListN.{length-take, length-map}
use Rattle.facts.specs.Bools.{and_both}
use Rattle.words.specs.Layout.{LENT, SMALL, GRAPH-LHS, GRAPH-RHS, AND-NEXT, GOLD-LHS, GATE-LHS, IMPORTED, NETS, AND-HEADS}
use Rattle.words.specs.Region.{region}
use Rattle.model.specs.Transition.{system_of, with_registers, from_netlist}
use Rattle.struo_ir.specs.Decoded.{decoded}
use Rattle.struo_ir.specs.Designs.{Sized}
use Rattle.struo_ir.specs.declared.netlist.Netlist.{Netlist}
use Rattle.aig.specs.Graph.{graph_at, nodes-agree, ordered-agree}
use Rattle.aig.specs.Made.{Ready}
use Rattle.aig.specs.Side.{side_before}
use Rattle.lowering.specs.Walk.{Walked, elsewhere}
use Rattle.lowering.specs.Step.{same-elsewhere}
use Rattle.lowering.specs.Nodes.{Walking}
use Rattle.lowering.specs.Registers.{Held, Registering}
use Rattle.lowering.specs.System.{Copying, Lowered, Started, off_side, off_small, registers_lowered, walk_of}

off_far : (base : ℕ) → GOLD-LHS ≤ base → base ≤ GATE-LHS → (x : ℕ) → IMPORTED ≤ x → off_side base x ≡ true
off_far base lo hi x h = rw (side_before base lo (omega arith) x (omega arith), side_before (base + SMALL) (omega arith) (omega arith) x (omega arith))

module _ (n : Netlist) (base : ℕ) (lo : GOLD-LHS ≤ base) (hi : base ≤ GATE-LHS) (w₀ w₁ w₂ w₃ w₄ : List ℕ) (c₁ c₂ : ℕ) (next variable : List ℕ)
    (sized : Sized n)
    (start : Started w₀ w₁) (walk : Walking n 1 w₁ n.node_count c₁ w₂)
    (regs : Registering n c₁ w₂ n.register_count c₂ w₃ next variable) (copy : Copying base w₃ c₂ w₄) (long : LENT ≤ length w₄) where
  walked : (s : List ℕ) → Walked (walk_of s n) n.node_count c₁ w₂
  unfolding decoded
  walked s =
      rw (take_all n.node_count (decoded s n).nodes (rw length-map (simp length-take (omega arith)))) at (walk.walked s start.walked)

  held : (s : List ℕ) → Held (registers_lowered s n) n.register_count c₂ w₃ next variable
  unfolding decoded
  held s =
      rw (take_all n.register_count (decoded s n).registers (rw length-map (simp length-take (omega arith)))) at (regs.held s (walk_of s n) n.node_count (walked s))

  ready_copy : Ready c₂ w₄
  ready_copy =
      let at : (b : ℕ) → off_side base b ≡ true → region b w₄ ≡ region b w₃ = copy.same.at in
      record {
        positive = regs.netted.ready.positive;
        long = long;
        indexed = rw (at GRAPH-LHS (off_small base lo hi w₃ GRAPH-LHS (omega arith)), at GRAPH-RHS (off_small base lo hi w₃ GRAPH-RHS (omega arith)), at AND-NEXT (off_small base lo hi w₃ AND-NEXT (omega arith)), at AND-HEADS (off_far base lo hi AND-HEADS (omega arith)))
            regs.netted.ready.indexed;
      }

  nets_copy : region NETS w₄ ≡ region NETS w₃
  nets_copy = copy.same.at NETS (off_far base lo hi NETS (omega arith))

  -- the system is the model's
  pub lowered : Lowered n base w₀ c₂ next variable w₄
  unfolding from_netlist with_registers system_of graph_at
  lowered =
      record {
        ready = ready_copy;
        small = omega (arith, walk.within, regs.within, sized.nodes, sized.registers);
        same = record {
          at = λ b e.
              let p = and_both (elsewhere b) (off_side base b) e in
              copy.same.at b p.1 ∙ (same-elsewhere regs.same).at b p.0 ∙ walk.same.at b p.0 ∙ start.same.at b p.0;
        };
        ordered = ordered-agree c₂ _ _ (region GRAPH-LHS w₃) (region GRAPH-RHS w₃) copy.lhs copy.rhs regs.netted.ready.indexed.ordered;
        graph = λ s. nodes-agree c₂ _ _ (region GRAPH-LHS w₃) (region GRAPH-RHS w₃) copy.lhs copy.rhs ∙ (held s).graph;
        nets = λ s. rw (nets_copy, regs.same.at NETS refl) (walked s).nets;
        nets_below = rw nets_copy regs.netted.nets;
        next_are = λ s. (held s).next_are;
        next_below = regs.below;
        variables_are = λ s. (held s).variables_are;
      }
