-- Both sides stand in the words after the second was lowered, and make the problem of the two designs. Assumes nothing.
use Rattle.std.specs.Prelude.{ℕ, ◌+◌, ◌≤◌, ◌≡◌, refl, Bool, List, length}
use Rattle.std.proofs.Common.{sym, ap, ◌∙◌}
use Rattle.words.specs.Layout.{LENT, SMALL, GOLD-LHS, GOLD-RHS, GATE-LHS}
use Rattle.words.specs.Region.{region}
use Rattle.model.specs.Transition.{from_netlist}
use Rattle.model.specs.Check.{problem_of}
use Rattle.struo_ir.specs.Decoded.{decoded}
use Rattle.struo_ir.specs.Orders as Orders
use Rattle.struo_ir.specs.Designs.{Sized, Sided}
use Rattle.struo_ir.specs.declared.design.Design.{Design}
use Rattle.lowering.specs.Firsts.{firsts, Below}
use Rattle.transition.specs.Side.{Formed, Stands}
use Rattle.transition.specs.SideLaws.{formed-kept, stands-kept}
use Rattle.transition.specs.Named.{Lowerable, SystemMade, Starts, MatchesMade}
use Rattle.transition.specs.declared.system.System.{System}
use Rattle.queries.specs.Problem.{StandsFor}
use Rattle.queries.specs.declared.problem.Problem.{Problem}
use Rattle.checker.specs.Sides.{SidesMade}

-- what the lowering of a side asks
pub lowerable : (d : Design) (base : ℕ) (w : List ℕ) → LENT ≤ length w → GOLD-LHS ≤ base → base ≤ GATE-LHS → Sized d.netlist
    → Orders.Formed d.inputs → Orders.Formed d.outputs → Orders.Formed d.registers → Lowerable d base w
lowerable d base w long low high sized ins outs regs =
    record {
      long = long;
      low = low;
      high = high;
      sized = sized;
      formed_inputs = ins;
      formed_outputs = outs;
      formed_registers = regs;
    }

-- ---- counts by another name

first_of : (m n : ℕ) (xs ys : List ℕ) → m ≡ n → firsts n xs ≡ ys → firsts m xs ≡ ys
first_of m n xs ys e f = rw e f

below_of : (k m n : ℕ) (xs : List ℕ) → m ≡ n → Below k n xs → Below k m xs
below_of k m n xs e f = rw e f

matches_of : (j k m n : ℕ) (xs : List ℕ) → j ≡ k → m ≡ n → Below (k + 1) n xs → Below (j + 1) m xs
matches_of j k m n xs d e f = rw (d, e) f

-- ---- both sides

module _ (s : List ℕ) (x : Design) (u : List Bool) (t : List ℕ) (y : Design) (v : List Bool) (w w₁ w₂ : List ℕ) (left right : System) (gs ts ms ns : List ℕ)
    (a : Sided s x) (b : Sided t y) (gold : SystemMade x GOLD-LHS w left w₁) (gate : SystemMade y GATE-LHS w₁ right w₂) (starts : Starts x u gs) (begins : Starts y v ts)
    (matched : MatchesMade s x t y ms) (returned : MatchesMade t y s x ns) where
  abbrev problem : Problem
  problem = record { gold = left; gate = right; gold_start = gs; gate_start = ts; gold_matches = ms; gate_matches = ns }

  lhs-kept : region left.base w₂ ≡ region left.base w₁
  lhs-kept = ap (λ (i : ℕ). region i w₂) gold.base_is ∙ gate.same.at GOLD-LHS refl ∙ sym (ap (λ (i : ℕ). region i w₁) gold.base_is)

  rhs-kept : region (left.base + SMALL) w₂ ≡ region (left.base + SMALL) w₁
  rhs-kept = ap (λ (i : ℕ). region (i + SMALL) w₂) gold.base_is ∙ gate.same.at GOLD-RHS refl ∙ sym (ap (λ (i : ℕ). region (i + SMALL) w₁) gold.base_is)

  -- gold's side after gate's was lowered
  gold_formed : Formed left w₂
  gold_formed = formed-kept left w₁ w₂ lhs-kept rhs-kept (gold.formed s a)

  gold-stands : Stands left w₂ (from_netlist (decoded s x.netlist))
  gold-stands = stands-kept left w₁ w₂ lhs-kept rhs-kept _ (gold.stands s a)

  stands : StandsFor problem w₂ (problem_of (decoded s x.netlist) (decoded t y.netlist) u v)
  unfolding problem_of
  stands =
      record {
        standing = record { gold = gold-stands; gate = gate.stands t b };
        matched = record { is = first_of _ _ ms _ gold.state_count (matched.is a b) };
        returned = record { is = first_of _ _ ns _ gate.state_count (returned.is b a) };
        gold_start_lem = first_of _ _ gs _ gold.state_count (starts.is s a);
        gate_start_lem = first_of _ _ ts _ gate.state_count (begins.is t b);
      }

  -- the problem by value is that of the two designs
  pub sides_made : SidesMade s x u t y v problem w₂
  sides_made =
      record {
        long = gate.ready.long;
        gold_inputs = gold.input_count_lem;
        gold_outputs = gold.output_count_lem;
        gold_states = gold.state_count;
        gate_inputs = gate.input_count_lem;
        gate_outputs = gate.output_count_lem;
        gate_states = gate.state_count;
        gold_formed = gold_formed;
        gate_formed = gate.formed t b;
        gold_matches = matches_of _ _ _ _ ms gate.state_count gold.state_count matched.below;
        gate_matches = matches_of _ _ _ _ ns gold.state_count gate.state_count returned.below;
        gold_bits = below_of _ _ _ gs gold.state_count starts.below;
        gate_bits_lem = below_of _ _ _ ts gate.state_count begins.below;
        stands = stands;
      }
