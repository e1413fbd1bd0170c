-- The transition system of a decoded design, in a side's regions: the walk's start, the copy of the finished graph, and the whole. Assumes nothing.
use Rattle.std.specs.Prelude.{◌≡◌, refl, Bool, true, false, ◌&&◌, List, ℕ, ◌+◌, ◌*◌, ◌≤◌, ◌<◌, eqb, ltb, length, get_or, take, set}
use Rattle.std.proofs.Common.{ap, ◌∙◌, arith, get_or-set_other, get_or-set_same, eqb-true, ltb-true, ltb-false}
use Rattle.std.proofs.Math.ListN.{get_or-eq_default}
use Rattle.std.proofs.lemmas.Bool.{eqb-false}
use Rattle.facts.specs.Bools.{and_both}
use Rattle.words.specs.Layout.{LENT, SMALL, TABLE, MOST-NODES, GRAPH-LHS, GRAPH-RHS, GOLD-LHS, GATE-LHS, NETS, STATES}
use Rattle.words.specs.Fill.{filled, get_or-filled, length-filled}
use Rattle.words.specs.Region.{region, apart, size_of, stored, cleared, stores, stored_in, stored_out, length-region}
use Rattle.model.specs.Lists.{lookup}
use Rattle.model.specs.Aig.{new}
use Rattle.model.specs.Transition.{Lowering, Registers, net_literal, lower_nodes, lower_registers, no_nodes, from_netlist}
use Rattle.struo_ir.specs.Decoded.{decoded}
use Rattle.struo_ir.specs.declared.netlist.Netlist.{Netlist}
use Rattle.aig.specs.Graph.{graph_at, graph_of, Ordered}
use Rattle.aig.specs.Made.{Ready, Same, outside, same_refl, same_trans}
use Rattle.aig.specs.Side.{side-size, side-above, side_after, side_under}
use Rattle.lowering.specs.Gate.{Netted, Alike}
use Rattle.lowering.specs.Walk.{Walked, elsewhere}
use Rattle.lowering.specs.Step.{elsewhere_parts}
use Rattle.lowering.specs.Registers.{no_states, nexts, variables}

-- ---- the start

-- the words of the nets and the state variables cleared
abbrev pub wiped : List ℕ → List ℕ
wiped w = cleared STATES (cleared NETS w TABLE) TABLE

-- the walk may begin: node 0 alone, every net FALSE, no state variable
pub record Started (w₀ w : List ℕ) : Type 0 where
  pub netted : Netted 1 w
  pub walked : Walked no_nodes 0 1 w
  pub same : Same elsewhere w₀ w

zeroes : (xs : List ℕ) (a : ℕ) → length xs ≡ TABLE → get_or (filled 0 TABLE xs) a 0 ≡ 0
zeroes xs a e = go (ltb a TABLE) refl
  where
    go : (t : Bool) → ltb a TABLE ≡ t → get_or (filled 0 TABLE xs) a 0 ≡ 0
    go true f = get_or-filled 0 TABLE xs a (ltb-true a TABLE f)
    go false f = get_or-eq_default (filled 0 TABLE xs) 0 (rw length-filled (omega (arith, ltb-false a TABLE f)))

pub started : (w₀ w : List ℕ) → LENT ≤ length w₀ → graph_of 1 w ≡ new → Ready 1 w → Same outside (wiped w₀) w → Started w₀ w
unfolding net_literal lookup no_nodes
started w₀ w long g r s =
    let nets : (a : ℕ) → get_or (region NETS w) a 0 ≡ 0 =
    λ a. rw (s.at NETS refl) (simp stores (zeroes (region NETS w₀) a (length-region NETS w₀ (omega arith)))) in
    let states : (k : ℕ) → get_or (region STATES w) k 0 ≡ 0 =
    λ k. rw (s.at STATES refl) (simp stores (zeroes (region STATES w₀) k (length-region STATES w₀ (omega arith)))) in
    record {
      netted = record { ready = r; nets = λ a. rw (nets a) (omega arith); states = λ k. rw (states k) (omega arith) };
      walked = record { graph = g; nets = record { at = nets }; count = refl; states = states; fresh = λ k h z. refl };
      same = record { at = λ b e. let q = elsewhere_parts b e in s.at b q.0 ∙ simp (stores, q.1, q.2) };
    }

-- ---- the copy

-- the region at b is none of the side's two
abbrev pub off_side : ℕ → ℕ → Bool
off_side base b = apart b base && apart b (base + SMALL)

-- the words after node i of the proof graph was copied to the side at `base`
abbrev pub copied : ℕ → List ℕ → ℕ → List ℕ
copied base w i = stored (base + SMALL) (stored base w i (get_or (region GRAPH-LHS w) i 0)) i (get_or (region GRAPH-RHS w) i 0)

-- the first i nodes of the proof graph of w₀ were copied
pub record Copying (base : ℕ) (w₀ : List ℕ) (i : ℕ) (w : List ℕ) : Type 0 where
  pub same : Same (off_side base) w₀ w
  pub lhs : (j : ℕ) → j < i → get_or (region base w) j 0 ≡ get_or (region GRAPH-LHS w₀) j 0
  pub rhs : (j : ℕ) → j < i → get_or (region (base + SMALL) w) j 0 ≡ get_or (region GRAPH-RHS w₀) j 0

module _ (base : ℕ) (lo : GOLD-LHS ≤ base) (hi : base ≤ GATE-LHS) (w₀ : List ℕ) where
  -- a region that is off the side
  off : (b : ℕ) → apart b base ≡ true → apart b (base + SMALL) ≡ true → off_side base b ≡ true
  off b p q = rw (p, q)

  pub off_small : (x : ℕ) → x + SMALL ≤ GOLD-LHS → off_side base x ≡ true
  off_small x h = off x (side_after base lo (omega arith) x (omega arith) (omega arith)) (side_after (base + SMALL) (omega arith) (omega arith) x (omega arith) (omega arith))

  pub copying_none : Copying base w₀ 0 w₀
  copying_none = record { same = same_refl (off_side base) w₀; lhs = λ j h. absurd (omega arith); rhs = λ j h. absurd (omega arith) }

  module _ (i : ℕ) (w : List ℕ) (small : i < MOST-NODES) (long : LENT ≤ length w) (a : Copying base w₀ i w) where
    copied-lhs : region base (copied base w i) ≡ set (region base w) i (get_or (region GRAPH-LHS w) i 0)
    copied-lhs = stored_out base _ (base + SMALL) i _ (side_under base lo (omega arith) (base + SMALL) (omega arith)) ∙ stored_in base w i _

    copied-rhs : region (base + SMALL) (copied base w i) ≡ set (region (base + SMALL) w) i (get_or (region GRAPH-RHS w) i 0)
    copied-rhs =
        stored_in (base + SMALL) _ i _
        ∙ ap (λ (xs : List ℕ). set xs i (get_or (region GRAPH-RHS w) i 0)) (stored_out (base + SMALL) w base i _ (side-above (base + SMALL) (omega arith) (omega arith) base (omega arith) (omega arith)))

    -- one node more
    pub copying_more : Copying base w₀ (i + 1) (copied base w i)
    copying_more = record { same = same_trans a.same kept; lhs = λ j h. lhs' j h (eqb j i) refl; rhs = λ j h. rhs' j h (eqb j i) refl }
      where
        kept : Same (off_side base) w (copied base w i)
        kept = record {
          at = λ b e. let q = and_both (apart b base) (apart b (base + SMALL)) e in stored_out b _ (base + SMALL) i _ q.1 ∙ stored_out b w base i _ q.0;
        }

        lhs' : (j : ℕ) → j < i + 1 → (t : Bool) → eqb j i ≡ t → get_or (region base (copied base w i)) j 0 ≡ get_or (region GRAPH-LHS w₀) j 0
        lhs' j h true e =
            rw (copied-lhs, eqb-true j i e)
            (get_or-set_same (region base w) i _ 0 (omega (arith, length-region base w (rw (side-size base lo (omega arith)) (omega arith)), side-size base lo (omega arith)))
            ∙ ap (λ (xs : List ℕ). get_or xs i 0) (a.same.at GRAPH-LHS (off_small GRAPH-LHS (omega arith))))
        lhs' j h false e =
            rw copied-lhs (get_or-set_other (region base w) i j _ 0 (eqb-false j i e) ∙ a.lhs j (omega (arith, eqb-false j i e)))

        rhs' : (j : ℕ) → j < i + 1 → (t : Bool) → eqb j i ≡ t → get_or (region (base + SMALL) (copied base w i)) j 0 ≡ get_or (region GRAPH-RHS w₀) j 0
        rhs' j h true e =
            let z : size_of (base + SMALL) ≡ SMALL = side-size (base + SMALL) (omega arith) (omega arith) in
            rw (copied-rhs, eqb-true j i e)
            (get_or-set_same (region (base + SMALL) w) i _ 0 (omega (arith, length-region (base + SMALL) w (rw z (omega arith)), z))
            ∙ ap (λ (xs : List ℕ). get_or xs i 0) (a.same.at GRAPH-RHS (off_small GRAPH-RHS (omega arith))))
        rhs' j h false e =
            rw copied-rhs (get_or-set_other (region (base + SMALL) w) i j _ 0 (eqb-false j i e) ∙ a.rhs j (omega (arith, eqb-false j i e)))

-- ---- the whole

-- the walk over the nodes of a decoded design
abbrev pub walk_of : List ℕ → Netlist → Lowering
walk_of s n = lower_nodes (decoded s n).registers no_nodes 0 (decoded s n).nodes

-- its registers, after the walk
abbrev pub registers_lowered : List ℕ → Netlist → Registers
registers_lowered s n = lower_registers (walk_of s n) (no_states (walk_of s n)) (decoded s n).registers

-- The transition system of netlist n lies at `base`; s is any record that its names are places in.
pub record Lowered (n : Netlist) (base : ℕ) (w₀ : List ℕ) (count : ℕ) (next variable : List ℕ) (w : List ℕ) : Type 0 where
  pub ready : Ready count w
  pub small : count ≤ 4865
  pub same : Same (λ b. elsewhere b && off_side base b) w₀ w
  pub ordered : Ordered count (region base w) (region (base + SMALL) w)
  pub graph : (s : List ℕ) → graph_at base count w ≡ (from_netlist (decoded s n)).aig
  pub nets : (s : List ℕ) → Alike (region NETS w) (walk_of s n).nets
  pub nets_below : (a : ℕ) → net_literal (region NETS w) a < count * 2
  pub next_are : (s : List ℕ) → take n.register_count next ≡ nexts (registers_lowered s n).states
  pub next_below : (k : ℕ) → get_or next k 0 < count * 2
  pub variables_are : (s : List ℕ) → take n.register_count variable ≡ variables (registers_lowered s n).states
