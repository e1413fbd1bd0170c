-- The transition graph of a record, by its size. Assumes nothing.
use Rattle.std.specs.Prelude.{◌≡◌, cond, List, ℕ, ◌+◌, ◌≤◌, ◌<◌, length, leb}
use Rattle.std.proofs.Math.Path.{ap, sym}
use Rattle.std.proofs.Common.{◌∙◌, arith, le-leb}
use Rattle.std.proofs.lemmas.Bool.{lt-leb}
use Rattle.words.specs.Layout.{LENT, SMALL, MOST-NODES, GOLD-LHS}
use Rattle.words.specs.Region.{region}
use Rattle.model.specs.Aig.{Aig}
use Rattle.model.specs.Answers.{Refusal}
use Rattle.model.specs.Record.{Read, parsed, refused_record}
use Rattle.model.specs.Transition.{from_netlist}
use Rattle.struo_ir.specs.Decoded.{decoded}
use Rattle.struo_ir.specs.declared.netlist.Netlist.{Netlist}
use Rattle.aig.specs.Graph.{graph_at, length-nodes}
use Rattle.lowering.specs.System.{Lowered}

-- how many nodes the transition graph of a reading has; a refused one has none
abbrev pub nodes_read : Read → ℕ
nodes_read (parsed d) = length (from_netlist d).aig
nodes_read (refused_record r) = 0

-- and there is none where the words are too few
unfoldable pub size_read : ℕ → Read → ℕ
size_read words r = cond (leb LENT words) (nodes_read r) 0

-- the transition graph of a netlist lies at gold's side, and the next graph can be built after it
pub record Built (n : Netlist) (count : ℕ) (w : List ℕ) : Type 0 where
  pub long : LENT ≤ length w
  pub small : count ≤ MOST-NODES
  pub graph : (s : List ℕ) → graph_at GOLD-LHS count w ≡ (from_netlist (decoded s n)).aig

pub built : (n : Netlist) (w₀ : List ℕ) (count : ℕ) (next variable w : List ℕ) → Lowered n GOLD-LHS w₀ count next variable w → Built n count w
built n w₀ count next variable w l =
    record { long = l.ready.long; small = omega (arith, l.small); graph = l.graph }

length_at : (base n : ℕ) (w : List ℕ) → length (graph_at base n w) ≡ n
unfolding graph_at
length_at base n w = length-nodes n (region base w) (region (base + SMALL) w)

-- its size
size-built : (n : Netlist) (count : ℕ) (w s : List ℕ) → Built n count w → count ≡ length (from_netlist (decoded s n)).aig
size-built n count w s b = sym (length_at GOLD-LHS count w) ∙ ap (λ (g : Aig). length g) (b.graph s)

module _ (words : ℕ) (r : Read) where
  -- too few words
  pub read_short : words < LENT → 0 ≡ size_read words r
  unfolding size_read
  read_short h = rw (lt-leb LENT words h)

  long_enough : LENT ≤ words → nodes_read r ≡ size_read words r
  unfolding size_read
  long_enough h = rw (le-leb LENT words h)

  module _ (h : LENT ≤ words) where
    -- a refused record
    pub read-refused : (x : Refusal) → r ≡ refused_record x → 0 ≡ size_read words r
    read-refused x e = sym (ap nodes_read e) ∙ long_enough h

    -- an accepted one
    pub read-accepted : (s : List ℕ) (n : Netlist) → r ≡ parsed (decoded s n) → (count : ℕ) (w : List ℕ) → Built n count w → count ≡ size_read words r
    read-accepted s n e count w b = size-built n count w s b ∙ sym (ap nodes_read e) ∙ long_enough h
