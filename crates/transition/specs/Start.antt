-- The literals that the states start with: those of a row of stored bits, read in byte order of the registers' names. Assumes nothing.
use Rattle.std.specs.Prelude.{◌≡◌, Bool, List, map}
use Rattle.std.proofs.Math.Path.{ap, sym}
use Rattle.std.proofs.Common.{◌∙◌, arith}
use Prim.Native.Nat.{ℕ}
use Rattle.model.specs.Literal.{constant_literal}
use Rattle.model.specs.Names.{Place}
use Rattle.model.specs.Netlist.{registers_by_name}
use Rattle.model.specs.Run.{bit_at, by_name}
use Rattle.struo_ir.specs.Decoded.{decoded}
use Rattle.struo_ir.specs.Designs.{Sided}
use Rattle.struo_ir.specs.Orders.{place_of}
use Rattle.struo_ir.specs.Orders as Orders
use Rattle.struo_ir.specs.declared.design.Design.{Design}
use Rattle.struo_ir.specs.declared.design.Entry.{Entry}
use Rattle.lowering.specs.Firsts.{firsts}
use Rattle.lowering.specs.Gate.{constant-below}
use Rattle.transition.specs.Gather.{Gathered, gathered_list, gathered_below, map-map}
use Rattle.transition.specs.Named.{Starts}

-- the literal of an entry's bit
abbrev pub start_of : List Bool → Entry → ℕ
start_of row e = constant_literal (bit_at row e.number)

module _ (d : Design) (row : List Bool) (xs : List ℕ) (f : Orders.Formed d.registers) (read : Gathered (start_of row) d.registers.entries d.registers.count xs) where
  starts_are : (s : List ℕ) → Sided s d → firsts d.registers.count xs ≡ map constant_literal (by_name (decoded s d.netlist) row)
  unfolding place_of by_name
  starts_are s v =
      let F : Place → ℕ = λ q. constant_literal (bit_at row q.number) in
      gathered_list F s d.registers xs f read ∙ ap (map F) v.ordered.registers_are
      ∙ sym (map-map constant_literal (λ (q : Place). bit_at row q.number) (registers_by_name (decoded s d.netlist)))

  -- the literals of all entries
  pub starts_made : Starts d row xs
  starts_made = record { below = gathered_below _ _ 2 d.registers.count xs (λ e. constant-below _ 1 (omega arith)) read; is = starts_are }
