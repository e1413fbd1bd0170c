-- The table of drivers, filled from the last register down to the first. Assumes nothing.
use Prim.Native.Nat.{ℕ, suc, ◌+◌, ◌≤◌, ◌<◌}
use Rattle.std.specs.Prelude.{◌≡◌, Bool, List, length, drop, set, replicate}
use Rattle.std.proofs.Math.Path.{refl, sym, ap}
use Rattle.std.proofs.Common.{◌∙◌, arith, get_or-set_other}
use Rattle.std.proofs.Math.Bool.{true, false, cond}
use Rattle.std.proofs.Math.Option.{Option, some}
use Rattle.std.proofs.Math.Numerals.{add-one}
use Rattle.std.proofs.Math.ListN.{get_or, length-set}
use Rattle.std.proofs.lemmas.List.{length-replicate}
use Rattle.std.proofs.Math.Seq.{get_or-set_same}
use Rattle.std.proofs.Math.Dec.{eqb}
use borrow.Author.Tests.{ne_eqb, eqb-true, eqb-false}
use Rattle.facts.specs.Lists.{get_or-replicate, set_any}
use Rattle.model.specs.Validate.{Driver, driver_from, driver}
use Rattle.struo_ir.specs.declared.netlist.RegisterCell.{RegisterCell}
use Rattle.struo_ir.specs.declared.netlist.Netlist.{Netlist}
use Rattle.struo_ir.specs.Decoded.{decoded_register, decoded}
use Rattle.struo_ir.specs.Designs.{Sized}
use Rattle.struo_ir.specs.Registers.{no_register}
use Rattle.struo_ir.specs.ListLaws.{drop-map-take}
use Rattle.drivers.specs.Drivers.{driver_by, Drivers}
use Rattle.struo_ir.specs.WalkLaws.{no-registers}

-- the table after the registers from k on
pub record DriversSoFar (netlist : Netlist) (table : List ℕ) (k : ℕ) : Type 0 where
  pub bound : k ≤ netlist.register_count
  pub size : length table ≡ 1024
  pub small : (net : ℕ) → get_or table net 0 ≤ 128
  pub below : (net : ℕ) → get_or table net 0 ≤ netlist.register_count
  pub drives : (s : List ℕ) (net : ℕ) → net < 1024 → driver_by s netlist.registers (get_or table net 0) ≡ driver_from k net (drop k (decoded s netlist).registers)

-- an empty table
pub no_drivers : (netlist : Netlist) → DriversSoFar netlist (replicate 1024 0) netlist.register_count
unfolding driver_by driver_from
no_drivers netlist =
    record {
      bound = omega arith;
      size = length-replicate {A = ℕ} 1024 0;
      small = λ net. omega (arith, get_or-replicate {A = ℕ} 1024 net 0);
      below = λ net. omega (arith, get_or-replicate {A = ℕ} 1024 net 0);
      drives = λ s net l. rw (get_or-replicate {A = ℕ} 1024 net 0, no-registers s netlist netlist.register_count (omega arith));
    }

-- a register as a driver
named : List ℕ → RegisterCell → ℕ → Option Driver
named s cell j = some (record { number = j; register = decoded_register s cell })

module _ (netlist : Netlist) (size : length netlist.registers ≡ 128) (fits : Sized netlist) (table : List ℕ) (k j : ℕ) (e : k ≡ suc j) (so : DriversSoFar netlist table k) where
  -- the register in hand
  cell : RegisterCell
  cell = get_or netlist.registers j no_register

  -- it is the first of the rest
  opened : (s : List ℕ) (net : ℕ) → driver_from j net (drop j (decoded s netlist).registers) ≡ cond (eqb cell.output net) (named s cell j) (driver_from k net (drop k (decoded s netlist).registers))
  unfolding cell named driver_from decoded decoded_register
  opened s net =
      let f : j + 1 ≡ k = add-one j ∙ sym e in
      rw (drop-map-take (decoded_register s) netlist.registers netlist.register_count j no_register (omega (arith, so.bound)) (omega (arith, size, fits.registers)), f, e)

  -- another register than the one in hand
  other : (s : List ℕ) (net : ℕ) → eqb cell.output net ≡ false → driver_from k net (drop k (decoded s netlist).registers) ≡ driver_from j net (drop j (decoded s netlist).registers)
  other s net f = sym (opened s net ∙ ap (λ (b : Bool). cond b (named s cell j) (driver_from k net (drop k (decoded s netlist).registers))) f)

  stored_at : (s : List ℕ) (net : ℕ) → net < 1024 → driver_by s netlist.registers (get_or (set table cell.output k) net 0) ≡ driver_from j net (drop j (decoded s netlist).registers)
  unfolding driver_by cell named
  stored_at s net l = by (eqb cell.output net) refl
    where
      by : (b : Bool) → eqb cell.output net ≡ b → driver_by s netlist.registers (get_or (set table cell.output k) net 0) ≡ driver_from j net (drop j (decoded s netlist).registers)
      by true f =
          let o : cell.output ≡ net = eqb-true _ _ f in
          let g : get_or (set table cell.output k) net 0 ≡ suc j = ap (λ (i : ℕ). get_or (set table i k) net 0) o ∙ get_or-set_same table net k 0 (omega (arith, so.size)) ∙ e in
          ap (driver_by s netlist.registers) g ∙ sym (opened s net ∙ ap (λ (b : Bool). cond b (named s cell j) (driver_from k net (drop k (decoded s netlist).registers))) f)
      by false f =
          ap (driver_by s netlist.registers) (get_or-set_other table cell.output net k 0 (λ g. eqb-false _ _ f (sym g))) ∙ so.drives s net l ∙ other s net f

  -- its number is stored at its output
  pub driver-stored : DriversSoFar netlist (set table (get_or netlist.registers j no_register).output k) j
  unfolding cell
  driver-stored =
      record {
        bound = omega (arith, so.bound);
        size = length-set table cell.output k ∙ so.size;
        small = λ net. set_any (λ (i : ℕ). i ≤ 128) table cell.output net k 0 (so.small net) (omega (arith, so.bound, fits.registers));
        below = λ net. set_any (λ (i : ℕ). i ≤ netlist.register_count) table cell.output net k 0 (so.below net) so.bound;
        drives = stored_at;
      }

  -- its output is no net
  pub driver-skipped : 1024 ≤ (get_or netlist.registers j no_register).output → DriversSoFar netlist table j
  unfolding cell
  driver-skipped h =
      record {
        bound = omega (arith, so.bound);
        size = so.size;
        small = so.small;
        below = so.below;
        drives = λ s net l. so.drives s net l ∙ other s net (ne_eqb cell.output net (λ (g : cell.output ≡ net). omega (arith, h, l, g)));
      }

-- no register is left
pub all_drivers : (netlist : Netlist) (table : List ℕ) (k : ℕ) → DriversSoFar netlist table k → k ≡ 0 → Drivers netlist table
unfolding driver
all_drivers netlist table k so e =
    record { size = so.size; small = so.small; below = so.below; drives = λ s net l. so.drives s net l ∙ ap (λ (i : ℕ). driver_from i net (drop i (decoded s netlist).registers)) e }
