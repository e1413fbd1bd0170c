-- The registers of a decoded netlist and the places of an order, from a number on: the first one, then those behind it. Assumes nothing.
use Rattle.std.specs.Prelude.{ℕ, suc, ◌<◌, ◌≤◌, ◌≡◌, List, ◌∷◌, length, drop, get_or}
use Rattle.std.proofs.Common.{arith}
use Rattle.struo_ir.specs.Decoded.{decoded_register, decoded}
use Rattle.struo_ir.specs.Orders.{no_entry, place_of, held, places, Formed}
use Rattle.struo_ir.specs.Registers.{no_register}
use Rattle.struo_ir.specs.declared.netlist.Netlist.{Netlist}
use Rattle.struo_ir.specs.declared.design.Order.{Order}
use Rattle.struo_ir.specs.ListLaws.{drop-map_cons}

-- the register of a number, in front of those behind it
pub decoded-register : (s : List ℕ) (n : Netlist) (k : ℕ) → k < n.register_count → n.register_count ≤ length n.registers
    → drop k (decoded s n).registers ≡ decoded_register s (get_or n.registers k no_register) ∷ drop (suc k) (decoded s n).registers
unfolding decoded
decoded-register s n k h l = drop-map_cons (decoded_register s) n.registers n.register_count k no_register h l

-- the place at a rank of an order
pub place_at : (s : List ℕ) (o : Order) (k : ℕ) → k < o.count → Formed o → drop k (places s o) ≡ place_of s (get_or o.entries k no_entry) ∷ drop (suc k) (places s o)
unfolding places held
place_at s o k h f = drop-map_cons (place_of s) o.entries o.count k no_entry h (omega (arith, f.fits, f.long))
