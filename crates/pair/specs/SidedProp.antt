-- That a design is that of its record has one proof at most, so that a type can keep it. Assumes nothing.
use Rattle.std.specs.Prelude.{ℕ, List}
use Rattle.std.proofs.Props.{props}
use Rattle.struo_ir.specs.Designs.{Sided}
use Rattle.struo_ir.specs.declared.design.Design.{Design}

pub Sided-prop : (s : List ℕ) (d : Design) → IsProp (Sided s d)
Sided-prop s d = hlevel props
