-- `drivers` meets its contract: the table is right for the registers from k on, so at 0 for all. Assumes nothing.
use Rattle.std.proofs.Common.{◌≡◌, ◌+◌, ◌-◌, length, arith}
use Rattle.drivers.specs.DriverLaws.{no_drivers, driver-stored, driver-skipped, all_drivers}
use Rattle.drivers.proofs.drivers.Goals as goal
use Rattle.drivers.proofs.drivers.Goals.{Start}

-- the array has 128 registers
long : (c : Start) → length c.args.netlist.registers ≡ 128
long c = c.well_formed.0.1.1.1.1.1.0.1.0.1

pub loop-k-init : goal.loop-k-init
loop-k-init c = no_drivers _

pub loop-k-preserved-then-o-lt1024 : goal.loop-k-preserved-then-o-lt1024
loop-k-preserved-then-o-lt1024 c =
    let e : c.loop-k.k - 1 + 1 ≡ c.loop-k.k = omega arith in
    rw (e, c.from-o.ensures) (driver-stored _ (long (goal.at.loop-k-preserved-then-o-lt1024 c).Start) c.requires _ _ _ (omega arith) c.loop-k.invariant)

pub loop-k-preserved : goal.loop-k-preserved
loop-k-preserved c =
    driver-skipped _ (long (goal.at.loop-k-preserved c).Start) c.requires _ c.loop-k.k _ (omega arith) c.loop-k.invariant (omega (arith, c.from-o.ensures))

pub returns : goal.returns
returns c = all_drivers _ _ _ c.loop-k.invariant (omega arith)
