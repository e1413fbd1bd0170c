-- `drivers` meets its contract: the table is right for the registers from k on, so at 0 for all. Assumes nothing.
use Rattle.drivers.specs.DriverLaws.{DriversSoFar}
use Rattle.drivers.proofs.drivers.Given as goal

abbrev pub invariant-loop-k : goal.invariant-loop-k
invariant-loop-k l = DriversSoFar l.netlist l.table l.k
