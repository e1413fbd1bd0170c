-- `netlist_checks::registers::registers_fault` meets its contract: the registers that are left to check give the whole outcome. Assumes nothing.
use Rattle.netlist_checks.specs.RegisterChecks.{RegistersChecked}
use Rattle.netlist_checks.proofs.registers.registers_fault.Given as goal

abbrev pub invariant-loop-i : goal.invariant-loop-i
invariant-loop-i l = RegistersChecked l.bytes l.netlist l.names l.outputs l.i
