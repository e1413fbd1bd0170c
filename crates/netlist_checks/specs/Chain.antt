-- The checks of a design from one of them on, in the order of the specification. Definitions only.
use Rattle.std.specs.Prelude.{[]}
use Rattle.std.proofs.Math.Option.{Option}
use Rattle.model.specs.Answers.{Refusal}
use Rattle.model.specs.Netlist.{Design}
use Rattle.model.specs.Validate.{◌otherwise◌, registers_fault, connection_fault, reset_fault, clock_fault, clock_read_fault}

-- 15, then 30
unfoldable pub after_resets : Design → Option Refusal
after_resets d = clock_fault d.nodes 0 d.registers otherwise clock_read_fault d 0 d.nodes

-- 14, then the checks after it
unfoldable pub after_connections : Design → Option Refusal
after_connections d = reset_fault d.registers 0 d.nodes otherwise after_resets d

-- 13, then the checks after it
unfoldable pub after_registers : Design → Option Refusal
after_registers d = connection_fault d.registers 0 d.nodes otherwise after_connections d

-- 9 to 12, then the checks after them
unfoldable pub after_nodes : Design → Option Refusal
after_nodes d = registers_fault d.nodes 0 [] [] d.registers otherwise after_registers d
