-- `netlist_checks::registers::registers_fault` meets its contract: the registers that are left to check give the whole outcome. Assumes nothing.
use Rattle.std.proofs.Common.{◌<◌, ◌≡◌, sym, ◌∙◌, true, false, arith, get_or, eq-eqb, ne_eqb}
use Rattle.calls.specs.Faults.{refusal}
use Rattle.calls.specs.Causes.{fault_of}
use Rattle.model.specs.Lists.{member}
use Rattle.model.specs.Names.{member_name}
use Rattle.model.specs.Validate.{is_register_output_at}
use Rattle.struo_ir.specs.Decoded.{name_at, decoded}
use Rattle.struo_ir.specs.Registers.{no_register}
use lib.ListN.{get_elem?}
use Rattle.netlist_checks.specs.RegisterCheckLaws.{registers_unchecked, output-outside, output-inside, name-repeats, no_output, output-taken, nets_undefined, register-checked, registers-all-checked}
use Rattle.netlist_checks.specs.Seen.{names_before, numbers_before}
use Rattle.netlist_checks.proofs.registers.registers_fault.Goals as goal
use Rattle.netlist_checks.proofs.registers.registers_fault.Goals.{Else-node-ne-REGISTER_OUTPUT, Else-repeated, Else-taken, In-loop-i}

-- the register's number is below 128
small : (c : In-loop-i) → c.loop-i.i < 128
small c = omega (arith, c.requires.registers_padded.fits)

-- the name is new
fresh : (c : Else-repeated) → false ≡ member_name (name_at c.args.bytes.now (get_or c.args.netlist.registers c.loop-i.i no_register).name) (names_before c.args.bytes.now c.loop-i.names c.loop-i.i)
fresh c = sym c.if-repeated.false ∙ c.repeated.ensures

-- the output is a RegisterOutput
shows : (c : Else-node-ne-REGISTER_OUTPUT)
    → is_register_output_at (get_elem? (decoded c.args.bytes.now c.args.netlist).nodes (get_or c.args.netlist.registers c.loop-i.i no_register).output) ≡ true
shows c = output-inside c.args.bytes.now c.args.netlist c.requires _ c.if-count-o.false ∙ eq-eqb _ _ c.if-node-ne-REGISTER_OUTPUT.false

-- the output is new
free : (c : Else-taken) → false ≡ member (get_or c.args.netlist.registers c.loop-i.i no_register).output (numbers_before c.loop-i.outputs c.loop-i.i)
free c = sym c.if-taken.false ∙ c.taken.ensures

pub loop-i-init : goal.loop-i-init
loop-i-init c = registers_unchecked _ _

pub returns-then-repeated : goal.returns-then-repeated
unfolding fault_of refusal
returns-then-repeated c =
    rw c.at.ensures
    (name-repeats c.args.bytes.now _ _ _ _ c.loop-i.invariant c.requires (omega arith) (sym c.if-repeated.true ∙ c.repeated.ensures))

pub returns-then-count-o : goal.returns-then-count-o
unfolding fault_of refusal
returns-then-count-o c =
    rw c.at-then-count-o.ensures
    (no_output c.args.bytes.now _ _ _ _ c.loop-i.invariant c.requires (omega arith) (fresh (goal.at.returns-then-count-o c).Else-repeated) (output-outside c.args.bytes.now _ _ c.if-count-o.true))

pub returns-then-node-ne-REGISTER_OUTPUT : goal.returns-then-node-ne-REGISTER_OUTPUT
unfolding fault_of refusal
returns-then-node-ne-REGISTER_OUTPUT c =
    rw c.at-then-node-ne-REGISTER_OUTPUT.ensures
    (no_output c.args.bytes.now _ _ _ _ c.loop-i.invariant c.requires (omega arith) (fresh (goal.at.returns-then-node-ne-REGISTER_OUTPUT c).Else-repeated) (output-inside c.args.bytes.now _ c.requires _ c.if-count-o.false ∙ ne_eqb _ _ c.if-node-ne-REGISTER_OUTPUT.true))

pub returns-then-taken : goal.returns-then-taken
unfolding fault_of refusal
returns-then-taken c =
    rw c.at-then-taken.ensures
    (output-taken c.args.bytes.now _ _ _ _ c.loop-i.invariant c.requires (omega arith) (fresh (goal.at.returns-then-taken c).Else-repeated) (shows (goal.at.returns-then-taken c).Else-node-ne-REGISTER_OUTPUT) (sym c.if-taken.true ∙ c.taken.ensures))

pub returns-else-nets_below : goal.returns-else-nets_below
unfolding fault_of refusal
returns-else-nets_below c =
    rw c.at-else-nets_below.ensures
    (nets_undefined c.args.bytes.now _ _ _ _ c.loop-i.invariant c.requires (omega arith) (fresh (goal.at.returns-else-nets_below c).Else-repeated) (shows (goal.at.returns-else-nets_below c).Else-node-ne-REGISTER_OUTPUT) (free (goal.at.returns-else-nets_below c).Else-taken) (sym c.if-nets_below.false ∙ c.nets_below.ensures c.args.bytes.now))

pub loop-i-preserved : goal.loop-i-preserved
loop-i-preserved c =
    register-checked c.args.bytes.now _ _ _ _ c.loop-i.invariant c.requires (omega arith) (fresh (goal.at.loop-i-preserved c).Else-repeated) (shows (goal.at.loop-i-preserved c).Else-node-ne-REGISTER_OUTPUT) (free (goal.at.loop-i-preserved c).Else-taken) (sym c.if-nets_below.true ∙ c.nets_below.ensures c.args.bytes.now)

pub returns : goal.returns
unfolding fault_of refusal
returns c = registers-all-checked c.args.bytes.now _ _ _ _ c.loop-i.invariant c.requires (omega arith)
