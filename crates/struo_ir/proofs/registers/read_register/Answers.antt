-- `struo_ir::registers::read_register` meets its contract. Assumes nothing.
use Rattle.std.proofs.Common.{◌≡◌, refl, ◌∙◌, ℕ, List, [], ◌∷◌, get_or}
use Rattle.fields.specs.FieldLaws.{passed_on, bind_refused, bind_got}
use Rattle.fields.specs.Fields.{step_of}
use Rattle.struo_ir.specs.Registers.{fixed, nets_at, place_at, register_edge, register_nets, register_at}
use Rattle.struo_ir.proofs.registers.read_register.Goals as goal

-- three nets, one by one
edge_of : (n : ℕ) (nets s : List ℕ) (i : ℕ) → register_edge n (get_or nets 0 0 ∷ get_or nets 1 0 ∷ get_or nets 2 0 ∷ []) s i ≡ register_edge n nets s i
unfolding register_edge fixed
edge_of n nets s i = refl

pub returns-in_err-name : goal.returns-in_err-name
unfolding step_of register_at place_at
returns-in_err-name c =
    let a = c.args in
    passed_on _ _ c.from_residual.ensures.1 ∙ bind_refused place_at register_nets a.bytes.now a.at _ c.in_err-name.ensures

pub returns-in_err-output : goal.returns-in_err-output
unfolding step_of register_at place_at register_nets nets_at
returns-in_err-output c =
    let a = c.args in
    passed_on _ _ c.from_residual-in_err-output.ensures.1
    ∙ bind_refused nets_at (register_edge c.in_ok-name.name) a.bytes.now c.in_ok-name.next _ c.in_err-output.ensures
    ∙ bind_got place_at register_nets a.bytes.now a.at _ _ c.in_ok-name.ensures

pub returns : goal.returns
unfolding step_of register_at place_at register_nets nets_at
returns c =
    let a = c.args in
    c.read_edge.ensures
    ∙ edge_of c.in_ok-name.name _ a.bytes.now c.in_ok-output.after
    ∙ bind_got nets_at (register_edge c.in_ok-name.name) a.bytes.now c.in_ok-name.next _ _ c.in_ok-output.ensures
    ∙ bind_got place_at register_nets a.bytes.now a.at _ _ c.in_ok-name.ensures
