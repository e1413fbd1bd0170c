-- `netlist_checks::nodes::inputs_below` meets its contract: of three numbers, the first three at most are taken. Assumes nothing.
use Rattle.std.proofs.Common.{◌≡◌, ap, ◌∙◌, ℕ, List, [], ◌∷◌, take, min}
use Rattle.std.proofs.lemmas.List.{take_min}
use Rattle.model.specs.Record.{inputs_per_kind}
use Rattle.model.specs.Validate.{all_below}
use Rattle.netlist_checks.specs.NodeCheckLaws.{each-below}
use Rattle.netlist_checks.proofs.nodes.inputs_below.Goals as goal

pub returns : goal.returns
returns c =
    let a = c.args in
    let ns = a.node.first ∷ a.node.second ∷ a.node.third ∷ [] in
    let n : c.min-count.result ≡ min (inputs_per_kind a.node.kind) 3 = c.min-count.ensures ∙ ap (λ (k : ℕ). min k 3) (c.from.ensures ∙ c.inputs_per_kind.ensures) in
    let e : take c.min-count.result ns ≡ take (inputs_per_kind a.node.kind) ns = ap (λ (k : ℕ). take k ns) n ∙ take_min (inputs_per_kind a.node.kind) ns in
    c.numbers_below.ensures ∙ each-below a.i (take c.min-count.result ns) ∙ ap (λ (ms : List ℕ). all_below a.i ms) e
