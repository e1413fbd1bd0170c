-- `trace::value_at` meets its contract. Assumes nothing.
use Rattle.std.proofs.Common.{ap₂, ◌∙◌, Bool, List, ℕ}
use Rattle.assignment.specs.State.{column}
use Rattle.model.specs.Aig.{evaluate}
use Rattle.words.specs.Layout.{VALUES}
use Rattle.trace.specs.Values.{model_is}
use Rattle.trace.proofs.value_at.Goals as goal

pub returns : goal.returns
returns c =
    let a = c.args in
    c.evaluate.ensures ∙ ap₂ (λ (values : List Bool) (l : ℕ). evaluate values l) (model_is (column a.nodes VALUES a.words.now)) c.fetch.ensures
