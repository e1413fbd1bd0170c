-- What a caller asks and lends, as the definitions have it. Definitions only.
use Rattle.model.specs.Options as Model
use Rattle.model.specs.Pair as Pair
use Rattle.calls.specs.declared.options.Options.{Options}
use Rattle.calls.specs.declared.options.Lent.{Lent}

-- the options
unfoldable pub options_of : Options → Model.Options
options_of o = record { depth = o.depth; limit = o.limit; earliest = o.earliest }

-- the lengths of the buffers lent
unfoldable pub lent_of : Lent → Pair.Lent
lent_of l = record { trace = l.trace; words = l.words; scores = l.scores }
