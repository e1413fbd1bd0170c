-- `import::import_aig` meets its contract. Assumes nothing.
use Rattle.std.proofs.Common.{◌≡◌, List, ℕ}
use Rattle.words.specs.Layout.{IMPORTED}
use Rattle.words.specs.Region.{stored}
use Rattle.import.specs.Importing.{Importing, Sourced}
use Rattle.import.proofs.import_aig.Given as goal

-- for the words before node 0 was imported: the import of the first i nodes
abbrev pub invariant-loop-i : goal.invariant-loop-i
invariant-loop-i l =
    (w : List ℕ) → l.initial.words ≡ stored IMPORTED w 0 0 → Sourced l.base l.count l.initial.aig.count w → Importing l.base l.count l.initial.aig.count w l.i l.aig.count l.words
