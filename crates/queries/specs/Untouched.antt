-- What a query leaves of both sides' graphs: all that they stand for. Assumes nothing.
use Rattle.std.specs.Prelude.{◌≡◌, refl, true, List, [], ◌∷◌, ℕ, ◌≤◌}
use Rattle.std.proofs.Common.{◌∙◌, arith}
use Rattle.facts.specs.Bools.{both-and}
use Rattle.words.specs.Layout.{GOLD-LHS, GATE-RHS, IMPORTED}
use Rattle.words.specs.Region.{apart}
use Rattle.aig.specs.Side.{side_under}
use Rattle.assignment.specs.State.{Unchanged, apart_from}
use Rattle.sat.specs.State.{solve_regions}
use Rattle.unrolling.specs.Side.{Untouched}
use Rattle.unrolling.specs.Cycling.{Paired, cost_kept}
use Rattle.equivalence.specs.Inducing.{cycle_cost}
use Rattle.transition.specs.declared.system.System.{System}

-- nothing was done
pub untouched_none : (w : List ℕ) → Untouched w w
untouched_none w = record { at = λ b lo hi. refl }

-- one change after another
pub untouched_both : {u v w : List ℕ} → Untouched u v → Untouched v w → Untouched u w
untouched_both f g = record { at = λ b lo hi. g.at b lo hi ∙ f.at b lo hi }

-- regions that lie past both graphs
abbrev Past : List ℕ → Type 0
Past [] = Unit {0}
Past (c ∷ cs) = (IMPORTED ≤ c) × Past cs

past-apart : (cs : List ℕ) → Past cs → (b : ℕ) → GOLD-LHS ≤ b → b ≤ GATE-RHS → apart_from cs b ≡ true
past-apart [] h b lo hi = refl
past-apart (c ∷ cs) h b lo hi = both-and (apart b c) (apart_from cs b) (side_under b lo hi c (omega (arith, h.0))) (past-apart cs h.1 b lo hi)

-- a search leaves both graphs: its regions lie past them
pub untouched_solve : {w w' : List ℕ} → Unchanged solve_regions w w' → Untouched w w'
untouched_solve u = record { at = λ b lo hi. u.same b (past-apart solve_regions (omega arith) b lo hi) }

-- so a cycle costs what it did
pub cycle_cost_kept : (x y : System) (w w' : List ℕ) → Paired x y w → Untouched w w' → cycle_cost x y w' ≡ cycle_cost x y w
cycle_cost_kept x y w w' p k = rw (cost_kept x y w w' p k)
