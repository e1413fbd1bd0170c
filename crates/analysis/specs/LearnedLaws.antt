-- Laws of the learned literals in lent words: the highest level among them. Assumes nothing.
use Rattle.std.specs.Prelude.{◌≡◌, List, ℕ, ◌+◌, ◌<◌, ◌≤◌, max, length, drop, get_or}
use Rattle.std.proofs.Common.{ap, sym, ◌∙◌, arith, add-one, drop_of_length-le, drop-cons, length-take-le, get_or-take}
use Rattle.words.specs.Layout.{LENT, SMALL, LEVELS, LEARNED}
use Rattle.words.specs.Region.{region, length-region}
use Rattle.model.specs.Literal as Literals
use Rattle.model.specs.Sat as Sat
use Rattle.assignment.specs.State.{column, assignment_of}
use Rattle.assignment.specs.declared.state.Trail.{Trail}
use Rattle.analysis.specs.SeeLaws.{levels_are}

-- what is left of `highest_level` at place i
pub record Rising (t : Trail) (w : List ℕ) (count highest i : ℕ) : Type 0 where
  pub inside : i ≤ count
  pub left : max highest (Sat.highest_level (assignment_of t w) (drop i (column count LEARNED w))) ≡ Sat.highest_level (assignment_of t w) (column count LEARNED w)

highest_next : (t : Sat.Assignment) (ls : List ℕ) (i : ℕ) → i < length ls
    → Sat.highest_level t (drop i ls) ≡ max (get_or t.levels (Literals.node (get_or ls i 0)) 0) (Sat.highest_level t (drop (i + 1) ls))
unfolding Sat.highest_level
highest_next t ls i h = rw (drop-cons ls i 0 h, add-one)

pub rising_step : (t : Trail) (w : List ℕ) (count highest i l d r : ℕ) → LENT ≤ length w → count ≤ SMALL → Rising t w count highest i → i < count → l ≡ get_or (region LEARNED w) i 0
    → d ≡ get_or (column t.variables LEVELS w) (Literals.node l) 0 → r ≡ max highest d → Rising t w count r (i + 1)
rising_step t w count highest i l d r x k g h e f m =
    let ls = column count LEARNED w in
    let n : i < length ls = omega (arith, length-take-le count (region LEARNED w) (omega (arith, length-region LEARNED w (omega arith)))) in
    let q : d ≡ get_or (assignment_of t w).levels (Literals.node (get_or ls i 0)) 0
    = f ∙ ap (λ (u : List ℕ). get_or u (Literals.node l) 0) (sym (levels_are t w)) ∙ ap (λ (u : ℕ). get_or (assignment_of t w).levels (Literals.node u) 0) (e ∙ sym (get_or-take count (region LEARNED w) i 0 h)) in
    record { inside = omega arith; left = omega (arith, g.left, highest_next (assignment_of t w) ls i n, q, m) }

pub risen : (t : Trail) (w : List ℕ) (count highest i : ℕ) → LENT ≤ length w → count ≤ SMALL → Rising t w count highest i → count ≤ i
    → highest ≡ Sat.highest_level (assignment_of t w) (column count LEARNED w)
unfolding Sat.highest_level
risen t w count highest i x k g h =
    let ls = column count LEARNED w in
    let n : length ls ≤ i = omega (arith, length-take-le count (region LEARNED w) (omega (arith, length-region LEARNED w (omega arith)))) in
    let e : Sat.highest_level (assignment_of t w) (drop i ls) ≡ 0 = rw (drop_of_length-le ls n) in
    omega (arith, g.left, e)
