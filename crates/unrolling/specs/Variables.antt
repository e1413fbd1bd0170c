-- New variables, one after another, in the proof graph: the literals lie in an array. Assumes nothing.
use Rattle.std.specs.Prelude.{◌≡◌, refl, List, [], ◌∷◌, ℕ, zero, suc, ◌+◌, ◌*◌, ◌≤◌, ◌<◌, length, set}
use Rattle.std.proofs.Common.{ap, ◌∙◌, arith}
use Rattle.model.specs.Lists.{snoc}
use Rattle.model.specs.Aig.{Aig, Built, variable}
use Rattle.model.specs.Equivalence.{LiteralList, with_built, new_variables}
use Rattle.aig.specs.Graph.{graph_of}
use Rattle.aig.specs.Made.{Ready, Same, Made, outside, same_refl, same_trans}
use Rattle.lowering.specs.Firsts.{firsts, firsts_more, Below, below_more}

-- From c nodes in w, n literals in xs were made, with c' nodes in w': the list l, and at most n nodes more.
pub record Listed (n c : ℕ) (w : List ℕ) (c' : ℕ) (w' xs : List ℕ) (l : LiteralList) : Type 0 where
  pub is : record { aig = graph_of c' w'; literals = firsts n xs } ≡ l
  pub ready : Ready c' w'
  pub same : Same outside w w'
  pub grows : c ≤ c'
  pub within : c' ≤ c + n
  pub below : Below (c' * 2) n xs

-- none so far
pub listed-none : (c : ℕ) (w xs : List ℕ) → Ready c w → Listed 0 c w c w xs (record { aig = graph_of c w; literals = [] })
unfolding firsts
listed-none c w xs r =
    record { is = refl; ready = r; same = same_refl outside w; grows = omega arith; within = omega arith; below = record { at = λ i h. absurd (omega arith) } }

-- one more
pub listed_more : (n c₀ : ℕ) (w₀ : List ℕ) (c : ℕ) (w xs : List ℕ) (v : LiteralList) (c' : ℕ) (w' : List ℕ) (l : ℕ) (m : Aig → Built)
    → n < length xs → Listed n c₀ w₀ c w xs v → Made 1 c w c' w' l (m (graph_of c w)) → Listed (n + 1) c₀ w₀ c' w' (set xs n l) (with_built v.literals (m v.aig))
unfolding with_built
listed_more n c₀ w₀ c w xs v c' w' l m h s t =
    record {
      is =
          ap (λ (ls : List ℕ). record { aig = graph_of c' w'; literals = ls }) (firsts_more n xs l h)
          ∙ ap (λ (b : Built). record { aig = b.aig; literals = snoc (firsts n xs) b.literal }) t.built
          ∙ ap (λ (u : LiteralList). record { aig = (m u.aig).aig; literals = snoc u.literals (m u.aig).literal }) s.is;
      ready = t.ready;
      same = same_trans s.same t.same;
      grows = omega (arith, s.grows, t.grows);
      within = omega (arith, s.within, t.within);
      below = below_more (c * 2) (c' * 2) n xs l (omega (arith, t.grows)) h t.below s.below;
    }

-- this many new variables, after the literals so far
unfoldable pub grown : ℕ → LiteralList → LiteralList
grown zero v = v
grown (suc n) v = let u = grown n v in with_built u.literals (variable u.aig)

grown-step : (n : ℕ) (v : LiteralList) → grown n (with_built v.literals (variable v.aig)) ≡ grown (suc n) v
unfolding grown
grown-step zero v = refl
grown-step (suc n) v = ap (λ (u : LiteralList). with_built u.literals (variable u.aig)) (grown-step n v)

-- a new variable for each element of a list: only the length counts
pub new-variables : {A : Type 0} (v : LiteralList) (xs : List A) → new_variables v xs ≡ grown (length xs) v
unfolding new_variables grown
new-variables v [] = refl
new-variables v (x ∷ xs) = new-variables (with_built v.literals (variable v.aig)) xs ∙ grown-step (length xs) v
