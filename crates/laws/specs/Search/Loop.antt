-- The loop keeps what each round keeps: the one induction on the rounds that a proof about `solve` needs. Assumes nothing.
use Prim.Native.Nat.{ℕ, zero, suc}
use Rattle.model.specs.Sat.{Solver, Search, searching, answered, Answer, out_of_fuel, step, search_rounds}

module _ (P : Solver → Type 0) (Q : Answer → Type 0) where
  -- an unfinished search has P, an answer Q
  abbrev pub Keeps : Search → Type 0
  Keeps (searching s) = P s
  Keeps (answered a) = Q a

  -- what each round keeps, the loop does
  pub search_keeps : (limit : ℕ) → ((s : Solver) → P s → Keeps (step limit s)) → ((s : Solver) → P s → Q (out_of_fuel s.learned))
      → (n : ℕ) (r : Search) → Keeps r → Q (search_rounds limit n r)
  unfolding search_rounds
  search_keeps limit f q zero (searching s) h = q s h
  search_keeps limit f q zero (answered a) h = h
  search_keeps limit f q (suc n) (searching s) h = search_keeps limit f q n (step limit s) (f s h)
  search_keeps limit f q (suc n) (answered a) h = h
