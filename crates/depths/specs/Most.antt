-- The most learned so far: the total of an answer, and a query more than those asked before it. Assumes nothing.
use Rattle.std.specs.Prelude.{◌≡◌, refl, List, [], ◌∷◌, ℕ}
use Rattle.std.proofs.Common.{ap, ◌∙◌, sym}
use Rattle.model.specs.Answers as Numbers
use Rattle.model.specs.Lists.{snoc}
use Rattle.model.specs.Equivalence.{asked_too, larger_learned, largest_from}
use Rattle.calls.specs.Answers.{asked_of}
use Rattle.calls.specs.declared.answers.Asked.{Asked}
use Rattle.sat.specs.declared.state.Answer.{Answer}
use Rattle.sat.specs.declared.state.Answer.TheVariants.{Model, NoModel, GaveUp}

-- the total of an answer: of a give-up, that before the clause which would pass the limit
abbrev pub total_of : Answer → ℕ
total_of (Model n) = n
total_of (NoModel n) = n
total_of (GaveUp n) = n

-- the one that learned most of the queries asked, begun at `first`
abbrev pub MostOf : Numbers.Asked → List Numbers.Asked → Asked → Type 0
MostOf first asked m = asked_of m ≡ largest_from first asked

-- a query more is compared with the most before it
largest_snoc : (first : Numbers.Asked) (earlier : List Numbers.Asked) (a : Numbers.Asked) → largest_from first (snoc earlier a) ≡ larger_learned (largest_from first earlier) a
unfolding largest_from snoc
largest_snoc first [] a = refl
largest_snoc first (b ∷ bs) a = largest_snoc (larger_learned first b) bs a

-- the most learned with an answered query more
abbrev pub Counted : ℕ → ℕ → Answer → Asked → Asked → Type 0
Counted d k r m now = asked_of now ≡ larger_learned (asked_of m) (record { depth = d; query = k; learned = total_of r })

-- it is the most of the queries asked with this one
pub counted-more : (d k : ℕ) (r u : Answer) (m now : Asked) → Counted d k r m now → r ≡ u → (first : Numbers.Asked) (earlier : List Numbers.Asked) → MostOf first earlier m
    → MostOf first (asked_too earlier d k (total_of u)) now
unfolding asked_too
counted-more d k r u m now c e first earlier h =
    c
    ∙ ap (λ (a : Numbers.Asked). larger_learned a (record { depth = d; query = k; learned = total_of r })) h
    ∙ ap (λ (y : Answer). larger_learned (largest_from first earlier) (record { depth = d; query = k; learned = total_of y })) e
    ∙ sym (largest_snoc first earlier (record { depth = d; query = k; learned = total_of u }))
