-- `fields::is_listed` meets its contract: the listed kinds are the definition's. Assumes nothing.
use Rattle.std.proofs.Common.{◌≡◌, ℕ, Bool, true, false, refl, sym, eqb, eq-eqb, ne_eqb, eqb-true}
use Rattle.std.proofs.lemmas.Bool.{eqb-false}
use Rattle.model.specs.Lists.{member}
use Rattle.model.specs.Record.{listed_kind, kinds}
use Rattle.fields.proofs.is_listed.Goals as goal

-- an equality tested either way round
turned : (a b : ℕ) → eqb a b ≡ eqb b a
turned a b = go (eqb b a) refl
  where
    go : (t : Bool) → eqb b a ≡ t → eqb a b ≡ t
    go true e = eq-eqb a b (sym (eqb-true b a e))
    go false e = ne_eqb a b (λ h. eqb-false b a e (sym h))

pub returns : goal.returns
unfolding listed_kind kinds member
returns c =
    let t = λ (n : ℕ). turned n c.args.kind in
    rw (c.contains.ensures.value, t 0, t 1, t 2, t 16, t 17, t 32, t 33, t 34, t 48) refl
