-- `text` takes a given text off the front, or nothing. Assumes nothing.
use Rattle.std.proofs.Common.{refl, sym, subst, length, take, drop, ◌≡◌, ◌++◌}
use Rattle.std.proofs.lemmas.List.{take_at, take-append-drop}
use Rattle.std.specs.Cmp.Lexicographic.{same_text, other_text}
use Rattle.lender.proofs.text.Fields.text.Goals as goal

pub returns-in_err-self-clause-absent : goal.returns-in_err-self-clause-absent
returns-in_err-self-clause-absent c n rest e =
    let a = c.args in
    other_text (take (length a.text.now) a.self.now.rest.now) a.text.now (sym c.in_err-self.ensures.cases) (rw e (take_at a.text.now rest (length a.text.now) refl))

pub returns-clause-taken : goal.returns-clause-taken
returns-clause-taken c h =
    let a = c.args in
    let z = c.in_ok-self.ensures.cases in
    rw z.1 (sym (subst (λ xs. xs ++ drop (length a.text.now) a.self.now.rest.now ≡ a.self.now.rest.now) (same_text _ _ (sym z.0)) (take-append-drop (length a.text.now) a.self.now.rest.now)))
