-- `replace_watch` meets its contract: its stores are those of `replaced_words`. Assumes nothing.
use Rattle.std.proofs.Common.{ℕ, ◌+◌, ◌*◌, ◌≡◌, ap, ◌∙◌, arith, List}
use Rattle.clauses.specs.Clauses.{half}
use Rattle.clauses.specs.Queue.{pushed_words}
use Rattle.clauses.specs.StepLaws.{replaced_words}
use Rattle.words.specs.Layout.{WATCHED}
use Rattle.words.specs.Region.{stored}
use Rattle.watches.specs.VisitLaws.{clause_there, moved-room, stands-range, replaced}
use Rattle.watches.proofs.visit.replace_watch.Goals as goal

pub put-requires : goal.put-requires
put-requires c =
    let a = c.args in
    let h = clause_there a.store a.t a.words.now a.d c.requires.0 in
    (c.requires.0.sound.formed.ready.words, omega arith, omega (arith, h, c.requires.0.sound.formed.clauses, c.requires.1))

pub push_back-requires : goal.push_back-requires
push_back-requires c =
    let a = c.args in
    let r = stands-range a.store a.t a.words.now a.d c.requires.0 a.l.0 c.requires.2 in
    (c.put.ensures.1, moved-room a.store a.t a.words.now a.d c.requires.0 _ _ _ c.put.ensures.0 a.l.0 r)

pub returns : goal.returns
unfolding replaced_words
returns c =
    let a = c.args in
    let e : c.push_back.new.words ≡ pushed_words (stored WATCHED a.words.now (half a.d.cell * 2 + a.slot) a.l.0) a.l.0 a.d.cell =
    c.push_back.ensures.0 ∙ ap (λ (x : List ℕ). pushed_words x a.l.0 a.d.cell) c.put.ensures.0 in
    rw e (replaced a.store a.t a.words.now a.d c.requires.0 a.slot a.l.0 c.requires.1 c.requires.2)
