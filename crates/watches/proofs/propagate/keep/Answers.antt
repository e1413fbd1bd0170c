-- `keep` meets its contract: the push of a visit that keeps its clause. Assumes nothing.
use Rattle.watches.specs.VisitLaws.{queue-room, kept_visits, kept}
use Rattle.watches.proofs.propagate.keep.Goals as goal

pub push_back-requires : goal.push_back-requires
push_back-requires c =
    let a = c.args in
    (c.requires.0.sound.formed.ready.words, queue-room a.store a.t a.words.now a.d c.requires.0 a.f.0 c.requires.1)

pub returns : goal.returns
returns c =
    let a = c.args in
    (rw c.push_back.ensures.0 (kept_visits a.store a.t a.words.now a.d c.requires.0 a.f.0 c.requires.1), λ v. rw c.push_back.ensures.0 (kept a.store a.t a.words.now a.d c.requires.0 a.f.0 c.requires.1 v))
