-- `attach` meets its contract: the clause is sealed, and its one literal watched, or its first two. Assumes nothing.
use Rattle.std.proofs.Common.{ℕ, ◌+◌, ◌*◌, ◌<◌, ◌≡◌, ap, ◌∙◌, List, arith}
use Rattle.clauses.specs.AddLaws.{attach_unit, unit_room, attach_longer, longer_room, longer_room_2}
use Rattle.clauses.specs.Queue.{pushed_words}
use Rattle.clauses.specs.State.{sealed_words, Attachable}
use Rattle.clauses.proofs.add.attach.Goals as goal

pub push_back-requires : goal.push_back-requires
push_back-requires c =
    let a = c.args in
    let r : Attachable a.store a.t a.words.now 1 = rw c.if-count-eq1.true at c.requires in
    (c.seal.ensures.1, rw (c.seal.ensures.0, c.if-count-eq1.true) (unit_room a.store a.t a.words.now r _ c.load.ensures))

pub returns-then-count-eq1 : goal.returns-then-count-eq1
returns-then-count-eq1 c =
    let a = c.args in
    let r : Attachable a.store a.t a.words.now 1 = rw c.if-count-eq1.true at c.requires in
    let e : c.push_back.new.words ≡ pushed_words (sealed_words a.words.now a.store.clauses (a.store.literals + 1) c.load.result c.load.result) c.load.result (a.store.clauses * 2) =
    c.push_back.ensures.0 ∙ ap (λ (x : List ℕ). pushed_words x c.load.result (a.store.clauses * 2)) c.seal.ensures.0
    ∙ ap (λ (n : ℕ). pushed_words (sealed_words a.words.now a.store.clauses (a.store.literals + n) c.load.result c.load.result) c.load.result (a.store.clauses * 2)) c.if-count-eq1.true in
    rw c.if-count-eq1.true (attach_unit a.store a.t a.words.now r c.load.result c.load.ensures _ e)

pub push_back-requires-2 : goal.push_back-requires-2
push_back-requires-2 c =
    let a = c.args in
    let h : 1 < a.count = omega (arith, c.requires.some, c.if-count-eq1.false) in
    (c.seal-2.ensures.1, rw c.seal-2.ensures.0 (longer_room a.store a.t a.words.now a.count c.requires h _ _ c.load.ensures c.load-2.ensures))

pub push_back-requires-3 : goal.push_back-requires-3
push_back-requires-3 c =
    let a = c.args in
    let h : 1 < a.count = omega (arith, c.requires.some, c.if-count-eq1.false) in
    (c.push_back-2.ensures.1, rw (c.push_back-2.ensures.0, c.seal-2.ensures.0) (longer_room_2 a.store a.t a.words.now a.count c.requires h _ _ c.load.ensures c.load-2.ensures))

pub returns : goal.returns
returns c =
    let a = c.args in
    let h : 1 < a.count = omega (arith, c.requires.some, c.if-count-eq1.false) in
    let e : c.push_back-3.new.words ≡ pushed_words (pushed_words (sealed_words a.words.now a.store.clauses (a.store.literals + a.count) c.load.result c.load-2.result) c.load.result (a.store.clauses * 2)) c.load-2.result (a.store.clauses * 2 + 1) =
    c.push_back-3.ensures.0 ∙ ap (λ (x : List ℕ). pushed_words x c.load-2.result (a.store.clauses * 2 + 1)) (c.push_back-2.ensures.0 ∙ ap (λ (x : List ℕ). pushed_words x c.load.result (a.store.clauses * 2)) c.seal-2.ensures.0) in
    attach_longer a.store a.t a.words.now a.count c.requires h c.load.result c.load-2.result c.load.ensures c.load-2.ensures _ e
