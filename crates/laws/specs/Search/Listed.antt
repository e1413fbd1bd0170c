-- The watch lists are exact: a clause stands in the list of a literal as often as it watches it, which is once for each of its two places, or once for its only one. Assumes nothing.
use Rattle.std.specs.Prelude.{ℕ, ◌+◌, ◌<◌, ◌≡◌, refl, ◌≢◌, ◌⊎◌, cond, List, [], ◌∷◌, ◌++◌, length, get_or, set, eqb}
use Rattle.std.proofs.Common.{arith, sym, ap, ◌∙◌, inl, inr, get_or-set_same, get_or-set_other, eq-eqb, ne_eqb}
use Rattle.model.specs.Literal.{Literal}
use Rattle.model.specs.Lists.{snoc}
use Rattle.model.specs.Sat.{Clause, push_watch, watch_clause, second_place, watched0, watched1, slot0, slot1, move_watch}
use Rattle.facts.specs.Lists.{get_or-set_default, In}
use Rattle.facts.specs.Numbers.{by_eq}
use Rattle.laws.specs.Search.Watches.{ListedIn, push_size}

-- 1 where two numbers are equal, else 0
unfoldable pub same : ℕ → ℕ → ℕ
same a b = cond (eqb a b) 1 0

-- how often a number stands in a list
unfoldable pub times : ℕ → List ℕ → ℕ
times id [] = 0
times id (x ∷ xs) = same x id + times id xs

-- how often a clause is pending on the literal l, where ids are pending on f
unfoldable pub pending_times : Literal → List ℕ → Literal → ℕ → ℕ
pending_times f ids l id = cond (eqb l f) (times id ids) 0

-- in how many slots a clause watches l: the second counts where it is another place than the first
unfoldable pub slot_count : Clause → Literal → ℕ
slot_count c l = same (watched0 c) l + cond (eqb c.watched.0 c.watched.1) 0 (same (watched1 c) l)

-- ---- counting

-- equal numbers count one
pub same-yes : (a b : ℕ) → a ≡ b → same a b ≡ 1
unfolding same
same-yes a b e = rw (eq-eqb a b e)

same-no : (a b : ℕ) → a ≢ b → same a b ≡ 0
unfolding same
same-no a b e = rw (ne_eqb a b e)

-- of the literal in progress, the pending ids count
pub pending_yes : (f : Literal) (ids : List ℕ) (l : Literal) (id : ℕ) → l ≡ f → pending_times f ids l id ≡ times id ids
unfolding pending_times
pending_yes f ids l id e = rw (eq-eqb l f e)

pending_no : (f : Literal) (ids : List ℕ) (l : Literal) (id : ℕ) → l ≢ f → pending_times f ids l id ≡ 0
unfolding pending_times
pending_no f ids l id e = rw (ne_eqb l f e)

times_append : (id : ℕ) (xs ys : List ℕ) → times id (xs ++ ys) ≡ times id xs + times id ys
unfolding times
times_append id [] ys = omega arith
times_append id (x ∷ xs) ys = omega (arith, times_append id xs ys)

-- a number that is none of a list's stands in it no time
times_none : (id : ℕ) (xs : List ℕ) → (In id xs → ⊥) → times id xs ≡ 0
unfolding times
times_none id [] f = refl
times_none id (x ∷ xs) f = omega (arith, same-no x id (λ e. f (inl (sym e))), times_none id xs (λ q. f (inr q)))

-- a number stands in a list, or no time in it
pub times_in : (id : ℕ) (xs : List ℕ) → In id xs ⊎ (times id xs ≡ 0)
unfolding times
times_in id [] = inr refl
times_in id (x ∷ xs) = by_eq x id (λ e. inl (inl (sym e))) (λ e. go e (times_in id xs))
  where
    go : x ≢ id → In id xs ⊎ (times id xs ≡ 0) → In id (x ∷ xs) ⊎ (times id (x ∷ xs) ≡ 0)
    go e (inl q) = inl (inr q)
    go e (inr q) = inr (omega (arith, q, same-no x id e))

-- one list made longer
pub append_times : (w : List (List ℕ)) (f : Literal) (ids : List ℕ) (l : Literal) (id : ℕ) → f < length w
    → times id (get_or (set w f (get_or w f [] ++ ids)) l []) ≡ times id (get_or w l []) + pending_times f ids l id
append_times w f ids l id h =
    by_eq l f
    (λ e.
    ap (λ k. times id (get_or (set w f (get_or w f [] ++ ids)) k [])) e ∙ ap (times id) (get_or-set_same w f (get_or w f [] ++ ids) [] h) ∙ times_append id (get_or w f []) ids
    ∙ ap (λ k. times id (get_or w k []) + times id ids) (sym e) ∙ ap (λ k. times id (get_or w l []) + k) (sym (pending_yes f ids l id e)))
    (λ e. omega (arith, ap (times id) (get_or-set_other w f l (get_or w f [] ++ ids) [] e), pending_no f ids l id e))

push_times : (w : List (List ℕ)) (f : Literal) (k : ℕ) (l : Literal) (id : ℕ) → f < length w → times id (get_or (push_watch w f k) l []) ≡ times id (get_or w l []) + pending_times f (k ∷ []) l id
unfolding push_watch snoc
push_times w f k l id h = append_times w f (k ∷ []) l id h

-- none pending
pub pending_nil : (f l : Literal) (id : ℕ) → pending_times f [] l id ≡ 0
unfolding times
pending_nil f l id = by_eq l f (λ e. pending_yes f [] l id e) (λ e. pending_no f [] l id e)

-- the first of those pending, and the others
pending_cons : (f : Literal) (k : ℕ) (ids : List ℕ) (l : Literal) (id : ℕ) → pending_times f (k ∷ ids) l id ≡ pending_times f (k ∷ []) l id + pending_times f ids l id
unfolding times
pending_cons f k ids l id =
    by_eq l f (λ e. omega (arith, pending_yes f (k ∷ ids) l id e, pending_yes f (k ∷ []) l id e, pending_yes f ids l id e))
    (λ e. omega (arith, pending_no f (k ∷ ids) l id e, pending_no f (k ∷ []) l id e, pending_no f ids l id e))

-- one pending clause, of another number or of this one
pending_other : (f : Literal) (k : ℕ) (l : Literal) (id : ℕ) → id ≢ k → pending_times f (k ∷ []) l id ≡ 0
unfolding times
pending_other f k l id e = by_eq l f (λ q. omega (arith, pending_yes f (k ∷ []) l id q, same-no k id (λ z. e (sym z)))) (λ q. pending_no f (k ∷ []) l id q)

pending_one : (f : Literal) (id : ℕ) (l : Literal) → pending_times f (id ∷ []) l id ≡ same f l
unfolding times
pending_one f id l =
    by_eq l f (λ q. omega (arith, pending_yes f (id ∷ []) l id q, same-yes id id refl, same-yes f l (sym q))) (λ q. omega (arith, pending_no f (id ∷ []) l id q, same-no f l (λ z. q (sym z))))

-- ---- what each step does to the lists

-- the list of f taken: what was in it is pending
pub take-times : (w : List (List ℕ)) (f l : Literal) (id : ℕ) → times id (get_or (set w f []) l []) + pending_times f (get_or w f []) l id ≡ times id (get_or w l [])
unfolding times
take-times w f l id =
    by_eq l f
    (λ e.
    let z : get_or (set w f []) f [] ≡ [] = get_or-set_default w f [] in
    omega (arith, ap (λ k. times id (get_or (set w f []) k [])) e, ap (times id) z, pending_yes f (get_or w f []) l id e, ap (λ k. times id (get_or w k [])) e))
    (λ e. omega (arith, ap (times id) (get_or-set_other w f l [] [] e), pending_no f (get_or w f []) l id e))

-- the first pending clause kept in the list of f
pub keep_times : (w : List (List ℕ)) (f : Literal) (k : ℕ) (ids : List ℕ) (l : Literal) (id : ℕ) → f < length w
    → times id (get_or (push_watch w f k) l []) + pending_times f ids l id ≡ times id (get_or w l []) + pending_times f (k ∷ ids) l id
keep_times w f k ids l id h = omega (arith, push_times w f k l id h, pending_cons f k ids l id)

-- it goes to the list of another literal: the counts of other clauses stay
pub move_times_other : (w : List (List ℕ)) (f g : Literal) (k : ℕ) (ids : List ℕ) (l : Literal) (id : ℕ) → g < length w → id ≢ k
    → times id (get_or (push_watch w g k) l []) + pending_times f ids l id ≡ times id (get_or w l []) + pending_times f (k ∷ ids) l id
move_times_other w f g k ids l id h e = omega (arith, push_times w g k l id h, pending_cons f k ids l id, pending_other g k l id e, pending_other f k l id e)

-- and its own go from f to that literal
pub move_times-own : (w : List (List ℕ)) (f g : Literal) (k : ℕ) (ids : List ℕ) (l : Literal) → g < length w
    → times k (get_or (push_watch w g k) l []) + pending_times f ids l k + same f l ≡ times k (get_or w l []) + pending_times f (k ∷ ids) l k + same g l
move_times-own w f g k ids l h = omega (arith, push_times w g k l k h, pending_cons f k ids l k, pending_one g k l, pending_one f k l)

-- ---- what each step does to a clause's slots

-- two places: each counts
slots_two : (c : Clause) (l : Literal) → c.watched.0 ≢ c.watched.1 → slot_count c l ≡ same (watched0 c) l + same (watched1 c) l
unfolding slot_count
slots_two c l e = rw (ne_eqb c.watched.0 c.watched.1 e)

-- no slot watches f
pub slots_none : (c : Clause) (f : Literal) → watched0 c ≢ f → watched1 c ≢ f → slot_count c f ≡ 0
unfolding slot_count
slots_none c f a b = by_eq c.watched.0 c.watched.1
    (λ e. rw (eq-eqb c.watched.0 c.watched.1 e) (omega (arith, same-no (watched0 c) f a)))
    (λ e. rw (ne_eqb c.watched.0 c.watched.1 e) (omega (arith, same-no (watched0 c) f a, same-no (watched1 c) f b)))

-- where no slot counts, neither literal is f
pub slots_zero : (c : Clause) (f : Literal) → slot_count c f ≡ 0 → (watched0 c ≢ f) × (watched1 c ≢ f)
unfolding slot_count watched0 watched1
slots_zero c f z = (first, λ e. by_eq c.watched.0 c.watched.1 (λ q. first (ap (λ i. get_or c.literals i 0) q ∙ e)) (λ q. omega (arith, z, slots_two c f q, same-yes (watched1 c) f e)))
  where
    first : watched0 c ≢ f
    first e = omega (arith, z, same-yes (watched0 c) f e)

-- the first slot moved to place i
pub slots_move0 : (c : Clause) (i : ℕ) (f l : Literal) → c.watched.0 ≢ c.watched.1 → i ≢ c.watched.1 → watched0 c ≡ f
    → slot_count (move_watch c slot0 i) l + same f l ≡ slot_count c l + same (get_or c.literals i 0) l
unfolding move_watch watched0 watched1
slots_move0 c i f l a b e =
    omega (
      arith,
      slots_two (move_watch c slot0 i) l b,
      slots_two c l a,
      ap (λ k. same k l) e,
    )

-- and the second
pub slots_move1 : (c : Clause) (i : ℕ) (f l : Literal) → c.watched.0 ≢ c.watched.1 → i ≢ c.watched.0 → watched1 c ≡ f
    → slot_count (move_watch c slot1 i) l + same f l ≡ slot_count c l + same (get_or c.literals i 0) l
unfolding move_watch watched0 watched1
slots_move1 c i f l a b e =
    omega (
      arith,
      slots_two (move_watch c slot1 i) l (λ z. b (sym z)),
      slots_two c l a,
      ap (λ k. same k l) e,
    )

-- a new clause is listed as it watches
pub new-times : (w : List (List ℕ)) (id : ℕ) (x : Literal) (xs : List Literal) (l : Literal) → ListedIn w id → x < length w → ((y : Literal) (ys : List Literal) → xs ≡ y ∷ ys → y < length w)
    → times id (get_or (watch_clause w id x xs) l []) ≡ slot_count (record { literals = x ∷ xs; watched = (0, second_place xs) }) l
unfolding watch_clause second_place slot_count watched0 watched1
new-times w id x [] l f h k = omega (arith, push_times w x id l id h, times_none id (get_or w l []) (λ q. omega (arith, f l id q)), pending_one x id l)
new-times w id x (y ∷ ys) l f h k =
    let hy : y < length (push_watch w x id) = omega (arith, push_size w x id, k y ys refl) in
    omega (arith, push_times (push_watch w x id) y id l id hy, push_times w x id l id h, times_none id (get_or w l []) (λ q. omega (arith, f l id q)), pending_one x id l, pending_one y id l)

-- and the others are as before
pub old-times : (w : List (List ℕ)) (k : ℕ) (x : Literal) (xs : List Literal) (l : Literal) (id : ℕ) → id ≢ k → x < length w → ((y : Literal) (ys : List Literal) → xs ≡ y ∷ ys → y < length w)
    → times id (get_or (watch_clause w k x xs) l []) ≡ times id (get_or w l [])
unfolding watch_clause
old-times w k x [] l id e h f = omega (arith, push_times w x k l id h, pending_other x k l id e)
old-times w k x (y ∷ ys) l id e h f =
    let hy : y < length (push_watch w x k) = omega (arith, push_size w x k, f y ys refl) in
    omega (arith, push_times (push_watch w x k) y k l id hy, push_times w x k l id h, pending_other x k l id e, pending_other y k l id e)
