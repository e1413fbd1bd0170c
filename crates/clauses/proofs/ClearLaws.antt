-- The words of a search before its first clause. Assumes nothing.
use Rattle.std.specs.Prelude.{◌≡◌, ℕ, zero, suc, ◌*◌, ◌<◌, ◌≤◌, get_or, length, take, replicate}
use Rattle.std.proofs.Math.Path.{refl, sym, subst}
use Rattle.std.proofs.Common.{◌∙◌, ⊎_elim, get_or-set_same}
use mathlib.Core.List.{List, []}
use native.Mathlib.Omega.{arith}
use Rattle.std.proofs.lemmas.List.{length-replicate}
use Rattle.std.proofs.Math.ListN.{get_or-replicate}
use Rattle.std.proofs.Math.Seq.{ext_get_or, get_or-take}
use Rattle.facts.specs.Numbers.{below}
use Rattle.words.specs.Layout.{LENT, WATCH-COUNTS, CLAUSE-STARTS}
use Rattle.words.specs.Fill.{filled, get_or-filled}
use Rattle.words.specs.Region.{region, stored_in, stored_out, length-stored, cleared_in, cleared_out, length-cleared, length-region}
use Rattle.model.specs.Lists.{member}
use Rattle.assignment.specs.State.{Unchanged}
use Rattle.assignment.specs.StateLaws.{unchanged_none, unchanged_stored, unchanged_cleared, get_or-past}
use Rattle.clauses.specs.Tabulate.{tabulate, length-tabulate, get_or-tabulate}
use Rattle.clauses.specs.Members.{In, Once}
use Rattle.clauses.specs.Queue.{Queues, queues_of, queue, walk}
use Rattle.clauses.specs.Sound.{SoundQueues, lists}
use Rattle.clauses.specs.Clauses.{clauses_of, watches_of, watchers}
use Rattle.clauses.specs.State.{watch_regions, cleared_words, Cleared}
use Rattle.clauses.specs.StepLaws.{same-assignment}

-- queues without cells are sound
empty-sound : (q : Queues) → ((l : ℕ) → queue q l ≡ []) → SoundQueues q 0 []
unfolding lists
empty-sound q e = record {
  ends = λ l. rw (e l) tt;
  apart = λ a b c i j. absurd (nothing a c i);
  once = once;
  below = λ a c i. absurd (nothing a c i);
}
  where
    nothing : (a c : ℕ) → In c (lists q [] a) → ⊥
    nothing zero c i = i
    nothing (suc l) c i = rw (e l) at i

    once : (a : ℕ) → Once (lists q [] a)
    once zero = tt
    once (suc l) = rw (e l) tt

module _ (n : ℕ) (w : List ℕ) (h : LENT ≤ length w) where
  all-zero : (l : ℕ) → get_or (take (n * 2) (region WATCH-COUNTS (cleared_words n w))) l 0 ≡ 0
  unfolding cleared_words
  all-zero l = rw (stored_out WATCH-COUNTS _ CLAUSE-STARTS 0 0 refl, cleared_in WATCH-COUNTS w _) (⊎_elim
      (λ (c : l < n * 2). get_or-take (n * 2) (filled 0 _ (region WATCH-COUNTS w)) l 0 c ∙ get_or-filled 0 _ (region WATCH-COUNTS w) l (omega arith))
      (λ (c : n * 2 ≤ l). sym (get_or-past (n * 2) _ l c))
      (below l (n * 2)))

  no_cells : (l : ℕ) → queue (queues_of n (cleared_words n w)) l ≡ []
  unfolding queue queues_of walk
  no_cells l = rw (all-zero l)

  words_unchanged : Unchanged watch_regions w (cleared_words n w)
  unfolding cleared_words member
  words_unchanged = unchanged_stored watch_regions CLAUSE-STARTS 0 0 refl (unchanged_cleared watch_regions WATCH-COUNTS _ refl (unchanged_none watch_regions w) refl) refl

  words-length : length (cleared_words n w) ≡ length w
  unfolding cleared_words
  words-length = length-stored CLAUSE-STARTS _ 0 0 ∙ length-cleared WATCH-COUNTS w _

  no-watches : watches_of n (cleared_words n w) ≡ replicate (n * 2) []
  unfolding watches_of watchers
  no-watches = ext_get_or [] (tabulate (n * 2) (watchers (queues_of n (cleared_words n w)))) (replicate (n * 2) []) (length-tabulate (n * 2) _ ∙ sym (length-replicate (n * 2) []))
      (λ i k. let b : i < n * 2 = omega (arith, length-tabulate (n * 2) (watchers (queues_of n (cleared_words n w)))) in
      get_or-tabulate (n * 2) (watchers (queues_of n (cleared_words n w))) i [] b ∙ rw (no_cells i, get_or-replicate {A = List ℕ} (n * 2) i [] [] b))

  first-start : get_or (region CLAUSE-STARTS (cleared_words n w)) 0 0 ≡ 0
  unfolding cleared_words
  first-start = rw (stored_in CLAUSE-STARTS _ 0 0, cleared_out CLAUSE-STARTS w WATCH-COUNTS _ refl)
      (get_or-set_same (region CLAUSE-STARTS w) 0 0 0 (omega (arith, length-region CLAUSE-STARTS w (omega arith))))

  pub no-clause : (u : List ℕ) → u ≡ cleared_words n w → Cleared n w (record { clauses = 0; literals = 0 }) u
  unfolding clauses_of tabulate
  no-clause u e = record {
    frame = rw e words_unchanged;
    clauses = refl;
    literals = refl;
    none = refl;
    watches = rw e no-watches;
    assignment = λ t. rw e (same-assignment t w (cleared_words n w) words_unchanged);
    sound = λ t v r s k. rw e (record {
      formed = record {
        ready = record { words = rw words-length h; variables = r.variables; literals = r.literals; levels = r.levels };
        some = s;
        clauses = omega arith;
        literals = omega arith;
        last = first-start;
        within = λ i b. let z : i ≡ 0 = omega arith in rw (z, first-start) (omega arith);
        range = λ i b. absurd (omega arith);
        watching = record { apart = λ i b. absurd (omega arith); first = λ i b. absurd (omega arith); second = λ i b. absurd (omega arith) };
        room = rw (same-assignment t w (cleared_words n w) words_unchanged) k;
      };
      queues = subst (λ (i : ℕ). SoundQueues (queues_of i (cleared_words n w)) 0 []) (sym v) (empty-sound (queues_of n (cleared_words n w)) no_cells);
    });
  }
