-- Bytes written one after another over the first ones of a lent list. Assumes nothing.
use Rattle.std.specs.Prelude.{◌≡◌, refl, List, [], ◌∷◌, ◌++◌, ℕ, zero, suc, Bool, ◌+◌, ◌-◌, ◌<◌, length, set}
use Rattle.std.proofs.Common.{ap, sym, add-one, ◌∙◌, append-nil, append_assoc, arith, length-append, length-drop, length-set, drop-cons}
use Rattle.std.proofs.Math.Seq.{set-append_seam}
use Rattle.model.specs.Lists.{snoc}
use Rattle.model.specs.Equivalence.{byte}
use Rattle.model.specs.Check.{overwrite}

-- From a list of which the first `place` were written, bs were written after them.
pub record Wrote (place : ℕ) (bs t t' : List ℕ) : Type 0 where
  pub same_length : length t' ≡ length t
  pub is : (p lent : List ℕ) → length p ≡ place → t ≡ overwrite p lent → t' ≡ overwrite (p ++ bs) lent

-- nothing
pub wrote_none : (place : ℕ) (t : List ℕ) → Wrote place [] t t
wrote_none place t = record { same_length = refl; is = λ p lent e q. q ∙ ap (λ (x : List ℕ). overwrite x lent) (sym (append-nil p)) }

length-overwrite : (p lent : List ℕ) → length (overwrite p lent) ≡ length p + (length lent - length p)
unfolding overwrite
length-overwrite p lent = simp (length-append, length-drop)

overwrite-one : (p lent : List ℕ) (b : ℕ) → length p < length lent → set (overwrite p lent) (length p) b ≡ overwrite (snoc p b) lent
unfolding overwrite snoc
overwrite-one p lent b h =
    let e : length (p ++ (b ∷ [])) ≡ suc (length p) = simp length-append (omega arith) in
    rw (drop-cons lent (length p) 0 h, set-append_seam, e, append_assoc)

-- one byte more
pub wrote_more : (place : ℕ) (bs t₀ t : List ℕ) (i b : ℕ) → i ≡ place + length bs → i < length t → Wrote place bs t₀ t → Wrote place (snoc bs b) t₀ (set t i b)
unfolding snoc
wrote_more place bs t₀ t i b e h k = record { same_length = length-set t i b ∙ k.same_length; is = go }
  where
    go : (p lent : List ℕ) → length p ≡ place → t₀ ≡ overwrite p lent → set t i b ≡ overwrite (p ++ (bs ++ (b ∷ []))) lent
    go p lent q r =
        let s : t ≡ overwrite (p ++ bs) lent = k.is p lent q r in
        let l : length (p ++ bs) ≡ i = simp length-append (omega arith) in
        let m : length t ≡ length (p ++ bs) + (length lent - length (p ++ bs)) = ap length s ∙ length-overwrite (p ++ bs) lent in
        rw (s, ← l, ← append_assoc p bs (b ∷ [])) (overwrite-one (p ++ bs) lent b (omega arith))

-- bytes after bytes
pub wrote_append : (place next : ℕ) (cs bs t t₁ t₂ : List ℕ) → next ≡ place + length cs → Wrote place cs t t₁ → Wrote next bs t₁ t₂ → Wrote place (cs ++ bs) t t₂
wrote_append place next cs bs t t₁ t₂ e j k =
    record {
      same_length = k.same_length ∙ j.same_length;
      is = λ p lent q r.
          let l : length (p ++ cs) ≡ next = simp length-append (omega arith) in
          k.is (p ++ cs) lent l (j.is p lent q r) ∙ ap (λ (x : List ℕ). overwrite x lent) (append_assoc p cs bs);
    }

-- from the first byte on
pub wrote_all : (bs t t' : List ℕ) → Wrote 0 bs t t' → t' ≡ overwrite bs t
unfolding overwrite
wrote_all bs t t' k = k.is [] t refl refl

-- the bytes of the first n bits
unfoldable pub bytes : (ℕ → Bool) → ℕ → List ℕ
bytes f zero = []
bytes f (suc n) = snoc (bytes f n) (byte (f n))

pub bytes-suc : (f : ℕ → Bool) (n : ℕ) → bytes f (n + 1) ≡ snoc (bytes f n) (byte (f n))
unfolding bytes
bytes-suc f n = rw add-one

pub length-bytes : (f : ℕ → Bool) (n : ℕ) → length (bytes f n) ≡ n
unfolding bytes snoc
length-bytes f zero = refl
length-bytes f (suc n) = simp length-append (omega (arith, length-bytes f n))
