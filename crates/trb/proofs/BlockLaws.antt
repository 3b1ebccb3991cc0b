-- Four words put into a block of a table are read back whole, every other block is as it was, and the table keeps its length. Assumes nothing.
use Prim.Native.Nat.{ℕ, ◌+◌, ◌*◌, ◌≤◌, ◌<◌}
use mathlib.Core.List.{List}
use mathlib.Core.Logic.{⊎_elim}
use mathlib.Core.Path.{◌≡◌, refl}
use native.Mathlib.Omega.{arith}
use lib.ListN.{length, get_or}
use Rattle.base.proofs.Compare.{compared}
use Rattle.base.proofs.Lent.{put_length, put_same, put_before, put_behind}
use Rattle.trb.specs.Layouts.{listed, words_at, put_words}
use Rattle.trb.specs.declared.Words.{Words}

same_words : {a b c d a' b' c' d' : ℕ} → a ≡ a' → b ≡ b' → c ≡ c' → d ≡ d'
    → ◌≡◌ {A = Words} (record { w0 = a; w1 = b; w2 = c; w3 = d }) (record { w0 = a'; w1 = b'; w2 = c'; w3 = d' })
same_words p q r s = λ i. record { w0 = p i; w1 = q i; w2 = r i; w3 = s i }

-- Two tables that agree on the numbers of a block have the same words there.
agree : (l m : List ℕ) (i : ℕ) → ((k : ℕ) → k < 4 → get_or l (4 * i + k) 0 ≡ get_or m (4 * i + k) 0) → words_at l i ≡ words_at m i
unfolding words_at
agree l m i same =
    let start : 4 * i + 0 ≡ 4 * i = omega arith in
    same_words (rw start at (same 0 (omega arith))) (same 1 (omega arith)) (same 2 (omega arith)) (same 3 (omega arith))

module _ (l : List ℕ) (i : ℕ) (w : Words) (fits : 4 * i + 4 ≤ length l) where
  pub words_length : length (put_words l i w) ≡ length l
  unfolding put_words
  words_length = put_length 4 l i (listed w) refl fits

  pub words_same : words_at (put_words l i w) i ≡ w
  unfolding words_at put_words
  words_same =
      let number = put_same 4 l i (listed w) refl fits in
      let start : 4 * i + 0 ≡ 4 * i = omega arith in
      same_words (rw start at (number 0 (omega arith))) (number 1 (omega arith)) (number 2 (omega arith)) (number 3 (omega arith))

  pub words_other : (j : ℕ) → (j ≡ i → ⊥) → words_at (put_words l i w) j ≡ words_at l j
  unfolding put_words
  words_other j differs =
      ⊎_elim
      (λ (e : j ≡ i). absurd (differs e))
      (⊎_elim
      (λ (h : j < i). agree (put_words l i w) l j (λ k s. put_before 4 l i (listed w) refl fits (4 * j + k) (omega arith)))
      (λ (h : i < j). agree (put_words l i w) l j (λ k s. put_behind 4 l i (listed w) refl fits (4 * j + k) (omega arith))))
      (compared j i)
