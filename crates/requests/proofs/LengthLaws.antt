-- The packet lengths: a loop that copies them comes to `paste`.
-- Assumes nothing.
use Prim.Native.Nat.{ℕ, ◌+◌, ◌≤◌, ◌<◌}
use mathlib.Core.List.{List, [], ◌∷◌}
use mathlib.Core.Path.{◌≡◌, refl, sym, ap, ◌∙◌}
use native.Mathlib.Numerals.{add-one}
use native.Mathlib.Omega.{arith}
use lib.ListN.{length, get_or, set}
use lib.Seq.{paste, paste-suc, length-paste}
use Rattle.dock.specs.Start.{at_least_one}

-- ---- copied

module _ (d s l : List ℕ) (at i : ℕ) (room : at + length s ≤ length d) (same : l ≡ paste d at s i) where
  pub copied : i < length s → set l (at + i) (get_or s i 0) ≡ paste d at s (i + 1)
  copied h =
      ap (λ (x : List ℕ). set x (at + i) (get_or s i 0)) same
      ∙ paste-suc d at s i 0 (omega arith) h
      ∙ ap (λ (n : ℕ). paste d at s n) (sym (add-one i))

  pub copied_length : i ≤ length s → length l ≡ length d
  copied_length h = ap length same ∙ length-paste d at s i (omega arith) h

-- ---- none given

pub none_given : (l : List ℕ) → length l ≡ 0 → at_least_one l ≡ 0 ∷ []
none_given [] e = refl
none_given (n ∷ ns) e = absurd (omega arith)

pub some_given : (l : List ℕ) → (length l ≡ 0 → ⊥) → at_least_one l ≡ l
some_given [] d = absurd (d refl)
some_given (n ∷ ns) d = refl
