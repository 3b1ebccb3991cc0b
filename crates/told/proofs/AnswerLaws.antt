-- How an answer's words lie: the values behind their count, and zeros behind the values. Assumes nothing.
use Prim.Native.Nat.{ℕ, ◌<◌}
use mathlib.Core.List.{List, [], ◌∷◌, ◌++◌}
use mathlib.Core.Path.{◌≡◌, refl}
use native.Mathlib.Omega.{arith}
use lib.ListN.{length, get_or, drop}
use Rattle.told.specs.Answer.{answer_words}

-- Eight zeros of which the values take the first.
pub laid_out : (v : List ℕ) → length v < answer_words
    → v ++ drop (length v) (0 ∷ 0 ∷ 0 ∷ 0 ∷ 0 ∷ 0 ∷ 0 ∷ 0 ∷ [])
    ≡ get_or v 0 0 ∷ get_or v 1 0 ∷ get_or v 2 0 ∷ get_or v 3 0 ∷ get_or v 4 0 ∷ get_or v 5 0 ∷ get_or v 6 0 ∷ get_or v 7 0 ∷ []
laid_out [] h = refl
laid_out (a ∷ []) h = refl
laid_out (a ∷ b ∷ []) h = refl
laid_out (a ∷ b ∷ c ∷ []) h = refl
laid_out (a ∷ b ∷ c ∷ d ∷ []) h = refl
laid_out (a ∷ b ∷ c ∷ d ∷ e ∷ []) h = refl
laid_out (a ∷ b ∷ c ∷ d ∷ e ∷ f ∷ []) h = refl
laid_out (a ∷ b ∷ c ∷ d ∷ e ∷ f ∷ g ∷ []) h = refl
laid_out (a ∷ b ∷ c ∷ d ∷ e ∷ f ∷ g ∷ i ∷ []) h = refl
laid_out (a ∷ b ∷ c ∷ d ∷ e ∷ f ∷ g ∷ i ∷ j ∷ rest) h = absurd (omega arith)
