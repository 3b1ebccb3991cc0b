-- What is read past the end of a list. Assumes nothing.
use Prim.Native.Nat.{ℕ, zero, suc, ◌≤◌}
use mathlib.Core.List.{List, [], ◌∷◌}
use mathlib.Core.Path.{◌≡◌, refl}
use native.Mathlib.Omega.{arith}
use lib.ListN.{length, get_or}

pub read_past : (l : List ℕ) (i : ℕ) → length l ≤ i → get_or l i 0 ≡ 0
read_past [] i h = refl
read_past (x ∷ xs) zero h = absurd (omega arith)
read_past (x ∷ xs) (suc i) h = read_past xs i (omega arith)
