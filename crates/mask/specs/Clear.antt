-- The lowest clear bit of any row of n bits: one mask is the row `bit m` of 64, a table of several masks the row `table_bit ms`.
use Rattle.std.specs.Prelude.{◌≡◌, List, ℕ, ◌/◌, ◌%◌, ◌<◌, get_or, Option, Some, None}
use Rattle.mask.specs.Bit.{bit}

-- Bit i of the row is clear, and every lower one is set.
pub record LowestClear (n : ℕ) (f : ℕ → ℕ) (i : ℕ) : Type 0 where
  pub within : i < n
  pub clear : f i ≡ 0
  pub lower : (k : ℕ) → k < i → f k ≡ 1

-- The answer `Some i` says that i is the lowest clear bit, and `None` that all n are set.
abbrev pub Answers : (n : ℕ) → (ℕ → ℕ) → Option ℕ → Type 0
Answers n f (Some i) = LowestClear n f i
Answers n f None = (k : ℕ) → k < n → f k ≡ 1

-- Bit i of a table of masks, 64 bits in each.
unfoldable pub table_bit : List ℕ → ℕ → ℕ
table_bit ms i = bit (get_or ms (i / 64) 0) (i % 64)
