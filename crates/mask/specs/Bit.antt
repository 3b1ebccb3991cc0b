-- Rows of bits: what it means to change one bit of a row, how many bits are set, and the sum of the numbers that belong to them.
use Rattle.std.specs.Prelude.{◌≡◌, ℕ, zero, suc, ◌+◌, ◌*◌, ◌/◌, ◌%◌, ◌^◌}

-- Bit i of the number m, 0 or 1: the row of one mask is `bit m`.
unfoldable pub bit : ℕ → ℕ → ℕ
bit m i = m / 2 ^ i % 2

-- The row g is the row f with bit i set to v, and every other bit as it was.
pub record BitIs (f : ℕ → ℕ) (i v : ℕ) (g : ℕ → ℕ) : Type 0 where
  pub here : g i ≡ v
  pub others : (k : ℕ) → (k ≡ i → ⊥) → g k ≡ f k

-- f 0 + f 1 + .. + f (n - 1).
unfoldable pub sum : ℕ → (ℕ → ℕ) → ℕ
sum zero f = 0
sum (suc n) f = sum n f + f n

-- How many of the n records of a row are held.
abbrev pub held_in : ℕ → (ℕ → ℕ) → ℕ
held_in n f = sum n f

-- What record k adds to a sum over the held records: its number w k while it is held, else 0.
unfoldable pub held_part : (ℕ → ℕ) → (ℕ → ℕ) → ℕ → ℕ
held_part f w k = f k * w k

-- The sum of the numbers of the held records, as that of the TRBs of the requests in flight.
abbrev pub held_sum : ℕ → (ℕ → ℕ) → (ℕ → ℕ) → ℕ
held_sum n f w = sum n (held_part f w)
