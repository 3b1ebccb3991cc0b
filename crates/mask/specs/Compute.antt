-- What the functions answer, as definitions that compute at numerals.
use Rattle.std.specs.Prelude.{true, false, ℕ, zero, suc, ◌+◌, ◌-◌, ◌*◌, ◌^◌, eqb, Option, Some, None}
use Rattle.mask.specs.Bit.{bit}

-- The first clear bit of n bits of the row f, from bit i on.
unfoldable pub clear_from : ℕ → (ℕ → ℕ) → ℕ → Option ℕ
clear_from zero f i = None
clear_from (suc n) f i = elim (eqb (f i) 0) [ true ↦ Some i | false ↦ clear_from n f (suc i) ]

-- The record that is taken next.
unfoldable pub lowest_clear : ℕ → Option ℕ
lowest_clear m = clear_from 64 (bit m) 0

-- The mask m with bit i set: 2 ^ i more, if it was clear.
unfoldable pub set_bit : ℕ → ℕ → ℕ
set_bit m i = m + (1 - bit m i) * 2 ^ i

-- The mask m with bit i clear: 2 ^ i less, if it was set.
unfoldable pub clear_bit : ℕ → ℕ → ℕ
clear_bit m i = m - bit m i * 2 ^ i
