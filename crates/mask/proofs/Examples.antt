-- Worked examples of the computed definitions, each by computing. Assumes nothing.
use Rattle.std.specs.Prelude.{Some, None}
use mathlib.Core.Bool.{true, false}
use mathlib.Core.Path.{◌≡◌, refl}
use mathlib.Core.List.{[], ◌∷◌}
use Prim.Native.Nat.{◌-◌, ◌^◌}
use Rattle.mask.specs.Bit.{bit, sum, held_in}
use Rattle.mask.specs.Clear.{table_bit}
use Rattle.mask.specs.Compute.{clear_from, lowest_clear, set_bit, clear_bit}
use Rattle.mask.specs.Occupancy.{none, held, lowest, taken, freed}

lowest_of_eleven : lowest_clear 11 ≡ Some 2
unfolding lowest_clear clear_from bit
lowest_of_eleven = refl

last_one : lowest_clear (2 ^ 63 - 1) ≡ Some 63
unfolding lowest_clear clear_from bit
last_one = refl

all_held : lowest_clear (2 ^ 64 - 1) ≡ None
unfolding lowest_clear clear_from bit
all_held = refl

-- the first mask of two is full
second_mask : clear_from 128 (table_bit ((2 ^ 64 - 1) ∷ 11 ∷ [])) 0 ≡ Some 66
unfolding clear_from table_bit bit
second_mask = refl

bit_set : set_bit 11 2 ≡ 15
unfolding set_bit bit
bit_set = refl

bit_cleared : clear_bit 15 2 ≡ 11
unfolding clear_bit bit
bit_cleared = refl

three_held : held_in 64 (bit 11) ≡ 3
unfolding sum bit
three_held = refl

-- three records are taken one after the other, and the second is freed: it comes next
second_free : held (freed (taken (taken (taken none 0) 1) 2) 1) 1 ≡ false
unfolding held taken freed
second_free = refl

third_held : held (freed (taken (taken (taken none 0) 1) 2) 1) 2 ≡ true
unfolding held taken freed
third_held = refl

second_next : lowest (freed (taken (taken (taken none 0) 1) 2) 1) ≡ Some 1
unfolding lowest taken freed
second_next = refl
