-- Worked examples of the id search and of the lookup, each by computing. Assumes nothing.
use Rattle.std.specs.Prelude.{Some, None}
use mathlib.Core.Path.{◌≡◌, refl}
use mathlib.Core.List.{[], ◌∷◌}
use Prim.Native.Nat.{ℕ, ◌-◌, ◌^◌}
use lib.ListN.{get_or}
use Rattle.mask.specs.Occupancy.{none, held, taken}
use Rattle.mask.specs.declared.Occupancy.{Occupancy}
use Rattle.ids.specs.Order.{after_id}
use Rattle.ids.specs.Free.{held_by, any, free_from, free_id, free_in}
use Rattle.ids.specs.Lookup.{find_from, find_id}

-- the next id 2^64 - 1 is taken, and 1 comes next
last_taken : free_in [] none (2 ^ 64 - 1) ≡ 2 ^ 64 - 1
unfolding free_id any held_by free_from held
last_taken = refl

then_one : after_id (2 ^ 64 - 1) ≡ 1
then_one = refl

-- the ids of three records
abbrev three : ℕ → ℕ
three r = get_or ((2 ^ 64 - 1) ∷ 2 ∷ 1 ∷ []) r 0

abbrev outer : Occupancy
outer = taken (taken none 0) 2

-- held: 2^64 - 1 and 1, in the records 0 and 2; record 1 has the id 2 and is not held
round_the_end : free_id 64 (held outer) three (2 ^ 64 - 1) ≡ 2
unfolding free_id any held_by free_from held taken
round_the_end = refl

-- with record 1 held too, 3 is the first free id
all_three : free_id 64 (held (taken outer 1)) three (2 ^ 64 - 1) ≡ 3
unfolding free_id any held_by free_from held taken
all_three = refl

-- the id 2 is found where record 1 is held
found : find_id 64 (held (taken outer 1)) three 2 ≡ Some 1
unfolding find_id held_by find_from held taken
found = refl

not_found : find_id 64 (held outer) three 2 ≡ None
unfolding find_id held_by find_from held taken
not_found = refl

-- of the records 3 to 63, which all have the id 0, the lowest held one counts
lower_counts : find_id 64 (held (taken (taken none 9) 63)) three 0 ≡ Some 9
unfolding find_id held_by find_from held taken
lower_counts = refl
