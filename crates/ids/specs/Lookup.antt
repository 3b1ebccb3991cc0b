-- The lowest held record with an id, over any number n of records.
use Rattle.std.specs.Prelude.{◌≡◌, Bool, true, false, List, ℕ, zero, suc, ◌<◌, Option, Some, None}
use Rattle.mask.specs.Occupancy.{held}
use Rattle.mask.specs.declared.Occupancy.{Occupancy}
use Rattle.sizes.specs.Sizes.{record_count}
use Rattle.ids.specs.Free.{held_by, id_at}

-- The first of n records that passes the test, from record r on.
unfoldable pub find_from : ℕ → (ℕ → Bool) → ℕ → Option ℕ
find_from zero test r = None
find_from (suc n) test r = elim (test r) [ true ↦ Some r | false ↦ find_from n test (suc r) ]

-- The record that has the id x: of two records with one id the lower counts.
unfoldable pub find_id : ℕ → (ℕ → Bool) → (ℕ → ℕ) → ℕ → Option ℕ
find_id n f ids x = find_from n (held_by f ids x) 0

-- Record r passes the test, and no lower one does.
pub record Lowest (n : ℕ) (test : ℕ → Bool) (r : ℕ) : Type 0 where
  pub within : r < n
  pub here : test r ≡ true
  pub lower : (k : ℕ) → k < r → test k ≡ false

-- The answer `Some r` says that r is the lowest record that passes, and `None` that none of the n does.
abbrev pub Finds : (n : ℕ) → (ℕ → Bool) → Option ℕ → Type 0
Finds n test (Some r) = Lowest n test r
Finds n test None = (k : ℕ) → k < n → test k ≡ false

-- The record of a table that has the id x, where the records are held that the occupancy says.
abbrev pub find_in : List ℕ → Occupancy → ℕ → Option ℕ
find_in records occupancy x = find_id record_count (held occupancy) (id_at records) x
