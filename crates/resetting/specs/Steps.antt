-- What a reset asks of the account.
use Rattle.std.specs.Prelude.{ℕ, Bool, not, ◌||◌, List, eqb}
use Rattle.mask.specs.declared.Occupancy.{Occupancy}
use Rattle.sizes.specs.Sizes.{record_count}
use Rattle.ids.specs.Free.{any}
use Rattle.dock.specs.RowOne.{flies}

-- Requests in flight, or TRBs outstanding, from the numbers of the account.
unfoldable pub occupied_by : List ℕ → Occupancy → ℕ → Bool
occupied_by records occupancy outstanding = any record_count (flies records occupancy) || not (eqb outstanding 0)
