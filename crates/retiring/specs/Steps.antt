-- One record of a retire.
use Rattle.std.specs.Prelude.{ℕ, ◌-◌, List}
use Rattle.base.specs.First.{pick}
use Rattle.mask.specs.declared.Occupancy.{Occupancy}
use Rattle.records.specs.States.{stopped}
use Rattle.records.specs.Records.{state_word, record_at, set_word}
use Rattle.dock.specs.RowOne.{flies}

-- One record: outstanding and the table afterwards.
unfoldable pub retire_one : Occupancy → ℕ → List ℕ → ℕ → ℕ × List ℕ
retire_one occupancy outstanding records r =
    pick (flies records occupancy r) (outstanding - (record_at records r).count, set_word records r state_word stopped) (outstanding, records)
