-- What a store needs of its tests.
use Rattle.std.specs.Prelude.{ℕ, ◌+◌, ◌≤◌, List, ◌≡◌, length}
use Rattle.base.specs.First.{pick}
use Rattle.sizes.specs.Sizes.{ring_size, records_size, packet_count, packets_size}
use Rattle.records.specs.Records.{record_at}
use Rattle.dock.specs.declared.Endpoint.{Endpoint}
use Rattle.dock.specs.Trbs.{deferred}
use Rattle.checks.specs.Shown.{Shown}

-- The first place that a later store reads: a deferred TD's. That of another TD is none, and 0 stands for it.
abbrev pub first_read : Endpoint → List ℕ → ℕ
first_read e records = pick (deferred (record_at records e.work.number)) e.work.place 0

-- What they have shown of the finished table, that first place and the record; the sizes of the other tables; the place of the next store, which may be the
-- link's; and as many TRBs stored as a request has at most.
abbrev pub Ready : Endpoint → ℕ → ℕ → List ℕ → ℕ → Type 0
Ready e ring finished records packets =
    Shown e.shape.slots finished (first_read e records) e.work.number
    × (ring ≡ ring_size e.shape.slots)
    × (length records ≡ records_size)
    × (packets ≡ packets_size)
    × (e.at.place + 1 ≤ e.shape.slots)
    × (e.work.stored ≤ packet_count)
