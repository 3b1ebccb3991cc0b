-- What the start of a submission needs of its tests.
use Rattle.std.specs.Prelude.{ℕ, ◌+◌, ◌≤◌, ◌<◌, ◌≡◌}
use Rattle.sizes.specs.Sizes.{most_slots, capacity, records_size, packet_count, packets_size}
use Rattle.dock.specs.declared.Endpoint.{Endpoint}
use Rattle.dock.specs.declared.Request.{Request}
use Rattle.dock.specs.Requests.{given_of, required}

-- The sizes of its tables, an id to begin the search at, room for its TRBs, and no more packets than a record has.
abbrev pub Admitted : Endpoint → ℕ → ℕ → Request → ℕ → Type 0
Admitted e records packets request count =
    (records ≡ records_size)
    × (packets ≡ packets_size)
    × (0 < e.account.next)
    × (e.account.outstanding + required request count ≤ capacity most_slots)
    × (given_of request.what count ≤ packet_count)
