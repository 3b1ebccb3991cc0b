-- What an admitted submission takes, by the number of its packet lengths.
use Rattle.std.specs.Prelude.{ℕ, ◌+◌, List}
use Rattle.base.specs.Part.{put}
use Rattle.mask.specs.Occupancy as masks
use Rattle.sizes.specs.Sizes.{record_words}
use Rattle.ids.specs.Free.{free_in}
use Rattle.ids.specs.Order.{after_id}
use Rattle.records.specs.Records.{record_list}
use Rattle.dock.specs.declared.Endpoint.{Endpoint}
use Rattle.dock.specs.declared.Request.{Request}
use Rattle.dock.specs.Requests.{required, record_for}
use Rattle.dock.specs.Start.{number_from, begun, record_taken, started_endpoint, started_records, write_packets}
use Rattle.dock.specs.State.{with_work}
use Rattle.starting.specs.declared.Begun.{Begun}

-- The endpoint after the start, with the id after the one that was taken.
unfoldable pub started_by : Endpoint → ℕ → ℕ → Request → ℕ → Endpoint
started_by e next number request count =
    with_work e
    (record {
      next = next;
      occupancy = masks.taken e.account.occupancy number;
      outstanding = e.account.outstanding + required request count;
    })
    (begun e number request)

-- What it takes: the endpoint and the record that is kept, and the records with that one in.
unfoldable pub taken_with : Endpoint → List ℕ → Request → ℕ → Begun × List ℕ
taken_with e records request count =
    let id = free_in records e.account.occupancy e.account.next in
    let number = number_from (masks.lowest e.account.occupancy) in
    let v = record_for request count id e.at.place in
    (record { endpoint = started_by e (after_id id) number request count; kept = v }, put record_words records number (record_list v))

-- All that an admitted start leaves.
unfoldable pub begun_with : Endpoint → List ℕ → List ℕ → Request → List ℕ → Endpoint × List ℕ × List ℕ
begun_with e records packets request lengths =
    (started_endpoint e records request lengths, started_records e records request lengths, write_packets packets (record_taken e) request.what lengths)
