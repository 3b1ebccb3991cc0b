-- One store by its parts, with the size of its packet read already.
use Rattle.std.specs.Prelude.{ℕ, ◌+◌, List}
use Rattle.ring.specs.Ring.{position_by, ring_by}
use Rattle.ring.specs.declared.Manner.TheVariants.{Around, Again}
use Rattle.finished.specs.Finished.{clear_place}
use Rattle.records.specs.Records.{record_at}
use Rattle.records.specs.declared.Record.{Record}
use Rattle.dock.specs.declared.Endpoint.{Endpoint}
use Rattle.dock.specs.declared.After.{After}
use Rattle.dock.specs.declared.Stored.{Stored}
use Rattle.dock.specs.RowOne.{Next, next_of}
use Rattle.dock.specs.State.{with_store}
use Rattle.dock.specs.Trbs.{link_for}
use Rattle.dock.specs.NextStore.{with_stored, manner_of, first_at, stepped, ring_stored, finished_stored, settled, stored_answer}
use Rattle.trbs.specs.Trbs.{first_of, trb_with}
use Rattle.steps.specs.Steps.{advanced_by, concluded_by}

-- The link's store,
unfoldable pub link_by : Endpoint → Record → List ℕ → After Stored × List ℕ
link_by e v ring = (
  concluded_by (with_store e (position_by Around e.at) e.periodic.frame (with_stored e.work e.work.stored e.work.address)) v e.at.place,
  ring_by Around ring e.at (link_for e v),
)

-- a TRB's,
unfoldable pub trb_by : Endpoint → Record → ℕ → List ℕ → List ℕ → After Stored × List ℕ × List ℕ
trb_by e v size ring finished = (
  concluded_by (advanced_by e (position_by (manner_of e v) e.at) v size) v e.at.place,
  ring_by (manner_of e v) ring e.at (trb_with e v size e.work.stored),
  clear_place finished e.at.place,
)

-- and the first TRB's, again.
unfoldable pub first_by : Endpoint → Record → List ℕ → After Stored × List ℕ
first_by e v ring = (
  concluded_by (with_store e e.at e.periodic.frame (with_stored e.work (e.work.stored + 1) e.work.address)) v e.work.place,
  ring_by Again ring (first_at e.work) (first_of v),
)

-- What a store that is not refused answers and leaves, by what it is,
unfoldable pub stored_with : Next → Endpoint → Record → List ℕ → List ℕ → List ℕ → After Stored × List ℕ × List ℕ
stored_with n e v ring finished packets = (
  record { answer = stored_answer n e (stepped n e v packets) v; endpoint = settled (stepped n e v packets) v },
  ring_stored n e v packets ring,
  finished_stored n e finished,
)

-- and by the tables.
unfoldable pub stored_by : Endpoint → List ℕ → List ℕ → List ℕ → List ℕ → After Stored × List ℕ × List ℕ
stored_by e ring finished records packets =
    let v = record_at records e.work.number in
    stored_with (next_of e v) e v ring finished packets
