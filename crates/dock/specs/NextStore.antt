-- The next store of a submission: "each changing one slot only". "The last store answers the id and doorbell word (the dci)."
use Rattle.std.specs.Prelude.{ℕ, ◌+◌, ◌%◌, ◌^◌, Bool, true, not, ◌&&◌, List, [], ◌∷◌, eqb, length, Result, Ok, Err}
use Rattle.base.specs.First.{pick, first}
use Rattle.ring.specs.Ring.{cycle_by, position_by, ring_by}
use Rattle.ring.specs.declared.Manner.{Manner}
use Rattle.ring.specs.declared.Manner.TheVariants.{Onward, Around, Again}
use Rattle.ring.specs.declared.Position.{Position}
use Rattle.finished.specs.Finished.{clear_place}
use Rattle.sizes.specs.Sizes.{ring_size, packets_size}
use Rattle.records.specs.Kinds.{kind_is, isoch}
use Rattle.records.specs.Records.{record_at}
use Rattle.records.specs.declared.Record.{Record}
use Rattle.dock.specs.declared.Endpoint.{Endpoint}
use Rattle.dock.specs.declared.Stored.{Stored}
use Rattle.dock.specs.declared.Refusal.{Refusal}
use Rattle.dock.specs.declared.After.{After}
use Rattle.dock.specs.declared.Stored.TheVariants.{Slot, Last}
use Rattle.dock.specs.Refusals.{refusal}
use Rattle.dock.specs.declared.Work.{Work}
use Rattle.dock.specs.RowOne.{fits_with, Next, the_link, the_trb, the_first, none, next_of, is_none}
use Rattle.dock.specs.State.{idle, with_store}
use Rattle.dock.specs.Trbs.{trb_of, packet_size, deferred, first_trb, link_for, frame_after}

-- Row 1, then 10: "a store .. with none under way".
unfoldable pub store_tests : Endpoint → ℕ → ℕ → List ℕ → ℕ → List (Bool × ℕ)
store_tests e ring finished records packets =
    (not (fits_with e records && eqb ring (ring_size e.shape.slots) && eqb finished (ring_size e.shape.slots) && eqb packets packets_size), 1)
    ∷ (not e.work.busy, 10)
    ∷ []

unfoldable pub store_no : Endpoint → ℕ → ℕ → List ℕ → ℕ → ℕ
store_no e ring finished records packets = first (store_tests e ring finished records packets)

-- The work with so many TRBs stored, and the running address,
abbrev pub with_stored : Work → ℕ → ℕ → Work
with_stored w stored address =
    record { busy = true; number = w.number; stored = stored; address = address; place = w.place; cycle = w.cycle }

-- which an ISO packet moves on by its length, modulo 2^64. Document 02: "An empty packet's address is taken modulo 2^64."
abbrev pub run_on : Endpoint → Record → List ℕ → ℕ
run_on e v packets =
    pick (kind_is v.kind isoch) ((e.work.address + packet_size e packets e.work.stored) % 2 ^ 64) e.work.address

abbrev pub frame_on : Endpoint → Record → ℕ
frame_on e v = pick (kind_is v.kind isoch) (frame_after e.periodic.frame e.periodic.interval) e.periodic.frame

-- How the next TRB is stored: the first TRB of a deferred TD goes out with the opposite cycle, the rest as usual.
abbrev pub manner_of : Endpoint → Record → Manner
manner_of e v = Onward (deferred v && eqb e.work.stored 0)

abbrev pub first_cycle : Endpoint → Record → Bool
first_cycle e v = cycle_by (manner_of e v) e.at.cycle

-- Where the first TRB of the submission under way stands.
abbrev pub first_at : Work → Position
first_at w = record { place = w.place; cycle = w.cycle }

-- The endpoint after a store; "Reaching L-1 it adds a second store, the link at L-1 with the old cycle, then place 0 and the cycle toggled".
unfoldable pub stepped : Next → Endpoint → Record → List ℕ → Endpoint
stepped the_link e v packets = with_store e (position_by Around e.at) e.periodic.frame (with_stored e.work e.work.stored e.work.address)
stepped the_trb e v packets =
    with_store e (position_by (manner_of e v) e.at) (frame_on e v) (with_stored e.work (e.work.stored + 1) (run_on e v packets))
stepped the_first e v packets = with_store e e.at e.periodic.frame (with_stored e.work (e.work.stored + 1) e.work.address)
stepped none e v packets = e

-- The slot that the store changes,
unfoldable pub slot_stored : Next → Endpoint → ℕ
slot_stored the_link e = e.at.place
slot_stored the_trb e = e.at.place
slot_stored the_first e = e.work.place
slot_stored none e = 0

-- the ring afterwards,
unfoldable pub ring_stored : Next → Endpoint → Record → List ℕ → List ℕ → List ℕ
ring_stored the_link e v packets ring = ring_by Around ring e.at (link_for e v)
ring_stored the_trb e v packets ring = ring_by (manner_of e v) ring e.at (trb_of e v packets e.work.stored)
ring_stored the_first e v packets ring = ring_by Again ring (first_at e.work) (first_trb e v packets)
ring_stored none e v packets ring = ring

-- and the finished table: "a TRB's first store clears it .. The link's store and a setup's second store clear nothing."
unfoldable pub finished_stored : Next → Endpoint → List ℕ → List ℕ
finished_stored the_link e finished = finished
finished_stored the_trb e finished = clear_place finished e.at.place
finished_stored the_first e finished = finished
finished_stored none e finished = finished

-- After the last store nothing is under way.
unfoldable pub settled : Endpoint → Record → Endpoint
settled e v = pick (is_none (next_of e v)) (with_store e e.at e.periodic.frame idle) e

unfoldable pub stored_answer : Next → Endpoint → Endpoint → Record → Result Stored Refusal
stored_answer n before after v =
    pick (is_none (next_of after v)) (Ok (Last (slot_stored n before) v.id before.who.dci)) (Ok (Slot (slot_stored n before)))

unfoldable pub store : Endpoint → List ℕ → List ℕ → List ℕ → List ℕ → After Stored × List ℕ × List ℕ
store e ring finished records packets =
    let no = store_no e (length ring) (length finished) records (length packets) in
    let v = record_at records e.work.number in
    let n = next_of e v in
    pick (eqb no 0) (
      record { answer = stored_answer n e (stepped n e v packets) v; endpoint = settled (stepped n e v packets) v },
      ring_stored n e v packets ring,
      finished_stored n e finished,
    )
    (record { answer = Err (refusal no); endpoint = e }, ring, finished)
