-- What every call answers, by document 01's rows: its tests in order, the number beside the first that holds, 0 where none does; and the values, by the
-- definitions' own parts.
-- `answered_is` (proofs/AnsweredLaws) says that it is what the call answers.
use Rattle.std.specs.Prelude.{ℕ, Bool, true, false, not, ◌&&◌, ◌||◌, List, [], ◌∷◌, ◌++◌, eqb, ltb, length, Option, Some, None}
use Rattle.trb.specs.declared.Words.{Words}
use Rattle.base.specs.Fields.{flag}
use Rattle.base.specs.First.{pick, first}
use Rattle.ids.specs.Lookup.{find_in}
use Rattle.ring.specs.Ring.{slot_address}
use Rattle.trb.specs.Layouts.{listed}
use Rattle.finished.specs.Finished.{finished_at}
use Rattle.records.specs.Kinds.{kind_is, control, bulk, interrupt, isoch}
use Rattle.records.specs.States.{state_is, in_flight, stopped}
use Rattle.records.specs.Records.{record_at}
use Rattle.records.specs.declared.Record.{Record}
use Rattle.dock.specs.Configure.{plain_tests}
use Rattle.dock.specs.RowOne.{next_of, is_none}
use Rattle.dock.specs.Start.{start_tests, id_taken}
use Rattle.dock.specs.NextStore.{store_tests, slot_stored, stepped}
use Rattle.dock.specs.Submit.{submit_tests}
use Rattle.dock.specs.HandOver.{hand_over_tests, slot_number, slot_for}
use Rattle.dock.specs.Worth.{accepted, moved_bytes}
use Rattle.dock.specs.Reclaim.{complete_tests, code_of, remaining_of, recorded_length, recorded_by, status_place, data_seen, total, Swept, unfinished, fatal, found, sweep, reclaim_tests}
use Rattle.dock.specs.Cancel.{cancel_tests}
use Rattle.dock.specs.Retire.{record_tests}
use Rattle.dock.specs.Reset.{begin_tests, end_tests}
use Rattle.dock.specs.Commands.{reset_words, dequeue_words, stop_words}
use Rattle.dock.specs.Numbers.{Numbered}
use Rattle.dock.specs.Run.{State, Call, configures, starts, stores, submits, hands, reclaims, cancels, retires, begins, ends, stops, resumes, points}

-- ---- what a request that is reclaimed has come to

-- What the events of a request in flight tell: it goes on, or is ended by a code, refused or not, with so many bytes.
pub data Ending : Type 0 where
  going : Ending
  ended_by : (code : ℕ) (fails : Bool) (size : ℕ) → Ending

-- A last event ends the request, whatever its code;
abbrev pub bulk_ending : Option Words → Record → Ending
bulk_ending None v = going
bulk_ending (Some w) v = ended_by (code_of w) (not (accepted (code_of w))) (moved_bytes v.length (remaining_of w))

abbrev pub status_ending : Option Words → ℕ → Ending
status_ending None size = going
status_ending (Some w) size = ended_by (code_of w) (not (accepted (code_of w))) size

-- that of an earlier stage only where its code is refused;
abbrev pub stage_ending : Option Words → Ending → Ending
stage_ending None more = more
stage_ending (Some w) more = pick (accepted (code_of w)) more (ended_by (code_of w) true 0)

-- and of an ISO request the walk over its packets says it.
abbrev pub swept_ending : Swept → ℕ → Ending
swept_ending unfinished size = going
swept_ending (fatal code) size = ended_by code true 0
swept_ending (found code) size = ended_by code false size

unfoldable pub ending_of : State → Record → ℕ → Ending
ending_of s v number =
    let seen = data_seen s.endpoint s.finished v in
    let swept = sweep s.endpoint.shape.slots s.finished v number v.count 0 s.packets in
    pick (kind_is v.kind control)
    (stage_ending (finished_at s.finished v.place)
    (stage_ending seen (status_ending (finished_at s.finished (status_place s.endpoint v)) (recorded_length v (recorded_by seen v)))))
    (pick (kind_is v.kind isoch) (swept_ending swept.0 (total v.count swept.1 number))
    (pick (kind_is v.kind bulk || kind_is v.kind interrupt) (bulk_ending (finished_at s.finished v.place) v) going))

-- What an id has come to: no request is held with it, or one that is not over; a stopped one; or one that completes.
pub data Came : Type 0 where
  nowhere : Came
  to_stop : Came
  to_end : (v : Record) (code : ℕ) (fails : Bool) (size : ℕ) → Came

abbrev pub came_by : Ending → Record → Came
came_by going v = nowhere
came_by (ended_by code fails size) v = to_end v code fails size

abbrev pub came_of : State → Option ℕ → Came
came_of s None = nowhere
came_of s (Some r) =
    let v = record_at s.records r in
    pick (state_is v.state stopped) to_stop (pick (state_is v.state in_flight) (came_by (ending_of s v r) v) nowhere)

unfoldable pub came_to : State → ℕ → Came
came_to s id = came_of s (find_in s.records s.endpoint.account.occupancy id)

-- "reclaim of an unknown or unfinished id" is 10, "reclaim of a stopped id" 7; "for a completion 7, 9, 8".
abbrev pub came_tests : Came → List (Bool × ℕ)
came_tests nowhere = (true, 10) ∷ []
came_tests to_stop = (true, 7) ∷ []
came_tests (to_end v code fails size) = complete_tests v fails

-- A completion that is done has id, length and yes; "completion code refused, with the code number".
abbrev pub came_values : Came → ℕ → List ℕ
came_values nowhere row = []
came_values to_stop row = []
came_values (to_end v code fails size) row =
    pick (eqb row 8) (code ∷ []) (pick (eqb row 0) (v.id ∷ size ∷ flag (ltb 0 size && v.incoming) ∷ []) [])

-- ---- every call

abbrev pub tests : State → Call → List (Bool × ℕ)
tests s (configures packet burst interval) = plain_tests s.endpoint
tests s (starts request lengths) = start_tests s.endpoint s.records (length s.packets) request lengths
tests s stores = store_tests s.endpoint (length s.ring) (length s.finished) s.records (length s.packets)
tests s (submits request lengths) =
    submit_tests s.endpoint (length s.ring) (length s.finished) s.records (length s.packets) request lengths
tests s (hands event) = hand_over_tests s.endpoint (length s.finished) event
tests s (reclaims id) = reclaim_tests s.endpoint (length s.finished) s.records (length s.packets) id ++ came_tests (came_to s id)
tests s (cancels id) = cancel_tests s.endpoint s.records id
tests s retires = record_tests s.endpoint s.records
tests s begins = begin_tests s.endpoint s.records
tests s (ends worked) = end_tests s.endpoint
tests s stops = plain_tests s.endpoint
tests s resumes = plain_tests s.endpoint
tests s points = plain_tests s.endpoint

-- Values that only a call has that is done.
abbrev pub if_done : ℕ → List ℕ → List ℕ
if_done row values = pick (eqb row 0) values []

-- "The last store answers the id and doorbell word (the dci)."
abbrev pub store_values : State → List ℕ
store_values s =
    let v = record_at s.records s.endpoint.work.number in
    let n = next_of s.endpoint v in
    slot_stored n s.endpoint ∷ pick (is_none (next_of (stepped n s.endpoint v s.packets) v)) (v.id ∷ s.endpoint.who.dci ∷ []) []

-- The values beside a number.
abbrev pub values_of : State → Call → ℕ → List ℕ
values_of s (configures packet burst interval) row = []
values_of s (starts request lengths) row = []
values_of s stores row = if_done row (store_values s)
values_of s (submits request lengths) row = if_done row (id_taken s.endpoint s.records ∷ s.endpoint.who.dci ∷ [])
values_of s (hands event) row = if_done row (slot_number (slot_for s.endpoint event) ∷ [])
values_of s (reclaims id) row = came_values (came_to s id) row
values_of s (cancels id) row = []
values_of s retires row = []
values_of s begins row = if_done row (pick s.endpoint.flags.halted (listed (reset_words s.endpoint) ++ listed (dequeue_words s.endpoint)) [])
values_of s (ends worked) row = []
values_of s stops row = if_done row (listed (stop_words s.endpoint))
values_of s resumes row = if_done row (listed (dequeue_words s.endpoint))
values_of s points row = if_done row (slot_address s.endpoint.shape.base s.endpoint.at.place ∷ flag s.endpoint.at.cycle ∷ [])

abbrev pub said : State → Call → Numbered
said s c = (first (tests s c), values_of s c (first (tests s c)))
