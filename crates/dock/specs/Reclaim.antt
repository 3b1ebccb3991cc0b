-- Reclaiming a request by its id. Document 01: rows 1, 12, 10 and 7 to 9, and "What a packet is worth".
use Rattle.std.specs.Prelude.{ℕ, zero, suc, ◌+◌, ◌-◌, ◌%◌, ◌^◌, Bool, true, false, not, ◌&&◌, ◌||◌, List, [], ◌∷◌, eqb, ltb, leb, length, Option, Some, None, Result, Ok, Err}
use Rattle.base.specs.First.{pick, first}
use Rattle.mask.specs.Occupancy as masks
use Rattle.ids.specs.Lookup.{find_in}
use Rattle.event.specs.Event.{event_of}
use Rattle.trb.specs.declared.Words.{Words}
use Rattle.finished.specs.Finished.{finished_at}
use Rattle.sizes.specs.Sizes.{ring_size, packet_count, packets_size}
use Rattle.records.specs.Kinds.{kind_is, control, bulk, interrupt, isoch}
use Rattle.records.specs.States.{state_is, in_flight, stopped}
use Rattle.records.specs.Records.{recorded_word, record_at, set_word}
use Rattle.packets.specs.Packets.{packet_at, put_packet}
use Rattle.packets.specs.declared.Packet.{Packet}
use Rattle.records.specs.declared.Record.{Record}
use Rattle.dock.specs.declared.Account.{Account}
use Rattle.dock.specs.declared.Completion.{Completion}
use Rattle.dock.specs.declared.Endpoint.{Endpoint}
use Rattle.dock.specs.declared.Reclaimed.{Reclaimed}
use Rattle.dock.specs.declared.Refusal.{Refusal}
use Rattle.dock.specs.declared.After.{After}
use Rattle.dock.specs.declared.Reclaimed.TheVariants as answer
use Rattle.dock.specs.Refusals.{refusal}
use Rattle.dock.specs.RowOne.{fits_with}
use Rattle.dock.specs.Worth.{accepted, moved_bytes, Worth, bytes, refused, worth}

-- ---- leaving flight

-- "Leaving flight (freed or retired) takes a request's TRB count off outstanding, never below 0."
abbrev pub freed : Account → ℕ → ℕ → Account
freed a number count =
    record { next = a.next; occupancy = masks.freed a.occupancy number; outstanding = a.outstanding - count }

-- The endpoint with record `number` freed, `count` TRBs less outstanding, and halted where it is to be.
unfoldable pub leave : Endpoint → ℕ → ℕ → Bool → Endpoint
leave e number count halts =
    record {
      at = e.at;
      shape = e.shape;
      who = e.who;
      periodic = e.periodic;
      account = freed e.account number count;
      flags = record { halted = e.flags.halted || halts; reset = e.flags.reset };
      work = e.work;
    }

-- ---- a completion

-- "completion of an ISO request whose packet count differs from the lengths given."
unfoldable pub mismatched : Record → Bool
mismatched v = kind_is v.kind isoch && not (eqb v.count v.given)

-- "for a completion 7, 9, 8": cancelled, packets that differ, a code that is refused.
unfoldable pub complete_tests : Record → Bool → List (Bool × ℕ)
complete_tests v fails = (v.cancelled, 7) ∷ (mismatched v, 9) ∷ (fails, 8) ∷ []

-- "then any ISO packet lengths": a request of another kind has none, whatever its record says.
abbrev pub packets_told : Record → ℕ
packets_told v = pick (kind_is v.kind isoch) v.given 0

-- "a yes says whether it is above 0 and direction in."
abbrev pub completion : Record → ℕ → ℕ → Completion
completion v number size =
    record { id = v.id; length = size; yes = ltb 0 size && v.incoming; number = number; packets = packets_told v }

abbrev pub complete_answer : ℕ → Record → ℕ → ℕ → ℕ → Result Reclaimed Refusal
complete_answer which v number code size =
    pick (eqb which 7) (Ok answer.Cancelled)
    (pick (eqb which 9) (Ok answer.Mismatch)
    (pick (eqb which 8) (Ok (answer.Failed code)) (Ok (answer.Done (completion v number size)))))

-- The record is freed; "code 6 sets halted", but "A cancelled request that stalls does not set halted".
unfoldable pub complete : Endpoint → Record → ℕ → ℕ → Bool → ℕ → After Reclaimed
complete e v number code fails size =
    record {
      answer = complete_answer (first (complete_tests v fails)) v number code size;
      endpoint = leave e number v.count (not v.cancelled && eqb code 6);
    }

-- The answers with which a request is over: rows 0, 7, 8 and 9.
abbrev pub final : Result Reclaimed Refusal → Bool
final (Ok (answer.Done c)) = true
final (Ok answer.Cancelled) = true
final (Ok (answer.Failed code)) = true
final (Ok answer.Mismatch) = true
final (Ok answer.Nothing) = false
final (Err row) = false

-- "reclaim of a stopped id" is 7, and the record freed: its TRBs left flight when it was retired.
abbrev pub reclaim_stopped : Endpoint → Record → ℕ → After Reclaimed
reclaim_stopped e v number = record { answer = Ok answer.Cancelled; endpoint = leave e number 0 false }

-- Row 10: nothing.
abbrev pub nothing : Endpoint → After Reclaimed
nothing e = record { answer = Ok answer.Nothing; endpoint = e }

-- ---- where the events of a request are looked for

-- The place of the k-th TRB behind a first one: the slots 0 to L-2 in turn.
unfoldable pub place_of : ℕ → ℕ → ℕ → ℕ
place_of slots place k = (place + k) % (slots - 1)

abbrev pub code_of : Words → ℕ
code_of w = (event_of w).code

abbrev pub remaining_of : Words → ℕ
remaining_of w = (event_of w).remaining

-- ---- bulk and interrupt: "length minus remaining, not below 0"

abbrev pub bulk_by : Option Words → Endpoint → Record → ℕ → After Reclaimed
bulk_by None e v number = nothing e
bulk_by (Some w) e v number =
    complete e v number (code_of w) (not (accepted (code_of w))) (moved_bytes v.length (remaining_of w))

unfoldable pub reclaim_bulk : Endpoint → List ℕ → Record → ℕ → After Reclaimed
reclaim_bulk e finished v number = bulk_by (finished_at finished v.place) e v number

-- ---- control: "setup, data, status are looked at in that order"

-- What stands of a control request while its events are looked at: nothing yet, or the answer.
pub data Seen : Type 0 where
  onward : Seen
  ends : After Reclaimed → Seen

-- A stage's event: none, or an accepted one, behind which the next stage is looked at, or one whose code is refused, which completes the request: with 8, or
-- with 7 where it is cancelled.
abbrev pub stage_by : Option Words → Endpoint → Record → ℕ → Seen
stage_by None e v number = onward
stage_by (Some w) e v number =
    pick (accepted (code_of w)) onward (ends (complete e v number (code_of w) true 0))

-- "a status event completes, with the requested length if no data event came." What was recorded stands one above the length, and 0 is nothing.
abbrev pub recorded_length : Record → ℕ → ℕ
recorded_length v recorded = pick (eqb recorded 0) v.length (recorded - 1)

abbrev pub status_by : Option Words → Endpoint → Record → ℕ → ℕ → After Reclaimed
status_by None e v number recorded = nothing e
status_by (Some w) e v number recorded =
    complete e v number (code_of w) (not (accepted (code_of w))) (recorded_length v recorded)

-- "a data event records length minus remaining, not below 0." One above a length of 2^64-1 is no word: modulo 2^64 it is 0, which counts as the
-- requested length, the same.
abbrev pub recorded_by : Option Words → Record → ℕ
recorded_by None v = v.recorded
recorded_by (Some w) v = (moved_bytes v.length (remaining_of w) + 1) % 2 ^ 64

-- The three places: data has one where the length is above 0.
abbrev pub data_place : Endpoint → Record → ℕ
data_place e v = place_of e.shape.slots v.place 1

abbrev pub status_place : Endpoint → Record → ℕ
status_place e v = place_of e.shape.slots v.place (pick (eqb v.length 0) 1 2)

abbrev pub data_seen : Endpoint → List ℕ → Record → Option Words
data_seen e finished v = pick (eqb v.length 0) None (finished_at finished (data_place e v))

abbrev pub after_stage : Seen → After Reclaimed → After Reclaimed
after_stage onward more = more
after_stage (ends r) more = r

abbrev pub records_after : Seen → List ℕ → List ℕ → List ℕ
records_after onward same changed = changed
records_after (ends r) same changed = same

-- What the data's event tells is recorded wherever it is looked at: also where its own code is refused, and the request is over by it. Only a refused setup
-- ends before it.
unfoldable pub reclaim_control : Endpoint → List ℕ → List ℕ → Record → ℕ → After Reclaimed × List ℕ
reclaim_control e finished records v number =
    let setup = stage_by (finished_at finished v.place) e v number in
    let seen = data_seen e finished v in
    let recorded = recorded_by seen v in (
      after_stage setup (after_stage (stage_by seen e v number) (status_by (finished_at finished (status_place e v)) e v number recorded)),
      records_after setup records (set_word records number recorded_word recorded),
    )

-- ---- ISO: "Packet records are read and marked in place in the lent table; when the last packet is found, earlier ones without an event count 0"

-- A packet that is counted.
abbrev pub counted : Packet → ℕ → Packet
counted p n = record { requested = p.requested; actual = n; marked = true }

-- The packets below k that are not marked count 0.
unfoldable pub close_below : ℕ → List ℕ → ℕ → List ℕ
close_below zero packets number = packets
close_below (suc k) packets number =
    let l = close_below k packets number in
    elim (packet_at l number k).marked [ true ↦ l | false ↦ put_packet l number k (counted (packet_at l number k) 0) ]

-- "The total is the sum."
unfoldable pub total : ℕ → List ℕ → ℕ → ℕ
total zero packets number = 0
total (suc k) packets number = total k packets number + (packet_at packets number k).actual

-- How the walk over the packets ended: not finished, at a refused code, or at the last packet.
pub data Swept : Type 0 where
  unfinished : Swept
  fatal : ℕ → Swept
  found : ℕ → Swept

module _ (slots : ℕ) (finished : List ℕ) (v : Record) (number : ℕ) where
  -- What follows a packet whose event counts for so many bytes: the end at the last packet, else the packets behind it.
  abbrev pub swept_by : Worth → ℕ → ℕ → List ℕ → (List ℕ → Swept × List ℕ) → Swept × List ℕ
  swept_by refused code k packets more = (fatal code, packets)
  swept_by (bytes n) code k packets more =
      let marked = put_packet packets number k (counted (packet_at packets number k) n) in
      elim (eqb (k + 1) v.count) [ true ↦ (found code, close_below k marked number) | false ↦ more marked ]

  abbrev pub swept_at : Option Words → ℕ → List ℕ → (List ℕ → Swept × List ℕ) → Swept × List ℕ
  swept_at None k packets more = more packets
  swept_at (Some w) k packets more =
      swept_by (worth (code_of w) (packet_at packets number k).requested (remaining_of w)) (code_of w) k packets more

  -- The n packets from packet k on: one that is marked, or has no event, is passed by.
  unfoldable pub sweep : ℕ → ℕ → List ℕ → Swept × List ℕ
  sweep zero k packets = (unfinished, packets)
  sweep (suc n) k packets =
      elim (packet_at packets number k).marked [
        | true ↦ sweep n (k + 1) packets
        | false ↦ swept_at (finished_at finished (place_of slots v.place k)) k packets (λ l. sweep n (k + 1) l)
      ]

abbrev pub swept_answer : Swept → Endpoint → Record → ℕ → List ℕ → After Reclaimed
swept_answer unfinished e v number packets = nothing e
swept_answer (fatal code) e v number packets = complete e v number code true 0
swept_answer (found code) e v number packets = complete e v number code false (total v.count packets number)

unfoldable pub reclaim_iso : Endpoint → List ℕ → List ℕ → Record → ℕ → After Reclaimed × List ℕ
reclaim_iso e finished packets v number =
    let s = sweep e.shape.slots finished v number v.count 0 packets in
    (swept_answer s.0 e v number s.1, s.1)

-- ---- the call

-- "for reclaim, its record in flight with a place above L-2 or over 64 packets."
abbrev pub bad_record : Endpoint → List ℕ → Option ℕ → Bool
bad_record e records None = false
bad_record e records (Some r) =
    let v = record_at records r in
    state_is v.state in_flight && (leb e.shape.slots (v.place + 1) || (kind_is v.kind isoch && ltb packet_count v.count))

unfoldable pub reclaim_tests : Endpoint → ℕ → List ℕ → ℕ → ℕ → List (Bool × ℕ)
reclaim_tests e finished records packets id =
    (not (fits_with e records && eqb finished (ring_size e.shape.slots) && eqb packets packets_size), 1)
    ∷ (bad_record e records (find_in records e.account.occupancy id), 1)
    ∷ (e.work.busy, 12)
    ∷ []

unfoldable pub reclaim_no : Endpoint → ℕ → List ℕ → ℕ → ℕ → ℕ
reclaim_no e finished records packets id = first (reclaim_tests e finished records packets id)

-- A record in flight, by its kind; a kind that is none never finishes.
unfoldable pub reclaim_flying : Endpoint → List ℕ → List ℕ → List ℕ → Record → ℕ → After Reclaimed × List ℕ × List ℕ
reclaim_flying e finished records packets v number =
    let c = reclaim_control e finished records v number in
    let i = reclaim_iso e finished packets v number in
    pick (kind_is v.kind control) (c.0, c.1, packets)
    (pick (kind_is v.kind isoch) (i.0, records, i.1)
    (pick (kind_is v.kind bulk || kind_is v.kind interrupt) (reclaim_bulk e finished v number, records, packets)
    (nothing e, records, packets)))

-- A record by its state: stopped, in flight, or neither. An id that is not held is 10.
abbrev pub reclaim_found : Option ℕ → Endpoint → List ℕ → List ℕ → List ℕ → After Reclaimed × List ℕ × List ℕ
reclaim_found None e finished records packets = (nothing e, records, packets)
reclaim_found (Some r) e finished records packets =
    let v = record_at records r in
    pick (state_is v.state stopped) (reclaim_stopped e v r, records, packets)
    (pick (state_is v.state in_flight) (reclaim_flying e finished records packets v r) (nothing e, records, packets))

unfoldable pub reclaim : Endpoint → List ℕ → List ℕ → List ℕ → ℕ → After Reclaimed × List ℕ × List ℕ
reclaim e finished records packets id =
    let no = reclaim_no e (length finished) records (length packets) id in
    pick (eqb no 0)
    (reclaim_found (find_in records e.account.occupancy id) e finished records packets)
    (record { answer = Err (refusal no); endpoint = e }, records, packets)
