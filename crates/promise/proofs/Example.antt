-- The premises can be met, and the definitions compute: a run of 44 moves on a ring of 5 slots at 10000. Three bulk requests come and go; then the
-- control request of document 01's W10, across the ring's end, with the controller stepping between its stores; a configuring and an event that is handed
-- over too early are refused meanwhile; it is reclaimed; and an ISO request, of whose packets one has an event, is cancelled and reclaimed. At the end the eight
-- TRBs that are consumed are the eight that are admitted. Assumes nothing.
use Prim.Native.Nat.{ℕ, ◌+◌, ◌*◌}
use mathlib.Core.Bool.{Bool, true, false, and-eq-true_iff}
use mathlib.Core.List.{List, [], ◌∷◌, ◌++◌}
use mathlib.Core.Path.{◌≡◌, refl}
use lib.ListN.{replicate}
use Rattle.base.specs.Part.{put}
use Rattle.sizes.specs.Sizes.{records_size, packets_size}
use Rattle.mask.specs.Occupancy as masks
use Rattle.ids.specs.Free.{free_id, free_from, held_by, any}
use Rattle.ids.specs.Lookup.{find_from, find_id}
use Rattle.bursts.specs.Bursts.{bursts_of, packets_of}
use Rattle.trb.specs.Cycle.{owned, type_of}
use Rattle.trb.specs.Cycle as cycle
use Rattle.trb.specs.Layouts.{words_of, words_at, put_words}
use Rattle.trb.specs.declared.Words.{Words}
use Rattle.ring.specs.Ring.{store_at, is_slot, slot_of}
use Rattle.finished.specs.Finished.{finished_at, fill_place}
use Rattle.packets.specs.Packets.{packet_at, put_packet}
use Rattle.records.specs.Records.{record_at, set_word}
use Rattle.dock.specs.declared.Identity.{Identity}
use Rattle.dock.specs.declared.Request.{Request}
use Rattle.dock.specs.declared.Shape.{Shape}
use Rattle.dock.specs.declared.What.{What}
use Rattle.dock.specs.declared.What.TheVariants.{Control, Bulk, Isoch}
use Rattle.dock.specs.Cancel.{cancel, cancel_no, cancel_tests}
use Rattle.dock.specs.Configure.{configure, plain_no, plain_tests}
use Rattle.dock.specs.RowOne.{fits, place_fits, strays, fits_with, next_of}
use Rattle.dock.specs.HandOver.{slot_for, foreign, hand_over_tests, hand_over_no, hand_over}
use Rattle.dock.specs.Limits.{limits_hold}
use Rattle.dock.specs.Make.{sized, make_tests, make_no, make}
use Rattle.dock.specs.Reclaim.{leave, mismatched, complete_tests, complete, place_of, reclaim_bulk, reclaim_control, close_below, total, sweep, reclaim_iso, reclaim_tests, reclaim_no, reclaim_flying, reclaim}
use Rattle.dock.specs.Run.{made_of, configures, starts, stores, reclaims, cancels}
use Rattle.dock.specs.Start.{start_no, start_tests, crowded, too_long, beyond, charged, record_taken, id_taken, started_endpoint, started_records, write_packets, start}
use Rattle.dock.specs.NextStore.{store, store_no, store_tests, stepped, slot_stored, ring_stored, finished_stored, settled, stored_answer}
use Rattle.dock.specs.Trbs.{trb_of, trb_count, deferred, chained}
use Rattle.dock.specs.Worth.{accepted, counts, worth}
use Rattle.promise.specs.Controller.{Entry, does}
use Rattle.promise.specs.Requested.{at_making, requested}
use Rattle.promise.specs.Run.{World, from_making, admitted, Move, calls, hands, steps, act, may, admits, is_for, handed, play, allowed, Run, made, and_then}
use Rattle.promise.specs.Run as running

-- A Success event for the TRB at a slot.
abbrev event : ℕ → Words
event slot = record { w0 = 0x10000 + 16 * slot; w1 = 0; w2 = 0x1000000; w3 = 0x1018000 }

-- A request at an address, of a length.
abbrev asking : What → ℕ → ℕ → Request
asking what address size = record { what = what; address = address; length = size }

-- A bulk request of 64 bytes whose n-th TRB of the run is at a slot, from its start to its reclaim under an id.
abbrev bulk : ℕ → ℕ → ℕ → List Move
bulk nth slot id = calls (starts (asking (Bulk true) 0x30000 64) []) ∷ calls stores ∷ steps ∷ hands (event slot) nth ∷ calls (reclaims id) ∷ []

-- The control request, a step of the controller after each of its five stores, a call that is refused in between, and its end.
abbrev control : List Move
control =
    calls (starts (asking (Control 0x80 6 0x100 0) 0x20000 0x12) [])
    ∷ calls stores ∷ steps ∷ calls stores ∷ steps ∷ hands (event 3) 9 ∷ calls stores ∷ steps ∷ calls (configures 1 1 1) ∷ calls stores ∷ steps ∷ calls stores
    ∷ steps ∷ steps ∷ steps ∷ steps ∷ hands (event 1) 5 ∷ calls (reclaims 4) ∷ []

-- An ISO request of two packets, up to the ring's end again. One of its TRBs has an event, it is cancelled, and reclaimed.
abbrev iso : List Move
iso =
    calls (configures 64 0 1) ∷ calls (starts (asking (Isoch true) 0x40000 128) (64 ∷ 64 ∷ [])) ∷ calls stores ∷ steps ∷ calls stores ∷ calls stores ∷ steps ∷ steps ∷ hands (event 3) 7 ∷ calls (cancels 5) ∷ calls (reclaims 5) ∷ []

abbrev moves : List Move
moves = bulk 0 0 1 ++ bulk 1 1 2 ++ bulk 2 2 3 ++ control ++ iso

abbrev tables : ℕ → List ℕ
tables n = replicate n 0

abbrev shape : Shape
shape = record { slots = 5; base = 0x10000 }

abbrev who : Identity
who = record { slot = 1; dci = 1; mask = 0xffffffff }

outset : World
unfolding make_no make_tests make sized limits_hold
outset = from_making shape who (made_of (make (tables 20) (tables 20) (tables records_size) (tables packets_size) shape who))

-- The world after the moves, and whether each of them may be made in its turn.
ended : World × Bool
unfolding outset allowed play admits is_for handed running.stepped does accepted cycle.cycle_of owned type_of words_of words_at put put_words store_at is_slot slot_of finished_at fill_place packet_at put_packet record_at set_word masks.held masks.lowest masks.taken masks.freed free_id free_from held_by any find_from find_id cancel cancel_no cancel_tests configure plain_no plain_tests fits place_fits strays fits_with next_of slot_for foreign hand_over_tests hand_over_no hand_over limits_hold leave mismatched complete_tests complete place_of reclaim_bulk reclaim_control close_below total sweep reclaim_iso reclaim_tests reclaim_no reclaim_flying reclaim start_no start_tests crowded too_long beyond charged record_taken id_taken started_endpoint started_records write_packets start store store_no store_tests stepped slot_stored ring_stored finished_stored settled stored_answer trb_of trb_count bursts_of packets_of worth counts deferred chained
ended = (play outset moves, allowed outset moves)

all_allowed : allowed outset moves ≡ true
unfolding ended
all_allowed = refl

-- So the world at the end is one that a run reaches.
run_played : (w : World) (ms : List Move) → Run w → allowed w ms ≡ true → Run (play w ms)
unfolding play allowed
run_played w [] r e = r
run_played w (m ∷ ms) r e =
    let k = (and-eq-true_iff (may w m) (allowed (act w m) ms)).0 e in
    run_played (act w m) ms (and_then r m k.0) k.1

reached : Run (play outset moves)
unfolding outset deferred chained
reached = run_played outset moves (made (tables 20) (tables 20) (tables records_size) (tables packets_size) shape who refl) all_allowed

abbrev entry : ℕ → ℕ → ℕ → ℕ → ℕ → Entry
entry i a b c d = record { at = i; trb = record { w0 = a; w1 = b; w2 = c; w3 = d } }

abbrev eight : List Entry
eight =
    entry 0 0x30000 0 64 0x425
    ∷ entry 1 0x30000 0 64 0x425
    ∷ entry 2 0x30000 0 64 0x425
    ∷ entry 3 0x01000680 0x00120000 8 0x00030841
    ∷ entry 0 0x20000 0 0x12 0x00010c04
    ∷ entry 1 0 0 0 0x00001020
    ∷ entry 2 0x40000 0 64 0x80001624
    ∷ entry 3 0x40040 0 64 0x80001424
    ∷ []

-- What was consumed and what was admitted are these; no TRB is outstanding, no submission is under way, and the controller stands where the producer does.
all_consumed : (play outset moves).consumed ≡ eight
unfolding ended
all_consumed = refl

all_admitted : admitted (play outset moves) ≡ eight
unfolding ended
all_admitted = refl

at_rest : let w = play outset moves in
    (w.dock.endpoint.account.outstanding ≡ 0)
    × (w.dock.endpoint.work.busy ≡ false)
    × (w.dock.endpoint.at ≡ record { place = 0; cycle = true })
    × (w.controller ≡ record { slot = 0; state = true })
unfolding ended
at_rest = (refl, refl, refl, refl)

-- What was asked at the end; and the configure that was refused while the control request was stored is not booked.
all_asked : (play outset moves).asked
    ≡ record {
      shape = shape;
      who = who;
      settings = record { packet = 64; burst = 0; interval = 1 };
      last = requested (asking (Isoch true) 0x40000 128) (64 ∷ 64 ∷ []);
    }
unfolding ended
all_asked = refl

refused_unbooked : (play outset (bulk 0 0 1 ++ bulk 1 1 2 ++ bulk 2 2 3 ++ control)).asked.settings ≡ at_making
unfolding ended
refused_unbooked = refl
