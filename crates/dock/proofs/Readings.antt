-- The readings from the bench, W1 to W10 of document 01, W4 as document 02 has it, and behind them document 02's empty packet at 2^64: each a run of the
-- calls from what making leaves, W9 with its next id set to 2^64-1; one table of tests, and one law from it. All but W1 are computed call by call; W1, whose
-- 64 ISO requests are 4,094 stores, by the law `numbers_are` from the ledger of its submissions.
-- Assumes nothing.
use Prim.Native.Nat.{ℕ, ◌+◌, ◌-◌, ◌*◌, ◌^◌}
use mathlib.Core.Bool.{Bool, true, false, not, ◌&&◌, and-eq-true_iff}
use mathlib.Core.List.{List, [], ◌∷◌, ◌++◌}
use mathlib.Core.Path.{◌≡◌, refl}
use lib.Dec.{eqb}
use lib.ListN.{get_or, replicate}
use Rattle.mask.specs.Occupancy as masks
use Rattle.ids.specs.Free.{free_id, free_from, held_by, any}
use Rattle.ids.specs.Lookup.{find_from, find_id}
use Rattle.base.specs.Fields.{bits}
use Rattle.base.specs.Part.{put}
use Rattle.trb.specs.Layouts.{words_of, words_at, put_words}
use Rattle.bursts.specs.Bursts.{bursts_of, packets_of}
use Rattle.ring.specs.Ring.{store_at, is_slot, slot_of}
use Rattle.finished.specs.Finished.{finished_at, fill_place}
use Rattle.sizes.specs.Sizes.{ring_size, records_size, packets_size}
use Rattle.records.specs.Records.{record_at, set_word}
use Rattle.packets.specs.Packets.{packet_at, put_packet}
use Rattle.dock.specs.declared.Identity.{Identity}
use Rattle.dock.specs.declared.Request.{Request}
use Rattle.dock.specs.declared.Shape.{Shape}
use Rattle.dock.specs.declared.What.{What}
use Rattle.dock.specs.declared.What.TheVariants.{Control, Bulk, Isoch}
use Rattle.dock.specs.Limits.{limits_hold}
use Rattle.dock.specs.RowOne.{fits, place_fits, strays, fits_with, next_of}
use Rattle.dock.specs.Trbs.{trb_of, trb_count, deferred, chained}
use Rattle.dock.specs.State.{with_account}
use Rattle.dock.specs.Make.{make, make_no, make_tests, sized}
use Rattle.dock.specs.Configure.{configure, plain_no, plain_tests}
use Rattle.dock.specs.Start.{start_no, start_tests, crowded, too_long, beyond, charged, record_taken, id_taken, started_endpoint, started_records, write_packets, start}
use Rattle.dock.specs.NextStore.{store, store_no, store_tests, stepped, slot_stored, ring_stored, finished_stored, settled, stored_answer}
use Rattle.dock.specs.Submit.{submit_tests, submit_no, finish, submit}
use Rattle.dock.specs.HandOver.{slot_for, foreign, hand_over_no, hand_over_tests, hand_over}
use Rattle.dock.specs.Worth.{accepted, counts, worth}
use Rattle.dock.specs.Reclaim.{leave, mismatched, complete_tests, complete, place_of, reclaim_bulk, reclaim_control, close_below, total, sweep, reclaim_iso, reclaim_tests, reclaim_no, reclaim_flying, reclaim}
use Rattle.dock.specs.Numbers.{Numbered}
use Rattle.dock.specs.Run.{State, state_of, made_of, making, Call, configures, starts, stores, submits, hands, reclaims, after, answered, Reached, made}
use Rattle.dock.proofs.SubmitNumberLaws.{Asked, Ledger, ledger_of, ledger_no, ledger_after, numbers_from, ledger_numbers, numbers_are}

-- ---- runs

-- The dock that a making leaves of so many slots, at base 10000, with a mask, and slot id and dci 1, out of tables with 1 in every word,
abbrev ones : ℕ → List ℕ
ones n = replicate n 1

abbrev shape_of : ℕ → Shape
shape_of slots = record { slots = slots; base = 65536 }

abbrev who_with : ℕ → Identity
who_with mask = record { slot = 1; dci = 1; mask = mask }

dock_with : ℕ → ℕ → State
dock_with mask slots = made_of (make (ones (ring_size slots)) (ones (ring_size slots)) (ones records_size) (ones packets_size) (shape_of slots) (who_with mask))

-- the one with mask ffffffff,
abbrev low : ℕ
low = 4294967295

abbrev dock_of : ℕ → State
dock_of slots = dock_with low slots

-- and the state after calls, in order.
ran : State → List Call → State
ran s [] = s
ran s (c ∷ more) = ran (after s c) more

same : List ℕ → List ℕ → Bool
same [] [] = true
same [] (n ∷ ns) = false
same (m ∷ ms) [] = false
same (m ∷ ms) (n ∷ ns) = eqb m n && same ms ns

-- A call is answered with this number and these values.
tells : State → Call → ℕ → List ℕ → Bool
tells s c number values = let a : Numbered = answered s c in eqb a.0 number && same a.1 values

-- Word k of slot i of the ring.
word_in : State → ℕ → ℕ → ℕ
word_in s i k = get_or s.ring (4 * i + k) 0

-- ---- the requests and events of the readings

-- A request at an address and of a length; bulk and ISO ones go in.
asking : What → ℕ → ℕ → Request
asking what address size = record { what = what; address = address; length = size }

control : ℕ → ℕ → ℕ → ℕ → ℕ → ℕ → Call
control type request value index address size = submits (asking (Control type request value index) address size) []

bulk : ℕ → ℕ → Call
bulk address size = submits (asking (Bulk true) address size) []

iso : ℕ → ℕ → List ℕ → Call
iso address size lengths = submits (asking (Isoch true) address size) lengths

-- An event of the dock for the TRB of slot i.
event : ℕ → ℕ → ℕ → Call
event i code remaining = hands (record { w0 = 65536 + 16 * i; w1 = 0; w2 = remaining + code * 2 ^ 24; w3 = 32 * 2 ^ 10 + 2 ^ 16 + 2 ^ 24 })

-- ---- the readings

-- W1: L 4,096: 63 ISO requests of 64 packets and one of 62 are admitted; a bulk request then gets 2, not 4.
iso_of : ℕ → Asked
iso_of n = (asking (Isoch true) 0 0, replicate n 0)

many : List Asked
many = replicate 63 (iso_of 64) ++ (iso_of 62 ∷ (asking (Bulk true) 131072 64, []) ∷ [])

w1 : Bool
w1 = same (numbers_from (dock_of 4096) many) (replicate 64 0 ++ (2 ∷ []))

-- W2: L 64, one ISO request of 61 held: a control request without data gets 2, a bulk one is admitted.
w2 : Bool
w2 =
    let s = ran (dock_of 64) (iso 0 0 (replicate 61 0) ∷ []) in
    tells (dock_of 64) (iso 0 0 (replicate 61 0)) 0 (1 ∷ 1 ∷ []) && tells s (control 0 9 1 0 0 0) 2 [] && tells s (bulk 131072 64) 0 (2 ∷ 1 ∷ [])

-- W3: mask ffffffff, address fffff000, length 4,095 admitted. W4 is length 4,096. Document 02: "W4 is then admitted, and length 4,097 at that address is
-- refused."
w3w4 : Bool
w3w4 =
    tells (dock_of 64) (bulk 4294963200 4095) 0 (1 ∷ 1 ∷ []) && tells (dock_of 64) (bulk 4294963200 4096) 0 (1 ∷ 1 ∷ [])
    && tells (dock_of 64) (bulk 4294963200 4097) 5 []

-- W5: bulk of 64, cycle 1: w3 00000425.
w5 : Bool
w5 = eqb (word_in (ran (dock_of 64) (bulk 131072 64 ∷ [])) 0 3) 1061

-- W6: in, 192 bytes, max packet 192, last: 80001425; not last: 80001625.
w6 : Bool
w6 =
    let s = ran (dock_of 64) (configures 192 0 1 ∷ iso 131072 384 (192 ∷ 192 ∷ []) ∷ []) in
    eqb (word_in s 1 3) 2147488805 && eqb (word_in s 0 3) 2147489317

-- W7: 4,096 bytes, max packet 1,024, burst 2: w2 00021000, last-burst 0.
w7 : Bool
w7 =
    let s = ran (dock_of 64) (configures 1024 2 1 ∷ iso 131072 4096 (4096 ∷ []) ∷ []) in
    eqb (word_in s 0 2) 135168 && eqb (bits 16 4 (word_in s 0 3)) 0

-- W8: code 28, remaining 100, requested 192: 100; code 27: 0; code 6: answer 8. The packet's record has the same count.
w8 : Bool
w8 =
    let after28 = handed 28 in
    let after27 = handed 27 in
    tells after28 (reclaims 1) 0 (1 ∷ 100 ∷ 1 ∷ []) && packet_is after28 100
    && tells after27 (reclaims 1) 0 (1 ∷ 0 ∷ 0 ∷ []) && packet_is after27 0
    && tells (handed 6) (reclaims 1) 8 (6 ∷ [])
  where
    handed : ℕ → State
    handed code = ran (dock_of 64) (configures 192 0 1 ∷ iso 131072 192 (192 ∷ []) ∷ event 0 code 100 ∷ [])

    packet_is : State → ℕ → Bool
    packet_is s n =
        let p = packet_at (ran s (reclaims 1 ∷ [])).packets 0 0 in
        eqb p.requested 192 && eqb p.actual n && p.marked

-- W9: next id 2^64-1 is taken, then 1.
w9 : Bool
w9 =
    let s = late (dock_of 64) in
    let one = ran s (bulk 131072 64 ∷ []) in
    let two = ran one (bulk 131072 64 ∷ []) in
    tells s (bulk 131072 64) 0 (last_id ∷ 1 ∷ []) && tells one (bulk 131072 64) 0 (1 ∷ 1 ∷ [])
    && eqb (record_at two.records 0).id last_id && eqb (record_at two.records 1).id 1
  where
    last_id : ℕ
    last_id = 2 ^ 64 - 1

    late : State → State
    late s =
        let a = s.endpoint.account in
        state_of (with_account s.endpoint (record { next = last_id; occupancy = a.occupancy; outstanding = a.outstanding }))
        s.ring s.finished s.records s.packets

-- W10: L 5, base 10000, place 3, cycle 1, a control request of 18 bytes in: stores 3 (w3 00030840), 4 (the link), 0, 1, 3 (w3 00030841); place 2,
-- cycle 0. Three bulk requests that are done leave place 3.
w10 : Bool
w10 =
    let s = ran (dock_of 5) (through 0 1 ++ through 1 2 ++ through 2 3) in
    let begun = ran s (starts (asking (Control 128 6 256 0) 131072 18) [] ∷ []) in
    let one = ran begun (stores ∷ []) in
    let two = ran one (stores ∷ []) in
    let three = ran two (stores ∷ []) in
    let four = ran three (stores ∷ []) in
    let all = ran four (stores ∷ []) in
    eqb s.endpoint.at.place 3 && s.endpoint.at.cycle
    && tells begun stores 0 (3 ∷ []) && eqb (word_in one 3 3) 198720
    && tells one stores 0 (4 ∷ []) && eqb (word_in two 4 0) 65536 && eqb (word_in two 4 1) 0 && eqb (word_in two 4 2) 0 && eqb (word_in two 4 3) 6147
    && tells two stores 0 (0 ∷ []) && eqb (word_in three 0 3) 68612
    && tells three stores 0 (1 ∷ []) && eqb (word_in four 1 3) 4128
    && tells four stores 0 (3 ∷ 4 ∷ 1 ∷ []) && eqb (word_in all 3 3) 198721
    && eqb all.endpoint.at.place 2 && not all.endpoint.at.cycle && not all.endpoint.work.busy
  where
    -- A bulk request at slot i, from its submission to its reclaim.
    through : ℕ → ℕ → List Call
    through i id = bulk 131072 64 ∷ event i 1 0 ∷ reclaims id ∷ []

-- Document 02: "An empty packet's address is taken modulo 2^64." Mask 2^64-1, an ISO request of 192 bytes that ends at 2^64, and an empty packet behind them:
-- it is admitted, and the empty packet's TRB has address 0 and length 0. One byte more is refused, and so is the same buffer where the mask is one less.
top : Bool
top =
    let d = dock_with (2 ^ 64 - 1) 64 in
    let asks = iso (2 ^ 64 - 192) 192 (192 ∷ 0 ∷ []) in
    let s = ran d (asks ∷ []) in
    tells d asks 0 (1 ∷ 1 ∷ [])
    && eqb (word_in s 0 0) 4294967104 && eqb (word_in s 0 1) 4294967295 && eqb (word_in s 0 2) 192
    && eqb (word_in s 1 0) 0 && eqb (word_in s 1 1) 0 && eqb (word_in s 1 2) 0
    && tells d (iso (2 ^ 64 - 192) 193 (192 ∷ 1 ∷ [])) 5 []
    && tells (dock_with (2 ^ 64 - 2) 64) asks 5 []

-- The table.
others : List Bool
others = w2 ∷ w3w4 ∷ w5 ∷ w6 ∷ w7 ∷ w8 ∷ w9 ∷ w10 ∷ top ∷ []

pub readings : List Bool
readings = w1 ∷ others

pub all_true : List Bool → Bool
all_true [] = true
all_true (b ∷ bs) = b && all_true bs

-- ---- W1 by its ledger

-- The making is done,
reached : Reached (dock_of 4096)
unfolding dock_with make make_no make_tests sized limits_hold
reached = made (making (ones (ring_size 4096)) (ones (ring_size 4096)) (ones records_size) (ones packets_size) (shape_of 4096) (who_with low) refl)

-- and leaves the ledger of an empty dock.
empty : Ledger
empty = record { slots = 4096; mask = low; outstanding = 0; occupancy = masks.none; busy = false; reset = false }

ledger_made : ledger_of (dock_of 4096).endpoint ≡ empty
unfolding empty dock_with make make_no make_tests sized limits_hold
ledger_made = refl

counted : same (ledger_numbers empty many) (replicate 64 0 ++ (2 ∷ [])) ≡ true
unfolding same empty many iso_of asking ledger_numbers ledger_no ledger_after crowded too_long beyond masks.lowest masks.taken
counted = refl

w1_read : w1 ≡ true
unfolding w1
w1_read = rw (numbers_are reached many, ledger_made) counted

-- ---- the law

others_read : all_true others ≡ true
unfolding others all_true w2 w3w4 w5 w6 w7 w8 w9 w10 top dock_with ran same tells word_in asking control bulk iso event make make_no make_tests sized limits_hold configure plain_no plain_tests fits place_fits strays fits_with next_of trb_of trb_count deferred chained start_no start_tests crowded too_long beyond charged record_taken id_taken started_endpoint started_records write_packets start store store_no store_tests stepped slot_stored ring_stored finished_stored settled stored_answer finish submit submit_no submit_tests slot_for foreign hand_over_no hand_over_tests hand_over accepted counts worth leave mismatched complete_tests complete place_of reclaim_bulk reclaim_control close_below total sweep reclaim_iso reclaim_tests reclaim_no reclaim_flying reclaim masks.held masks.lowest masks.taken masks.freed free_id free_from held_by any find_from find_id record_at set_word words_of words_at store_at is_slot slot_of put_words put bursts_of packets_of packet_at put_packet finished_at fill_place
others_read = refl

-- Every reading holds.
pub all_read : all_true readings ≡ true
unfolding readings all_true
all_read = (and-eq-true_iff w1 (all_true others)).1 (w1_read, others_read)
