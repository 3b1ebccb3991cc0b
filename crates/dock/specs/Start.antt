-- "The start of a submission stores no TRB; it takes id, record and count, and writes the record's packets anew, unmarked."
use Rattle.std.specs.Prelude.{ℕ, ◌+◌, ◌-◌, ◌*◌, Bool, true, false, not, ◌&&◌, ◌||◌, List, [], ◌∷◌, eqb, ltb, length, Option, Some, None, ⊤, Err}
use Rattle.std.proofs.Math.Seq.{paste}
use Rattle.base.specs.First.{pick, first}
use Rattle.base.specs.Part.{put}
use Rattle.mask.specs.Occupancy as masks
use Rattle.sizes.specs.Sizes.{capacity, record_words, packet_count, packets_size, longest, longest_control}
use Rattle.ids.specs.Free.{free_in}
use Rattle.ids.specs.Order.{after_id}
use Rattle.records.specs.Records.{record_list}
use Rattle.dock.specs.declared.Account.{Account}
use Rattle.dock.specs.declared.After.{After}
use Rattle.dock.specs.Refusals.{refusal, done}
use Rattle.dock.specs.declared.Endpoint.{Endpoint}
use Rattle.dock.specs.declared.Request.{Request}
use Rattle.dock.specs.declared.What.{What}
use Rattle.dock.specs.declared.What.TheVariants.{Control, Bulk, Interrupt, Isoch}
use Rattle.dock.specs.declared.Work.{Work}
use Rattle.dock.specs.RowOne.{fits_with}
use Rattle.dock.specs.Requests.{buffer_of, required, record_for}
use Rattle.dock.specs.State.{with_work}

-- ---- the refusals

-- Row 2, capacity: "outstanding + required above L-2".
unfoldable pub crowded : ℕ → ℕ → ℕ → Bool
crowded slots outstanding more = ltb (capacity slots) (outstanding + more)

-- The sum of the packet lengths, and whether one is over the limit.
abbrev pub sum_of : List ℕ → ℕ
sum_of [] = 0
sum_of (n ∷ ns) = n + sum_of ns

abbrev pub some_over : List ℕ → Bool
some_over [] = false
some_over (n ∷ ns) = ltb longest n || some_over ns

-- Row 3: "a data length limit above broken, over 64 packets, or sum over buffer".
unfoldable pub too_long : What → ℕ → List ℕ → Bool
too_long (Control type request value index) size lengths = ltb longest_control size
too_long (Bulk incoming) size lengths = ltb longest size
too_long (Interrupt incoming) size lengths = ltb longest size
too_long (Isoch incoming) size lengths = ltb packet_count (length lengths) || some_over lengths || ltb size (sum_of lengths)

-- Row 4: "all 64 records taken".
abbrev pub is_full : Option ℕ → Bool
is_full (Some i) = false
is_full None = true

-- Row 5, document 02: "Answer 5 is now given exactly when length is above 0 and address + length - 1 exceeds the mask, the sum exact."
unfoldable pub beyond : ℕ → ℕ → ℕ → Bool
beyond mask address size = ltb 0 size && ltb mask (address + size - 1)

-- "Order: 1, 12, then for a submission 2 (reset), 2 (capacity), 3, 4, 5."
unfoldable pub start_tests : Endpoint → List ℕ → ℕ → Request → List ℕ → List (Bool × ℕ)
start_tests e records packets request lengths =
    (not (fits_with e records && eqb packets packets_size), 1)
    ∷ (e.work.busy, 12)
    ∷ (e.flags.reset, 2)
    ∷ (crowded e.shape.slots e.account.outstanding (required request (length lengths)), 2)
    ∷ (too_long request.what request.length lengths, 3)
    ∷ (is_full (masks.lowest e.account.occupancy), 4)
    ∷ (beyond e.who.mask request.address request.length, 5)
    ∷ []

unfoldable pub start_no : Endpoint → List ℕ → ℕ → Request → List ℕ → ℕ
start_no e records packets request lengths = first (start_tests e records packets request lengths)

-- ---- what is taken

-- "the lowest clear bit is taken."
abbrev pub number_from : Option ℕ → ℕ
number_from (Some i) = i
number_from None = 0

unfoldable pub record_taken : Endpoint → ℕ
record_taken e = number_from (masks.lowest e.account.occupancy)

-- "the search for a free id starts at the next id and ends at the first one not held."
unfoldable pub id_taken : Endpoint → List ℕ → ℕ
id_taken e records = free_in records e.account.occupancy e.account.next

-- The account's part: id, record and count.
unfoldable pub charged : Account → ℕ → ℕ → ℕ → Account
charged a id number more =
    record { next = after_id id; occupancy = masks.taken a.occupancy number; outstanding = a.outstanding + more }

-- The submission that is then under way.
abbrev pub begun : Endpoint → ℕ → Request → Work
begun e number request =
    record { busy = true; number = number; stored = 0; address = buffer_of request; place = e.at.place; cycle = e.at.cycle }

-- "No packets means one packet of length 0."
abbrev pub at_least_one : List ℕ → List ℕ
at_least_one [] = 0 ∷ []
at_least_one (n ∷ ns) = n ∷ ns

-- "writes the record's packets anew, unmarked": the word of an unmarked packet is what it asks for. Only an ISO request has packets.
unfoldable pub write_packets : List ℕ → ℕ → What → List ℕ → List ℕ
write_packets packets number (Control type request value index) lengths = packets
write_packets packets number (Bulk incoming) lengths = packets
write_packets packets number (Interrupt incoming) lengths = packets
write_packets packets number (Isoch incoming) lengths =
    paste packets (packet_count * number) (at_least_one lengths) (length (at_least_one lengths))

unfoldable pub started_endpoint : Endpoint → List ℕ → Request → List ℕ → Endpoint
started_endpoint e records request lengths =
    with_work e (charged e.account (id_taken e records) (record_taken e) (required request (length lengths))) (begun e (record_taken e) request)

unfoldable pub started_records : Endpoint → List ℕ → Request → List ℕ → List ℕ
started_records e records request lengths =
    put record_words records (record_taken e) (record_list (record_for request (length lengths) (id_taken e records) e.at.place))

-- ---- the call

unfoldable pub start : Endpoint → List ℕ → List ℕ → Request → List ℕ → After ⊤ × List ℕ × List ℕ
start e records packets request lengths =
    let no = start_no e records (length packets) request lengths in
    pick (eqb no 0) (
      record { answer = done; endpoint = started_endpoint e records request lengths },
      started_records e records request lengths,
      write_packets packets (record_taken e) request.what lengths,
    )
    (record { answer = Err (refusal no); endpoint = e }, records, packets)
